-- Each member's type stands behind those before it.
use Rattle.std.proofs.Common.{◌++◌, ap, map}
use Rattle.c_type.specs.Of.{type_of}
use Rattle.c_local.proofs.Inits.{types_in, one_type_more, types_end}
use Rattle.c_local.proofs.initialisers.types_of.Goals as goal

pub loop-member-init : goal.loop-member-init
loop-member-init c = ap (λ ts. map type_of ts ++ types_in c.args.members.now) c.new-types.ensures.items

pub loop-member-preserved : goal.loop-member-preserved
loop-member-preserved c =
    one_type_more c.loop-member.types.items c.push.new.self.items c.in_ok-ty.ty c.args.members.now c.loop-member.member-index c.member-item.result (types_in c.args.members.now) c.loop-member-test.true
    c.member-item.is c.in_ok-ty.ensures c.in_ok-push.ensures.items c.loop-member.invariant

pub returns : goal.returns
returns c =
    record { value = types_end c.loop-member.types.items c.args.members.now c.loop-member.member-index (types_in c.args.members.now) c.loop-member-test.false c.loop-member.invariant }
