use Rattle.std.proofs.Common.{sym, ◌∙◌, arith}
use Rattle.c_join.specs.JoinChecks.{is_twice}
use Rattle.c_whole.proofs.FirstGroup.{first_hit, first_miss}
use Rattle.c_whole.proofs.first.first_twice.Goals as goal

pub returns-then-is_twice : goal.returns-then-is_twice
returns-then-is_twice c =
    sym (first_hit is_twice c.args.groups.now c.loop-group.group-index c.group-item.result (omega arith) c.group-item.is (sym c.if-is_twice.ensures)) ∙ c.loop-group.invariant

pub loop-group-preserved : goal.loop-group-preserved
loop-group-preserved c =
    sym (first_miss is_twice c.args.groups.now c.loop-group.group-index c.group-item.result (omega arith) c.group-item.is (sym c.if-is_twice.ensures)) ∙ c.loop-group.invariant
