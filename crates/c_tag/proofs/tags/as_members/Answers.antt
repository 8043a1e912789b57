use Rattle.std.proofs.Common.{ℕ, ◌+◌, List, drop, map, ap}
use Rattle.c_type.specs.Types.{Member}
use Rattle.c_tree.specs.declared.typed_unit.TEnumerator.{TEnumerator}
use Rattle.c_tree.specs.TypedOf.{enumerator_of}
use Rattle.c_rule.specs.RuleTags.{as_member}
use Rattle.c_local.proofs.FromHere.{from_here}
use Rattle.c_tag.proofs.TagBodies.{one_member_more}
use Rattle.c_tag.proofs.tags.as_members.Goals as goal

-- the members that these stand for
abbrev members : List TEnumerator → List Member
members xs = map as_member (map enumerator_of xs)

pub loop-one-preserved : goal.loop-one-preserved
loop-one-preserved c =
    let xs : List TEnumerator = c.args.list.now in
    let i : ℕ = c.loop-one.one-index in
    one_member_more c.loop-one.members.items c.push.new.self.items c.in_ok-member.member (as_member (enumerator_of c.one-item.result)) (members (drop i xs)) (members (drop (i + 1) xs)) _ c.in_ok-push.ensures.items
    c.in_ok-member.ensures (ap members (from_here xs i c.one-item.result c.loop-one-test.true c.one-item.is)) c.loop-one.invariant
