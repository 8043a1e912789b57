use Rattle.std.proofs.Common.{ℕ, ◌+◌, List, drop, map, ap}
use Rattle.c_type.specs.Types.{Member}
use Rattle.c_tree.specs.declared.typed_stmt.TDeclr.{TDeclr}
use Rattle.c_tree.specs.TypedOf.{declr_of}
use Rattle.c_rule.specs.RuleTags.{member_of}
use Rattle.c_local.proofs.FromHere.{from_here}
use Rattle.c_tag.proofs.TagBodies.{one_member_more}
use Rattle.c_tag.proofs.tags.add_members.Goals as goal

-- the members that these stand for
abbrev members : List TDeclr → List Member
members xs = map member_of (map declr_of xs)

pub loop-declr-preserved : goal.loop-declr-preserved
loop-declr-preserved c =
    let xs : List TDeclr = c.args.declrs.now in
    let i : ℕ = c.loop-declr.declr-index in
    one_member_more c.loop-declr.members.items c.push.new.self.items c.in_ok-member.member (member_of (declr_of c.declr-item.result)) (members (drop i xs)) (members (drop (i + 1) xs)) _ c.in_ok-push.ensures.items
    c.in_ok-member.ensures (ap members (from_here xs i c.declr-item.result c.loop-declr-test.true c.declr-item.is)) c.loop-declr.invariant
