-- The members that were added and those of the declarators that are left are all.
use Rattle.std.proofs.Common.{◌≡◌, ◌++◌, drop, map}
use Rattle.c_type.specs.Of.{members_of}
use Rattle.c_tree.specs.TypedOf.{declr_of}
use Rattle.c_rule.specs.RuleTags.{member_of}
use Rattle.c_tag.proofs.tags.add_members.Given as goal

abbrev pub invariant-loop-declr : goal.invariant-loop-declr
invariant-loop-declr l = members_of l.members.items ++ map member_of (map declr_of (drop l.declr-index l.declrs)) ≡ members_of l.initial.members.items ++ map member_of (map declr_of l.declrs)
