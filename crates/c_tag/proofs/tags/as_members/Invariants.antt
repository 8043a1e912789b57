-- The members that were made and those of the enumerators that are left are all.
use Rattle.std.proofs.Common.{◌≡◌, ◌++◌, drop, map}
use Rattle.c_type.specs.Of.{members_of}
use Rattle.c_tree.specs.TypedOf.{enumerator_of}
use Rattle.c_rule.specs.RuleTags.{as_member}
use Rattle.c_tag.proofs.tags.as_members.Given as goal

abbrev pub invariant-loop-one : goal.invariant-loop-one
invariant-loop-one l = members_of l.members.items ++ map as_member (map enumerator_of (drop l.one-index l.list)) ≡ map as_member (map enumerator_of l.list)
