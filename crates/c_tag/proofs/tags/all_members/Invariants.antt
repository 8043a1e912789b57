-- The members that were added and those of the parts that are left are all.
use Rattle.std.proofs.Common.{◌≡◌, ◌++◌, drop}
use Rattle.c_type.specs.Of.{members_of}
use Rattle.c_tag.specs.TagParts.{body_from}
use Rattle.c_tag.proofs.tags.all_members.Given as goal

abbrev pub invariant-loop-part : goal.invariant-loop-part
invariant-loop-part l = members_of l.members.items ++ (body_from (drop l.part-index l.parts)).members ≡ (body_from l.parts).members
