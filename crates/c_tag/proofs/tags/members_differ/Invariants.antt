-- The names that were taken and those of the members that are left are all.
use Rattle.std.proofs.Common.{◌≡◌, ◌++◌, drop, map}
use Rattle.c_type.specs.Of.{members_of}
use Rattle.c_tag.proofs.tags.members_differ.Given as goal

abbrev pub invariant-loop-member : goal.invariant-loop-member
invariant-loop-member l = map (λ n. n.now) l.names.items ++ map (λ m. m.name) (members_of (drop l.member-index l.members)) ≡ map (λ m. m.name) (members_of l.members)
