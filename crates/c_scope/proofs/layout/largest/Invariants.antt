-- What is left decides with what was found.
use Rattle.std.proofs.Common.{◌≡◌, max, drop}
use Rattle.c_type.specs.Of.{members_of, tags_of}
use Rattle.c_type.specs.Sizes as s
use Rattle.c_scope.proofs.layout.largest.Given as goal

abbrev pub invariant-loop-member : goal.invariant-loop-member
invariant-loop-member l = max l.largest (s.largest (tags_of l.tags) (members_of (drop l.member-index l.members))) ≡ s.largest (tags_of l.tags) (members_of l.members)
