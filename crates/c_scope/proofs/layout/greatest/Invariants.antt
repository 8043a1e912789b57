-- What is left decides with what was found.
use Rattle.std.proofs.Common.{◌≡◌, ◌≤◌, max, drop}
use Rattle.c_type.specs.Of.{members_of, tags_of}
use Rattle.c_type.specs.Sizes as s
use Rattle.c_scope.proofs.layout.greatest.Given as goal

abbrev pub invariant-loop-member : goal.invariant-loop-member
invariant-loop-member l = record {
  least : 1 ≤ l.greatest;
  left : max l.greatest (s.greatest (tags_of l.tags) (members_of (drop l.member-index l.members))) ≡ s.greatest (tags_of l.tags) (members_of l.members);
}
