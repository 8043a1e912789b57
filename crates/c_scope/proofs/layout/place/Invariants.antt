-- What was placed and what is left is the whole.
use Rattle.std.proofs.Common.{◌≡◌, ◌++◌, take, drop}
use Rattle.c_type.specs.Of.{members_of, tags_of}
use Rattle.c_type.specs.Sizes as s
use Rattle.c_scope.proofs.layout.place.Given as goal

abbrev pub invariant-loop-i : goal.invariant-loop-i
invariant-loop-i l = record {
  placed : members_of (take l.i l.members) ++ s.placed (tags_of l.tags) l.end (members_of (drop l.i l.members)) ≡ s.placed (tags_of l.tags) l.from (members_of l.fn.members);
  end : s.end_of (tags_of l.tags) l.end (members_of (drop l.i l.members)) ≡ s.end_of (tags_of l.tags) l.from (members_of l.fn.members);
}
