-- What was placed and what is left is the whole.
use Rattle.std.proofs.Common.{◌≡◌, ◌++◌, take, drop}
use Rattle.c_type.specs.Of.{members_of}
use Rattle.c_type.specs.Sizes as s
use Rattle.c_scope.proofs.layout.place_at_zero.Given as goal

abbrev pub invariant-loop-i : goal.invariant-loop-i
invariant-loop-i l = members_of (take l.i l.members) ++ s.at_zero (members_of (drop l.i l.members)) ≡ s.at_zero (members_of l.fn.members)
