-- What was added and what is left is the whole.
use Rattle.std.proofs.Common.{◌≡◌, ◌++◌, map, drop}
use Rattle.c_join.specs.JoinSaid as s
use Rattle.c_tree.specs.TypedOf.{unit_of}
use Rattle.c_whole.specs.Facts.{facts_of}
use Rattle.c_whole.proofs.facts.facts.Given as goal

abbrev pub invariant-loop-number : goal.invariant-loop-number
invariant-loop-number l = facts_of l.out.items ++ s.facts_from l.number (map unit_of (drop l.number l.units)) ≡ s.facts (map unit_of l.units)
