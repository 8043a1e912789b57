-- The greatest so far and that of what is left are the greatest of all.
use Rattle.std.proofs.Common.{◌≡◌, max, drop}
use Rattle.c_limit.specs.Temporaries as s
use Rattle.c_limit.specs.Of.{parts_of}
use Rattle.c_limit.proofs.temporaries.temporaries_of_parts.Given as goal

abbrev pub invariant-loop-part : goal.invariant-loop-part
invariant-loop-part l = max l.most (s.counted (s.of_parts (parts_of (drop l.part-index l.parts)))) ≡ s.counted (s.of_parts (parts_of l.parts))
