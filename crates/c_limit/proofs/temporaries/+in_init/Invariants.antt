-- The greatest so far and that of what is left are the greatest of all.
use Rattle.std.proofs.Common.{◌≡◌, max, drop}
use Rattle.c_limit.specs.Temporaries as s
use Rattle.c_limit.specs.Of.{inits_from}
use Rattle.c_limit.proofs.temporaries.+in_init.Given as goal

abbrev pub invariant-in_inits-loop-init : goal.invariant-in_inits-loop-init
invariant-in_inits-loop-init l = max l.most (s.counted (s.of_inits (inits_from (drop l.init-index l.inits)))) ≡ s.counted (s.of_inits (inits_from l.inits))
