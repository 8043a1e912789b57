-- The greatest so far and that of what is left are the greatest of all.
use Rattle.std.proofs.Common.{◌≡◌, max, drop}
use Rattle.c_limit.specs.Temporaries as s
use Rattle.c_limit.specs.Of.{args_from}
use Rattle.c_limit.proofs.temporaries.+temporaries.Given as goal

abbrev pub invariant-in_args-loop-i : goal.invariant-in_args-loop-i
invariant-in_args-loop-i l = max l.most (s.counted (s.of_args l.i (args_from (drop l.i l.args)))) ≡ s.counted (s.of_args 0 (args_from l.args))
