-- The first among all is the first among what is left.
use Rattle.std.proofs.Common.{◌≡◌, map, drop}
use Rattle.c_tree.specs.TUnit.{funcs_of}
use Rattle.c_tree.specs.TypedOf.{ext_of, unit_of}
use Rattle.c_limit.specs.Limits.{limit, first_passed, temporary_limits, Temporaries}
use Rattle.c_limit.specs.Temporaries.{of_func}
use Rattle.c_limit.proofs.checks.first_function.Given as goal

abbrev pub invariant-loop-ext : goal.invariant-loop-ext
invariant-loop-ext l = first_passed (map (λ f. limit (of_func f) 64 (Temporaries f.name)) (funcs_of (map ext_of (drop l.ext-index l.ext-items)))) ≡ first_passed (temporary_limits (unit_of l.unit))
