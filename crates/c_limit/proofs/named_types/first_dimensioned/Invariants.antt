-- The first among all is the first among what is left.
use Rattle.std.proofs.Common.{◌≡◌, drop}
use Rattle.std.specs.List.{flat_map}
use Rattle.c_limit.specs.Limits.{first_passed, dimension_limits_of}
use Rattle.c_limit.specs.Of.{all_named_of}
use Rattle.c_limit.proofs.named_types.first_dimensioned.Given as goal

abbrev pub invariant-loop-one : goal.invariant-loop-one
invariant-loop-one l = first_passed (flat_map dimension_limits_of (all_named_of (drop l.one-index l.named))) ≡ first_passed (flat_map dimension_limits_of (all_named_of l.named))
