-- The first among all is the first among what is left.
use Rattle.std.proofs.Common.{◌≡◌, map, drop}
use Rattle.std.specs.List.{flat_map}
use Rattle.c_tree.specs.TypedOf.{unit_of}
use Rattle.c_limit.specs.Limits.{first_passed}
use Rattle.c_limit.specs.UnitLimits.{limits_at}
use Rattle.c_limit.proofs.checks.first_of_units.Given as goal

abbrev pub invariant-loop-unit : goal.invariant-loop-unit
invariant-loop-unit l = first_passed (flat_map (limits_at l.which) (map unit_of (drop l.unit-index l.units))) ≡ first_passed (flat_map (limits_at l.which) (map unit_of l.units))
