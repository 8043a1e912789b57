-- The limits that are checked unit by unit.
use Rattle.std.specs.Prelude.{List}
use Rattle.c_tree.specs.TUnit.{TypedUnit}
use Rattle.c_limit.specs.declared.checks.UnitLimit.{UnitLimit}
use Rattle.c_limit.specs.declared.checks.UnitLimit.TheVariants as n
use Rattle.c_limit.specs.Limits.{Limit, object_limits, derivation_limits, dimension_limits, temporary_limits, unit_frames}

-- the limits of a unit
abbrev pub limits_at : UnitLimit → TypedUnit → List Limit
limits_at n.Sizes x = object_limits x
limits_at n.Derivations x = derivation_limits x
limits_at n.Dimensions x = dimension_limits x
limits_at n.Temporaries x = temporary_limits x
limits_at n.Frames x = unit_frames x
