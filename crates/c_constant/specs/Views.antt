-- What values of the code stand for.
use Rattle.std.specs.Prelude.{Option, Some, None}
use Rattle.c_type.specs.declared.Kind.TheVariants.{Int, UInt}
use Rattle.c_type.specs.Of.{type_of}
use Rattle.c_type.specs.Types.{CType, num}
use Rattle.c_rule.specs.RuleDecls as r
use Rattle.c_constant.specs.declared.typing.ExprType.{ExprType}
use Rattle.c_constant.specs.declared.typing.ExprType.TheVariants as t
use Rattle.c_constant.specs.declared.spot.Spot.{Spot}

-- the type of an expression
abbrev pub told : ExprType → CType
told t.Int = num Int
told t.Unsigned = num UInt
told (t.Told y) = type_of y.now

-- a spot in an object
abbrev pub spot_of : Spot → r.Spot
spot_of s = record { size = s.size; off = s.off }

-- a spot, if there is one
abbrev pub spot_option : Option Spot → Option r.Spot
spot_option None = None
spot_option (Some s) = Some (spot_of s)
