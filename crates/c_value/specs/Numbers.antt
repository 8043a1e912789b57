-- The constants that values of the code stand for.
use Rattle.c_rule.specs.RuleDecls as r
use Rattle.c_operator.specs.Boxed.{boxed}
use Rattle.c_value.specs.declared.constants.Number.{Number}

-- a constant with its 32 bits
abbrev pub number_of : Number → r.Number
number_of n = record { expr = boxed n.expr; bits = n.bits }
