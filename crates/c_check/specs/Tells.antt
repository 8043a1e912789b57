-- What a refusal of a unit says of it.
use Rattle.std.specs.Prelude.{⊤}
use Rattle.c_tree.specs.TreeUnit.{Unit}
use Rattle.c_rule.specs.RuleFailsUnit.{UnitFails}
use Rattle.c_scope.specs.declared.error.TypeErr.{TypeErr}
use Rattle.c_scope.specs.declared.error.TypeErr.TheVariants as why

-- the rule that it names fails in the unit; want of memory says nothing
abbrev pub Tells : Unit → TypeErr → Type 0
Tells y (why.Rule rule line) = UnitFails y rule
Tells y why.Memory = ⊤
