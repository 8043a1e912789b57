-- The scopes around the innermost one.
use Rattle.std.specs.Prelude.{List, [], ◌∷◌}
use Rattle.c_rule.specs.RuleScope.{Entry}

abbrev pub around : List (List Entry) → List (List Entry)
around [] = []
around (es ∷ rest) = rest
