-- Where a part of a unit stands, each name that is known suits its type.
use Rattle.std.proofs.Common.{◌≡◌, List, [], ◌∷◌, true, false}
use Rattle.c_type.specs.Types.{CType}
use Rattle.c_tree.specs.TExpr.{Ref}
use Rattle.c_rule.specs.RuleScope.{Meaning, Alias, Constant, Thing, Function, Entry}
use Rattle.c_rule.specs.RuleTypes.{is_function}

abbrev pub Means : (R : CType → Ref → Type 0) → Meaning → Type 0
Means R (Alias t) = Unit {0}
Means R (Constant n) = Unit {0}
Means R (Thing r t) = (is_function t ≡ false) × R t r
Means R (Function s r t) = (is_function t ≡ true) × R t r

abbrev pub EntriesMean : (R : CType → Ref → Type 0) → List Entry → Type 0
EntriesMean R [] = Unit {0}
EntriesMean R (x ∷ xs) = Means R x.meaning × EntriesMean R xs

abbrev pub ScopesMean : (R : CType → Ref → Type 0) → List (List Entry) → Type 0
ScopesMean R [] = Unit {0}
ScopesMean R (es ∷ rest) = EntriesMean R es × ScopesMean R rest
