-- From tokens to members with commas between them.
use Rattle.std.specs.Prelude.{ℕ, zero, suc, List, [], ◌∷◌, Option, Some, None}
use Rattle.c_lex.specs.Tokens.{Token}
use Rattle.c_grammar.specs.Words.{comma_mark}
use Rattle.c_expr.specs.Front.{Read, ◌>>=◌, eat}

abbrev pub separated_by : {A : Type 0} → (List Token → Read (List A)) → A → List Token → Option (List Token) → Read (List A)
separated_by more x ts None = Some (x ∷ [], ts)
separated_by more x ts (Some after) = more after >>= λ y. Some (x ∷ y.0, y.1)

-- one member or more, with commas between them
unfoldable pub separated : {A : Type 0} → (List Token → Read A) → ℕ → List Token → Read (List A)
separated read zero ts = None
separated read (suc k) ts = read ts >>= λ x. separated_by (separated read k) x.0 x.1 (eat comma_mark x.1)
