-- One turn of a loop over members with commas between them.
use Rattle.std.proofs.Common.{◌≡◌, ℕ, ◌<◌, ◌≤◌, ◌-◌, ◌+◌, suc, List, [], ◌∷◌, ◌++◌, Some, None, Result, Err, refl, ap, ◌∙◌}
use Rattle.c_lex.specs.Tokens.{Token}
use Rattle.c_grammar.specs.Words.{comma_mark}
use Rattle.c_expr.specs.Front.{Read, ◌>>=◌, eat}
use Rattle.c_expr.specs.declared.error.ParseErr.{ParseErr}
use Rattle.c_decl.specs.Answers.{Refuses, Gives}
use Rattle.c_decl.specs.Separated.{separated}
use Rattle.c_decl.proofs.Loops as l
use Rattle.c_decl.proofs.Loops.{in_front, with_front}

abbrev pub onto : {A : Type 0} → A → List A → List A
onto x xs = x ∷ xs

listed : {A : Type 0} (xs ys : List A) → in_front onto xs ys ≡ xs ++ ys
listed [] ys = refl
listed (x ∷ xs) ys = ap (λ zs. x ∷ zs) (listed xs ys)

module _ {A : Type 0} (read : List Token → Read A) where
  pub begins : (n : ℕ) (ts : List Token) → with_front onto [] (separated read (n - 0) ts) ≡ separated read n ts
  begins n ts = l.begins onto (separated read) n ts

  before_comma : (ts after next : List Token) (x : A) (k : ℕ) → read ts ≡ Some (x, after) → eat comma_mark after ≡ Some next → separated read (suc k) ts ≡ (separated read k next >>= λ y. Some (x ∷ y.0, y.1))
  unfolding separated
  before_comma ts after next x k is at = rw (is, at) refl

  last_one : (ts after : List Token) (x : A) (k : ℕ) → read ts ≡ Some (x, after) → eat comma_mark after ≡ None → separated read (suc k) ts ≡ Some (x ∷ [], after)
  unfolding separated
  last_one ts after x k is at = rw (is, at) refl

  no_member : (ts : List Token) (k : ℕ) → read ts ≡ None → separated read (suc k) ts ≡ None
  unfolding separated
  no_member ts k is = rw is refl

  none_left : (ts : List Token) → separated read 0 ts ≡ None
  unfolding separated
  none_left ts = refl

  pub goes_on : (n turn : ℕ) (xs : List A) (x : A) (ts after next : List Token) (whole : Read (List A)) → turn < n → with_front onto xs (separated read (n - turn) ts) ≡ whole → read ts ≡ Some (x, after) → eat comma_mark after ≡ Some next
      → with_front onto (xs ++ x ∷ []) (separated read (n - (turn + 1)) next) ≡ whole
  goes_on n turn xs x ts after next whole less so is at = l.goes_on onto (separated read) n turn xs x ts next whole less so (λ k. before_comma ts after next x k is at)

  pub ends : (n turn : ℕ) (xs : List A) (x : A) (ts after : List Token) (whole : Read (List A)) → turn < n → with_front onto xs (separated read (n - turn) ts) ≡ whole → read ts ≡ Some (x, after) → eat comma_mark after ≡ None
      → whole ≡ Some (xs ++ x ∷ [], after)
  ends n turn xs x ts after whole less so is at =
      l.ends onto (separated read) n turn xs (x ∷ []) ts after whole less so (λ k. last_one ts after x k is at) ∙ ap (λ ys. Some (ys, after)) (listed xs (x ∷ []))

  pub runs_out : (n turn : ℕ) (xs : List A) (ts : List Token) (whole : Read (List A)) → n ≤ turn → with_front onto xs (separated read (n - turn) ts) ≡ whole → whole ≡ None
  runs_out n turn xs ts whole all so = l.runs_out onto (separated read) n turn xs ts whole all so (none_left ts)

  pub failed : {X : Type 0} (view : X → List A × List Token) (r : Result X ParseErr) (y e : ParseErr) (n turn : ℕ) (xs : List A) (ts : List Token) (whole : Read (List A)) → r ≡ Err y → y ≡ e
      → turn < n → with_front onto xs (separated read (n - turn) ts) ≡ whole → Refuses e (read ts) → Gives view r whole
  failed view r y e n turn xs ts whole is same less so says =
      l.failed onto (separated read) view (read ts) r y e n turn xs ts whole is same less so says (λ none_read k. no_member ts k none_read)
