-- What a loop has taken and what it has left is the whole.
use Rattle.std.proofs.Common.{◌≡◌, ℕ, ◌+◌, ◌-◌, ◌<◌, ◌≤◌, suc, List, [], ◌∷◌, ◌++◌, Option, Some, None, Result, Err, refl, ap, arith, sym, ◌∙◌}
use Rattle.c_lex.specs.Tokens.{Token}
use Rattle.c_expr.specs.Front.{Read, ◌>>=◌}
use Rattle.c_expr.specs.declared.error.ParseErr.{ParseErr}
use Rattle.c_expr.specs.declared.error.ParseErr.TheVariants.{TooDeep, NotC, Memory}
use Rattle.c_decl.specs.Answers.{Refuses, Gives}

-- the members in front of those that are left, which `cons` puts together
abbrev pub in_front : {A B : Type 0} → (A → B → B) → List A → B → B
in_front cons [] y = y
in_front cons (x ∷ xs) y = cons x (in_front cons xs y)

unfoldable pub with_front : {A B : Type 0} → (A → B → B) → List A → Read B → Read B
with_front cons xs more = more >>= λ y. Some (in_front cons xs y.0, y.1)

-- where the whole fails with its part, an error says the same of both
pub refuses_with : {X Y : Type 0} (e : ParseErr) (part : Option X) (whole : Option Y) → Refuses e part → (part ≡ None → whole ≡ None) → Refuses e whole
refuses_with (TooDeep line) part whole says so = says
refuses_with (NotC line) part whole says so = so says
refuses_with Memory part whole says so = tt

-- an error that is passed on
pub gives_error : {X Y : Type 0} (view : X → Y) (r : Result X ParseErr) (y e : ParseErr) (whole : Option Y) → r ≡ Err y → y ≡ e → Refuses e whole → Gives view r whole
gives_error view r y e whole is same says = rw (is, same) says

-- A loop that has so many turns at most and takes one member in each.
module _ {A B : Type 0} (cons : A → B → B) (loop : ℕ → List Token → Read B) where
  none_taken : (o : Read B) → with_front cons [] o ≡ o
  unfolding with_front
  none_taken None = refl
  none_taken (Some y) = refl

  pub begins : (n : ℕ) (ts : List Token) → with_front cons [] (loop (n - 0) ts) ≡ loop n ts
  begins n ts = let count : n - 0 ≡ n = omega arith in none_taken (loop (n - 0) ts) ∙ ap (λ k. loop k ts) count

  front_moves : (xs : List A) (x : A) (y : B) → in_front cons xs (cons x y) ≡ in_front cons (xs ++ x ∷ []) y
  front_moves [] x y = refl
  front_moves (z ∷ zs) x y = ap (cons z) (front_moves zs x y)

  with_moves : (xs : List A) (x : A) (more : Read B) → with_front cons xs (more >>= λ y. Some (cons x y.0, y.1)) ≡ with_front cons (xs ++ x ∷ []) more
  unfolding with_front
  with_moves xs x None = refl
  with_moves xs x (Some y) = ap (λ z. Some (z, y.1)) (front_moves xs x y.0)

  turned : (n turn : ℕ) (xs : List A) (ts : List Token) (whole : Read B) → turn < n → with_front cons xs (loop (n - turn) ts) ≡ whole → with_front cons xs (loop (suc (n - (turn + 1))) ts) ≡ whole
  turned n turn xs ts whole less so =
      let count : n - turn ≡ suc (n - (turn + 1)) = omega arith in
      ap (λ k. with_front cons xs (loop k ts)) (sym count) ∙ so

  -- a member, and the loop goes on
  pub goes_on : (n turn : ℕ) (xs : List A) (x : A) (ts next : List Token) (whole : Read B) → turn < n → with_front cons xs (loop (n - turn) ts) ≡ whole → ((k : ℕ) → loop (suc k) ts ≡ (loop k next >>= λ y. Some (cons x y.0, y.1)))
      → with_front cons (xs ++ x ∷ []) (loop (n - (turn + 1)) next) ≡ whole
  goes_on n turn xs x ts next whole less so is =
      sym (with_moves xs x (loop (n - (turn + 1)) next)) ∙ ap (with_front cons xs) (sym (is (n - (turn + 1)))) ∙ turned n turn xs ts whole less so

  -- the loop ends
  pub ends : (n turn : ℕ) (xs : List A) (y : B) (ts after : List Token) (whole : Read B) → turn < n → with_front cons xs (loop (n - turn) ts) ≡ whole → ((k : ℕ) → loop (suc k) ts ≡ Some (y, after))
      → whole ≡ Some (in_front cons xs y, after)
  unfolding with_front
  ends n turn xs y ts after whole less so is = sym (turned n turn xs ts whole less so) ∙ ap (with_front cons xs) (is (n - (turn + 1)))

  -- the loop fails
  pub fails : (n turn : ℕ) (xs : List A) (ts : List Token) (whole : Read B) → turn < n → with_front cons xs (loop (n - turn) ts) ≡ whole → ((k : ℕ) → loop (suc k) ts ≡ None) → whole ≡ None
  unfolding with_front
  fails n turn xs ts whole less so is = sym (turned n turn xs ts whole less so) ∙ ap (with_front cons xs) (is (n - (turn + 1)))

  -- no turn is left
  pub runs_out : (n turn : ℕ) (xs : List A) (ts : List Token) (whole : Read B) → n ≤ turn → with_front cons xs (loop (n - turn) ts) ≡ whole → loop 0 ts ≡ None → whole ≡ None
  unfolding with_front
  runs_out n turn xs ts whole all so none_left =
      let count : n - turn ≡ 0 = omega arith in
      sym so ∙ ap (λ k. with_front cons xs (loop k ts)) count ∙ ap (with_front cons xs) none_left

  -- an error in the loop is passed on
  pub failed : {X Y : Type 0} (view : X → B × List Token) (part : Read Y) (r : Result X ParseErr) (y e : ParseErr) (n turn : ℕ) (xs : List A) (ts : List Token) (whole : Read B) → r ≡ Err y → y ≡ e
      → turn < n → with_front cons xs (loop (n - turn) ts) ≡ whole → Refuses e part → (part ≡ None → (k : ℕ) → loop (suc k) ts ≡ None) → Gives view r whole
  failed view part r y e n turn xs ts whole is same less so says stops =
      gives_error view r y e whole is same (refuses_with e part whole says (λ none_read. fails n turn xs ts whole less so (stops none_read)))
