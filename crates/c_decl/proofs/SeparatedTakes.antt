-- What is read of members with commas between them is spelled so.
use Rattle.std.proofs.Common.{◌≡◌, ℕ, ◌≤◌, zero, suc, List, [], ◌∷◌, Option, Some, None, nat_lt, refl, ap, ◌∙◌, inl, inr}
use Rattle.std.proofs.lemmas.Bool.{ltb-false}
use Rattle.c_lex.specs.Tokens.{Token}
use Rattle.c_grammar.specs.Words.{Separated, listed, mark, comma_mark, AreAll, spell_separated}
use Rattle.c_expr.specs.Front.{Read, eat, grown}
use Rattle.c_expr.proofs.Taken.{some_is, bind_some, chosen, eat_takes}
use Rattle.c_decl.specs.Separated.{separated, separated_by}

pub grown_takes : {A : Type 0} (depth : A → ℕ) (most : ℕ) (e : A) (ts : List Token) (x : A × List Token) → grown depth most e ts ≡ Some x → ((e, ts) ≡ x) × (depth e ≤ most)
grown_takes depth most e ts x is = elim (chosen (nat_lt most (depth e)) None (Some (e, ts)) (Some x) is) [
  | inl h ↦ cc (h.1)
  | inr h ↦ (some_is h.1, ltb-false most (depth e) h.0)
]

-- Members that are each a spelling up to where their reader stops are one together, with commas between them.
module _ {W A : Type 0} (plain : W → A) (spell : W → List Token → List Token) (read : List Token → Read A) (P : W → Type 0)
    (each : (ts : List Token) (x : A × List Token) → read ts ≡ Some x → (v : W) × P v × (plain v ≡ x.0) × (ts ≡ spell v x.1)) where
  abbrev Taken : List Token → List A × List Token → Type 0
  Taken ts xs = (v : Separated W) × AreAll P v × (listed plain v ≡ xs.0) × (ts ≡ spell_separated spell v xs.1)

  separated_by_take : (more : List Token → Read (List A)) → ((ts : List Token) (xs : List A × List Token) → more ts ≡ Some xs → Taken ts xs)
      → (ts : List Token) (x : A × List Token) (o : Option (List Token)) (xs : List A × List Token) → read ts ≡ Some x → eat comma_mark x.1 ≡ o → separated_by more x.0 x.1 o ≡ Some xs → Taken ts xs
  separated_by_take more others ts x None xs is at e =
      let one = each ts x is in
      let found : Taken ts (x.0 ∷ [], x.1) = (record { first = one.0; others = [] }, (one.1, tt), ap (λ y. y ∷ []) one.2, one.3) in
      rw (← some_is e) found
  separated_by_take more others ts x (Some after) xs is at e =
      let one = each ts x is in
      let b = bind_some (more after) (λ y. Some (x.0 ∷ y.0, y.1)) xs e in
      let rest = others after b.0 b.1 in
      let f = eat_takes comma_mark x.1 after at in
      let found : Taken ts (x.0 ∷ b.0.0, b.0.1) = (
        record { first = one.0; others = record { comma = f.0; member = rest.0.first } ∷ rest.0.others },
        (one.1, (rest.1.0, rest.1.1)),
        ap (λ y. y ∷ listed plain rest.0) one.2 ∙ ap (λ ys. x.0 ∷ ys) rest.2,
        one.3 ∙ ap (spell one.0) (f.2 ∙ ap (λ ys. mark f.0 comma_mark ∷ ys) rest.3),
      ) in
      rw (← some_is b.2) found

  pub separated_takes : (n : ℕ) (ts : List Token) (xs : List A × List Token) → separated read n ts ≡ Some xs → (v : Separated W) × AreAll P v × (listed plain v ≡ xs.0) × (ts ≡ spell_separated spell v xs.1)
  unfolding separated
  separated_takes zero ts xs is = cc
  separated_takes (suc n) ts xs is =
      let b = bind_some (read ts) (λ x. separated_by (separated read n) x.0 x.1 (eat comma_mark x.1)) xs is in
      separated_by_take (separated read n) (separated_takes n) ts b.0 (eat comma_mark b.0.1) xs b.1 refl b.2
