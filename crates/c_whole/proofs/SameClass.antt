-- Tags with one number are one: each can stand for the other.
use Rattle.std.proofs.Common.{◌≡◌, ℕ, List, true, Option, Some, None, refl, sym, ap, ◌∙◌, true≢false}
use Rattle.std.proofs.lemmas.Bool.{eqb-true, eq-eqb}
use Rattle.c_join.specs.JoinChecks.{class_of, same_class}
use Rattle.c_whole.specs.Types.{same_number}
use Rattle.c_whole.proofs.Replace.{Equates}

pub numbers_same : (a b : Option ℕ) → same_number a b ≡ true → a ≡ b
numbers_same None None h = refl
numbers_same (Some n) (Some m) h = ap Some (eqb-true n m h)
numbers_same a b h = absurd (true≢false (sym h))

pub number_self : (a : Option ℕ) → same_number a a ≡ true
number_self None = refl
number_self (Some n) = eq-eqb n n refl

pub equates : (cs : List (List ℕ)) → Equates (same_class cs)
equates cs = record {
  replace = λ p q s h. ap (λ n. same_number n (class_of cs s)) (sym (numbers_same (class_of cs p) (class_of cs q) h));
  turn = λ p q h. ap (same_number (class_of cs q)) (numbers_same (class_of cs p) (class_of cs q) h) ∙ number_self (class_of cs q);
}
