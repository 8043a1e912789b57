-- Members with commas between them that are spelled are read.
use Rattle.std.proofs.Common.{◌≡◌, ℕ, ◌+◌, ◌<◌, ◌≤◌, zero, suc, List, [], ◌∷◌, length, Some, None, refl, arith}
use Rattle.c_lex.specs.Tokens.{Token}
use Rattle.c_grammar.specs.Words.{After, members_of, mark, comma_mark, spell_others, AreEach}
use Rattle.c_expr.specs.Front.{Read, eat}
use Rattle.c_decl.specs.Separated.{separated}

pub members_longer : {W : Type 0} (spell : W → List Token → List Token) → ((x : W) (ts : List Token) → length ts < length (spell x ts))
    → (xs : List (After W)) (ts : List Token) → length xs + length ts ≤ length (spell_others spell xs ts)
members_longer spell longer [] ts = omega arith
members_longer spell longer (x ∷ xs) ts = omega (arith, longer x.member (spell_others spell xs ts), members_longer spell longer xs ts)

-- Members that are each read again before a comma or before what may follow are read again together.
module _ {W A : Type 0} (plain : W → A) (spell : W → List Token → List Token) (read : List Token → Read A) (P : W → Type 0) (F : List Token → Type 0)
    (comma_follows : (l : ℕ) (ts : List Token) → F (mark l comma_mark ∷ ts))
    (again : (x : W) (after : List Token) → P x → F after → read (spell x after) ≡ Some (plain x, after)) where
  pub separated_again : (n : ℕ) (x : W) (xs : List (After W)) (after : List Token) → P x → AreEach P xs → F after → eat comma_mark after ≡ None → length xs < n
      → separated read n (spell x (spell_others spell xs after)) ≡ Some (plain x ∷ members_of plain xs, after)
  unfolding separated
  separated_again zero x xs after ok oks follows ends room = absurd (omega arith)
  separated_again (suc n) x [] after ok oks follows ends room = rw (again x after ok follows, ends) refl
  separated_again (suc n) x (y ∷ ys) after ok oks follows ends room =
      rw (
        again x (mark y.comma comma_mark ∷ spell y.member (spell_others spell ys after)) ok (comma_follows y.comma (spell y.member (spell_others spell ys after))),
        separated_again n y.member ys after oks.0 oks.1 follows ends (omega arith),
      ) refl
