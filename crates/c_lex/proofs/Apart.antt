-- Kinds of bytes that exclude or contain one another.
use Rattle.std.proofs.Common.{◌≡◌, ℕ, ◌≤◌, ◌⊎◌, inl, inr, List, [], ◌∷◌, ◌++◌, Bool, true, false, refl, ap, arith}
use Rattle.std.specs.Prelude.{nat_eq, ◌||◌}
use Rattle.std.proofs.lemmas.Bool.{and_from, and_parts, or_cases, or_from, ne_eqb, eqb-true, false_from_ne_true}
use Rattle.c_lex.specs.Bytes.{is_between, is_white, is_digit, is_octal, is_hexadecimal, is_letter, begins_name, is_run_byte, are}
use Rattle.c_lex.proofs.Between.{between_is, is_between_of}
use Rattle.c_lex.proofs.Fronts.{run_byte}

outside : (low high b : ℕ) → (low ≤ b → b ≤ high → ⊥) → is_between low high b ≡ false
outside low high b h = false_from_ne_true (is_between low high b) (λ e. h (between_is low high b e).0 (between_is low high b e).1)

pub no_white : (b : ℕ) → 48 ≤ b → is_white b ≡ false
no_white b le = or_from (nat_eq b 32) (is_between 9 13 b) (ne_eqb b 32 (λ e. omega arith)) (outside 9 13 b (λ l h. omega arith))

pub no_name : (b : ℕ) → b ≤ 57 → begins_name b ≡ false
no_name b le =
    or_from (is_letter b) (nat_eq b 95)
    (or_from (is_between 97 122 b) (is_between 65 90 b) (outside 97 122 b (λ l h. omega arith)) (outside 65 90 b (λ l h. omega arith)))
    (ne_eqb b 95 (λ e. omega arith))

letter_above : (b : ℕ) → is_letter b ≡ true → 65 ≤ b
letter_above b e = either (or_cases (is_between 97 122 b) (is_between 65 90 b) e)
  where
    either : ((is_between 97 122 b ≡ true) ⊎ (is_between 65 90 b ≡ true)) → 65 ≤ b
    either (inl f) = let h : 97 ≤ b = (between_is 97 122 b f).0 in omega arith
    either (inr f) = (between_is 65 90 b f).0

-- a byte with which a name begins is no white byte
pub name_no_white : (b : ℕ) → begins_name b ≡ true → is_white b ≡ false
name_no_white b e = no_white b (either (or_cases (is_letter b) (nat_eq b 95) e))
  where
    either : ((is_letter b ≡ true) ⊎ (nat_eq b 95 ≡ true)) → 48 ≤ b
    either (inl f) = let h : 65 ≤ b = letter_above b f in omega arith
    either (inr f) = let h : b ≡ 95 = eqb-true b 95 f in omega arith

-- a digit is no white byte, and no name begins with it
pub digit_alone : (b : ℕ) → is_digit b ≡ true → (is_white b ≡ false) × (begins_name b ≡ false)
digit_alone b e = let q = between_is 48 57 b e in (no_white b q.0, no_name b q.1)

pub octal_run : (b : ℕ) → is_octal b ≡ true → is_run_byte b ≡ true
octal_run b e =
    let q = between_is 48 55 b e in
    let h : b ≤ 55 = q.1 in
    run_byte b (is_between_of 48 57 b q.0 (omega arith))

pub hexadecimal_run : (b : ℕ) → is_hexadecimal b ≡ true → is_run_byte b ≡ true
hexadecimal_run b e = either (or_cases (is_digit b) (is_between 97 102 b || is_between 65 70 b) e)
  where
    letter : is_letter b ≡ true → is_run_byte b ≡ true
    letter f = ap (λ t. t || is_digit b) f

    low : is_between 97 122 b ≡ true → is_letter b ≡ true
    low f = ap (λ t. t || is_between 65 90 b) f

    high : (t : Bool) → is_between 65 90 b ≡ true → (t || is_between 65 90 b) ≡ true
    high true f = refl
    high false f = f

    letters : ((is_between 97 102 b ≡ true) ⊎ (is_between 65 70 b ≡ true)) → is_run_byte b ≡ true
    letters (inl f) = let q = between_is 97 102 b f in let h : b ≤ 102 = q.1 in letter (low (is_between_of 97 122 b q.0 (omega arith)))
    letters (inr f) = let q = between_is 65 70 b f in let h : b ≤ 70 = q.1 in letter (high (is_between 97 122 b) (is_between_of 65 90 b q.0 (omega arith)))

    either : ((is_digit b ≡ true) ⊎ ((is_between 97 102 b || is_between 65 70 b) ≡ true)) → is_run_byte b ≡ true
    either (inl f) = run_byte b f
    either (inr f) = letters (or_cases (is_between 97 102 b) (is_between 65 70 b) f)

pub are_both : (p : ℕ → Bool) (xs ys : List ℕ) → are p xs ≡ true → are p ys ≡ true → are p (xs ++ ys) ≡ true
are_both p [] ys e f = f
are_both p (x ∷ xs) ys e f = let q = and_parts (p x) (are p xs) e in and_from (p x) (are p (xs ++ ys)) q.0 (are_both p xs ys q.1 f)

pub are_also : (p q : ℕ → Bool) → ((b : ℕ) → p b ≡ true → q b ≡ true) → (xs : List ℕ) → are p xs ≡ true → are q xs ≡ true
are_also p q h [] e = refl
are_also p q h (x ∷ xs) e = let r = and_parts (p x) (are p xs) e in and_from (q x) (are q xs) (h x r.0) (are_also p q h xs r.1)
