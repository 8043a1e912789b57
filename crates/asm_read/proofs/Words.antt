-- Names, words and numbers as words of a line.
use Rattle.std.proofs.Common.{◌≡◌, ℕ, zero, suc, ◌+◌, ◌*◌, ◌/◌, ◌%◌, ◌^◌, ◌<◌, ◌≤◌, List, [], ◌∷◌, ◌++◌, length, get_or, Bool, true, false, cond, Option, Some, None, refl, ap, ◌∙◌, arith}
use Rattle.std.specs.Prelude.{nat_eq, nat_le, ◌&&◌, ◌||◌, codes, decimal}
use Rattle.std.specs.List.{list_all}
use Rattle.std.specs.Str.{bytes_eq}
use Rattle.std.proofs.lemmas.Bool.Decides.{nat_tests}
use Rattle.std.proofs.lemmas.List.Folds.{list_all-append}
use Rattle.std.proofs.lemmas.Fmt.{decimal_by_steps, decimal_nonempty, decimal_digit, first_decimal}
use Rattle.asm_item.specs.Normal.{is_digit, is_name_byte, is_name}
use Rattle.asm_read.specs.Tokens.{IsWord}
use Rattle.asm_read.specs.Numerals.{◌>>=◌, digit, longer, digits, after_zero, numeral}
use Rattle.asm_read.proofs.Scanned.{letter}
use Rattle.asm_read.proofs.Joined.{and_left, and_right, all_weaker}
use Rattle.std.proofs.lemmas.Bool.{and_from}
use Rattle.std.proofs.Math.Bool.{and-false}

-- bytes of a name, one at least, make a word
pub words : (w : List ℕ) → list_all is_name_byte w ≡ true → 0 < length w → IsWord w
words [] h lt = absurd (omega arith)
words (c ∷ []) h lt = letter c (and_left (is_name_byte c) true h)
words (c ∷ (d ∷ w)) h lt = (letter c (and_left (is_name_byte c) (list_all is_name_byte (d ∷ w)) h), words (d ∷ w) (and_right (is_name_byte c) (list_all is_name_byte (d ∷ w)) h) (omega arith))

pub name_word : (k : List ℕ) → is_name k ≡ true → IsWord k
name_word [] h = absurd cc
name_word (c ∷ []) h = letter c (and_left (is_name_byte c) (cond (is_digit c || nat_eq c 46) false true) h)
name_word (c ∷ (d ∷ k)) h =
    let front = and_left (is_name_byte c && cond (is_digit c) false true) (list_all is_name_byte (d ∷ k)) h in
    (letter c (and_left (is_name_byte c) (cond (is_digit c) false true) front), words (d ∷ k) (and_right (is_name_byte c && cond (is_digit c) false true) (list_all is_name_byte (d ∷ k)) h) (omega arith))

off : (b : Bool) → cond b false true ≡ true → b ≡ false
off true h = absurd cc
off false h = refl

or_right : (a b : Bool) → (a || b) ≡ false → b ≡ false
or_right true b h = absurd cc
or_right false b h = h

-- a name isn't `.` alone
pub no_dot : (k : List ℕ) → is_name k ≡ true → bytes_eq k (codes ".") ≡ false
no_dot [] h = absurd cc
no_dot (c ∷ []) h =
    let alone = or_right (is_digit c) (nat_eq c 46) (off (is_digit c || nat_eq c 46) (and_right (is_name_byte c) (cond (is_digit c || nat_eq c 46) false true) h)) in
    ap (λ b. b && true) alone
no_dot (c ∷ (d ∷ k)) h = and-false (nat_eq c 46)

-- ---- numbers

digit_byte : (c : ℕ) → is_digit c ≡ true → is_name_byte c ≡ true
digit_byte c h = ap (λ b. b || (nat_le 65 c && nat_le c 90) || (nat_le 97 c && nat_le c 122) || nat_eq c 95 || nat_eq c 46) h

one_digit : (n : ℕ) → n < 10 → is_digit (48 + n) ≡ true
one_digit n h = grind (arith, nat_tests)

pub decimal_digits : (n : ℕ) → n < 2 ^ 64 → list_all is_digit (decimal n) ≡ true
decimal_digits = decimal_by_steps (λ n ds. list_all is_digit ds ≡ true) (λ n h. and_from (is_digit (48 + n)) true (one_digit n h) refl) (λ n ds ten h. list_all-append is_digit ds ((48 + n % 10) ∷ []) ∙ and_from (list_all is_digit ds) (is_digit (48 + n % 10) && true) h (and_from (is_digit (48 + n % 10)) true (one_digit (n % 10) (omega arith)) refl))

pub decimal_word : (n : ℕ) → n < 2 ^ 64 → IsWord (decimal n)
decimal_word n h = words (decimal n) (all_weaker is_digit is_name_byte digit_byte (decimal n) (decimal_digits n h)) (decimal_nonempty n h)

-- a word of digits is no name
pub no_name : (w : List ℕ) → list_all is_digit w ≡ true → is_name w ≡ false
no_name [] h = refl
no_name (c ∷ []) h = ap (λ b. is_name_byte c && cond (b || nat_eq c 46) false true) (and_left (is_digit c) true h) ∙ and-false (is_name_byte c)
no_name (c ∷ (d ∷ w)) h =
    ap (λ b. (is_name_byte c && cond b false true) && list_all is_name_byte (d ∷ w)) (and_left (is_digit c) (list_all is_digit (d ∷ w)) h)
    ∙ ap (λ b. b && list_all is_name_byte (d ∷ w)) (and-false (is_name_byte c))

no_point : (c : ℕ) → is_digit c ≡ true → nat_eq c 46 ≡ false
no_point c h = grind (arith, nat_tests)

pub no_place : (w : List ℕ) → list_all is_digit w ≡ true → bytes_eq w (codes ".") ≡ false
no_place [] h = refl
no_place (c ∷ []) h = ap (λ b. b && true) (no_point c (and_left (is_digit c) true h))
no_place (c ∷ (d ∷ w)) h = and-false (nat_eq c 46)

digit_is : (n : ℕ) → n < 10 → digit (48 + n) ≡ n
digit_is n h = grind (arith, nat_tests)

longer_is : (n d : ℕ) → d < 10 → n * 10 + d < 4294967296 → longer 10 n d ≡ Some (n * 10 + d)
longer_is n d h small = grind (arith, nat_tests)

bind_some : (o : Option ℕ) → (o >>= λ m. Some m) ≡ o
bind_some None = refl
bind_some (Some m) = refl

digits_push : (b n : ℕ) (w : List ℕ) (c : ℕ) → digits b n (w ++ (c ∷ [])) ≡ (digits b n w >>= λ m. longer b m (digit c))
digits_push b n [] c = bind_some (longer b n (digit c))
digits_push b n (d ∷ w) c = by (λ m. digits_push b m w c) (longer b n (digit d))
  where
    by : ((m : ℕ) → digits b m (w ++ (c ∷ [])) ≡ (digits b m w >>= λ m. longer b m (digit c))) → (o : Option ℕ) → (o >>= λ m. digits b m (w ++ (c ∷ []))) ≡ ((o >>= λ m. digits b m w) >>= λ m. longer b m (digit c))
    by deep None = refl
    by deep (Some m) = deep m

pub digits_decimal : (n : ℕ) → n < 2 ^ 64 → n < 4294967296 → digits 10 0 (decimal n) ≡ Some n
digits_decimal = decimal_by_steps (λ n ds. n < 4294967296 → digits 10 0 ds ≡ Some n) one more
  where
    one : (n : ℕ) → n < 10 → n < 4294967296 → digits 10 0 ((48 + n) ∷ []) ≡ Some n
    one n h small =
        bind_some (longer 10 0 (digit (48 + n))) ∙ ap (longer 10 0) (digit_is n h) ∙ longer_is 0 n h (omega arith) ∙ ap Some (omega arith)

    more : (n : ℕ) (ds : List ℕ) → 10 ≤ n → (n / 10 < 4294967296 → digits 10 0 ds ≡ Some (n / 10)) → n < 4294967296 → digits 10 0 (ds ++ ((48 + n % 10) ∷ [])) ≡ Some n
    more n ds ten h small =
        digits_push 10 0 ds (48 + n % 10) ∙ ap (λ o. o >>= λ m. longer 10 m (digit (48 + n % 10))) (h (omega arith)) ∙ ap (longer 10 (n / 10)) (digit_is (n % 10) (omega arith)) ∙ longer_is (n / 10) (n % 10) (omega arith) (omega arith) ∙ ap Some (omega arith)

not_zero : (c : ℕ) → 48 < c → nat_eq c 48 ≡ false
not_zero c h = grind (arith, nat_tests)

-- what is printed of a number spells it
pub numeral_decimal : (n : ℕ) → n < 4294967296 → numeral (decimal n) ≡ Some n
numeral_decimal zero h = ap numeral (decimal_digit 0 (omega arith))
numeral_decimal (suc n) h = by (decimal (suc n)) refl (first_decimal (suc n) (omega arith) (omega arith)) (digits_decimal (suc n) (omega arith) h)
  where
    by : (w : List ℕ) → decimal (suc n) ≡ w → 48 < get_or w 0 0 → digits 10 0 w ≡ Some (suc n) → numeral w ≡ Some (suc n)
    by [] e first ds = absurd (omega arith)
    by (c ∷ w) e first ds = ap (λ b. cond b (after_zero w) (digits 10 0 (c ∷ w))) (not_zero c first) ∙ ds
