-- Numbers: what is read of a run is how it is written.
use Rattle.std.proofs.Common.{◌≡◌, ℕ, zero, suc, ◌+◌, ◌*◌, ◌<◌, ◌≤◌, ◌⊎◌, inl, inr, min, List, [], ◌∷◌, ◌++◌, length, Option, Some, None, Bool, true, false, refl, sym, ap, ◌∙◌, subst, arith}
use Rattle.std.specs.Prelude.{nat_eq, ◌||◌}
use Rattle.std.proofs.lemmas.Bool.{and_from, and_parts, eqb-true, eqb-false, or_cases, ne_eqb, cases_lt}
use Rattle.c_type.specs.Names.{pick}
use Rattle.c_lex.specs.Bytes.{is_between, is_digit, is_octal, is_hexadecimal, digit_value, value_from, are, begins}
use Rattle.c_lex.specs.Pieces.{Number, decimal, octal, hexadecimal, number_bytes, number_value, IsNumber, suffix_bytes, IsSuffix, is_long}
use Rattle.c_lex.specs.Reading.{digits, more_digits, ended, is_suffix, is_digit_of, after_x, after_zero, number}
use Rattle.c_lex.proofs.Between.{between_is, is_between_of}

abbrev most : ℕ
most = 4294967296

min_cases : (m k d : ℕ) → ((m < 4294967296) ⊎ (4294967296 ≤ m)) → min (min m 4294967296 * suc k + d) 4294967296 ≡ min (m * suc k + d) 4294967296
min_cases m k d (inl lt) = let e : min m 4294967296 ≡ m = omega arith in ap (λ x. min (x * suc k + d) 4294967296) e
min_cases m k d (inr le) =
    let e : min m 4294967296 ≡ 4294967296 = omega arith in
    let a : 4294967296 * suc k ≡ 4294967296 * k + 4294967296 = omega arith in
    let b : m * suc k ≡ m * k + m = omega arith in
    let f : min (4294967296 * suc k + d) 4294967296 ≡ 4294967296 = omega arith in
    let g : min (m * suc k + d) 4294967296 ≡ 4294967296 = omega arith in
    ap (λ x. min (x * suc k + d) 4294967296) e ∙ f ∙ sym g

counted : (m base d : ℕ) → 1 ≤ base → min (min m 4294967296 * base + d) 4294967296 ≡ min (m * base + d) 4294967296
counted m zero d le = absurd (omega arith)
counted m (suc k) d le = min_cases m k d (cases_lt m 4294967296)

suffix_test : (l base : ℕ) → ((l ≡ 108) ⊎ (l ≡ 76)) → is_digit_of base l ≡ false
suffix_test l base (inl e) = ap (λ b. is_digit_of base b) e ∙ no_digit (nat_eq base 8) (nat_eq base 10)
  where
    no_digit : (a b : Bool) → pick a false (pick b false false) ≡ false
    no_digit true b = refl
    no_digit false true = refl
    no_digit false false = refl
suffix_test l base (inr e) = ap (λ b. is_digit_of base b) e ∙ no_digit (nat_eq base 8) (nat_eq base 10)
  where
    no_digit : (a b : Bool) → pick a false (pick b false false) ≡ false
    no_digit true b = refl
    no_digit false true = refl
    no_digit false false = refl

suffix_is : (l : ℕ) → ((l ≡ 108) ⊎ (l ≡ 76)) → is_suffix l ≡ true
suffix_is l (inl e) = ap is_suffix e
suffix_is l (inr e) = ap is_suffix e

digits_end : (base n : ℕ) (l : Option ℕ) → IsSuffix l → digits base n (suffix_bytes l) ≡ Some (n, is_long l)
digits_end base n None h = refl
digits_end base n (Some l) h =
    ap (λ t. pick t (digits base (more_digits base n l) []) (ended n l [])) (suffix_test l base h) ∙ ap (λ t. pick t (Some (n, true)) None) (suffix_is l h)

pub digits_are : (base m : ℕ) (ds : List ℕ) (l : Option ℕ) → 1 ≤ base → are (is_digit_of base) ds ≡ true → IsSuffix l → digits base (min m 4294967296) (ds ++ suffix_bytes l) ≡ Some (min (value_from base m ds) 4294967296, is_long l)
digits_are base m [] l le a h = digits_end base (min m 4294967296) l h
digits_are base m (d ∷ ds) l le a h =
    let q = and_parts (is_digit_of base d) (are (is_digit_of base) ds) a in
    ap (λ t. pick t (digits base (more_digits base (min m 4294967296) d) (ds ++ suffix_bytes l)) (ended (min m 4294967296) d (ds ++ suffix_bytes l))) q.0
    ∙ ap (λ n. digits base n (ds ++ suffix_bytes l)) (counted m base (digit_value d) le)
    ∙ digits_are base (m * base + digit_value d) ds l le q.1 h

-- The run is digits of the base, and a suffix where one stands there.
pub record DigitsAt (base : ℕ) (run : List ℕ) : Type 0 where
  pub ds : List ℕ
  pub l : Option ℕ
  pub are_digits : are (is_digit_of base) ds ≡ true
  pub suffix : IsSuffix l
  pub run_is : run ≡ ds ++ suffix_bytes l

suffix_of : (l : ℕ) → is_suffix l ≡ true → (l ≡ 108) ⊎ (l ≡ 76)
suffix_of l e = either (or_cases (nat_eq l 108) (nat_eq l 76) e)
  where
    either : ((nat_eq l 108 ≡ true) ⊎ (nat_eq l 76 ≡ true)) → (l ≡ 108) ⊎ (l ≡ 76)
    either (inl f) = inl (eqb-true l 108 f)
    either (inr f) = inr (eqb-true l 76 f)

end_by : (base n b : ℕ) (t : Bool) → is_suffix b ≡ t → DigitsAt base (b ∷ []) ⊎ (pick {A = Option (ℕ × Bool)} t (Some (n, true)) None ≡ None)
end_by base n b true e = inl (record { ds = []; l = Some b; are_digits = refl; suffix = suffix_of b e; run_is = refl })
end_by base n b false e = inr refl

end_at : (base n b : ℕ) (bs : List ℕ) → DigitsAt base (b ∷ bs) ⊎ (ended n b bs ≡ None)
end_at base n b [] = end_by base n b (is_suffix b) refl
end_at base n b (c ∷ cs) = inr refl

digits_by : (base n b : ℕ) (bs : List ℕ) (t : Bool) → is_digit_of base b ≡ t → (DigitsAt base bs ⊎ (digits base (more_digits base n b) bs ≡ None)) → DigitsAt base (b ∷ bs) ⊎ (pick t (digits base (more_digits base n b) bs) (ended n b bs) ≡ None)
digits_by base n b bs true e (inl r) = inl (record { ds = b ∷ r.ds; l = r.l; are_digits = and_from (is_digit_of base b) (are (is_digit_of base) r.ds) e r.are_digits; suffix = r.suffix; run_is = ap (λ x. b ∷ x) r.run_is })
digits_by base n b bs true e (inr r) = inr r
digits_by base n b bs false e r = end_at base n b bs

pub digits_at : (base n : ℕ) (run : List ℕ) → DigitsAt base run ⊎ (digits base n run ≡ None)
digits_at base n [] = inl (record { ds = []; l = None; are_digits = refl; suffix = tt; run_is = refl })
digits_at base n (b ∷ bs) = digits_by base n b bs (is_digit_of base b) refl (digits_at base (more_digits base n b) bs)

abbrev pub read_as : Number → Option ℕ → Option (ℕ × Bool)
read_as n l = Some (min (number_value n) 4294967296, is_long l)

not_zero : (d : ℕ) → is_between 49 57 d ≡ true → nat_eq d 48 ≡ false
not_zero d e = let h : 49 ≤ d = (between_is 49 57 d e).0 in ne_eqb d 48 (λ f. omega arith)

not_x : (d : ℕ) → is_octal d ≡ true → (nat_eq d 120 || nat_eq d 88) ≡ false
not_x d e =
    let h : d ≤ 55 = (between_is 48 55 d e).1 in
    ap (λ t. t || nat_eq d 88) (ne_eqb d 120 (λ f. omega arith)) ∙ ne_eqb d 88 (λ f. omega arith)

octal_read : (ds : List ℕ) (l : Option ℕ) → are is_octal ds ≡ true → IsSuffix l → after_zero (ds ++ suffix_bytes l) ≡ read_as (octal ds) l
octal_read [] None a h = refl
octal_read [] (Some l) a h = long l h
  where
    long : (l : ℕ) → ((l ≡ 108) ⊎ (l ≡ 76)) → after_zero (l ∷ []) ≡ Some (0, true)
    long l (inl e) = ap (λ b. after_zero (b ∷ [])) e
    long l (inr e) = ap (λ b. after_zero (b ∷ [])) e
octal_read (d ∷ ds) l a h =
    ap (λ t. pick t (after_x (ds ++ suffix_bytes l)) (digits 8 0 (d ∷ ds ++ suffix_bytes l))) (not_x d (and_parts (is_octal d) (are is_octal ds) a).0)
    ∙ digits_are 8 0 (d ∷ ds) l (omega arith) a h

hexadecimal_read : (x : ℕ) (ds : List ℕ) (l : Option ℕ) → ((x ≡ 120) ⊎ (x ≡ 88)) → are is_hexadecimal ds ≡ true → 1 ≤ length ds → IsSuffix l → after_zero (x ∷ ds ++ suffix_bytes l) ≡ read_as (hexadecimal x ds) l
hexadecimal_read x [] l e a le h = absurd (omega arith)
hexadecimal_read x (d ∷ ds) l e a le h =
    behind x (d ∷ ds ++ suffix_bytes l) e
    ∙ ap (λ t. pick t (digits 16 0 (d ∷ ds ++ suffix_bytes l)) None) (and_parts (is_hexadecimal d) (are is_hexadecimal ds) a).0
    ∙ digits_are 16 0 (d ∷ ds) l (omega arith) a h
  where
    behind : (x : ℕ) (ts : List ℕ) → ((x ≡ 120) ⊎ (x ≡ 88)) → after_zero (x ∷ ts) ≡ after_x ts
    behind x ts (inl e) = ap (λ b. after_zero (b ∷ ts)) e
    behind x ts (inr e) = ap (λ b. after_zero (b ∷ ts)) e

pub number_is : (n : Number) (l : Option ℕ) → IsNumber n → IsSuffix l → number (number_bytes n ++ suffix_bytes l) ≡ read_as n l
number_is (decimal []) l h s = absurd (let f : false ≡ true = h.1 in cc)
number_is (decimal (d ∷ ds)) l h s =
    ap (λ t. pick t (after_zero (ds ++ suffix_bytes l)) (digits 10 0 (d ∷ ds ++ suffix_bytes l))) (not_zero d h.1) ∙ digits_are 10 0 (d ∷ ds) l (omega arith) h.0 s
number_is (octal ds) l h s = octal_read ds l h s
number_is (hexadecimal x ds) l h s = hexadecimal_read x ds l h.0 h.1 h.2 s

-- The run is a number, and a suffix where one stands there.
pub record NumberAt (run : List ℕ) : Type 0 where
  pub n : Number
  pub l : Option ℕ
  pub is : IsNumber n
  pub suffix : IsSuffix l
  pub run_is : run ≡ number_bytes n ++ suffix_bytes l

no_suffix : (p : ℕ → Bool) (b : ℕ) (bs : List ℕ) (l : Option ℕ) → p 108 ≡ false → p 76 ≡ false → p b ≡ true → IsSuffix l → b ∷ bs ≡ suffix_bytes l → ⊥
no_suffix p b bs None e f g h eq = cc
no_suffix p b bs (Some l) e f g (inl h) eq = let is : b ≡ l = cc in let k : p 108 ≡ true = ap p (sym (is ∙ h)) ∙ g in cc
no_suffix p b bs (Some l) e f g (inr h) eq = let is : b ≡ l = cc in let k : p 76 ≡ true = ap p (sym (is ∙ h)) ∙ g in cc

first_digit : (b : ℕ) → is_digit b ≡ true → nat_eq b 48 ≡ false → is_between 49 57 b ≡ true
first_digit b d z =
    let q = between_is 48 57 b d in
    let g : b ≤ 57 = q.1 in
    is_between_of 49 57 b (above b q.0 z) g
  where
    above : (b : ℕ) → 48 ≤ b → nat_eq b 48 ≡ false → 49 ≤ b
    above b le z = omega (arith, eqb-false b 48 z)

decimal_of : (b : ℕ) (bs ds : List ℕ) (l : Option ℕ) → is_digit b ≡ true → nat_eq b 48 ≡ false → are is_digit ds ≡ true → IsSuffix l → b ∷ bs ≡ ds ++ suffix_bytes l → NumberAt (b ∷ bs)
decimal_of b bs [] l d z a h e = absurd (no_suffix is_digit b bs l refl refl d h e)
decimal_of b bs (c ∷ ds) l d z a h e =
    let is : b ≡ c = cc in
    record { n = decimal (c ∷ ds); l = l; is = (a, subst (λ x. is_between 49 57 x ≡ true) is (first_digit b d z)); suffix = h; run_is = e }

decimal_at : (b : ℕ) (bs : List ℕ) → is_digit b ≡ true → nat_eq b 48 ≡ false → (DigitsAt 10 (b ∷ bs) ⊎ (digits 10 0 (b ∷ bs) ≡ None)) → NumberAt (b ∷ bs) ⊎ (digits 10 0 (b ∷ bs) ≡ None)
decimal_at b bs d z (inl r) = inl (decimal_of b bs r.ds r.l d z r.are_digits r.suffix r.run_is)
decimal_at b bs d z (inr n) = inr n

hexadecimal_of : (x d : ℕ) (cs ds : List ℕ) (l : Option ℕ) → ((x ≡ 120) ⊎ (x ≡ 88)) → is_hexadecimal d ≡ true → are is_hexadecimal ds ≡ true → IsSuffix l → d ∷ cs ≡ ds ++ suffix_bytes l → NumberAt (48 ∷ x ∷ d ∷ cs)
hexadecimal_of x d cs [] l is e a h f = absurd (no_suffix is_hexadecimal d cs l refl refl e h f)
hexadecimal_of x d cs (c ∷ ds) l is e a h f = record { n = hexadecimal x (c ∷ ds); l = l; is = (is, a, omega arith); suffix = h; run_is = ap (λ t. 48 ∷ x ∷ t) f }

hexadecimal_by : (x d : ℕ) (cs : List ℕ) (t : Bool) → ((x ≡ 120) ⊎ (x ≡ 88)) → is_hexadecimal d ≡ t → (DigitsAt 16 (d ∷ cs) ⊎ (digits 16 0 (d ∷ cs) ≡ None)) → NumberAt (48 ∷ x ∷ d ∷ cs) ⊎ (pick t (digits 16 0 (d ∷ cs)) None ≡ None)
hexadecimal_by x d cs true is e (inl r) = inl (hexadecimal_of x d cs r.ds r.l is e r.are_digits r.suffix r.run_is)
hexadecimal_by x d cs true is e (inr n) = inr n
hexadecimal_by x d cs false is e r = inr refl

hexadecimal_at : (x : ℕ) (cs : List ℕ) → ((x ≡ 120) ⊎ (x ≡ 88)) → NumberAt (48 ∷ x ∷ cs) ⊎ (after_x cs ≡ None)
hexadecimal_at x [] is = inr refl
hexadecimal_at x (d ∷ cs) is = hexadecimal_by x d cs (is_hexadecimal d) is refl (digits_at 16 0 (d ∷ cs))

x_of : (x : ℕ) → (nat_eq x 120 || nat_eq x 88) ≡ true → (x ≡ 120) ⊎ (x ≡ 88)
x_of x e = either (or_cases (nat_eq x 120) (nat_eq x 88) e)
  where
    either : ((nat_eq x 120 ≡ true) ⊎ (nat_eq x 88 ≡ true)) → (x ≡ 120) ⊎ (x ≡ 88)
    either (inl f) = inl (eqb-true x 120 f)
    either (inr f) = inr (eqb-true x 88 f)

octal_of : (run : List ℕ) → DigitsAt 8 run → NumberAt (48 ∷ run)
octal_of run r = record { n = octal r.ds; l = r.l; is = r.are_digits; suffix = r.suffix; run_is = ap (λ t. 48 ∷ t) r.run_is }

zero_by : (x : ℕ) (cs : List ℕ) (t : Bool) → (nat_eq x 120 || nat_eq x 88) ≡ t → (DigitsAt 8 (x ∷ cs) ⊎ (digits 8 0 (x ∷ cs) ≡ None)) → NumberAt (48 ∷ x ∷ cs) ⊎ (pick t (after_x cs) (digits 8 0 (x ∷ cs)) ≡ None)
zero_by x cs true e r = hexadecimal_at x cs (x_of x e)
zero_by x cs false e (inl r) = inl (octal_of (x ∷ cs) r)
zero_by x cs false e (inr n) = inr n

zero_at : (bs : List ℕ) → NumberAt (48 ∷ bs) ⊎ (after_zero bs ≡ None)
zero_at [] = inl (record { n = octal []; l = None; is = refl; suffix = tt; run_is = refl })
zero_at (x ∷ cs) = zero_by x cs (nat_eq x 120 || nat_eq x 88) refl (digits_at 8 0 (x ∷ cs))

number_by : (b : ℕ) (bs : List ℕ) (t : Bool) → is_digit b ≡ true → nat_eq b 48 ≡ t → NumberAt (b ∷ bs) ⊎ (pick t (after_zero bs) (digits 10 0 (b ∷ bs)) ≡ None)
number_by b bs true d e = leading (zero_at bs)
  where
    leading : (NumberAt (48 ∷ bs) ⊎ (after_zero bs ≡ None)) → NumberAt (b ∷ bs) ⊎ (after_zero bs ≡ None)
    leading (inl r) = inl (subst (λ x. NumberAt (x ∷ bs)) (sym (eqb-true b 48 e)) r)
    leading (inr n) = inr n
number_by b bs false d e = decimal_at b bs d e (digits_at 10 0 (b ∷ bs))

-- a run that begins with a digit is a number, or none is read
pub number_at : (run : List ℕ) → begins is_digit run ≡ true → NumberAt run ⊎ (number run ≡ None)
number_at [] d = inr refl
number_at (b ∷ bs) d = number_by b bs (nat_eq b 48) d refl

pub number_read : (run : List ℕ) (r : NumberAt run) → number run ≡ read_as r.n r.l
number_read run r = ap number r.run_is ∙ number_is r.n r.l r.is r.suffix

pub never_number : (run : List ℕ) → number run ≡ None → (n : Number) (l : Option ℕ) → IsNumber n → IsSuffix l → run ≡ number_bytes n ++ suffix_bytes l → ⊥
never_number run e n l is h f = let g : number run ≡ read_as n l = ap number f ∙ number_is n l is h in cc
