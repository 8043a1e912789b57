-- Reading numbers and displacements.
use Rattle.std.proofs.Common.{◌≡◌, ℕ, suc, ◌+◌, ◌*◌, ◌/◌, ◌%◌, ◌^◌, ◌<◌, List, [], ◌∷◌, ◌++◌, cond, Option, Some, None, length, drop, refl, sym, ap, subst, ◌∙◌, arith, length-append}
use Rattle.std.specs.Prelude.{nat_lt, slice_index, ℤ, pos, negsuc}
use Rattle.std.specs.Int.{w8, w32, cast_unsigned, cast_signed}
use Rattle.std.specs.Int.RustNames.{FitsSigned}
use Rattle.std.proofs.lemmas.Int.{of_z-to_z, to_z-of_z}
use Rattle.std.proofs.Math.Facts.{sfits_to_z}
use Rattle.std.proofs.lemmas.Bool.{le-ltb, cond-false}
use Rattle.byteorder.specs.Endian.{little_number}
use Rattle.isa386.specs.Encoding.{number, displacement}
use Rattle.isa386.specs.Row.{IsDisplacement}
use Rattle.isa386.specs.declared.Dw.{Dw}
use Rattle.isa386.specs.declared.Dw.TheVariants.{D0, D8, D32}
use Rattle.isa_dec.specs.OperandAt.{number_at, signed_number, displacement_at}

-- a list of bytes
abbrev pub AllBytes : List ℕ → Type 0
AllBytes [] = Unit {0}
AllBytes (b ∷ bs) = (b < 256) × AllBytes bs

pub all_bytes : (bs : List ℕ) → ((k : ℕ) → slice_index bs k < 256) → AllBytes bs
all_bytes [] h = tt
all_bytes (b ∷ bs) h = (h 0, all_bytes bs (λ k. h (suc k)))

pub bytes_behind : (front bs : List ℕ) → AllBytes (front ++ bs) → AllBytes bs
bytes_behind [] bs h = h
bytes_behind (x ∷ front) bs h = bytes_behind front bs h.1

pub append_nil : (xs : List ℕ) → xs ++ [] ≡ xs
append_nil [] = refl
append_nil (x ∷ xs) = ap (λ l. x ∷ l) (append_nil xs)

-- behind four bytes there is a number
four_bytes : (a b c d : ℕ) (rest : List ℕ) → number_at 0 (a ∷ b ∷ c ∷ d ∷ rest) ≡ Some (little_number 4 (a ∷ b ∷ c ∷ d ∷ rest))
four_bytes a b c d rest =
    cond-false (nat_lt (length (a ∷ b ∷ c ∷ d ∷ rest)) (0 + 4)) None (Some (little_number 4 (a ∷ b ∷ c ∷ d ∷ rest))) (le-ltb (length (a ∷ b ∷ c ∷ d ∷ rest)) (0 + 4) (omega arith))

pub number_forth : (n : ℕ) (rest : List ℕ) → n < 2 ^ 32 → number_at 0 (number n ++ rest) ≡ Some n
number_forth n rest h =
    let e : n % 256 + 256 * (n / 256 % 256 + 256 * (n / 65536 % 256 + 256 * (n / 16777216 % 256 + 256 * 0))) ≡ n = omega arith in
    four_bytes (n % 256) (n / 256 % 256) (n / 65536 % 256) (n / 16777216 % 256) rest ∙ ap Some e

-- the number that four bytes spell
abbrev spelled : ℕ → ℕ → ℕ → ℕ → ℕ
spelled a b c d = a + 256 * (b + 256 * (c + 256 * (d + 256 * 0)))

spelled_small : (a b c d : ℕ) → a < 256 → b < 256 → c < 256 → d < 256 → spelled a b c d < 2 ^ 32
spelled_small a b c d ha hb hc hd = omega arith

spelled_bytes : (a b c d : ℕ) → a < 256 → b < 256 → c < 256 → d < 256 → number (spelled a b c d) ≡ a ∷ b ∷ c ∷ d ∷ []
spelled_bytes a b c d ha hb hc hd =
    let n = spelled a b c d in
    let e0 : n % 256 ≡ a = omega arith in
    let e1 : n / 256 % 256 ≡ b = omega arith in
    let e2 : n / 65536 % 256 ≡ c = omega arith in
    let e3 : n / 16777216 % 256 ≡ d = omega arith in
    cc

-- what was read of a number
abbrev pub NumberReads : List ℕ → Option ℕ → Type 0
NumberReads bs (Some n) = (n < 2 ^ 32) × ((rest : List ℕ) × (bs ≡ number n ++ rest))
NumberReads bs None = (n : ℕ) × (c : ℕ) × (cs : List ℕ) × (n < 2 ^ 32) × (number n ≡ bs ++ c ∷ cs)

pub number_back : (bs : List ℕ) → AllBytes bs → NumberReads bs (number_at 0 bs)
number_back [] all = (0, 0, 0 ∷ 0 ∷ 0 ∷ [], omega arith, refl)
number_back (a ∷ []) all = (spelled a 0 0 0, 0, 0 ∷ 0 ∷ [], spelled_small a 0 0 0 all.0 (omega arith) (omega arith) (omega arith), spelled_bytes a 0 0 0 all.0 (omega arith) (omega arith) (omega arith))
number_back (a ∷ b ∷ []) all = (spelled a b 0 0, 0, 0 ∷ [], spelled_small a b 0 0 all.0 all.1.0 (omega arith) (omega arith), spelled_bytes a b 0 0 all.0 all.1.0 (omega arith) (omega arith))
number_back (a ∷ b ∷ c ∷ []) all = (spelled a b c 0, 0, [], spelled_small a b c 0 all.0 all.1.0 all.1.1.0 (omega arith), spelled_bytes a b c 0 all.0 all.1.0 all.1.1.0 (omega arith))
number_back (a ∷ b ∷ c ∷ d ∷ bs) all =
    let back = spelled_bytes a b c d all.0 all.1.0 all.1.1.0 all.1.1.1.0 in
    subst (NumberReads (a ∷ b ∷ c ∷ d ∷ bs)) (sym (four_bytes a b c d bs))
    (spelled_small a b c d all.0 all.1.0 all.1.1.0 all.1.1.1.0, (bs, ap (λ l. l ++ bs) (sym back)))

-- behind some bytes
pub number_past : (front bs : List ℕ) → number_at (length front) (front ++ bs) ≡ number_at 0 bs
number_past front bs = let e = length-append front bs in let d = drop_front front bs in
    ap (λ l. cond (nat_lt l (length front + 4)) None (Some (little_number 4 (drop (length front) (front ++ bs))))) e
    ∙ ap (λ l. cond (nat_lt (length front + length bs) (length front + 4)) None (Some (little_number 4 l))) d
    ∙ ap (λ t. cond t None (Some (little_number 4 bs))) (shifted (length front) (length bs))
  where
    drop_front : (front bs : List ℕ) → drop (length front) (front ++ bs) ≡ bs
    drop_front [] bs = refl
    drop_front (x ∷ front) bs = drop_front front bs

    shifted : (k n : ℕ) → nat_lt (k + n) (k + 4) ≡ nat_lt n 4
    shifted k n = grind (arith, Rattle.std.proofs.lemmas.Bool.Decides.nat_tests)

pub signed_small : (d : ℤ) → FitsSigned w32 d → cast_unsigned w32 d < 2 ^ 32
signed_small (pos n) fits = let h : n < 2 ^ 31 = fits.sfits in omega arith
signed_small (negsuc n) fits = omega arith

pub displacement_forth : (w : Dw) (d : ℤ) (rest : List ℕ) → IsDisplacement w d → displacement_at w (displacement w d ++ rest) ≡ Some d
displacement_forth D0 d rest h = ap Some (sym h)
displacement_forth D8 d rest h = ap Some (to_z-of_z w8 d h)
displacement_forth D32 d rest h = ap signed_number (number_forth (cast_unsigned w32 d) rest (signed_small d h)) ∙ ap Some (to_z-of_z w32 d h)

abbrev pub DisplacementReads : Dw → List ℕ → Option ℤ → Type 0
DisplacementReads w bs (Some d) = IsDisplacement w d × ((rest : List ℕ) × (bs ≡ displacement w d ++ rest))
DisplacementReads w bs None = (d : ℤ) × (c : ℕ) × (cs : List ℕ) × IsDisplacement w d × (displacement w d ≡ bs ++ c ∷ cs)

pub byte_fits : (b : ℕ) → b < 256 → FitsSigned w8 (cast_signed w8 b)
byte_fits b h = sfits_to_z (record { fits = h })

pub word_fits : (n : ℕ) → n < 2 ^ 32 → FitsSigned w32 (cast_signed w32 n)
word_fits n h = sfits_to_z (record { fits = h })

pub byte_again : (b : ℕ) → b < 256 → cast_unsigned w8 (cast_signed w8 b) ≡ b
byte_again b h = of_z-to_z w8 b h

pub number_again : (n : ℕ) → n < 2 ^ 32 → number (cast_unsigned w32 (cast_signed w32 n)) ≡ number n
number_again n h = ap number (of_z-to_z w32 n h)

signed_back : (bs : List ℕ) (o : Option ℕ) → NumberReads bs o → DisplacementReads D32 bs (signed_number o)
signed_back bs None h = (cast_signed w32 h.0, h.1, h.2, word_fits h.0 h.3, number_again h.0 h.3 ∙ h.4)
signed_back bs (Some n) h = (word_fits n h.0, (h.1.0, h.1.1 ∙ ap (λ l. l ++ h.1.0) (sym (number_again n h.0))))

pub displacement_back : (w : Dw) (bs : List ℕ) → AllBytes bs → DisplacementReads w bs (displacement_at w bs)
displacement_back D0 bs all = (refl, (bs, refl))
displacement_back D8 [] all = (pos 0, 0, [], byte_fits 0 (omega arith), refl)
displacement_back D8 (b ∷ bs) all = (byte_fits b all.0, (bs, ap (λ x. x ∷ bs) (sym (byte_again b all.0))))
displacement_back D32 bs all = signed_back bs (number_at 0 bs) (number_back bs all)
