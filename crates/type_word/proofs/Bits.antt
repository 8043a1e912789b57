-- The bits of a word: its lowest pair, and what stands below and above it.
use Rattle.std.proofs.Common.{pow-suc, ◌≡◌, ◌<◌, ◌≤◌, ℕ, ◌+◌, ◌*◌, ◌/◌, ◌%◌, ◌^◌, zero, suc, List, [], ◌∷◌, ◌++◌, length, refl, arith, lit<, take}
use Rattle.c_type.specs.Types.{CType, num, void, ptr, arr, struct, union, enum, fun, kind_code}
use Rattle.c_type.specs.declared.Kind.{Kind}
use Rattle.c_type.specs.declared.Kind.TheVariants.{Char, UChar, Short, UShort, Int, UInt, Long, ULong}
use Rattle.type_word.specs.Words.{basic_code, four, packed, derivations, word_of}
use Rattle.type_word.specs.Outer.{without_pair}

-- the code of an integer type has four bits
pub kind_code-small : (k : Kind) → kind_code k < 16
kind_code-small Char = lit< tt
kind_code-small UChar = lit< tt
kind_code-small Short = lit< tt
kind_code-small UShort = lit< tt
kind_code-small Int = lit< tt
kind_code-small UInt = lit< tt
kind_code-small Long = lit< tt
kind_code-small ULong = lit< tt

-- the code of a basic type has four bits
pub basic_code-small : (t : CType) → basic_code t < 16
basic_code-small (num k) = kind_code-small k
basic_code-small void = lit< tt
basic_code-small (ptr t) = basic_code-small t
basic_code-small (arr n t) = basic_code-small t
basic_code-small (struct k) = lit< tt
basic_code-small (union k) = lit< tt
basic_code-small (enum k) = lit< tt
basic_code-small (fun t) = basic_code-small t

-- the lowest pair of bits is the outermost derivation
pub lowest_pair : (b d p : ℕ) → b < 16 → d < 4 → (b + 16 * (d + 4 * p)) / 16 % 4 ≡ d
lowest_pair b d p hb hd = omega arith

-- without it the word is that of what is below
pub without-pair : (b d p : ℕ) → b < 16 → d < 4 → without_pair (b + 16 * (d + 4 * p)) ≡ b + 16 * p
without-pair b d p hb hd = omega arith

-- three dimensions and no fourth are four
pub four-shifted : (ns : List ℕ) → length ns ≤ 3 → take 3 (ns ++ 0 ∷ (0 ∷ (0 ∷ (0 ∷ [])))) ++ 0 ∷ [] ≡ four ns
four-shifted [] h = refl
four-shifted (a ∷ []) h = refl
four-shifted (a ∷ (b ∷ [])) h = refl
four-shifted (a ∷ (b ∷ (c ∷ []))) h = refl
four-shifted (a ∷ (b ∷ (c ∷ (d ∷ ns)))) h = absurd (omega arith)

-- a power is at least 1
one_or_more : (n : ℕ) → 0 < 4 ^ n
one_or_more zero = lit< tt
one_or_more (suc n) = let h : 0 < 4 ^ n = one_or_more n in rw pow-suc (omega arith)

-- two bits more
pair_more : (d p n : ℕ) → d < 4 → p < 4 ^ n → d + 4 * p < 4 ^ suc n
pair_more d p n hd hp = rw pow-suc (omega arith)

-- two bits less
pair_less : (d p n : ℕ) → d + 4 * p < 4 ^ suc n → p < 4 ^ n
pair_less d p n h = let k : d + 4 * p < 4 ^ n * 4 = rw pow-suc at h in omega arith

-- each derivation has two bits
pub packed-small : (t : CType) (n : ℕ) → length (derivations t) ≤ n → packed (derivations t) < 4 ^ n
packed-small (num k) n h = one_or_more n
packed-small void n h = one_or_more n
packed-small (ptr t) zero h = absurd (omega arith)
packed-small (ptr t) (suc n) h = pair_more 1 (packed (derivations t)) n (lit< tt) (packed-small t n (omega arith))
packed-small (arr m t) zero h = absurd (omega arith)
packed-small (arr m t) (suc n) h = pair_more 3 (packed (derivations t)) n (lit< tt) (packed-small t n (omega arith))
packed-small (struct k) n h = one_or_more n
packed-small (union k) n h = one_or_more n
packed-small (enum k) n h = one_or_more n
packed-small (fun t) zero h = absurd (omega arith)
packed-small (fun t) (suc n) h = pair_more 2 (packed (derivations t)) n (lit< tt) (packed-small t n (omega arith))

-- fewer bits are fewer derivations
pub packed-short : (t : CType) (n : ℕ) → packed (derivations t) < 4 ^ n → length (derivations t) ≤ n
packed-short (num k) n h = omega arith
packed-short void n h = omega arith
packed-short (ptr t) zero h = absurd (omega arith)
packed-short (ptr t) (suc n) h = let k : length (derivations t) ≤ n = packed-short t n (pair_less 1 (packed (derivations t)) n h) in omega arith
packed-short (arr m t) zero h = absurd (omega arith)
packed-short (arr m t) (suc n) h = let k : length (derivations t) ≤ n = packed-short t n (pair_less 3 (packed (derivations t)) n h) in omega arith
packed-short (struct k) n h = omega arith
packed-short (union k) n h = omega arith
packed-short (enum k) n h = omega arith
packed-short (fun t) zero h = absurd (omega arith)
packed-short (fun t) (suc n) h = let k : length (derivations t) ≤ n = packed-short t n (pair_less 2 (packed (derivations t)) n h) in omega arith

-- five derivations leave room for one more
pub room : (t : CType) → length (derivations t) ≤ 5 → (word_of t).word < 16384
room t h = let small : packed (derivations t) < 1024 = packed-small t 5 h in let low : basic_code t < 16 = basic_code-small t in omega arith

-- the word of a derived type
pub word-derived : (b d p : ℕ) → b < 16 → d < 4 → b + 16 * (d + 4 * p) ≡ (b + 16 * p) % 16 + 16 * d + 64 * ((b + 16 * p) / 16)
word-derived b d p hb hd = omega arith

-- the first three of four
pub three-of-four : (ns : List ℕ) → take 3 (ns ++ 0 ∷ (0 ∷ (0 ∷ (0 ∷ [])))) ≡ take 3 (four ns)
three-of-four [] = refl
three-of-four (a ∷ []) = refl
three-of-four (a ∷ (b ∷ [])) = refl
three-of-four (a ∷ (b ∷ (c ∷ []))) = refl
three-of-four (a ∷ (b ∷ (c ∷ (d ∷ ns)))) = refl
