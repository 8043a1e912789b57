-- The word of a derived type is that of what is below it with a derivation more.
use Rattle.std.proofs.Common.{◌≡◌, ◌<◌, ℕ, ◌+◌, ◌*◌, ◌∷◌, ap, ◌∙◌, lit<}
use Rattle.c_type.specs.Types.{CType, ptr, arr, fun}
use Rattle.type_word.specs.Words.{word_of, basic_code, packed, derivations, dimensions_of, tag_number, four}
use Rattle.type_word.specs.Parts.{with_derivation, array_of}
use Rattle.type_word.proofs.Bits.{basic_code-small, word-derived, three-of-four}

-- the word alone
derived_word : (d : ℕ) (t : CType) → d < 4 → basic_code t + 16 * (d + 4 * packed (derivations t)) ≡ (with_derivation d (word_of t)).word
derived_word d t h = word-derived (basic_code t) d (packed (derivations t)) (basic_code-small t) h

pub word_of-ptr : (t : CType) → word_of (ptr t) ≡ with_derivation 1 (word_of t)
word_of-ptr t = ap (λ w. record { word = w; tag = tag_number t; dims = four (dimensions_of t) }) (derived_word 1 t (lit< tt))

pub word_of-fun : (t : CType) → word_of (fun t) ≡ with_derivation 2 (word_of t)
word_of-fun t = ap (λ w. record { word = w; tag = tag_number t; dims = four (dimensions_of t) }) (derived_word 2 t (lit< tt))

pub word_of-arr : (n : ℕ) (t : CType) → word_of (arr n t) ≡ array_of n (word_of t)
word_of-arr n t =
    ap (λ w. record { word = w; tag = tag_number t; dims = four (n ∷ dimensions_of t) }) (derived_word 3 t (lit< tt))
    ∙ ap (λ ds. record { word = (with_derivation 3 (word_of t)).word; tag = tag_number t; dims = n ∷ ds }) (three-of-four (dimensions_of t))
