-- How a type word is made: the record of a basic type, and one derivation more.
-- The codes are those of syms(4).
use Rattle.std.specs.Prelude.{ℕ, ◌+◌, ◌*◌, ◌/◌, ◌%◌, [], ◌∷◌, take}
use Rattle.type_word.specs.Words.{TypeRec}

-- the record of a basic type
abbrev pub basic : (code tag : ℕ) → TypeRec
basic code tag = record { word = code; tag = tag; dims = 0 ∷ (0 ∷ (0 ∷ (0 ∷ []))) }

-- one derivation more, in the lowest pair of bits
abbrev pub with_derivation : ℕ → TypeRec → TypeRec
with_derivation d r = record r { word = r.word % 16 + 16 * d + 64 * (r.word / 16) }

-- the record of an array of n
abbrev pub array_of : ℕ → TypeRec → TypeRec
array_of n r = record (with_derivation 3 r) { dims = n ∷ take 3 r.dims }
