-- The outermost constructor of the type that a word says, by the word's bits.
-- The codes are those of syms(4).
pub use Rattle.type_word.specs.declared.Outer.{Outer}
pub use Rattle.type_word.specs.declared.Outer.TheVariants.{Num, Void, Ptr, Arr, Fun, Struct, Union, Enum, Bad}
use Rattle.std.specs.Prelude.{◌≡◌, ℕ, ◌+◌, ◌*◌, ◌/◌, ◌%◌, ◌==◌, [], ◌∷◌, ◌++◌, drop, nat_lt, slice_index, if◌then◌else◌}
use Rattle.std.specs.List.{list_all}
use Rattle.c_type.specs.declared.Kind.TheVariants.{Char, UChar, Short, UShort, Int, UInt, Long, ULong}
use Rattle.c_type.specs.Types.{CType, num, void, ptr, arr, struct, union, enum, fun}
use Rattle.type_word.specs.Words.{TypeRec, word_of, HasWord}

-- the basic type of a code that has no tag
abbrev pub untagged : ℕ → Outer
untagged c =
    if c == 0 then Void
    else if c == 2 then Num Char
    else if c == 3 then Num Short
    else if c == 4 then Num Int
    else if c == 5 then Num Long
    else if c == 12 then Num UChar
    else if c == 13 then Num UShort
    else if c == 14 then Num UInt
    else if c == 15 then Num ULong
    else Bad

-- a basic type: where it has no tag, the tag's number is 0
abbrev pub tagged : (c tag : ℕ) → Outer
tagged c tag =
    if c == 8 then Struct tag
    else if c == 9 then Union tag
    else if c == 10 then Enum tag
    else if tag == 0 then untagged c
    else Bad

-- a record without derivations has no dimension
abbrev pub basic_outer : TypeRec → Outer
basic_outer r = if list_all (λ n. n == 0) r.dims then tagged r.word r.tag else Bad

-- the word without its lowest pair of bits
abbrev pub without_pair : ℕ → ℕ
without_pair w = w % 16 + 16 * (w / 64)

-- the record below the outermost derivation
abbrev pub without_derivation : TypeRec → TypeRec
without_derivation r = record r { word = without_pair r.word }

-- the record of an array's element
abbrev pub without_dimension : TypeRec → TypeRec
without_dimension r = record r { word = without_pair r.word; dims = drop 1 r.dims ++ 0 ∷ [] }

-- an array of at least one element
abbrev pub array_outer : ℕ → TypeRec → Outer
array_outer n r = if n == 0 then Bad else Arr n (without_dimension r)

-- a record with derivations, the outermost of which is d
abbrev pub derived_outer : ℕ → TypeRec → Outer
derived_outer d r =
    if d == 1 then Ptr (without_derivation r)
    else if d == 2 then Fun (without_derivation r)
    else if d == 3 then array_outer (slice_index r.dims 0) r
    else Bad

-- the outermost constructor, by the word's bits
abbrev pub outer_of : TypeRec → Outer
outer_of r = if nat_lt r.word 16 then basic_outer r else derived_outer (r.word / 16 % 4) r

-- the outermost constructor of a type, over the word of what is below it
abbrev pub outermost : CType → Outer
outermost (num k) = Num k
outermost void = Void
outermost (ptr t) = Ptr (word_of t)
outermost (arr n t) = Arr n (word_of t)
outermost (struct k) = Struct k
outermost (union k) = Union k
outermost (enum k) = Enum k
outermost (fun t) = Fun (word_of t)

-- what the word of a type says is the type's outermost constructor
abbrev pub OuterIsOutermost : Type 0
OuterIsOutermost = (t : CType) → HasWord t → outer_of (word_of t) ≡ outermost t
