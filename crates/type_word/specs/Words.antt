-- Type words: what a symbol of a COFF file says of its type.
-- The codes are those of syms(4).
pub use Rattle.type_word.specs.declared.TypeRec.{TypeRec}
use Rattle.std.specs.Prelude.{◌≡◌, ◌≢◌, ◌≤◌, ◌<◌, ℕ, ◌+◌, ◌*◌, List, [], ◌∷◌, ◌++◌, length, slice_index, take, All, Option, Some, None}
use Rattle.c_type.specs.Types.{CType, num, void, ptr, arr, struct, union, enum, fun, kind_code}

-- the code of the basic type: T_NULL, T_CHAR to T_ULONG, T_STRUCT, T_UNION, T_ENUM
abbrev pub basic_code : CType → ℕ
basic_code (num k) = kind_code k
basic_code void = 0
basic_code (ptr t) = basic_code t
basic_code (arr n t) = basic_code t
basic_code (struct k) = 8
basic_code (union k) = 9
basic_code (enum k) = 10
basic_code (fun t) = basic_code t

-- the derivations, the outermost first: DT_PTR, DT_FCN, DT_ARY
abbrev pub derivations : CType → List ℕ
derivations (num k) = []
derivations void = []
derivations (ptr t) = 1 ∷ derivations t
derivations (arr n t) = 3 ∷ derivations t
derivations (struct k) = []
derivations (union k) = []
derivations (enum k) = []
derivations (fun t) = 2 ∷ derivations t

-- the dimensions, the outermost first
abbrev pub dimensions_of : CType → List ℕ
dimensions_of (num k) = []
dimensions_of void = []
dimensions_of (ptr t) = dimensions_of t
dimensions_of (arr n t) = n ∷ dimensions_of t
dimensions_of (struct k) = []
dimensions_of (union k) = []
dimensions_of (enum k) = []
dimensions_of (fun t) = dimensions_of t

-- the number of the basic type's tag, 0 where it has none
abbrev pub tag_number : CType → ℕ
tag_number (num k) = 0
tag_number void = 0
tag_number (ptr t) = tag_number t
tag_number (arr n t) = tag_number t
tag_number (struct k) = k
tag_number (union k) = k
tag_number (enum k) = k
tag_number (fun t) = tag_number t

-- pairs of bits, the first lowest
abbrev pub packed : List ℕ → ℕ
packed [] = 0
packed (d ∷ ds) = d + 4 * packed ds

-- four numbers, 0 behind those that are given
abbrev pub four : List ℕ → List ℕ
four ns = take 4 (ns ++ 0 ∷ (0 ∷ (0 ∷ (0 ∷ []))))

-- the word of a type: the basic type in the low four bits and the derivations above
abbrev pub word_of : CType → TypeRec
word_of t = record { word = basic_code t + 16 * packed (derivations t); tag = tag_number t; dims = four (dimensions_of t) }

-- a dimension has 16 bits, and an array has an element
abbrev pub IsDimension : ℕ → Type 0
IsDimension n = (1 ≤ n) × (n ≤ 65535)

-- A word has room for six derivations, and an auxiliary entry for four dimensions.
pub record HasWord (t : CType) : Type 0 where
  pub derived : length (derivations t) ≤ 6
  pub arrays : length (dimensions_of t) ≤ 4
  pub counted : All IsDimension (dimensions_of t)

-- each field of a record has its width
pub record IsRecord (r : TypeRec) : Type 0 where
  pub half : r.word < 65536
  pub four : length r.dims ≡ 4
  pub first : slice_index r.dims 0 < 65536

-- the type is the one whose word this is, or there is none
abbrev pub IsTypeOf : TypeRec → Option CType → Type 0
IsTypeOf r (Some t) = HasWord t × (word_of t ≡ r)
IsTypeOf r None = (t : CType) → HasWord t → word_of t ≢ r

-- a word is of at most one type
abbrev pub TypesAreOne : Type 0
TypesAreOne = (s t : CType) → HasWord s → HasWord t → word_of s ≡ word_of t → s ≡ t
