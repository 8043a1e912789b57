-- What the search for a cell keeps on its way from a type to the parts that it holds by value.
-- It states docs/LANGUAGE.md, section Types.
use Rattle.std.specs.Prelude.{◌≡◌, ◌<◌, ℕ, List, [], ◌∷◌, Bool, true, false, Option, Some, None}
use Rattle.c_type.specs.Types.{CType, num, void, ptr, arr, struct, union, enum, fun, Tag, Member}
use Rattle.c_type.specs.Sizes.{size, IsWithin}
use Rattle.c_type.specs.Cells.{Cell, cells, cell_from, joined, table_from}

-- whether a type is an array
abbrev pub is_array : CType → Bool
is_array (num k) = false
is_array void = false
is_array (ptr t) = false
is_array (arr n t) = true
is_array (struct k) = false
is_array (union k) = false
is_array (enum k) = false
is_array (fun t) = false

-- The part is no array, and its cell at the second offset is the type's at the first.
pub record IsPart (ts : List Tag) (off : ℕ) (t p : CType) (r : ℕ) : Type 0 where
  pub same : cell_from off (cells ts t) ≡ cell_from r (cells ts p)
  pub small : size ts p < 4294967295
  pub within : (n : ℕ) → IsWithin n t → IsWithin n p
  pub single : is_array p ≡ false

-- the part in which a cell may begin at the offset, or that none begins there
abbrev pub IsElement : List Tag → ℕ → CType → Option (CType × ℕ) → Type 0
IsElement ts off t None = cell_from off (cells ts t) ≡ None
IsElement ts off t (Some x) = IsPart ts off t x.0 x.1

-- each member's size is below the greatest number
abbrev pub AreSmall : List Tag → List Member → Type 0
AreSmall ts [] = Unit {0}
AreSmall ts (m ∷ ms) = (size ts m.ty < 4294967295) × AreSmall ts ms

-- the cells of members, each moved by its offset
abbrev pub members_cells : List Tag → List Member → List Cell
members_cells ts ms = joined ts (table_from ts ts []) ms
