-- Cells: the scalars of a type with their offsets.
-- It states docs/LANGUAGE.md, section Types.
use Rattle.std.specs.Prelude.{ℕ, zero, suc, ◌+◌, List, [], ◌∷◌, ◌++◌, Option, Some, None, nat_eq}
use Rattle.c_type.specs.Names.{at_or, pick}
use Rattle.c_type.specs.Types.{CType, num, void, ptr, arr, struct, union, enum, fun, Member, Tag, TagKind, Struct, Union, Enum}
use Rattle.c_type.specs.Sizes.{size}

-- a scalar with the offset at which it begins
pub record Cell : Type 0 where
  pub off : ℕ
  pub ty : CType

-- each cell d bytes further on
abbrev pub moved : ℕ → List Cell → List Cell
moved d [] = []
moved d (c ∷ cs) = record { off = d + c.off; ty = c.ty } ∷ moved d cs

-- n times, one after the other, the first at o
abbrev pub repeated : (n o step : ℕ) → List Cell → List Cell
repeated zero o step cs = []
repeated (suc n) o step cs = moved o cs ++ repeated n (o + step) step cs

-- the cell of a scalar
abbrev pub one : CType → List Cell
one t = record { off = 0; ty = t } ∷ []

-- the cells of a type, where those of each tag are given
abbrev pub cells_by : List Tag → List (List Cell) → CType → List Cell
cells_by ts table (num k) = one (num k)
cells_by ts table void = []
cells_by ts table (ptr t) = one (ptr t)
cells_by ts table (arr n t) = repeated n 0 (size ts t) (cells_by ts table t)
cells_by ts table (struct k) = at_or [] table k
cells_by ts table (union k) = at_or [] table k
cells_by ts table (enum k) = one (enum k)
cells_by ts table (fun t) = []

-- the cells of the members, each moved by the member's offset
abbrev pub joined : List Tag → List (List Cell) → List Member → List Cell
joined ts table [] = []
joined ts table (m ∷ ms) = moved m.off (cells_by ts table m.ty) ++ joined ts table ms

-- the cells of a tag: an enumeration's members are no parts of it
abbrev pub tag_cells : List Tag → List (List Cell) → TagKind → List Member → List Cell
tag_cells ts table Struct ms = joined ts table ms
tag_cells ts table Union ms = joined ts table ms
tag_cells ts table Enum ms = []

-- the cells of each tag in turn, since its members hold by value only tags before it
abbrev pub table_from : List Tag → List Tag → List (List Cell) → List (List Cell)
table_from ts [] table = table
table_from ts (t ∷ rest) table = table_from ts rest (table ++ tag_cells ts table t.kind t.members ∷ [])

-- The cells of a type in order of offset, where it holds no union. The bytes between cells belong to none.
abbrev pub cells : List Tag → CType → List Cell
cells ts t = cells_by ts (table_from ts ts []) t

-- the type of the first cell that begins at the offset
abbrev pub cell_from : ℕ → List Cell → Option CType
cell_from off [] = None
cell_from off (c ∷ cs) = pick (nat_eq c.off off) (Some c.ty) (cell_from off cs)
