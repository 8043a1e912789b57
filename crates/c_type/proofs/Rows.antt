-- What sizes and cells compute to: the values come from the rules of alignment, worked by hand.
use Rattle.std.specs.Prelude.{◌≡◌, ℕ, List, [], ◌∷◌, refl}
use Rattle.c_type.specs.Kinds.{Char, Short, Int, Long}
use Rattle.c_type.specs.Types.{CType, num, ptr, arr, struct, union, enum, Member, Tag, Struct, Union, Enum}
use Rattle.c_type.specs.Sizes.{up_to, size, align, lay}
use Rattle.c_type.specs.Cells.{Cell, cells}

abbrev part : ℕ → CType → Member
part x t = record { name = x ∷ []; off = 0; ty = t }

-- struct { char c; short s; int a[2]; char d; }, and struct { char e; struct of the first f; enum g; }, and union { char b[5]; int i; }
abbrev bare : List Tag
bare =
    record { name = []; kind = Struct; members = part 99 (num Char) ∷ part 115 (num Short) ∷ part 97 (arr 2 (num Int)) ∷ part 100 (num Char) ∷ []; size = 0; align = 1 }
    ∷ record { name = []; kind = Struct; members = part 101 (num Char) ∷ part 102 (struct 0) ∷ part 103 (enum 3) ∷ []; size = 0; align = 1 }
    ∷ record { name = []; kind = Union; members = part 98 (arr 5 (num Char)) ∷ part 105 (num Int) ∷ []; size = 0; align = 1 }
    ∷ record { name = []; kind = Enum; members = []; size = 0; align = 1 } ∷ []

first_size : size (lay [] bare) (struct 0) ≡ 16
unfolding up_to
first_size = refl

second_size : size (lay [] bare) (struct 1) ≡ 24
unfolding up_to
second_size = refl

second_alignment : align (lay [] bare) (arr 7 (struct 1)) ≡ 4
unfolding up_to
second_alignment = refl

union_size : size (lay [] bare) (union 2) ≡ 8
unfolding up_to
union_size = refl

large : size [] (arr 65536 (arr 65536 (num Long))) ≡ 4294967295
large = refl

abbrev cell : ℕ → CType → Cell
cell o t = record { off = o; ty = t }

second_cells : cells (lay [] bare) (struct 1) ≡ cell 0 (num Char) ∷ cell 4 (num Char) ∷ cell 6 (num Short) ∷ cell 8 (num Int) ∷ cell 12 (num Int) ∷ cell 16 (num Char) ∷ cell 20 (enum 3) ∷ []
unfolding up_to
second_cells = refl

array_cells : cells (lay [] bare) (arr 2 (arr 2 (ptr (struct 1)))) ≡ cell 0 (ptr (struct 1)) ∷ cell 4 (ptr (struct 1)) ∷ cell 8 (ptr (struct 1)) ∷ cell 12 (ptr (struct 1)) ∷ []
array_cells = refl
