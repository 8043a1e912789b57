-- No cell of a type is a function.
use Rattle.std.proofs.Common.{◌≡◌, ℕ, zero, suc, ◌+◌, List, [], ◌∷◌, ◌++◌, false, refl}
use Rattle.c_type.specs.declared.TagKind.{TagKind}
use Rattle.c_type.specs.declared.TagKind.TheVariants.{Struct, Union, Enum}
use Rattle.c_type.specs.Names.{at_or}
use Rattle.c_type.specs.Types.{CType, num, void, ptr, arr, struct, union, enum, fun, Member, Tag}
use Rattle.c_type.specs.Sizes.{size}
use Rattle.c_type.specs.Cells.{Cell, moved, repeated, cells_by, joined, tag_cells, table_from, cells}
use Rattle.c_rule.specs.RuleTypes.{is_function}

abbrev pub AreValues : List Cell → Type 0
AreValues [] = Unit {0}
AreValues (c ∷ cs) = (is_function c.ty ≡ false) × AreValues cs

abbrev HoldValues : List (List Cell) → Type 0
HoldValues [] = Unit {0}
HoldValues (cs ∷ rest) = AreValues cs × HoldValues rest

values_join : (xs ys : List Cell) → AreValues xs → AreValues ys → AreValues (xs ++ ys)
values_join [] ys h k = k
values_join (x ∷ xs) ys h k = (h.0, values_join xs ys h.1 k)

values_moved : (d : ℕ) (xs : List Cell) → AreValues xs → AreValues (moved d xs)
values_moved d [] h = tt
values_moved d (x ∷ xs) h = (h.0, values_moved d xs h.1)

values_repeated : (n o step : ℕ) (xs : List Cell) → AreValues xs → AreValues (repeated n o step xs)
values_repeated zero o step xs h = tt
values_repeated (suc n) o step xs h = values_join (moved o xs) (repeated n (o + step) step xs) (values_moved o xs h) (values_repeated n (o + step) step xs h)

values_at : (table : List (List Cell)) (k : ℕ) → HoldValues table → AreValues (at_or [] table k)
values_at [] k h = tt
values_at (cs ∷ rest) zero h = h.0
values_at (cs ∷ rest) (suc k) h = values_at rest k h.1

values_by : (ts : List Tag) (table : List (List Cell)) (t : CType) → HoldValues table → AreValues (cells_by ts table t)
values_by ts table (num k) h = (refl, tt)
values_by ts table void h = tt
values_by ts table (ptr t) h = (refl, tt)
values_by ts table (arr n t) h = values_repeated n 0 (size ts t) (cells_by ts table t) (values_by ts table t h)
values_by ts table (struct k) h = values_at table k h
values_by ts table (union k) h = values_at table k h
values_by ts table (enum k) h = (refl, tt)
values_by ts table (fun t) h = tt

values_joined : (ts : List Tag) (table : List (List Cell)) (ms : List Member) → HoldValues table → AreValues (joined ts table ms)
values_joined ts table [] h = tt
values_joined ts table (m ∷ ms) h =
    values_join (moved m.off (cells_by ts table m.ty)) (joined ts table ms)
    (values_moved m.off (cells_by ts table m.ty) (values_by ts table m.ty h)) (values_joined ts table ms h)

values_of_tag : (ts : List Tag) (table : List (List Cell)) (kind : TagKind) (ms : List Member) → HoldValues table → AreValues (tag_cells ts table kind ms)
values_of_tag ts table Struct ms h = values_joined ts table ms h
values_of_tag ts table Union ms h = values_joined ts table ms h
values_of_tag ts table Enum ms h = tt

values_longer : (table : List (List Cell)) (cs : List Cell) → HoldValues table → AreValues cs → HoldValues (table ++ cs ∷ [])
values_longer [] cs h k = (k, tt)
values_longer (x ∷ table) cs h k = (h.0, values_longer table cs h.1 k)

values_from : (ts rest : List Tag) (table : List (List Cell)) → HoldValues table → HoldValues (table_from ts rest table)
values_from ts [] table h = h
values_from ts (t ∷ rest) table h =
    values_from ts rest (table ++ tag_cells ts table t.kind t.members ∷ [])
    (values_longer table (tag_cells ts table t.kind t.members) h (values_of_tag ts table t.kind t.members h))

pub cells_are_values : (ts : List Tag) (t : CType) → AreValues (cells ts t)
cells_are_values ts t = values_by ts (table_from ts ts []) t (values_from ts ts [] tt)
