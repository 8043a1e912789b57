-- The cells of a type begin below its size.
use Rattle.std.proofs.Common.{◌≡◌, ℕ, zero, suc, ◌+◌, ◌*◌, ◌<◌, ◌≤◌, ◌⊎◌, inl, inr, List, [], ◌∷◌, length, sym, subst, arith}
use Rattle.std.proofs.lemmas.Bool.{cases_lt}
use Rattle.c_type.specs.Names.{at_or}
use Rattle.c_type.specs.Types.{CType, num, void, ptr, arr, struct, union, enum, fun, Member, Tag, TagKind, Struct, Union, Enum}
use Rattle.c_type.specs.Sizes.{capped, no_tag, size, IsWithin, AreWithin, HoldsEarlier, AreLaid}
use Rattle.c_type.specs.Cells.{Cell, moved, repeated, cells_by, joined, tag_cells, table_from, cells}
use Rattle.c_type.proofs.Lists.{AllBelow, below_join, below_moved, below_repeated}
use Rattle.c_type.proofs.Laid.{kind_positive, AllIn, PartsIn, parts_in}
use Rattle.c_type.proofs.Table.{table_at}

-- the cells of each tag below n, where its size counts, begin below its size
abbrev Bounded : List Tag → List (List Cell) → ℕ → Type 0
Bounded ts table n = (k : ℕ) → k < n → (at_or no_tag ts k).size < 4294967295 → AllBelow (at_or no_tag ts k).size (at_or [] table k)

below_array : (m s : ℕ) (cs : List Cell) → capped (m * s) < 4294967295 → (s < 4294967295 → AllBelow s cs) → AllBelow (capped (m * s)) (repeated m 0 s cs)
below_array zero s cs lt f = tt
below_array (suc m) s cs lt f =
    let e : suc m * s ≡ s + m * s = omega arith in
    let less : s < 4294967295 = omega arith in
    below_repeated (suc m) 0 s (capped (suc m * s)) cs (omega arith) (f less)

below_type : (ts : List Tag) (table : List (List Cell)) (n : ℕ) → Bounded ts table n → (t : CType) → IsWithin n t → size ts t < 4294967295 → AllBelow (size ts t) (cells_by ts table t)
below_type ts table n b (num k) w lt = (kind_positive k, tt)
below_type ts table n b void w lt = tt
below_type ts table n b (ptr t) w lt = (omega arith, tt)
below_type ts table n b (arr m t) w lt = below_array m (size ts t) (cells_by ts table t) lt (λ less. below_type ts table n b t w less)
below_type ts table n b (struct k) w lt = b k w lt
below_type ts table n b (union k) w lt = b k w lt
below_type ts table n b (enum k) w lt = (omega arith, tt)
below_type ts table n b (fun t) w lt = tt

below_members : (ts : List Tag) (table : List (List Cell)) (n most : ℕ) → Bounded ts table n → most < 4294967295 → (ms : List Member) → AreWithin n ms → AllIn ts most ms → AllBelow most (joined ts table ms)
below_members ts table n most b lt [] w a = tt
below_members ts table n most b lt (m ∷ ms) w a =
    let h : m.off + size ts m.ty ≤ most = a.0 in
    let less : size ts m.ty < 4294967295 = omega arith in
    below_join most (moved m.off (cells_by ts table m.ty)) (joined ts table ms)
    (below_moved m.off (size ts m.ty) most (cells_by ts table m.ty) h (below_type ts table n b m.ty w.0 less))
    (below_members ts table n most b lt ms w.1 a.1)

below_tag : (ts : List Tag) (table : List (List Cell)) (n : ℕ) → Bounded ts table n → (κ : TagKind) (t : Tag) → HoldsEarlier κ n t.members → PartsIn ts κ t → t.size < 4294967295 → AllBelow t.size (tag_cells ts table κ t.members)
below_tag ts table n b Struct t w a lt = below_members ts table n t.size b lt t.members w a
below_tag ts table n b Union t w a lt = below_members ts table n t.size b lt t.members w a
below_tag ts table n b Enum t w a lt = tt

bounded_last : (ts : List Tag) (a : AreLaid ts) (n k : ℕ) → k < length ts → Bounded ts (table_from ts ts []) n → (at_or no_tag ts k).size < 4294967295 → ((k < n) ⊎ (n ≡ k)) → AllBelow (at_or no_tag ts k).size (at_or [] (table_from ts ts []) k)
bounded_last ts a n k here b less (inl lt) = b k lt less
bounded_last ts a n k here b less (inr is) =
    subst (λ cs. AllBelow (at_or no_tag ts k).size cs) (sym (table_at ts k here (a.earlier k here)))
    (below_tag ts (table_from ts ts []) k (subst (λ j. Bounded ts (table_from ts ts []) j) is b) (at_or no_tag ts k).kind (at_or no_tag ts k)
    (a.earlier k here) (parts_in ts a.laid (at_or no_tag ts k).kind (at_or no_tag ts k) (a.laid k here) less) less)

one_of : (n k : ℕ) → k < suc n → ((k < n) ⊎ (n ≤ k)) → (k < n) ⊎ (n ≡ k)
one_of n k lt (inl l) = inl l
one_of n k lt (inr l) = inr (omega arith)

bounded : (ts : List Tag) → AreLaid ts → (n : ℕ) → n ≤ length ts → Bounded ts (table_from ts ts []) n
bounded ts a zero le k lt less = absurd (omega arith)
bounded ts a (suc n) le k lt less = bounded_last ts a n k (omega arith) (bounded ts a n (omega arith)) less (one_of n k lt (cases_lt k n))

pub below_size : (ts : List Tag) (t : CType) → AreLaid ts → IsWithin (length ts) t → size ts t < 4294967295 → AllBelow (size ts t) (cells ts t)
below_size ts t a w lt = below_type ts (table_from ts ts []) (length ts) (bounded ts a (length ts) (omega arith)) t w lt
