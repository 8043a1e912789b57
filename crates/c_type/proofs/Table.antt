-- The cells of a tag in the table are those of its members by the whole table.
use Rattle.std.proofs.Common.{◌≡◌, ℕ, zero, suc, ◌+◌, ◌<◌, List, [], ◌∷◌, ◌++◌, length, refl, sym, ap, ◌∙◌, arith}
use Rattle.std.proofs.lemmas.List.{get_or_append_left, get_or_push, length_push}
use Rattle.c_type.specs.Names.{at_or}
use Rattle.c_type.specs.Types.{CType, num, void, ptr, arr, struct, union, enum, fun, Member, Tag, TagKind, Struct, Union, Enum}
use Rattle.c_type.specs.Sizes.{no_tag, size, IsWithin, AreWithin, HoldsEarlier}
use Rattle.c_type.specs.Cells.{Cell, moved, repeated, cells_by, joined, tag_cells, table_from}

-- the two tables have the same cells below n
abbrev pub Agree : ℕ → List (List Cell) → List (List Cell) → Type 0
Agree n a b = (k : ℕ) → k < n → at_or [] a k ≡ at_or [] b k

pub same_cells : (ts : List Tag) (n : ℕ) (a b : List (List Cell)) (t : CType) → Agree n a b → IsWithin n t → cells_by ts a t ≡ cells_by ts b t
same_cells ts n a b (num k) g w = refl
same_cells ts n a b void g w = refl
same_cells ts n a b (ptr t) g w = refl
same_cells ts n a b (arr m t) g w = ap (λ c. repeated m 0 (size ts t) c) (same_cells ts n a b t g w)
same_cells ts n a b (struct k) g w = g k w
same_cells ts n a b (union k) g w = g k w
same_cells ts n a b (enum k) g w = refl
same_cells ts n a b (fun t) g w = refl

same_joined : (ts : List Tag) (n : ℕ) (a b : List (List Cell)) (ms : List Member) → Agree n a b → AreWithin n ms → joined ts a ms ≡ joined ts b ms
same_joined ts n a b [] g w = refl
same_joined ts n a b (m ∷ ms) g w =
    ap (λ c. moved m.off c ++ joined ts a ms) (same_cells ts n a b m.ty g w.0) ∙ ap (λ c. moved m.off (cells_by ts b m.ty) ++ c) (same_joined ts n a b ms g w.1)

pub same_tag : (ts : List Tag) (n : ℕ) (a b : List (List Cell)) (κ : TagKind) (ms : List Member) → Agree n a b → HoldsEarlier κ n ms → tag_cells ts a κ ms ≡ tag_cells ts b κ ms
same_tag ts n a b Struct ms g w = same_joined ts n a b ms g w
same_tag ts n a b Union ms g w = same_joined ts n a b ms g w
same_tag ts n a b Enum ms g w = refl

-- what the table has it keeps
kept : (ts rest : List Tag) (table : List (List Cell)) → Agree (length table) table (table_from ts rest table)
kept ts [] table k lt = refl
kept ts (t ∷ rest) table k lt =
    sym (get_or_append_left table (tag_cells ts table t.kind t.members ∷ []) [] k lt)
    ∙ kept ts rest (table ++ tag_cells ts table t.kind t.members ∷ []) k (let h : length (table ++ tag_cells ts table t.kind t.members ∷ []) ≡ length table + 1 = length_push table (tag_cells ts table t.kind t.members) in omega arith)

filled : (ts rest : List Tag) (table : List (List Cell)) (n j : ℕ) → n ≡ length table + j
    → j < length rest → HoldsEarlier (at_or no_tag rest j).kind n (at_or no_tag rest j).members
    → at_or [] (table_from ts rest table) n ≡ tag_cells ts (table_from ts rest table) (at_or no_tag rest j).kind (at_or no_tag rest j).members
filled ts [] table n j e lt w = absurd (omega arith)
filled ts (t ∷ rest) table n zero e lt w =
    let next : List (List Cell) = table ++ tag_cells ts table t.kind t.members ∷ [] in
    let l : length (table ++ tag_cells ts table t.kind t.members ∷ []) ≡ length table + 1 = length_push table (tag_cells ts table t.kind t.members) in
    let is : n ≡ length table = omega arith in
    sym (kept ts rest (table ++ tag_cells ts table t.kind t.members ∷ []) n (omega arith))
    ∙ get_or_push table (tag_cells ts table t.kind t.members) [] n (sym is)
    ∙ same_tag ts n table (table_from ts (t ∷ rest) table) t.kind t.members (λ k lt2. kept ts (t ∷ rest) table k (omega arith)) w
filled ts (t ∷ rest) table n (suc j) e lt w =
    let l : length (table ++ tag_cells ts table t.kind t.members ∷ []) ≡ length table + 1 = length_push table (tag_cells ts table t.kind t.members) in
    filled ts rest (table ++ tag_cells ts table t.kind t.members ∷ []) n j (omega arith) (omega arith) w

pub table_at : (ts : List Tag) (k : ℕ) → k < length ts → HoldsEarlier (at_or no_tag ts k).kind k (at_or no_tag ts k).members
    → at_or [] (table_from ts ts []) k ≡ tag_cells ts (table_from ts ts []) (at_or no_tag ts k).kind (at_or no_tag ts k).members
table_at ts k lt w = filled ts ts [] k k (omega arith) lt w
