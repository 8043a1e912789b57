-- One step of the search for a cell: from a structure or union to its members.
use Rattle.std.proofs.Common.{◌≡◌, ℕ, ◌+◌, ◌-◌, ◌<◌, ◌≤◌, ◌⊎◌, inl, inr, List, [], ◌∷◌, length, drop, Option, None, sym, ap, ◌∙◌, subst, arith}
use Rattle.std.specs.Prelude.{slice_index_or}
use Rattle.std.proofs.lemmas.Bool.{cases_lt}
use Rattle.std.proofs.lemmas.List.{get_or-map, drop_more, length-map}
use Rattle.c_type.specs.declared.TagId.{TagId}
use Rattle.c_type.specs.declared.CType as d
use Rattle.c_type.specs.declared.CType.{CType}
use Rattle.c_type.specs.declared.Member as dm
use Rattle.c_type.specs.declared.Tag as dt
use Rattle.c_type.specs.declared.Tags.{Tags}
use Rattle.c_type.specs.Of.{type_of, members_of, tag_of, tags_of}
use Rattle.c_type.specs.Names.{at_or, or_else}
use Rattle.c_type.specs.Types as t
use Rattle.c_type.specs.Types.{num, void, ptr, arr, struct, union, enum, fun, Member, Tag, TagKind, Struct, Union, Enum}
use Rattle.c_type.specs.Sizes.{no_tag, size, IsWithin, AreWithin, HoldsEarlier, AreLaid}
use Rattle.c_type.specs.Cells.{moved, tag_cells, table_from, cells, cell_from}
use Rattle.c_type.specs.Parts.{AreSmall, members_cells}
use Rattle.c_type.proofs.Lists.{from_join, from_moved, none_before, none_past}
use Rattle.c_type.proofs.Laid.{AllIn, PartsIn, parts_in}
use Rattle.c_type.proofs.Table.{table_at}
use Rattle.c_type.proofs.Bounds.{below_size}

pub tag_read : (x : Tags) (k : ℕ) (r : dt.Tag) → k < length x.list.items → r ≡ slice_index_or x.list.items k r → tag_of r ≡ at_or no_tag (tags_of x) k
tag_read x k r lt e = sym (get_or-map tag_of x.list.items k r no_tag lt ∙ ap tag_of (sym e))

pub tag_count : (x : Tags) → length (tags_of x) ≡ length x.list.items
tag_count x = length-map x.list.items tag_of

-- a structure or union with that number
abbrev pub IsTagged : t.CType → ℕ → Type 0
IsTagged p k = (p ≡ struct k) ⊎ (p ≡ union k)

pub tagged : (q : CType) (k : TagId) → ((q ≡ d.Struct k) ⊎ (q ≡ d.Union k)) → IsTagged (type_of q) k.0
tagged q k (inl e) = inl (ap type_of e)
tagged q k (inr e) = inr (ap type_of e)

pub tagged_within : (n k : ℕ) (p : t.CType) → IsTagged p k → IsWithin n p → k < n
tagged_within n k p (inl e) w = subst (λ x. IsWithin n x) e w
tagged_within n k p (inr e) w = subst (λ x. IsWithin n x) e w

tagged_small : (ts : List Tag) (k : ℕ) (p : t.CType) → IsTagged p k → size ts p < 4294967295 → (at_or no_tag ts k).size < 4294967295
tagged_small ts k p (inl e) lt = subst (λ x. size ts x < 4294967295) e lt
tagged_small ts k p (inr e) lt = subst (λ x. size ts x < 4294967295) e lt

tagged_cells : (ts : List Tag) (k : ℕ) (p : t.CType) → IsTagged p k → cells ts p ≡ at_or [] (table_from ts ts []) k
tagged_cells ts k p (inl e) = ap (λ x. cells ts x) e
tagged_cells ts k p (inr e) = ap (λ x. cells ts x) e

-- a structure or union by its kind
abbrev pub HasParts : TagKind → Type 0
HasParts κ = (κ ≡ Struct) ⊎ (κ ≡ Union)

parts_within : (κ : TagKind) (k : ℕ) (ms : List Member) → HasParts κ → HoldsEarlier κ k ms → AreWithin k ms
parts_within κ k ms (inl e) h = subst (λ x. HoldsEarlier x k ms) e h
parts_within κ k ms (inr e) h = subst (λ x. HoldsEarlier x k ms) e h

parts_all : (ts : List Tag) (κ : TagKind) (r : Tag) → HasParts κ → PartsIn ts κ r → AllIn ts r.size r.members
parts_all ts κ r (inl e) h = subst (λ x. PartsIn ts x r) e h
parts_all ts κ r (inr e) h = subst (λ x. PartsIn ts x r) e h

parts_cells : (ts : List Tag) (κ : TagKind) (ms : List Member) → HasParts κ → tag_cells ts (table_from ts ts []) κ ms ≡ members_cells ts ms
parts_cells ts κ ms (inl e) = ap (λ x. tag_cells ts (table_from ts ts []) x ms) e
parts_cells ts κ ms (inr e) = ap (λ x. tag_cells ts (table_from ts ts []) x ms) e

all_small : (ts : List Tag) (n : ℕ) (ms : List Member) → n < 4294967295 → AllIn ts n ms → AreSmall ts ms
all_small ts n [] lt a = tt
all_small ts n (m ∷ ms) lt a = (let h : m.off + size ts m.ty ≤ n = a.0 in omega arith, all_small ts n ms lt a.1)

pub held_within : (ts : List Tag) (n k : ℕ) (p : t.CType) (r : Tag) → AreLaid ts → n ≤ length ts → IsTagged p k → IsWithin n p → r ≡ at_or no_tag ts k → HasParts r.kind → AreWithin k r.members
held_within ts n k p r a le is w e hp =
    let lt : k < n = tagged_within n k p is w in
    parts_within r.kind k r.members hp (subst (λ x. HoldsEarlier x.kind k x.members) (sym e) (a.earlier k (omega arith)))

pub held_small : (ts : List Tag) (n k : ℕ) (p : t.CType) (r : Tag) → AreLaid ts → n ≤ length ts → IsTagged p k → IsWithin n p → size ts p < 4294967295 → r ≡ at_or no_tag ts k → HasParts r.kind → AreSmall ts r.members
held_small ts n k p r a le is w lt e hp =
    let lt1 : k < n = tagged_within n k p is w in
    let small : (at_or no_tag ts k).size < 4294967295 = tagged_small ts k p is lt in
    all_small ts r.size r.members (subst (λ x. x.size < 4294967295) (sym e) small)
    (parts_all ts r.kind r hp (subst (λ x. PartsIn ts x.kind x) (sym e) (parts_in ts a.laid (at_or no_tag ts k).kind (at_or no_tag ts k) (a.laid k (omega arith)) small)))

-- the cells of a structure or union are those of its members
pub held_cells : (ts : List Tag) (n k off : ℕ) (p : t.CType) (r : Tag) → AreLaid ts → n ≤ length ts → IsTagged p k → IsWithin n p → r ≡ at_or no_tag ts k → HasParts r.kind → cell_from off (cells ts p) ≡ cell_from off (members_cells ts r.members)
held_cells ts n k off p r a le is w e hp =
    let lt : k < n = tagged_within n k p is w in
    ap (λ cs. cell_from off cs) (tagged_cells ts k p is ∙ table_at ts k (omega arith) (a.earlier k (omega arith)) ∙ ap (λ x. tag_cells ts (table_from ts ts []) x.kind x.members) (sym e) ∙ parts_cells ts r.kind r.members hp)

pub held_none : (ts : List Tag) (n k off : ℕ) (p : t.CType) (r : Tag) → AreLaid ts → n ≤ length ts → IsTagged p k → IsWithin n p → r ≡ at_or no_tag ts k → r.kind ≡ Enum → cell_from off (cells ts p) ≡ None
held_none ts n k off p r a le is w e ke =
    let lt : k < n = tagged_within n k p is w in
    ap (λ cs. cell_from off cs) (tagged_cells ts k p is ∙ table_at ts k (omega arith) (a.earlier k (omega arith)) ∙ ap (λ x. tag_cells ts (table_from ts ts []) x.kind x.members) (sym e) ∙ ap (λ x. tag_cells ts (table_from ts ts []) x r.members) ke)

pub within_more : (n m : ℕ) (y : t.CType) → n ≤ m → IsWithin n y → IsWithin m y
within_more n m (num k) le w = tt
within_more n m void le w = tt
within_more n m (ptr t) le w = tt
within_more n m (arr j t) le w = within_more n m t le w
within_more n m (struct k) le w = let h : k < n = w in omega arith
within_more n m (union k) le w = let h : k < n = w in omega arith
within_more n m (enum k) le w = tt
within_more n m (fun t) le w = tt

none_after : (ts : List Tag) (n off o s : ℕ) (y : t.CType) → AreLaid ts → n ≤ length ts → IsWithin n y → size ts y < 4294967295 → s ≡ size ts y → s ≤ off - o → ((off < o) ⊎ (o ≤ off)) → cell_from off (moved o (cells ts y)) ≡ None
none_after ts n off o s y a le w lt es b (inl h) = none_before o off (cells ts y) h
none_after ts n off o s y a le w lt es b (inr h) = from_moved o off (cells ts y) h ∙ none_past (size ts y) (off - o) (cells ts y) (omega arith) (below_size ts y a (within_more n (length ts) y le w) lt)

-- outside a member it has no cell
pub member_none : (ts : List Tag) (n off o s : ℕ) (y : t.CType) → AreLaid ts → n ≤ length ts → IsWithin n y → size ts y < 4294967295 → ((off < o) ⊎ ((s ≡ size ts y) × (s ≤ off - o))) → cell_from off (moved o (cells ts y)) ≡ None
member_none ts n off o s y a le w lt (inl b) = none_before o off (cells ts y) b
member_none ts n off o s y a le w lt (inr b) = none_after ts n off o s y a le w lt b.0 b.1 (cases_lt off o)

pub member_item : (xs : List dm.Member) (i : ℕ) (m : dm.Member) → i < length xs → m ≡ slice_index_or xs i m → drop i xs ≡ m ∷ drop (i + 1) xs
member_item xs i m lt e = drop_more xs i m lt ∙ ap (λ y. y ∷ drop (i + 1) xs) (sym e)

pub within_item : (n : ℕ) (xs ys : List dm.Member) (m : dm.Member) → xs ≡ m ∷ ys → AreWithin n (members_of xs) → IsWithin n (type_of m.ty) × AreWithin n (members_of ys)
within_item n xs ys m e w = subst (λ x. AreWithin n (members_of x)) e w

pub small_item : (ts : List Tag) (xs ys : List dm.Member) (m : dm.Member) → xs ≡ m ∷ ys → AreSmall ts (members_of xs) → (size ts (type_of m.ty) < 4294967295) × AreSmall ts (members_of ys)
small_item ts xs ys m e w = subst (λ x. AreSmall ts (members_of x)) e w

-- the first member's cell, or one of the others
pub first_or : (ts : List Tag) (off : ℕ) (xs ys : List dm.Member) (m : dm.Member) (found : Option t.CType) → xs ≡ m ∷ ys → found ≡ cell_from off (moved m.off (cells ts (type_of m.ty))) → cell_from off (members_cells ts (members_of xs)) ≡ or_else found (cell_from off (members_cells ts (members_of ys)))
first_or ts off xs ys m found e f =
    ap (λ x. cell_from off (members_cells ts (members_of x))) e
    ∙ from_join off (moved m.off (cells ts (type_of m.ty))) (members_cells ts (members_of ys))
    ∙ ap (λ x. or_else x (cell_from off (members_cells ts (members_of ys)))) (sym f)
