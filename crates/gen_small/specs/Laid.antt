-- Where the parts of code stand, of which each item stands behind the one before it.
use Rattle.std.specs.Prelude.{ℕ, ◌+◌, Bool, true, false, nat_eq, nat_lt, if◌then◌else◌, List, [], ◌∷◌, Option, Some, None}
use Rattle.c_run.specs.Values.{same_target}
use Rattle.gen_small.specs.Items.{Name, Entry, Close, Top, End, Inside, Item, Start, Open, Label}
use Rattle.gen_small.specs.Emitted.{width}

-- equality of labels
abbrev pub same_label : Name → Name → Bool
same_label (Entry t) (Entry u) = same_target t u
same_label (Close f) (Close g) = nat_eq f g
same_label (Top f k) (Top g j) = if nat_eq f g then nat_eq k j else false
same_label (End f k) (End g j) = if nat_eq f g then nat_eq k j else false
same_label (Inside f k) (Inside g j) = if nat_eq f g then nat_eq k j else false
same_label _ _ = false

-- whether an item is that label, and whether it is the start k
abbrev pub is_label : Name → Item → Bool
is_label n (Label m) = same_label n m
is_label n _ = false

abbrev pub is_start : ℕ → Item → Bool
is_start k (Start j) = nat_eq k j
is_start k (Open j) = nat_eq k j
is_start k _ = false

-- the address of the first such item, where the items stand from a on; 0 where there is none
abbrev pub address : (Item → Bool) → ℕ → List Item → ℕ
address which a [] = 0
address which a (x ∷ xs) = if which x then a else address which (a + width x) xs

-- the item that stands at an address; labels, which have no bytes, stand nowhere
abbrev pub item_at : ℕ → ℕ → List Item → Option Item
item_at at a [] = None
item_at at a (x ∷ xs) = if nat_lt at (a + width x) then (if nat_eq at a then Some x else None) else item_at at (a + width x) xs

-- whether a start stands there, and whether that of an opening brace does
abbrev pub begins : Option Item → Bool
begins (Some (Start k)) = true
begins (Some (Open k)) = true
begins _ = false

abbrev pub opens : Option Item → Bool
opens (Some (Open k)) = true
opens _ = false

-- the start that is current behind an item
abbrev pub started_by : ℕ → Item → ℕ
started_by k (Start j) = j
started_by k (Open j) = j
started_by k _ = k

-- the start to which the byte at an address belongs, where k is current before the items
abbrev pub owning : ℕ → ℕ → ℕ → List Item → ℕ
owning k at a [] = k
owning k at a (x ∷ xs) = if nat_lt at (a + width x) then started_by k x else owning (started_by k x) at (a + width x) xs
