-- Items that stand one behind the other are marked by where they stand.
use Rattle.std.proofs.Common.{◌≡◌, ℕ, ◌+◌, ◌<◌, ◌≤◌, List, [], ◌∷◌, Bool, true, false, Option, Some, None, length, refl, sym, ap, ◌∙◌, subst, arith}
use Rattle.std.specs.Prelude.{nat_eq, nat_lt, if◌then◌else◌}
use Rattle.std.proofs.lemmas.Bool.{eqb-true, le-ltb, lt-ltb}
use Rattle.isa386.specs.Encoding.{encoding}
use Rattle.isa386.specs.Row.{IsRow}
use Rattle.c_run.specs.Values.{Target, Body, Putchar, Getchar, Exit, same_target}
use Rattle.gen_small.specs.Ghost.{Prog}
use Rattle.gen_small.specs.Items.{Name, Entry, Close, Top, End, Inside, Item, Start, Open, Op, Label, Goto, If, CallTo, Layout}
use Rattle.gen_small.specs.Emitted.{width, Marked}
use Rattle.gen_small.specs.Laid.{same_label, is_label, is_start, address, item_at, begins, opens, started_by, owning}

-- no item of these passes
abbrev pub Lacks : (Item → Bool) → List Item → Type 0
Lacks which [] = Unit {0}
Lacks which (x ∷ xs) = (which x ≡ false) × Lacks which xs

-- each label and each start stands there once
abbrev pub Once : List Item → Type 0
Once [] = Unit {0}
Once (Label n ∷ xs) = Lacks (is_label n) xs × Once xs
Once (Start k ∷ xs) = Lacks (is_start k) xs × Once xs
Once (Open k ∷ xs) = Lacks (is_start k) xs × Once xs
Once (Op i ∷ xs) = Once xs
Once (Goto n ∷ xs) = Once xs
Once (If c n ∷ xs) = Once xs
Once (CallTo n ∷ xs) = Once xs

-- each instruction has an encoding, which is not empty
abbrev pub IsEncoded : Item → Type 0
IsEncoded (Op i) = IsRow i × (0 < length (encoding i))
IsEncoded _ = Unit {0}

abbrev pub AreEncoded : List Item → Type 0
AreEncoded [] = Unit {0}
AreEncoded (x ∷ xs) = IsEncoded x × AreEncoded xs

same_number : (n : ℕ) → nat_eq n n ≡ true
same_number n = grind arith

pub same_self : (n : Name) → same_label n n ≡ true
same_self (Entry (Body f)) = same_number f
same_self (Entry Putchar) = refl
same_self (Entry Getchar) = refl
same_self (Entry Exit) = refl
same_self (Close f) = same_number f
same_self (Top f k) = ap (λ b. if b then nat_eq k k else false) (same_number f) ∙ same_number k
same_self (End f k) = ap (λ b. if b then nat_eq k k else false) (same_number f) ∙ same_number k
same_self (Inside f k) = ap (λ b. if b then nat_eq k k else false) (same_number f) ∙ same_number k

both_numbers : (f g k j : ℕ) → (if nat_eq f g then nat_eq k j else false) ≡ true → (f ≡ g) × (k ≡ j)
both_numbers f g k j e = cases (nat_eq f g) refl
  where
    cases : (b : Bool) → nat_eq f g ≡ b → (f ≡ g) × (k ≡ j)
    cases true same = (eqb-true f g same, eqb-true k j (ap (λ b. if b then nat_eq k j else false) (sym same) ∙ e))
    cases false same = absurd (let h : (if false then nat_eq k j else false) ≡ true = ap (λ b. if b then nat_eq k j else false) (sym same) ∙ e in cc)

same_targets : (t u : Target) → same_target t u ≡ true → t ≡ u
same_targets (Body f) (Body g) e = ap (λ n. Body n) (eqb-true f g e)
same_targets Putchar Putchar e = refl
same_targets Getchar Getchar e = refl
same_targets Exit Exit e = refl
same_targets _ _ e = absurd (cc)

same_labels : (n m : Name) → same_label n m ≡ true → n ≡ m
same_labels (Entry t) (Entry u) e = ap (λ z. Entry z) (same_targets t u e)
same_labels (Close f) (Close g) e = ap (λ z. Close z) (eqb-true f g e)
same_labels (Top f k) (Top g j) e = let h = both_numbers f g k j e in ap (λ z. Top z k) h.0 ∙ ap (λ z. Top g z) h.1
same_labels (End f k) (End g j) e = let h = both_numbers f g k j e in ap (λ z. End z k) h.0 ∙ ap (λ z. End g z) h.1
same_labels (Inside f k) (Inside g j) e = let h = both_numbers f g k j e in ap (λ z. Inside z k) h.0 ∙ ap (λ z. Inside g z) h.1
same_labels _ _ e = absurd (cc)

-- behind a label or start, none is like it
label_gone : (n : Name) (x : Item) (xs : List Item) → Once (x ∷ xs) → is_label n x ≡ true → Lacks (is_label n) xs
label_gone n (Label m) xs once e = subst (λ z. Lacks (is_label z) xs) (sym (same_labels n m e)) once.0
label_gone n _ xs once e = absurd (cc)

start_gone : (k : ℕ) (x : Item) (xs : List Item) → Once (x ∷ xs) → is_start k x ≡ true → Lacks (is_start k) xs
start_gone k (Start j) xs once e = subst (λ z. Lacks (is_start z) xs) (sym (eqb-true k j e)) once.0
start_gone k (Open j) xs once e = subst (λ z. Lacks (is_start z) xs) (sym (eqb-true k j e)) once.0
start_gone k _ xs once e = absurd (cc)

once_behind : (x : Item) (xs : List Item) → Once (x ∷ xs) → Once xs
once_behind (Label n) xs once = once.1
once_behind (Start k) xs once = once.1
once_behind (Open k) xs once = once.1
once_behind (Op i) xs once = once
once_behind (Goto n) xs once = once
once_behind (If c n) xs once = once
once_behind (CallTo n) xs once = once

-- A program and a layout know where the items stand that begin at a.
pub record Knows (p : Prog) (l : Layout) (f k a : ℕ) (xs : List Item) : Type 0 where
  pub labels : (n : Name) → (Lacks (is_label n) xs → ⊥) → l.label n ≡ address (is_label n) a xs
  pub starts : (j : ℕ) → (Lacks (is_start j) xs → ⊥) → l.start f j ≡ address (is_start j) a xs
  pub begun : (at : ℕ) → a ≤ at → p.is_start at ≡ begins (item_at at a xs)
  pub opened : (at : ℕ) → a ≤ at → p.opens at ≡ (if opens (item_at at a xs) then Some f else None)
  pub owned : (at : ℕ) → a ≤ at → l.owner at ≡ (f, owning k at a xs)
  pub small : (n : Name) → l.label n < 4294967296

-- the place of the first such item, if the first of all is another
behind_one : (which : Item → Bool) (a place : ℕ) (x : Item) (xs : List Item) → ((y : Item) → (ys : List Item) → Once (y ∷ ys) → which y ≡ true → Lacks which ys) → Once (x ∷ xs) → ((Lacks which (x ∷ xs) → ⊥) → place ≡ address which a (x ∷ xs)) → (Lacks which xs → ⊥) → place ≡ address which (a + width x) xs
behind_one which a place x xs gone once known there = cases (which x) refl
  where
    cases : (b : Bool) → which x ≡ b → place ≡ address which (a + width x) xs
    cases true e = absurd (there (gone x xs once e))
    cases false e = known (λ h. there h.1) ∙ ap (λ b. if b then a else address which (a + width x) xs) e

knows_on : (p : Prog) (l : Layout) (f k a : ℕ) (x : Item) (xs : List Item) → Once (x ∷ xs) → Knows p l f k a (x ∷ xs) → Knows p l f (started_by k x) (a + width x) xs
knows_on p l f k a x xs once h =
    let past : (at : ℕ) → a + width x ≤ at → nat_lt at (a + width x) ≡ false = λ at le. le-ltb at (a + width x) le in
    let here : (at : ℕ) → Option Item = λ at. if nat_eq at a then Some x else None in
    record {
      labels = λ n there. behind_one (is_label n) a (l.label n) x xs (λ y ys. label_gone n y ys) once (h.labels n) there;
      starts = λ j there. behind_one (is_start j) a (l.start f j) x xs (λ y ys. start_gone j y ys) once (h.starts j) there;
      begun = λ at le. h.begun at (omega arith) ∙ ap (λ b. begins (if b then here at else item_at at (a + width x) xs)) (past at le);
      opened = λ at le. h.opened at (omega arith) ∙ ap (λ b. if opens (if b then here at else item_at at (a + width x) xs) then Some f else None) (past at le);
      owned = λ at le. h.owned at (omega arith) ∙ ap (λ b. (f, (if b then started_by k x else owning (started_by k x) at (a + width x) xs))) (past at le);
      small = h.small;
    }

-- the item that stands at a, and the owner of its bytes
first_item : (a : ℕ) (x : Item) (xs : List Item) → 0 < width x → item_at a a (x ∷ xs) ≡ Some x
first_item a x xs some =
    ap (λ b. if b then (if nat_eq a a then Some x else None) else item_at a (a + width x) xs) (lt-ltb a (a + width x) (omega arith))
    ∙ ap (λ b. if b then Some x else None) (same_number a)

first_owner : (k at a : ℕ) (x : Item) (xs : List Item) → at < a + width x → owning k at a (x ∷ xs) ≡ started_by k x
first_owner k at a x xs lt = ap (λ b. if b then started_by k x else owning (started_by k x) at (a + width x) xs) (lt-ltb at (a + width x) lt)

module _ (p : Prog) (l : Layout) (f k a : ℕ) (x : Item) (xs : List Item) (h : Knows p l f k a (x ∷ xs)) where
  first_start : 0 < width x → p.is_start a ≡ begins (Some x)
  first_start some = h.begun a (omega arith) ∙ ap begins (first_item a x xs some)

  first_opens : 0 < width x → p.opens a ≡ (if opens (Some x) then Some f else None)
  first_opens some = h.opened a (omega arith) ∙ ap (λ i. if opens i then Some f else None) (first_item a x xs some)

  first_owned : (at : ℕ) → a ≤ at → at < a + width x → l.owner at ≡ (f, started_by k x)
  first_owned at low lt = h.owned at low ∙ ap (λ j. (f, j)) (first_owner k at a x xs lt)

label_here : (n : Name) (a : ℕ) (xs : List Item) → address (is_label n) a (Label n ∷ xs) ≡ a
label_here n a xs = ap (λ b. if b then a else address (is_label n) (a + 0) xs) (same_self n)

label_there : (n : Name) (xs : List Item) → Lacks (is_label n) (Label n ∷ xs) → ⊥
label_there n xs none = let e = same_self n in absurd (let f = none.0 in cc)

start_here : (j a w : ℕ) (ys : List Item) → (if nat_eq j j then a else address (is_start j) (a + w) ys) ≡ a
start_here j a w ys = ap (λ b. if b then a else address (is_start j) (a + w) ys) (same_number j)

start_there : (j : ℕ) → nat_eq j j ≡ false → ⊥
start_there j none = absurd (let e = same_number j in cc)

-- where items stand one behind the other, a program and a layout that know it are marked so
pub marked : (p : Prog) (l : Layout) (f : ℕ) (xs : List Item) (k a : ℕ) → AreEncoded xs → Once xs → Knows p l f k a xs → Marked p l f k a xs
marked p l f [] k a rows once h = tt
marked p l f (Start j ∷ xs) k a rows once h = (
  record { is_start = first_start p l f k a (Start j) xs h (omega arith); opens = first_opens p l f k a (Start j) xs h (omega arith); start = h.starts j (λ none. start_there j none.0) ∙ start_here j a 1 xs; owned = first_owned p l f k a (Start j) xs h },
  marked p l f xs j (a + 1) rows.1 once.1 (knows_on p l f k a (Start j) xs once h),
)
marked p l f (Open j ∷ xs) k a rows once h = (
  record { is_start = first_start p l f k a (Open j) xs h (omega arith); opens = first_opens p l f k a (Open j) xs h (omega arith); start = h.starts j (λ none. start_there j none.0) ∙ start_here j a 1 xs; owned = first_owned p l f k a (Open j) xs h },
  marked p l f xs j (a + 1) rows.1 once.1 (knows_on p l f k a (Open j) xs once h),
)
marked p l f (Op i ∷ xs) k a rows once h = (
  rows.0.0,
  record { no_start = first_start p l f k a (Op i) xs h rows.0.1; owned = first_owned p l f k a (Op i) xs h },
  marked p l f xs k (a + length (encoding i)) rows.1 once (knows_on p l f k a (Op i) xs once h),
)
marked p l f (Label n ∷ xs) k a rows once h =
    (h.labels n (label_there n xs) ∙ label_here n a xs, marked p l f xs k (a + 0) rows.1 once.1 (knows_on p l f k a (Label n) xs once h))
marked p l f (Goto n ∷ xs) k a rows once h = (
  h.small n,
  record { no_start = first_start p l f k a (Goto n) xs h (omega arith); owned = first_owned p l f k a (Goto n) xs h },
  marked p l f xs k (a + 5) rows.1 once (knows_on p l f k a (Goto n) xs once h),
)
marked p l f (If c n ∷ xs) k a rows once h = (
  h.small n,
  record { no_start = first_start p l f k a (If c n) xs h (omega arith); owned = first_owned p l f k a (If c n) xs h },
  marked p l f xs k (a + 6) rows.1 once (knows_on p l f k a (If c n) xs once h),
)
marked p l f (CallTo n ∷ xs) k a rows once h = (
  h.small n,
  record { no_start = first_start p l f k a (CallTo n) xs h (omega arith); owned = first_owned p l f k a (CallTo n) xs h },
  marked p l f xs k (a + 5) rows.1 once (knows_on p l f k a (CallTo n) xs once h),
)
