-- The items of a text that is read are normal.
use Rattle.std.proofs.Common.{◌≡◌, ℕ, suc, ◌+◌, ◌<◌, ◌≤◌, List, [], ◌∷◌, ◌++◌, length, take, Bool, true, false, cond, Option, Some, None, refl, sym, ap, ◌∙◌, arith, Result, Ok, Err}
use Rattle.std.specs.Prelude.{nat_lt, nat_le, ◌&&◌}
use Rattle.std.specs.List.{list_all}
use Rattle.std.proofs.lemmas.Bool.Decides.{nat_tests}
use Rattle.std.proofs.lemmas.List.Folds.{list_all-append}
use Rattle.asm_item.specs.declared.model.Item.{Item}
use Rattle.asm_item.specs.declared.model.Item.TheVariants as items
use Rattle.asm_item.specs.declared.model.DefGroup.{DefGroup}
use Rattle.asm_item.specs.Groups.{Part, val, scl, ty, tag, line, size, dims}
use Rattle.asm_item.specs.Normal.{is_name, is_value, is_half, is_signed, is_tag, are_dimensions, is_group, is_item, files_in, files, are_normal}
use Rattle.asm_read.specs.Lex.{lex}
use Rattle.asm_read.specs.Stmts.{Stmt, item, begin, part, end, wrong, stmts_of}
use Rattle.asm_read.specs.Reading.{At, at_line, from_line, lines_of, text_stmts, rank, empty_group, four, with_part, Open, State, start, is_file, with_item, item_step, part_step, step_outside, step_within, step_by, step, goes, steps, finish_by, finish, reading}
use Rattle.asm_read.proofs.Joined.{and_left, and_right}
use Rattle.asm_read.proofs.Holds.{Holds, if_so}
use Rattle.asm_read.proofs.NormalStatements.{IsPart, IsStmt, AreStmts, line_are}
use Rattle.std.proofs.lemmas.Bool.{and_from}

-- ---- the statements of a text

abbrev AreAt : List At → Type 0
AreAt [] = Unit {0}
AreAt (x ∷ xs) = IsStmt x.stmt × AreAt xs

at_line_are : (n : ℕ) (xs : List Stmt) → AreStmts xs → AreAt (at_line n xs)
at_line_are n [] h = tt
at_line_are n (x ∷ xs) h = (h.0, at_line_are n xs h.1)

joined_are : (xs ys : List At) → AreAt xs → AreAt ys → AreAt (xs ++ ys)
joined_are [] ys h g = g
joined_are (x ∷ xs) ys h g = (h.0, joined_are xs ys h.1 g)

from_line_are : (n : ℕ) (ls : List (List ℕ)) → AreAt (from_line n ls)
from_line_are n [] = tt
from_line_are n (l ∷ ls) = joined_are (at_line n (stmts_of (lex l))) (from_line (n + 1) ls) (at_line_are n (stmts_of (lex l)) (line_are (lex l))) (from_line_are (n + 1) ls)

-- ---- groups

-- a group whose every member is normal
pub record IsGroup (g : DefGroup) : Type 0 where
  pub name : is_name g.name ≡ true
  pub val : is_value g.val ≡ true
  pub scl : is_signed g.scl ≡ true
  pub ty : is_half g.ty ≡ true
  pub tag : is_tag g.tag ≡ true
  pub line : is_half g.line ≡ true
  pub size : is_half g.size ≡ true
  pub dims : are_dimensions g.dims ≡ true

group_is : (g : DefGroup) → IsGroup g → is_group g ≡ true
group_is g h =
    and_from _ (are_dimensions g.dims) (and_from _ (is_half g.size) (and_from _ (is_half g.line) (and_from _ (is_tag g.tag) (and_from _ (is_half g.ty) (and_from _ (is_signed g.scl)
    (and_from (is_name g.name) (is_value g.val) h.name h.val) h.scl) h.ty) h.tag) h.line) h.size) h.dims

empty_is : (k : List ℕ) → is_name k ≡ true → IsGroup (empty_group k)
empty_is k h = record { name = h; val = refl; scl = refl; ty = refl; tag = refl; line = refl; size = refl; dims = refl }

four_are : (ns : List ℕ) → list_all is_half ns ≡ true → are_dimensions (four ns) ≡ true
four_are [] h = refl
four_are (a ∷ []) h = and_from (is_half a) true (and_left (is_half a) true h) refl
four_are (a ∷ (b ∷ [])) h = h
four_are (a ∷ (b ∷ (c ∷ []))) h = h
four_are (a ∷ (b ∷ (c ∷ (d ∷ ns)))) h =
    let ha = and_left (is_half a) _ h in let ra = and_right (is_half a) (is_half b && (is_half c && (is_half d && list_all is_half ns))) h in
    let hb = and_left (is_half b) _ ra in let rb = and_right (is_half b) (is_half c && (is_half d && list_all is_half ns)) ra in
    let hc = and_left (is_half c) _ rb in let rc = and_right (is_half c) (is_half d && list_all is_half ns) rb in
    and_from (is_half a) _ ha (and_from (is_half b) _ hb (and_from (is_half c) _ hc (and_from (is_half d) true (and_left (is_half d) _ rc) refl)))

with_part_is : (g : DefGroup) (p : Part) → IsGroup g → IsPart p → IsGroup (with_part g p)
with_part_is g (val v) h e = record { name = h.name; val = e; scl = h.scl; ty = h.ty; tag = h.tag; line = h.line; size = h.size; dims = h.dims }
with_part_is g (scl z) h e = record { name = h.name; val = h.val; scl = e; ty = h.ty; tag = h.tag; line = h.line; size = h.size; dims = h.dims }
with_part_is g (ty n) h e = record { name = h.name; val = h.val; scl = h.scl; ty = e; tag = h.tag; line = h.line; size = h.size; dims = h.dims }
with_part_is g (tag k) h e = record { name = h.name; val = h.val; scl = h.scl; ty = h.ty; tag = e; line = h.line; size = h.size; dims = h.dims }
with_part_is g (line n) h e = record { name = h.name; val = h.val; scl = h.scl; ty = h.ty; tag = h.tag; line = e; size = h.size; dims = h.dims }
with_part_is g (size n) h e = record { name = h.name; val = h.val; scl = h.scl; ty = h.ty; tag = h.tag; line = h.line; size = e; dims = h.dims }
with_part_is g (dims ns) h e = record { name = h.name; val = h.val; scl = h.scl; ty = h.ty; tag = h.tag; line = h.line; size = h.size; dims = four_are ns e }

-- ---- the state of reading

-- how many source files may have been named
abbrev most : Bool → ℕ
most true = 1
most false = 0

pub record IsState (st : State) : Type 0 where
  pub items : list_all is_item st.done ≡ true
  pub few : files st.done ≤ most st.filed
  pub group : Holds (λ (o : Open). IsGroup o.group) st.group

files_more : (xs : List Item) (i : Item) → files (xs ++ (i ∷ [])) ≡ files xs + files_in i
files_more [] i = omega arith
files_more (x ∷ xs) i = let e = files_more xs i in omega arith

all_more : (xs : List Item) (i : Item) → list_all is_item xs ≡ true → is_item i ≡ true → list_all is_item (xs ++ (i ∷ [])) ≡ true
all_more xs i h g = list_all-append is_item xs (i ∷ []) ∙ and_from (list_all is_item xs) (is_item i && true) h (and_from (is_item i) true g refl)

-- an item that names no file, or the first that does
few_more : (st : State) (i : Item) → files st.done ≤ most st.filed → (is_file i ≡ true → st.filed ≡ false) → files (st.done ++ (i ∷ [])) ≤ most (cond (is_file i) true st.filed)
few_more st i few first = let e = files_more st.done i in by i (is_file i) refl e first
  where
    none : (i : Item) → is_file i ≡ false → files_in i ≡ 0
    none (items.File k) e = absurd cc
    none i e = refl

    one : (i : Item) → files_in i ≤ 1
    one (items.File k) = omega arith
    one i = omega arith

    by : (i : Item) (b : Bool) → is_file i ≡ b → files (st.done ++ (i ∷ [])) ≡ files st.done + files_in i → (b ≡ true → st.filed ≡ false) → files (st.done ++ (i ∷ [])) ≤ most (cond b true st.filed)
    by i true is e first = let z : most st.filed ≡ 0 = ap most (first refl) in let o = one i in omega arith
    by i false is e first = let z = none i is in omega arith

with_item_is : (st : State) (i : Item) → IsState st → is_item i ≡ true → (is_file i ≡ true → st.filed ≡ false) → IsState (with_item st i)
with_item_is st i h g first = record { items = all_more st.done i h.items g; few = few_more st i h.few first; group = tt }

item_step_is : (st : State) (i : Item) → IsState st → is_item i ≡ true → Holds IsState (item_step st i)
item_step_is st i h g = by (is_file i) st.filed refl refl
  where
    by : (b c : Bool) → is_file i ≡ b → st.filed ≡ c → Holds IsState (cond b (cond c None (Some (with_item st i))) (Some (with_item st i)))
    by true true is filed = tt
    by true false is filed = with_item_is st i h g (λ e. filed)
    by false c is filed = with_item_is st i h g (λ e. absurd cc)

part_step_is : (st : State) (o : Open) (p : Part) → IsState st → IsGroup o.group → IsPart p → Holds IsState (part_step st o p)
part_step_is st o p h g e =
    if_so IsState (nat_le o.next (rank p)) (Some (record st { group = Some record { line = o.line; group = with_part o.group p; next = rank p + 1 } }))
    (λ t. record { items = h.items; few = h.few; group = with_part_is o.group p g e })

step_outside_is : (st : State) (n : ℕ) (x : Stmt) → IsState st → IsStmt x → Holds IsState (step_outside st n x)
step_outside_is st n (item i) h e = item_step_is st i h e
step_outside_is st n (begin k) h e = record { items = h.items; few = h.few; group = empty_is k e }
step_outside_is st n (part p) h e = tt
step_outside_is st n end h e = tt
step_outside_is st n wrong h e = tt

step_within_is : (st : State) (o : Open) (x : Stmt) → IsState st → IsGroup o.group → IsStmt x → Holds IsState (step_within st o x)
step_within_is st o (item i) h g e = tt
step_within_is st o (begin k) h g e = tt
step_within_is st o (part p) h g e = part_step_is st o p h g e
step_within_is st o end h g e = with_item_is st (items.Def o.group) h (group_is o.group g) (λ f. absurd cc)
step_within_is st o wrong h g e = tt

step_by_is : (st : State) (o : Option Open) (n : ℕ) (x : Stmt) → IsState st → Holds (λ (o : Open). IsGroup o.group) o → IsStmt x → Holds IsState (step_by st o n x)
step_by_is st None n x h g e = step_outside_is st n x h e
step_by_is st (Some o) n x h g e = step_within_is st o x h g e

-- a result whose state, if there is one, is normal
abbrev IsReached : Result State ℕ → Type 0
IsReached (Ok st) = IsState st
IsReached (Err n) = Unit {0}

steps_are : (st : State) (xs : List At) → IsState st → AreAt xs → IsReached (steps st xs)
steps_are st [] h e = h
steps_are st (x ∷ xs) h e = by (step st x) (step_by_is st st.group x.line x.stmt h h.group e.0) (λ t g. steps_are t xs g e.1)
  where
    by : (o : Option State) → Holds IsState o → ((t : State) → IsState t → IsReached (steps t xs)) → IsReached (goes x.line o (λ t. steps t xs))
    by None g f = tt
    by (Some t) g f = f t g

at_most_one : (b : Bool) (n : ℕ) → n ≤ most b → nat_lt n 2 ≡ true
at_most_one true n h = grind (arith, nat_tests)
at_most_one false n h = grind (arith, nat_tests)

done_is : (st : State) → IsState st → are_normal st.done ≡ true
done_is st h = and_from (list_all is_item st.done) (nat_lt (files st.done) 2) h.items (at_most_one st.filed (files st.done) h.few)

abbrev AreItems : Result (List Item) ℕ → Type 0
AreItems (Ok is) = are_normal is ≡ true
AreItems (Err n) = Unit {0}

finish_by_is : (st : State) (o : Option Open) → IsState st → AreItems (finish_by st.done o)
finish_by_is st None h = done_is st h
finish_by_is st (Some o) h = tt

finish_is : (r : Result State ℕ) → IsReached r → AreItems (finish r)
finish_is (Ok st) h = finish_by_is st st.group h
finish_is (Err n) h = tt

start_is : IsState start
start_is = record { items = refl; few = omega arith; group = tt }

pub read_is_normal : (bytes : List ℕ) (is : List Item) → reading bytes ≡ Ok is → are_normal is ≡ true
read_is_normal bytes is e = Rattle.std.proofs.Common.subst AreItems e (finish_is (steps start (text_stmts bytes)) (steps_are start (text_stmts bytes) start_is (from_line_are 1 (lines_of bytes))))
