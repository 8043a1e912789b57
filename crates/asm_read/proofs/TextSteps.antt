-- The statements of a text lead from state to state, to its items.
use Rattle.std.proofs.Common.{◌≡◌, ℕ, ◌+◌, ◌≤◌, List, [], ◌∷◌, ◌++◌, Bool, true, false, cond, Some, None, refl, sym, ap, ◌∙◌, arith, Ok, append_assoc}
use Rattle.std.specs.Prelude.{map}
use Rattle.std.specs.List.{flat_map}
use Rattle.std.proofs.lemmas.Bool.{le-leb}
use Rattle.asm_item.specs.declared.model.DefGroup.{DefGroup}
use Rattle.asm_item.specs.declared.model.Item.{Item}
use Rattle.asm_item.specs.declared.model.Item.TheVariants as items
use Rattle.asm_item.specs.Groups.{Part}
use Rattle.asm_item.specs.Normal.{files, files_in}
use Rattle.asm_read.specs.Stmts.{Stmt, item, begin, part, end}
use Rattle.asm_read.specs.Reading.{At, rank, empty_group, with_part, Open, State, is_file, with_item, item_step, step_by, step_within, step, goes, steps}
use Rattle.asm_read.specs.Grammar.{Block, single, group, block_stmts, with_parts, block_item, InOrder, AreInOrder, stmts}

-- how many source files may have been named
abbrev pub most : Bool → ℕ
most true = 1
most false = 0

pub file_one : (i : Item) → is_file i ≡ true → files_in i ≡ 1
file_one (items.File k) e = refl
file_one i e = absurd cc

pub file_none : (i : Item) → is_file i ≡ false → files_in i ≡ 0
file_none (items.File k) e = absurd cc
file_none i e = refl

-- the state after these blocks
abbrev pub behind_blocks : State → List Block → State
behind_blocks st [] = st
behind_blocks st (b ∷ bs) = behind_blocks (with_item st (block_item b)) bs

-- an item that names no second source file can stand
item_stands : (st : State) (i : Item) → files_in i + most st.filed ≤ 1 → item_step st i ≡ Some (with_item st i)
item_stands st i room = by (is_file i) st.filed refl refl
  where
    by : (b c : Bool) → is_file i ≡ b → st.filed ≡ c → cond b (cond c None (Some (with_item st i))) (Some (with_item st i)) ≡ Some (with_item st i)
    by true true e f = let one = file_one i e in let m : most st.filed ≡ 1 = ap most f in let r = room in absurd (omega arith)
    by true false e f = refl
    by false c e f = refl

room_behind : (st : State) (i : Item) (n : ℕ) → (files_in i + n) + most st.filed ≤ 1 → n + most (with_item st i).filed ≤ 1
room_behind st i n room = by (is_file i) refl
  where
    by : (b : Bool) → is_file i ≡ b → n + most (cond b true st.filed) ≤ 1
    by true e = let one = file_one i e in let r = room in omega arith
    by false e = let r = room in omega arith

-- ---- a group

-- what is left behind a group, and the state there
record Closes (st : State) (g : DefGroup) (ats : List At) (rest : List Stmt) : Type 0 where
  pub left : List At
  pub left_is : stmts left ≡ rest
  pub reached : steps st ats ≡ steps (with_item st (items.Def g)) left

head_is : (s t : Stmt) (ss ts : List Stmt) → s ∷ ss ≡ t ∷ ts → s ≡ t
head_is s t ss ts e = cc

tail_is : (s t : Stmt) (ss ts : List Stmt) → s ∷ ss ≡ t ∷ ts → ss ≡ ts
tail_is s t ss ts e = cc

-- a statement within a group
within_is : (st : State) (o : Open) (a : At) (s : Stmt) → st.group ≡ Some o → a.stmt ≡ s → step st a ≡ step_within st o s
within_is st o a s eg es = ap (λ g. step_by st g a.line a.stmt) eg ∙ ap (step_within st o) es

closes : (ps : List Part) (ats : List At) (st : State) (o : Open) (rest : List Stmt) → st.group ≡ Some o → InOrder o.next ps → stmts ats ≡ (map part ps ++ (end ∷ [])) ++ rest → Closes st (with_parts o.group ps) ats rest
closes [] [] st o rest eg h e = absurd cc
closes (p ∷ ps) [] st o rest eg h e = absurd cc
closes [] (a ∷ ats) st o rest eg h e = record {
  left = ats;
  left_is = tail_is a.stmt end (stmts ats) rest e;
  reached = ap (λ x. goes a.line x (λ t. steps t ats)) (within_is st o a end eg (head_is a.stmt end (stmts ats) rest e));
}
closes (p ∷ ps) (a ∷ ats) st o rest eg h e =
    let next : Open = record { line = o.line; group = with_part o.group p; next = rank p + 1 } in
    let moved : State = record { done = st.done; group = Some next; filed = st.filed } in
    let more : List Stmt = (map part ps ++ (end ∷ [])) ++ rest in
    let here : step st a ≡ Some moved = within_is st o a (part p) eg (head_is a.stmt (part p) (stmts ats) more e) ∙ ap (λ b. cond b (Some moved) None) (le-leb o.next (rank p) h.0) in
    let behind = closes ps ats moved next rest refl h.1 (tail_is a.stmt (part p) (stmts ats) more e) in
    record { left = behind.left; left_is = behind.left_is; reached = ap (λ x. goes a.line x (λ t. steps t ats)) here ∙ behind.reached }

-- ---- a text

-- a statement outside groups
outside_is : (st : State) (a : At) (s : Stmt) → st.group ≡ None → a.stmt ≡ s → step st a ≡ step_by st None a.line s
outside_is st a s eg es = ap (λ g. step_by st g a.line a.stmt) eg ∙ ap (step_by st None a.line) es

pub text_steps : (bs : List Block) (ats : List At) (st : State) → stmts ats ≡ flat_map block_stmts bs → AreInOrder bs → st.group ≡ None → files (map block_item bs) + most st.filed ≤ 1 → steps st ats ≡ Ok (behind_blocks st bs)
text_steps [] [] st e h eg room = refl
text_steps [] (a ∷ ats) st e h eg room = absurd cc
text_steps (single i ∷ bs) [] st e h eg room = absurd cc
text_steps (group k ps ∷ bs) [] st e h eg room = absurd cc
text_steps (single i ∷ bs) (a ∷ ats) st e h eg room =
    let one : files_in i + most st.filed ≤ 1 = omega arith in
    let here : step st a ≡ Some (with_item st i) = outside_is st a (item i) eg (head_is a.stmt (item i) (stmts ats) (flat_map block_stmts bs) e) ∙ item_stands st i one in
    ap (λ x. goes a.line x (λ t. steps t ats)) here
    ∙ text_steps bs ats (with_item st i) (tail_is a.stmt (item i) (stmts ats) (flat_map block_stmts bs) e) h refl (room_behind st i (files (map block_item bs)) room)
text_steps (group k ps ∷ bs) (a ∷ ats) st e h eg room =
    let o : Open = record { line = a.line; group = empty_group k; next = 0 } in
    let st1 : State = record { done = st.done; group = Some o; filed = st.filed } in
    let rest : List Stmt = flat_map block_stmts bs in
    let here : step st a ≡ Some st1 = outside_is st a (begin k) eg (head_is a.stmt (begin k) (stmts ats) ((map part ps ++ (end ∷ [])) ++ rest) e) in
    let closed = closes ps ats st1 o rest refl h.0 (tail_is a.stmt (begin k) (stmts ats) ((map part ps ++ (end ∷ [])) ++ rest) e) in
    let g : Item = items.Def (with_parts (empty_group k) ps) in
    ap (λ x. goes a.line x (λ t. steps t ats)) here
    ∙ closed.reached
    ∙ text_steps bs closed.left (with_item st g) closed.left_is h.1 refl (room_behind st g (files (map block_item bs)) room)

-- the state behind a text has its items, and no group is open
pub behind_done : (bs : List Block) (st : State) → (behind_blocks st bs).done ≡ st.done ++ map block_item bs
behind_done [] st = sym (Rattle.std.proofs.lemmas.List.append-nil st.done)
behind_done (b ∷ bs) st = behind_done bs (with_item st (block_item b)) ∙ append_assoc st.done (block_item b ∷ []) (map block_item bs)

pub behind_closed : (bs : List Block) (st : State) → st.group ≡ None → (behind_blocks st bs).group ≡ None
behind_closed [] st e = e
behind_closed (b ∷ bs) st e = behind_closed bs (with_item st (block_item b)) refl
