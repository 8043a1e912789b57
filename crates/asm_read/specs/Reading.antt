-- A text read from its first line to its last.
use Rattle.std.specs.Prelude.{ℕ, ◌+◌, List, [], ◌∷◌, ◌++◌, map, take, pos, Bool, true, false, ◌==◌, nat_le, if◌then◌else◌, Option, Some, None, Result, Ok, Err}
use Rattle.std.specs.List.{slice_split}
use Rattle.asm_item.specs.declared.model.Val.TheVariants as values
use Rattle.asm_item.specs.declared.model.DefGroup.{DefGroup}
use Rattle.asm_item.specs.declared.model.Item.{Item}
use Rattle.asm_item.specs.declared.model.Item.TheVariants as items
use Rattle.asm_item.specs.Groups.{Part, val, scl, ty, tag, line, size, dims}
use Rattle.asm_read.specs.Lex.{lex}
use Rattle.asm_read.specs.Stmts.{Stmt, item, begin, part, end, wrong, stmts_of}

-- a label or statement, and its line
pub record At : Type 0 where
  pub line : ℕ
  pub stmt : Stmt

abbrev pub at_line : ℕ → List Stmt → List At
at_line n ss = map (λ s. record { line = n; stmt = s }) ss

abbrev pub from_line : ℕ → List (List ℕ) → List At
from_line n [] = []
from_line n (l ∷ ls) = at_line n (stmts_of (lex l)) ++ from_line (n + 1) ls

abbrev pub lines_of : List ℕ → List (List ℕ)
lines_of bytes = slice_split (λ b. b == 10) bytes

-- the labels and statements of a text
abbrev pub text_stmts : List ℕ → List At
text_stmts bytes = from_line 1 (lines_of bytes)

-- ---- groups

-- the place of a part in a group
abbrev pub rank : Part → ℕ
rank (val v) = 0
rank (scl z) = 1
rank (ty n) = 2
rank (tag k) = 3
rank (line n) = 4
rank (size n) = 5
rank (dims ns) = 6

-- a group that says nothing yet
abbrev pub empty_group : List ℕ → DefGroup
empty_group k = record { name = k; val = values.Number 0; scl = pos 0; ty = 0; tag = None; line = 0; size = 0; dims = 0 ∷ (0 ∷ (0 ∷ (0 ∷ []))) }

abbrev pub four : List ℕ → List ℕ
four ns = take 4 (ns ++ (0 ∷ (0 ∷ (0 ∷ (0 ∷ [])))))

abbrev pub with_part : DefGroup → Part → DefGroup
with_part g (val v) = record g { val = v }
with_part g (scl z) = record g { scl = z }
with_part g (ty n) = record g { ty = n }
with_part g (tag k) = record g { tag = Some k }
with_part g (line n) = record g { line = n }
with_part g (size n) = record g { size = n }
with_part g (dims ns) = record g { dims = four ns }

-- ---- going from statement to statement

-- a group that isn't closed yet: its line, what it says, and the rank from which parts may follow
pub record Open : Type 0 where
  pub line : ℕ
  pub group : DefGroup
  pub next : ℕ

pub record State : Type 0 where
  pub done : List Item
  pub group : Option Open
  pub filed : Bool

abbrev pub start : State
start = record { done = []; group = None; filed = false }

abbrev pub is_file : Item → Bool
is_file (items.File k) = true
is_file i = false

-- one more item outside groups
abbrev pub with_item : State → Item → State
with_item st i = record { done = st.done ++ (i ∷ []); group = None; filed = if is_file i then true else st.filed }

abbrev pub item_step : State → Item → Option State
item_step st i = if is_file i then (if st.filed then None else Some (with_item st i)) else Some (with_item st i)

abbrev pub part_step : State → Open → Part → Option State
part_step st o p =
    if nat_le o.next (rank p) then Some (record st { group = Some record { line = o.line; group = with_part o.group p; next = rank p + 1 } }) else None

abbrev pub step_outside : State → ℕ → Stmt → Option State
step_outside st n (item i) = item_step st i
step_outside st n (begin k) = Some (record st { group = Some record { line = n; group = empty_group k; next = 0 } })
step_outside st n (part p) = None
step_outside st n end = None
step_outside st n wrong = None

abbrev pub step_within : State → Open → Stmt → Option State
step_within st o (item i) = None
step_within st o (begin k) = None
step_within st o (part p) = part_step st o p
step_within st o end = Some (with_item st (items.Def o.group))
step_within st o wrong = None

abbrev pub step_by : State → Option Open → ℕ → Stmt → Option State
step_by st None n s = step_outside st n s
step_by st (Some o) n s = step_within st o s

-- the state after a statement that can stand there
abbrev pub step : State → At → Option State
step st s = step_by st st.group s.line s.stmt

abbrev pub goes : ℕ → Option State → (State → Result State ℕ) → Result State ℕ
goes n None f = Err n
goes n (Some st) f = f st

-- the state after these statements, or the line of the first that can't stand there
abbrev pub steps : State → List At → Result State ℕ
steps st [] = Ok st
steps st (s ∷ ss) = goes s.line (step st s) (λ t. steps t ss)

abbrev pub finish_by : List Item → Option Open → Result (List Item) ℕ
finish_by done None = Ok done
finish_by done (Some o) = Err o.line

-- at the end no group is open
abbrev pub finish : Result State ℕ → Result (List Item) ℕ
finish (Ok st) = finish_by st.done st.group
finish (Err n) = Err n

-- the items of a text, or the line where it leaves the grammar
abbrev pub reading : List ℕ → Result (List Item) ℕ
reading bytes = finish (steps start (text_stmts bytes))
