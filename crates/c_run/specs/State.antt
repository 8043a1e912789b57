-- The state, outcomes, turns.
-- It states docs/LANGUAGE.md, section Evaluation.
use Rattle.std.specs.Prelude.{ℕ, suc, List, [], ◌∷◌, Option, Some, None, Bool, true, false, nat_eq, nat_lt, ◌&&◌, ◌||◌, slice_get, slice_set}
use Rattle.c_type.specs.Names.{pick}
use Rattle.c_type.specs.Types.{CType, same_type}
use Rattle.c_run.specs.Values.{Object, Static, Local, Value, Num, Null, To, Fn, same_value, suits, Stop, Stopped, Ill}

-- A cell with its value. Its type has the program's numbers for tags.
pub record Slot : Type 0 where
  pub off : ℕ
  pub ty : CType
  pub val : Value

-- an object's size and cells
pub record Thing : Type 0 where
  pub size : ℕ
  pub slots : List Slot

-- an activation; start is its current start, and the parameters come first among its objects
pub record Act : Type 0 where
  pub serial : ℕ
  pub fun : ℕ
  pub start : ℕ
  pub things : List Thing

-- what is kept of every activation ever made, by its serial
pub record Made : Type 0 where
  pub fun : ℕ
  pub base : ℕ

-- turns: how many have begun
pub record State : Type 0 where
  pub chain : List Act
  pub made : List Made
  pub statics : List Thing
  pub input : List ℕ
  pub output : List ℕ
  pub turns : ℕ

-- an outcome with its state: a value, or why the run ends there
pub data Out (A : Type 0) : Type 0 where
  Gave : (a : A) (s : State) → Out A
  Halt : (why : Stop) (s : State) → Out A

-- what follows where a value came
abbrev pub bind : {A B : Type 0} → Out A → (A → State → Out B) → Out B
bind (Gave a s) go = go a s
bind (Halt w s) go = Halt w s

-- one of two ways to go on
abbrev pub choose : {A : Type 0} → Bool → State → (State → Out A) → (State → Out A) → Out A
choose true s a b = a s
choose false s a b = b s

-- how a statement ends
pub data Flow : Type 0 where
  Next : Flow
  Broke : Flow
  Continued : Flow
  Returned : (v : Option Value) → Flow

-- whether a cell has that type and offset
abbrev pub slot_is : CType → ℕ → Slot → Bool
slot_is t a c = nat_eq c.off a && same_type c.ty t

-- the value of the cell of that type at that offset
abbrev pub read_slot : CType → ℕ → List Slot → Option Value
read_slot t a [] = None
read_slot t a (c ∷ cs) = pick (slot_is t a c) (Some c.val) (read_slot t a cs)

-- the cell of that type at that offset with a new value
abbrev pub write_slot : CType → ℕ → Value → List Slot → List Slot
write_slot t a v [] = []
write_slot t a v (c ∷ cs) = pick (slot_is t a c) (record c { val = v } ∷ cs) (c ∷ write_slot t a v cs)

-- the type of the cell that begins at an offset
abbrev pub type_at : ℕ → List Slot → Option CType
type_at a [] = None
type_at a (c ∷ cs) = pick (nat_eq c.off a) (Some c.ty) (type_at a cs)

-- object i of the activation with that serial
abbrev pub in_chain : List Act → ℕ → ℕ → Option Thing
in_chain [] serial i = None
in_chain (a ∷ rs) serial i = pick (nat_eq a.serial serial) (slice_get a.things i) (in_chain rs serial i)

-- a live object
abbrev pub thing : State → Object → Option Thing
thing s (Static k) = slice_get s.statics k
thing s (Local serial i) = in_chain s.chain serial i

-- an object's cells anew
abbrev pub set_chain : List Act → ℕ → ℕ → Thing → List Act
set_chain [] serial i x = []
set_chain (a ∷ rs) serial i x = pick (nat_eq a.serial serial) (record a { things = slice_set a.things i x } ∷ rs) (a ∷ set_chain rs serial i x)

-- a live object anew
abbrev pub set_thing : State → Object → Thing → State
set_thing s (Static k) x = record s { statics = slice_set s.statics k x }
set_thing s (Local serial i) x = record s { chain = set_chain s.chain serial i x }

-- an object with one cell written
abbrev pub put_cell : State → Object → Thing → CType → ℕ → Value → State
put_cell s o x t a v = set_thing s o (record x { slots = write_slot t a v x.slots })

-- the serial of the latest activation
abbrev pub current : List Act → ℕ
current [] = 0
current (a ∷ rs) = a.serial

-- the latest activation with a new current start
abbrev pub at_start : ℕ → List Act → List Act
at_start k [] = []
at_start k (a ∷ rs) = record a { start = k } ∷ rs

-- the start k of the latest activation has begun
abbrev pub begun : ℕ → State → State
begun k s = record s { chain = at_start k s.chain; turns = suc s.turns }

-- what the debugger writes at a turn
pub record Change : Type 0 where
  pub object : Object
  pub off : ℕ
  pub value : Value

-- the changes of each turn, in their order
abbrev pub Changes : Type 0
Changes = ℕ → List Change

-- no change at any turn
abbrev pub no_changes : Changes
no_changes t = []

-- whether a cell of the list has that type and value
abbrev pub holds_slot : CType → Value → List Slot → Bool
holds_slot t v [] = false
holds_slot t v (c ∷ cs) = (same_type c.ty t && same_value c.val v) || holds_slot t v cs

-- the same of the cells of objects
abbrev pub holds_thing : CType → Value → List Thing → Bool
holds_thing t v [] = false
holds_thing t v (x ∷ xs) = holds_slot t v x.slots || holds_thing t v xs

-- the same of the objects of activations
abbrev pub holds_act : CType → Value → List Act → Bool
holds_act t v [] = false
holds_act t v (a ∷ rs) = holds_thing t v a.things || holds_act t v rs

-- whether a live cell of that type has that value
abbrev pub is_held : State → CType → Value → Bool
is_held s t v = holds_thing t v s.statics || holds_act t v s.chain

-- Whether a change may give a cell of that type the value: each value that an assignment gives is among these. A number
-- is one within the type, and a pointer is null or the value of a live cell of that type. Types of two units are one
-- type here where their tags agree.
abbrev pub is_given : State → CType → Value → Bool
is_given s t (Num n) = suits t (Num n)
is_given s t Null = suits t Null
is_given s t (To o a) = suits t (To o a) && is_held s t (To o a)
is_given s t (Fn f) = suits t (Fn f) && is_held s t (Fn f)

-- the changed state where the value is one that may be given
abbrev pub written : Bool → State → State → Out (Unit {0})
written true s s1 = Gave tt s1
written false s s1 = Halt Ill s

-- a change of a cell that is there or not
abbrev pub change_cell : Option CType → Thing → Change → State → Out (Unit {0})
change_cell None x c s = Halt Ill s
change_cell (Some t) x c s = written (is_given s t c.value) s (put_cell s c.object x t c.off c.value)

-- a change in an object that is live or not
abbrev pub change_thing : Option Thing → Change → State → Out (Unit {0})
change_thing None c s = Halt Ill s
change_thing (Some x) c s = change_cell (type_at c.off x.slots) x c s

-- Ill where a change names no cell of a live object, or a value that no assignment gives it
abbrev pub apply : List Change → State → Out (Unit {0})
apply [] s = Gave tt s
apply (c ∷ cs) s = bind (change_thing (thing s c.object) c s) (λ u s1. apply cs s1)

-- goes on, or stops
abbrev pub stop_if : {A : Type 0} → Bool → State → (State → Out A) → Out A
stop_if true s go = go s
stop_if false s go = Halt Stopped s

-- what is done at each turn
abbrev pub Acts : Type 0
Acts = ℕ → State → Out (Unit {0})

-- a list of changes as what is done at each turn
abbrev pub acts_of : Changes → Acts
acts_of ch t s = apply (ch t) s

-- One turn: the start k of the latest activation begins, what is done at this turn is done, and at turn n evaluation stops.
abbrev pub begin : {A : Type 0} → ℕ → Acts → ℕ → State → (State → Out A) → Out A
begin n act k s go = bind (act (suc s.turns) (begun k s)) (λ u s1. stop_if (nat_lt (suc s.turns) n) s1 go)
