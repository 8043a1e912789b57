-- Where the machine is when an expression has its value, and where it is when a run goes no further.
use Rattle.std.specs.Prelude.{ℕ, ◌≡◌, ◌%◌, ◌<◌, ◌≤◌, ◌⊎◌, List, [], ◌∷◌, ◌++◌, true}
use Rattle.c_type.specs.Types.{CType, num, ptr, enum}
use Rattle.c_run.specs.Values.{Value, Fn, Putchar, suits, Stop, Stopped, NoFuel, Stack, Ended, Fault, Leaves, Ill}
use Rattle.c_run.specs.State.{State, Act, Made, Acts, Out, Gave, Halt}
use Rattle.c_run.specs.Context.{Linked}
use Rattle.c_run.specs.Exprs.{Arg, Call}
use Rattle.c_run.specs.Stmts.{Given as Run}
use Rattle.c_run.specs.Calls.{library, int_var, put_byte, first_number}
use Rattle.mach_exec.specs.Process.{Exits, Raises, advanced}
use Rattle.gen_small.specs.Ghost.{M, process, Prog, arrive, arrived, Path}
use Rattle.gen_small.specs.Items.{Layout}
use Rattle.gen_small.specs.Agree.{spell, IsVal, Ghost, Agree, Agrees}

-- the machine comes from one state to another
pub record Comes (p : Prog) (m m' : M) : Type 0 where
  pub steps : ℕ
  pub path : Path p steps m m'

-- from m the machine comes to where the outcome says
abbrev pub Reach : {A : Type 0} → Prog → (Stop → State → M → Type 0) → M → Out A → (A → State → M → Type 0) → Type 0
Reach p halted m (Gave a s) Q = (m' : M) × Comes p m m' × Q a s m'
Reach p halted m (Halt w s) Q = (m' : M) × Comes p m m' × halted w s m'

-- what stays through a run: the stop number, what is done at turns, the program
abbrev pub run_of : ℕ → Acts → Linked → Run
run_of stop acts w = record { stop = stop; acts = acts; whole = w }

-- what a call of putchar does: it has no fuel, or it is that of the library
abbrev pub PutsByte : Run → Call → Type 0
PutsByte r go = (a : Arg) (s : State) → (go (Fn Putchar) (a ∷ []) s ≡ Halt NoFuel s) ⊎ (go (Fn Putchar) (a ∷ []) s ≡ library r (int_var ∷ []) (a ∷ []) s (put_byte (first_number (a ∷ []) % 256)))

-- the latest activation is of function f, and its current start is k
abbrev pub IsAt : List Act → ℕ → ℕ → Type 0
IsAt [] f k = ⊥
IsAt (a ∷ rs) f k = (a.fun ≡ f) × (a.start ≡ k)

-- a scalar's value is one of its type
abbrev pub IsTyped : CType → Value → Type 0
IsTyped (num k) v = suits (num k) v ≡ true
IsTyped (enum k) v = suits (enum k) v ≡ true
IsTyped (ptr t) v = suits (ptr t) v ≡ true
IsTyped _ v = Unit {0}

module _ (p : Prog) (l : Layout) (w : Linked) where
  -- the start k of function f is about to begin, and states agree once it has
  pub record AtTurn (s : State) (m : M) : Type 0 where
    pub ghosts : List Ghost
    pub fun : ℕ
    pub start : ℕ
    pub here : IsAt s.chain fun start
    pub is_start : p.is_start m.eip ≡ true
    pub eip_is : l.start fun start ≡ m.eip
    pub agree : Agrees l w p.text s ghosts (arrive p true m)

  -- the next instruction is the exit with that status
  pub record AtEnd (status : ℕ) (s : State) (m : M) : Type 0 where
    pub exits : advanced (process (arrived p m)) ≡ Exits status
    pub within : m.since < p.limit
    pub output_is : m.output ≡ s.output
    pub turns_is : m.turns ≡ s.turns

  -- the next instruction raises that signal, in the code of the current start; states agree but for esp
  pub record AtFault (signal : ℕ) (s : State) (m : M) : Type 0 where
    pub ghosts : List Ghost
    pub fun : ℕ
    pub start : ℕ
    pub here : IsAt s.chain fun start
    pub owner_is : l.owner m.eip ≡ (fun, start)
    pub raises : advanced (process (arrived p m)) ≡ Raises signal
    pub within : (arrived p m).since < p.limit
    pub esp : ℕ
    pub agree : Agree l w p.text s ghosts m.regs.ebp esp m.mem m.input m.output m.turns m.made

  -- where the machine is when a run goes no further; nothing is said where defined C or the stack ends
  abbrev pub Halted : Stop → State → M → Type 0
  Halted Stopped s m = AtTurn s m
  Halted NoFuel s m = Unit {0}
  Halted Stack s m = Unit {0}
  Halted (Ended status) s m = AtEnd status s m
  Halted (Fault signal) s m = AtFault signal s m
  Halted (Leaves rule) s m = Unit {0}
  Halted Ill s m = Unit {0}

  -- The value is in eax and of type `ty`, and the machine is at b. The frames are what they were, and since the last arrival at most t
  -- instructions were executed.
  pub record Given (gs : List Ghost) (f k : ℕ) (s : State) (b t : ℕ) (ty : CType) (v : Value) (s' : State) (m' : M) : Type 0 where
    pub agree : Agrees l w p.text s' gs m'
    pub here : IsAt s'.chain f k
    pub eip_is : m'.eip ≡ b
    pub eax_is : m'.regs.eax ≡ spell l w s'.made v
    pub typed : IsTyped ty v
    pub ok : IsVal l w s'.made v
    pub more : List Made
    pub grows : s'.made ≡ s.made ++ more
    pub soon : m'.since ≤ t
