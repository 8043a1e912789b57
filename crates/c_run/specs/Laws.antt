-- Laws of Run. A program, an input and changes are fixed; n and m are stop numbers.
use Rattle.std.specs.Prelude.{◌≡◌, ℕ, ◌<◌, ◌≤◌, List}
use Rattle.c_tree.specs.TUnit.{Program}
use Rattle.c_run.specs.Values.{Value, Stop, Stopped, NoFuel}
use Rattle.c_run.specs.State.{State, Gave, Halt, Changes}
use Rattle.c_run.specs.Run.{run}

-- n is fuel enough for the stop number n
abbrev pub HasFuel : Type 0
HasFuel = (p : Program) (input : List ℕ) (ch : Changes) (n : ℕ) (s : State) → 0 < n → run p input ch n ≡ Halt NoFuel s → ⊥

-- each run ends, or is stopped
abbrev pub Halts : Type 0
Halts = (p : Program) (input : List ℕ) (ch : Changes) (n : ℕ) (v : Value) (s : State) → run p input ch n ≡ Gave v s → ⊥

-- a run that is stopped at n has begun n turns
abbrev pub StopsAt : Type 0
StopsAt = (p : Program) (input : List ℕ) (ch : Changes) (n : ℕ) (s : State) → 0 < n → run p input ch n ≡ Halt Stopped s → s.turns ≡ n

-- a later stop number changes no outcome but Stopped
abbrev pub EndsAlike : Type 0
EndsAlike =
    (p : Program) (input : List ℕ) (ch : Changes) (n m : ℕ) (why : Stop) (s : State) →
    0 < n → n ≤ m → (why ≡ Stopped → ⊥) → run p input ch n ≡ Halt why s → run p input ch m ≡ Halt why s
