-- Laws of the runs of checked programs.
use Rattle.std.specs.Prelude.{◌≡◌, ℕ, List, [], ◌∷◌, true, false}
use Rattle.std.specs.List.{AllZip}
use Rattle.c_tree.specs.TreeUnit as u
use Rattle.c_tree.specs.TUnit.{TypedUnit, Program}
use Rattle.c_run.specs.Values.{Stop}
use Rattle.c_run.specs.State.{State, Halt, Changes, no_changes}
use Rattle.c_run.specs.Context.{linked}
use Rattle.c_run.specs.Run.{run}
use Rattle.c_run.specs.Numbers.{IsNumbered}
use Rattle.c_rule.specs.RuleUnit.{IsTyped}
use Rattle.c_join.specs.JoinChecks.{IsJoined}
use Rattle.c_sound.specs.HasType.{AreBytes}
use Rattle.c_sound.specs.Program.{SuitsProgram, IsNamed}
use Rattle.c_sound.specs.Unit.{SuitsUnit}

-- a program that suits never ends by rule 0
abbrev pub SuitedRunsAreNamed : Type 0
SuitedRunsAreNamed =
    (p : Program) (input : List ℕ) (ch : Changes) (n : ℕ) (why : Stop) (s : State) →
    SuitsProgram (linked p) → AreBytes input → run p input ch n ≡ Halt why s → IsNamed true why

-- and where nothing is changed it ends as the language names
abbrev pub PlainRunsAreNamed : Type 0
PlainRunsAreNamed =
    (p : Program) (input : List ℕ) (n : ℕ) (why : Stop) (s : State) →
    SuitsProgram (linked p) → AreBytes input → run p input no_changes n ≡ Halt why s → IsNamed false why

-- the numbers in a typed unit are in textual order
abbrev pub TypedIsNumbered : Type 0
TypedIsNumbered = (y : u.Unit) (x : TypedUnit) → IsTyped y x → IsNumbered x

-- what is typed suits
abbrev pub TypedSuits : Type 0
TypedSuits = (y : u.Unit) (x : TypedUnit) → IsTyped y x → SuitsUnit x

abbrev pub AllSuit : List TypedUnit → Type 0
AllSuit [] = Unit {0}
AllSuit (x ∷ xs) = SuitsUnit x × AllSuit xs

-- and so does a program that the join makes of such units
abbrev pub JoinedSuits : Type 0
JoinedSuits = (us : List TypedUnit) (p : Program) → AllSuit us → IsJoined true us p → SuitsProgram (linked p)

-- So a run of what the typing rules and the join accept never ends by rule 0, whatever is changed at its turns.
abbrev pub CheckedRunsAreNamed : Type 0
CheckedRunsAreNamed =
    (ys : List u.Unit) (p : Program) (input : List ℕ) (ch : Changes) (n : ℕ) (why : Stop) (s : State) →
    AllZip IsTyped ys p.units → IsJoined true p.units p → AreBytes input → run p input ch n ≡ Halt why s → IsNamed true why

-- and where nothing is changed it ends as the language names
abbrev pub CheckedRunsEnd : Type 0
CheckedRunsEnd =
    (ys : List u.Unit) (p : Program) (input : List ℕ) (n : ℕ) (why : Stop) (s : State) →
    AllZip IsTyped ys p.units → IsJoined true p.units p → AreBytes input → run p input no_changes n ≡ Halt why s → IsNamed false why
