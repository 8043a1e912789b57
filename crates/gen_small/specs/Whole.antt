-- A whole program of the small form: its bytes, and how it runs.
use Rattle.std.specs.Prelude.{ℕ, suc, ◌≡◌, ◌+◌, ◌-◌, ◌*◌, ◌≤◌, List, [], ◌∷◌, ◌++◌, length, slice_get, Some, None, if◌then◌else◌}
use Rattle.c_type.specs.declared.Kind.TheVariants.{Int}
use Rattle.c_type.specs.Types.{num}
use Rattle.mach_mem.specs.Addresses.{text_start}
use Rattle.mach_mem.specs.Space.{Space, IsInitial}
use Rattle.c_tree.specs.TStmt.{locals}
use Rattle.c_tree.specs.TUnit.{Func}
use Rattle.c_tree.specs.Starts.{starts_func}
use Rattle.c_tree.specs.Bodies.{BodyAt, autos, body_named}
use Rattle.c_run.specs.Context.{Linked}
use Rattle.c_run.specs.Values.{Ended, Stopped}
use Rattle.c_run.specs.State.{State, Halt, acts_of, no_changes}
use Rattle.c_tree.specs.Library.{main_name}
use Rattle.c_run.specs.Run.{run_linked}
use Rattle.mach_exec.specs.Started.{started}
use Rattle.gen_small.specs.Ghost.{Prog}
use Rattle.gen_small.specs.Items.{Name, Item, Layout}
use Rattle.gen_small.specs.Emitted.{emitted}
use Rattle.gen_small.specs.Code.{func_code, start_code}
use Rattle.gen_small.specs.Mains.{AllInt, AllPlain}
use Rattle.gen_small.specs.Forms.{IsFormStmts, IsNumbered, stmts_weight}
use Rattle.gen_small.specs.Laid.{is_label, is_start, address, item_at, begins, opens, owning}
use Rattle.mach_exec.specs.Ends.{Exited, Reached}

-- main is called and its value is the status; behind that stands main, function f
abbrev pub whole_code : Linked → ℕ → BodyAt → List Item
whole_code w f b = start_code f ++ func_code record { whole = w; fun = f; body = b }

-- where a label stands in code
abbrev pub label_in : List Item → Name → ℕ
label_in xs n = address (is_label n) text_start xs

-- the bytes of code from the first address on
abbrev pub laid : List Item → List ℕ
laid xs = emitted (label_in xs) text_start xs

-- the bytes of .text
unfoldable pub text_of : Linked → ℕ → BodyAt → List ℕ
text_of w f b = laid (whole_code w f b)

-- the labels, the starts and the owners of the code of function f
abbrev pub layout_of : ℕ → List Item → Layout
layout_of f xs =
    record { label = label_in xs; start = λ g k. address (is_start k) text_start xs; owner = λ at. (f, owning 0 at text_start xs) }

-- its program, at whose turns nothing is done
abbrev pub program_of : ℕ → ℕ → List Item → Prog
program_of limit f xs =
    record {
      text = laid xs;
      is_start = λ at. begins (item_at at text_start xs);
      opens = λ at. if opens (item_at at text_start xs) then Some f else None;
      poke = λ turns made mem. mem;
      limit = limit;
    }

-- A function body that can be main in the small form: no parameters, automatic objects of type int without initialisers, at
-- most as many as words in the stack, statements of the form, each start numbered by its place.
pub record IsFormMain (g : Func) : Type 0 where
  pub params_none : g.params ≡ []
  pub result_is : g.result ≡ num Int
  pub ints : AllInt (autos g)
  pub plain : AllPlain (locals g.locals)
  pub few : length (autos g) ≤ 1048576
  pub small : IsFormStmts (length (autos g)) g.stmts
  pub short : stmts_weight g.stmts ≤ 131072
  pub numbered : IsNumbered g.open_ (starts_func g)

-- a program whose main is its body f and of the small form, without objects of static life
pub record IsSmallProgram (w : Linked) (f : ℕ) (b : BodyAt) : Type 0 where
  pub body_is : slice_get w.bodies f ≡ Some b
  pub named : body_named 0 w.bodies main_name ≡ Some f
  pub no_statics : w.lasting ≡ []
  pub main : IsFormMain b.func

-- Where the run ends with a status, the process exits with it and has the run's output, with at most `limit` instructions
-- for each turn and as many before the first one.
abbrev pub WholeEnds : Type 0
WholeEnds =
    (w : Linked) (f limit : ℕ) (b : BodyAt) → IsSmallProgram w f b → 10 * stmts_weight b.func.stmts + 16 ≤ limit →
    (mem : Space) → IsInitial mem (text_of w f b) [] 0 → (input : List ℕ) (stop fuel status : ℕ) (s : State) →
    run_linked w input (acts_of no_changes) stop fuel ≡ Halt (Ended status) s →
    Exited (started mem input) status s.output (suc s.turns * limit)

-- Where the run is stopped at a turn, the process comes to that turn with the run's output: behind at least one instruction for
-- each turn before it, and at most `limit` for each turn.
abbrev pub WholeStops : Type 0
WholeStops =
    (w : Linked) (f limit : ℕ) (b : BodyAt) → IsSmallProgram w f b → 10 * stmts_weight b.func.stmts + 16 ≤ limit →
    (mem : Space) → IsInitial mem (text_of w f b) [] 0 → (input : List ℕ) (stop fuel : ℕ) (s : State) →
    run_linked w input (acts_of no_changes) stop fuel ≡ Halt Stopped s →
    Reached (started mem input) s.output (s.turns - 1) (s.turns * limit)
