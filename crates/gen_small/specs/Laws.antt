-- The laws of the small form's code.
use Rattle.std.specs.Prelude.{ℕ, suc, ◌≡◌, ◌+◌, ◌-◌, ◌*◌, ◌<◌, ◌≤◌, List, [], ◌∷◌, ◌++◌, length, Some}
use Rattle.mach_mem.specs.Addresses.{text_start}
use Rattle.c_type.specs.declared.Kind.TheVariants.{Int}
use Rattle.c_type.specs.Types.{num}
use Rattle.mach_mem.specs.Space.{Space}
use Rattle.c_tree.specs.TExpr.{TExpr}
use Rattle.c_tree.specs.TStmt.{TStmts}
use Rattle.c_run.specs.State.{State, Made, Acts, Gave, Halt, acts_of, no_changes}
use Rattle.c_run.specs.Values.{Value, Ended, Stopped}
use Rattle.c_tree.specs.Bodies.{BodyAt, body_named}
use Rattle.c_tree.specs.Library.{main_name}
use Rattle.c_run.specs.Run.{first_state, call_main, run_linked}
use Rattle.c_run.specs.Context.{Linked}
use Rattle.c_run.specs.Exprs.{value}
use Rattle.c_run.specs.Stmts.{stmts}
use Rattle.c_run.specs.Calls.{rest}
use Rattle.mach_exec.specs.Process.{Goes, ran}
use Rattle.mach_exec.specs.Ends.{Exited, Reached}
use Rattle.gen_small.specs.Ghost.{M, process, Prog, Path}
use Rattle.gen_small.specs.Items.{Item, Layout, code_from, Stands}
use Rattle.gen_small.specs.Emitted.{emitted, end_of, Marked}
use Rattle.gen_small.specs.Code.{inside, expr_code, stmts_code, func_code, start_code, temps}
use Rattle.gen_small.specs.Small.{IsSmall, cost}
use Rattle.gen_small.specs.Agree.{Ghost, Agrees}
use Rattle.gen_small.specs.Reaches.{Reach, IsAt, Halted, Given, run_of}
use Rattle.gen_small.specs.Mains.{IsMain}
use Rattle.gen_small.specs.Flows.{Respects, Flowed, IsSmallStmts}

-- Where nothing is done at turns, the machine with its ghosts goes as the machine without them.
abbrev pub GhostsCanGo : Type 0
GhostsCanGo =
    (p : Prog) (m m' : M) (k : ℕ) → ((t : ℕ) (made : List Made) (mem : Space) → p.poke t made mem ≡ mem) →
    Path p k m m' → ran k (process m) ≡ Goes (process m')

-- The code of an expression of the small form, standing anywhere in function f within start k, gives its value from states
-- that agree, and states agree behind it; or the run goes no further there.
abbrev pub ExpressionsReach : Type 0
ExpressionsReach =
    (p : Prog) (l : Layout) (w : Linked) (stop : ℕ) (acts : Acts) (fuel most : ℕ) → most ≤ p.limit →
    (e : TExpr) → IsSmall e →
    (g : Ghost) (gs : List Ghost) (f k : ℕ) (s : State) (m : M) (a b : ℕ) → length g.temps + temps e ≤ 64 →
    Stands p l f k a (expr_code g.site e (length g.temps)) b → Agrees l w p.text s (g ∷ gs) m → IsAt s.chain f k → m.eip ≡ a →
    m.since + cost e ≤ most →
    Reach p (Halted p l w) m (value (inside g.site) (rest fuel (run_of stop acts w)).call e s) (Given p l w (g ∷ gs) f k s b (m.since + cost e) (num Int))

-- The code of statements of the small form, standing anywhere in its function, runs them from states that agree: turn by turn,
-- whatever is done at turns, with at most `most` instructions from one arrival to the next.
abbrev pub StatementsReach : Type 0
StatementsReach =
    (p : Prog) (l : Layout) (w : Linked) (stop : ℕ) (acts : Acts) (fuel most : ℕ) → most ≤ p.limit → 0 < p.limit → Respects p l w acts →
    (ss : TStmts) → IsSmallStmts most ss →
    (g : Ghost) (gs : List Ghost) (j i : ℕ) (s : State) (m : M) (a b : ℕ) → g.temps ≡ [] →
    Stands p l g.site.fun j a (stmts_code g.site ss) b → Agrees l w p.text s (g ∷ gs) m → IsAt s.chain g.site.fun i → m.eip ≡ a →
    m.since < most →
    Reach p (Halted p l w) m (stmts (run_of stop acts w) (rest fuel (run_of stop acts w)) (inside g.site) ss s) (Flowed p l w (g ∷ gs) g.site.fun b most)

-- The code of a main of the small form, behind the code that calls it, runs as the source machine does from a first state that
-- agrees: the run goes no further where the source machine's does, at a turn or at the exit with main's value.
abbrev pub MainsReach : Type 0
MainsReach =
    (p : Prog) (l : Layout) (w : Linked) (stop : ℕ) (acts : Acts) (fuel most : ℕ) → most ≤ p.limit → 16 ≤ most → Respects p l w acts →
    (f : ℕ) (b : BodyAt) → IsMain w most f b →
    (f0 k0 a0 z j a1 e : ℕ) (s : State) (m : M) →
    Stands p l f0 k0 a0 (start_code f) z → Stands p l f j a1 (func_code record { whole = w; fun = f; body = b }) e →
    Agrees l w p.text s [] m → m.eip ≡ a0 → m.since + 9 ≤ most →
    Reach p (Halted p l w) m (call_main (run_of stop acts w) fuel (Some f) s) (λ x s1 m1. ⊥)

-- Where the source machine ends with a status, the process exits with it and has its output, with at most `limit` instructions
-- for each turn and as many before the first one.
abbrev pub ExitsAlike : Type 0
ExitsAlike =
    (p : Prog) (l : Layout) (w : Linked) (most : ℕ) → most ≤ p.limit → 16 ≤ most →
    ((t : ℕ) (made : List Made) (mem : Space) → p.poke t made mem ≡ mem) →
    (f : ℕ) (b : BodyAt) → IsMain w most f b → body_named 0 w.bodies main_name ≡ Some f →
    (f0 k0 a0 z j a1 e stop fuel : ℕ) (input : List ℕ) (x : Value) (s : State) (m : M) →
    Stands p l f0 k0 a0 (start_code f) z → Stands p l f j a1 (func_code record { whole = w; fun = f; body = b }) e →
    first_state w input ≡ Gave x s → Agrees l w p.text s [] m → m.eip ≡ a0 → m.since ≡ 0 →
    (status : ℕ) (s1 : State) → run_linked w input (acts_of no_changes) stop fuel ≡ Halt (Ended status) s1 →
    Exited (process m) status s1.output (suc s1.turns * p.limit)

-- Where the source machine is stopped at a turn, the process comes to that turn with the same output: at least one instruction
-- for each turn before it, and at most `limit` for each turn. So the process of a run without end has no end, and its output
-- grows as the run's does.
abbrev pub StopsAlike : Type 0
StopsAlike =
    (p : Prog) (l : Layout) (w : Linked) (most : ℕ) → most ≤ p.limit → 16 ≤ most →
    ((t : ℕ) (made : List Made) (mem : Space) → p.poke t made mem ≡ mem) →
    (f : ℕ) (b : BodyAt) → IsMain w most f b → body_named 0 w.bodies main_name ≡ Some f →
    (f0 k0 a0 z j a1 e stop fuel : ℕ) (input : List ℕ) (x : Value) (s : State) (m : M) →
    Stands p l f0 k0 a0 (start_code f) z → Stands p l f j a1 (func_code record { whole = w; fun = f; body = b }) e →
    first_state w input ≡ Gave x s → Agrees l w p.text s [] m → m.eip ≡ a0 → m.since ≡ 0 → m.turns ≡ 0 →
    (s1 : State) → run_linked w input (acts_of no_changes) stop fuel ≡ Halt Stopped s1 →
    Reached (process m) s1.output (s1.turns - 1) (s1.turns * p.limit)

-- Code stands where its bytes are, if the layout knows its starts, labels and owners, and each of its instructions has an encoding.
abbrev pub BytesStand : Type 0
BytesStand =
    (p : Prog) (l : Layout) (f k : ℕ) (xs : List Item) (rest : List ℕ) (a : ℕ) → text_start ≤ a → end_of a xs < 4294967296 →
    code_from p.text a ≡ emitted l.label a xs ++ rest → Marked p l f k a xs → Stands p l f k a xs (end_of a xs)
