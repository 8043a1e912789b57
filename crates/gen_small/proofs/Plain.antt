-- Runs at whose turns nothing is done, and how many instructions they take.
use Rattle.std.proofs.Common.{◌≡◌, ℕ, zero, suc, ◌+◌, ◌-◌, ◌*◌, ◌<◌, ◌≤◌, List, [], Bool, true, false, Some, sym, ap, ◌∙◌, subst, arith}
use Rattle.mach_mem.specs.Space.{Space}
use Rattle.c_run.specs.Values.{Value, Ended, Stopped}
use Rattle.c_run.specs.State.{State, Made, Out, Gave, Halt, bind, acts_of, no_changes}
use Rattle.c_run.specs.Context.{Linked}
use Rattle.c_tree.specs.Bodies.{BodyAt, body_named}
use Rattle.c_tree.specs.Library.{main_name}
use Rattle.c_run.specs.Run.{first_state, call_main, run_linked}
use Rattle.mach_exec.specs.Process.{advanced}
use Rattle.gen_small.specs.Ghost.{M, process, Prog, arrive, Moves, Path}
use Rattle.gen_small.specs.Items.{Layout, Stands}
use Rattle.gen_small.specs.Reaches.{Comes, Reach, AtTurn, AtEnd, Halted, run_of}
use Rattle.gen_small.specs.Code.{start_code, func_code}
use Rattle.gen_small.specs.Mains.{IsMain}
use Rattle.gen_small.specs.Flows.{Respects}
use Rattle.gen_small.specs.Agree.{Agree, Agrees}
use Rattle.mach_exec.specs.Ends.{Exited, Reached}
use Rattle.gen_small.specs.Laws.{ExitsAlike, StopsAlike}
use Rattle.gen_small.proofs.Reach.{without_ghosts, unpoked}
use Rattle.gen_small.proofs.MainRuns.{main_runs}

-- doing nothing takes states that agree to states that agree
quiet_respects : (p : Prog) (l : Layout) (w : Linked) → ((t : ℕ) (made : List Made) (mem : Space) → p.poke t made mem ≡ mem) → Respects p l w (acts_of no_changes)
quiet_respects p l w none f k s gs ebp esp mem input output turns made ag here =
    (subst (λ z. Agree l w p.text s gs ebp esp z input output turns made) (sym (none turns made mem)) ag, here)

-- an instruction counts one, or begins a count
record Counted (p : Prog) (m m' : M) : Type 0 where
  more : ℕ
  turns_is : m'.turns ≡ m.turns + more
  count : m.since + 1 ≤ more * p.limit + m'.since
  under : m'.since ≤ p.limit

move_counted : (p : Prog) (m m' : M) → m.since ≤ p.limit → Moves p m m' → Counted p m m'
move_counted p m m' le e = cases (p.is_start m.eip) e.within e.turns e.since
  where
    cases : (b : Bool) → (arrive p b m).since < p.limit → m'.turns ≡ (arrive p b m).turns → m'.since ≡ suc (arrive p b m).since → Counted p m m'
    cases true within turns since = record { more = 1; turns_is = turns ∙ omega arith; count = omega arith; under = omega arith }
    cases false within turns since = record { more = 0; turns_is = turns ∙ omega arith; count = omega arith; under = omega arith }

-- as many instructions as the turns begun allow
pub path_counted : (p : Prog) (k : ℕ) (m m' : M) → m.since ≤ p.limit → Path p k m m' → (t : ℕ) × (m'.turns ≡ m.turns + t) × (k + m.since ≤ t * p.limit + m'.since) × (m'.since ≤ p.limit)
path_counted p zero m m' le e =
    let turns : m'.turns ≡ m.turns = ap (λ (x : M). x.turns) (sym e) in
    let since : m'.since ≡ m.since = ap (λ (x : M). x.since) (sym e) in
    (0, turns ∙ omega arith, omega arith, omega arith)
path_counted p (suc k) m m' le h =
    let c = move_counted p m h.0 le h.1 in
    let r = path_counted p k h.0 m' c.under h.2 in
    let split : (c.more + r.0) * p.limit ≡ c.more * p.limit + r.0 * p.limit = omega arith in
    let one = c.count in
    (c.more + r.0, omega (arith, r.1, c.turns_is), omega arith, r.3)

mono : (a b c : ℕ) → a ≤ b → a * c ≤ b * c
mono a b c le = grind arith

bounded : (c t turns limit since before : ℕ) → c + before ≤ t * limit + since → since < limit → t ≤ turns → suc c ≤ suc turns * limit
bounded c t turns limit since before count under le = let more = mono t turns limit le in omega arith

fewer : (after before t turns : ℕ) → after ≡ before + t → after ≡ turns → t ≤ turns
fewer after before t turns e1 e2 = omega arith

-- what a run from the first state does on the machine
from_first : (p : Prog) (l : Layout) (w : Linked) (most : ℕ) → most ≤ p.limit → 16 ≤ most → ((t : ℕ) (made : List Made) (mem : Space) → p.poke t made mem ≡ mem) → (f : ℕ) (b : BodyAt) → IsMain w most f b → body_named 0 w.bodies main_name ≡ Some f → (f0 k0 a0 z j a1 e stop fuel : ℕ) (input : List ℕ) (x : Value) (s : State) (m : M) → Stands p l f0 k0 a0 (start_code f) z → Stands p l f j a1 (func_code record { whole = w; fun = f; body = b }) e → first_state w input ≡ Gave x s → Agrees l w p.text s [] m → m.eip ≡ a0 → m.since ≡ 0 → (o : Out Value) → run_linked w input (acts_of no_changes) stop fuel ≡ o → Reach p (Halted p l w) m o (λ x s1 m1. ⊥)
from_first p l w most room enough none f b is named f0 k0 a0 z j a1 e stop fuel input x s m st sf first ag at since o ran_is =
    let run = call_main (run_of stop (acts_of no_changes) w) fuel in
    let outcome : run (Some f) s ≡ o = sym (ap (λ o. bind o (λ v s. run (body_named 0 w.bodies main_name) s)) first ∙ ap (λ o. run o s) named) ∙ ran_is in
    subst (λ o. Reach p (Halted p l w) m o (λ x s1 m1. ⊥)) outcome (main_runs p l w most room enough stop (acts_of no_changes) (quiet_respects p l w none) f b is fuel f0 k0 a0 z j a1 e s m st sf ag at (omega arith))

-- where the source machine ends, the process exits
pub ends_alike : ExitsAlike
ends_alike p l w most room enough none f b is named f0 k0 a0 z j a1 e stop fuel input x s m st sf first ag at since status s1 ran_is =
    ended (from_first p l w most room enough none f b is named f0 k0 a0 z j a1 e stop fuel input x s m st sf first ag at since (Halt (Ended status) s1) ran_is)
  where
    ended : (m1 : M) × Comes p m m1 × AtEnd p l w status s1 m1 → Exited (process m) status s1.output (suc s1.turns * p.limit)
    ended r =
        let m1 = r.0 in
        let steps = r.1.steps in
        let h = r.2 in
        let c = path_counted p steps m m1 (omega arith) r.1.path in
        record {
          count = steps;
          last = process m1;
          ran_to = without_ghosts p m m1 steps none r.1.path;
          exits = ap advanced (sym (unpoked p m1 none (p.is_start m1.eip))) ∙ h.exits;
          output_is = h.output_is;
          within = bounded steps c.0 s1.turns p.limit m1.since m.since c.2 h.within (fewer m1.turns m.turns c.0 s1.turns c.1 h.turns_is);
        }

-- a turn takes an instruction
path_turns : (p : Prog) (k : ℕ) (m m' : M) → Path p k m m' → m'.turns ≤ m.turns + k
path_turns p zero m m' e = let turns : m'.turns ≡ m.turns = ap (λ (x : M). x.turns) (sym e) in omega arith
path_turns p (suc k) m m' h =
    let r = path_turns p k h.0 m' h.2 in
    let one = one_turn (p.is_start m.eip) m h.0 h.1.turns in
    omega arith
  where
    one_turn : (b : Bool) (m m1 : M) → m1.turns ≡ (arrive p b m).turns → m1.turns ≤ suc m.turns
    one_turn true m m1 e = omega arith
    one_turn false m m1 e = omega arith

bounded_at : (c t turns limit since before : ℕ) → c + before ≤ t * limit + since → since ≤ limit → suc t ≤ turns → c ≤ turns * limit
bounded_at c t turns limit since before count under le = let more = mono (suc t) turns limit le in omega arith

-- where the source machine is stopped, the process comes to that turn
pub stops_alike : StopsAlike
stops_alike p l w most room enough none f b is named f0 k0 a0 z j a1 e stop fuel input x s m st sf first ag at since turns0 s1 ran_is =
    stopped (from_first p l w most room enough none f b is named f0 k0 a0 z j a1 e stop fuel input x s m st sf first ag at since (Halt Stopped s1) ran_is)
  where
    stopped : (m1 : M) × Comes p m m1 × AtTurn p l w s1 m1 → Reached (process m) s1.output (s1.turns - 1) (s1.turns * p.limit)
    stopped r =
        let m1 = r.0 in
        let steps = r.1.steps in
        let h = r.2 in
        let c = path_counted p steps m m1 (omega arith) r.1.path in
        let turns : suc m1.turns ≡ s1.turns = h.agree.turns_is in
        record {
          count = steps;
          last = process m1;
          ran_to = without_ghosts p m m1 steps none r.1.path;
          output_is = h.agree.output_is;
          at_least = (let least = path_turns p steps m m1 r.1.path in omega arith);
          within = bounded_at steps c.0 s1.turns p.limit m1.since m.since c.2 c.3 (omega (arith, c.1));
        }
