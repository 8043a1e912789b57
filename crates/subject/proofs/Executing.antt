-- A process under way, and how it stops.
use Rattle.std.proofs.Common.{◌≡◌, ℕ, zero, suc, ◌≤◌, List, [], ◌++◌, refl, sym, ap, ◌∙◌, append-nil, arith}
use Rattle.std.specs.Prelude.{Option}
use Rattle.mach_mem.specs.Space.{Space}
use Rattle.mach_exec.specs.declared.Cpu.{Cpu}
use Rattle.mach_exec.specs.Process.{Process, Progress, Goes, Exits, Raises, advanced, and_on, ran}
use Rattle.subject.specs.declared.process.Halt.{Halt}
use Rattle.subject.specs.declared.process.Halt.TheVariants as halt
use Rattle.subject.specs.Output.{Moves, GainsFront}
use Rattle.subject.specs.Process.{process_at, written, Stops, StopsBefore, Breaks}
use Rattle.subject.proofs.Sending.{moves-nil, moves-trans, moves_front_more}
use Rattle.subject.proofs.Calling.{exit_last, raise_last}

-- behind k instructions the process has these registers and this memory, and its output is on its way
pub record Going (start : Process) (k : ℕ) (cpu : Cpu) (mem : Space) (old new : Option (List ℕ)) (waiting : List ℕ) : Type 0 where
  pub output : List ℕ
  pub ran_to : ran k start ≡ Goes (process_at cpu mem output)
  pub moves : Moves old new [] waiting output

pub going_none : (cpu : Cpu) (mem : Space) (old : Option (List ℕ)) (waiting : List ℕ) → waiting ≡ [] → Going (process_at cpu mem []) 0 cpu mem old old waiting
going_none cpu mem old waiting none = rw none (record { output = []; ran_to = refl; moves = moves-nil old [] })

-- one instruction more
ran_on : (k : ℕ) (p q : Process) (x : Progress) → ran k p ≡ Goes q → advanced q ≡ x → ran (suc k) p ≡ and_on x Goes
ran_on zero p q x here e =
    let same : Goes p ≡ Goes q = here in
    let is : p ≡ q = cc in
    rw is (rw e refl)
ran_on (suc k) p q x here e = by_progress (advanced p) here (λ r there. ran_on k r q x there e)
  where
    by_progress : (y : Progress) → and_on y (ran k) ≡ Goes q → ((r : Process) → ran k r ≡ Goes q → ran (suc k) r ≡ and_on x Goes) → and_on y (ran (suc k)) ≡ and_on x Goes
    by_progress (Goes r) here onward = onward r here
    by_progress (Exits s) here onward = absurd (let h : Exits s ≡ Goes q = here in cc)
    by_progress (Raises g) here onward = absurd (let h : Raises g ≡ Goes q = here in cc)

pub ran_goes : (k : ℕ) (p q r : Process) → ran k p ≡ Goes q → advanced q ≡ Goes r → ran (suc k) p ≡ Goes r
ran_goes k p q r here e = ran_on k p q (Goes r) here e

pub going_on : (start : Process) (k : ℕ) (c c1 : Cpu) (m m1 : Space) (a b d : Option (List ℕ)) (u v : List ℕ) → Going start k c m a b u
    → ((before : List ℕ) → advanced (process_at c m before) ≡ Goes (process_at c1 m1 (before ++ written c m))) → Moves b d u v (written c m)
    → Going start (suc k) c1 m1 a d v
going_on start k c c1 m m1 a b d u v g goes moved = record {
  output = g.output ++ written c m;
  ran_to = ran_goes k start _ _ g.ran_to (goes g.output);
  moves = moves-trans a b d [] u v g.output (written c m) g.moves moved;
}

stopped_moves : (a b d : Option (List ℕ)) (u v xs ys : List ℕ) → Moves a b [] u xs → Moves b d u v ys → ys ≡ [] → Moves a d [] v xs
stopped_moves a b d u v xs ys p q none =
    let whole : xs ++ ys ≡ xs = ap (λ l. xs ++ l) none ∙ append-nil xs in
    rw whole at (moves-trans a b d [] u v xs ys p q)

pub exits_at : (start : Process) (k most s : ℕ) (c : Cpu) (m : Space) (a b d : Option (List ℕ)) (u v : List ℕ) → Going start k c m a b u → suc k ≤ most
    → ((before : List ℕ) → advanced (process_at c m before) ≡ Exits s) → Moves b d u v (written c m)
    → StopsBefore start most a d v (halt.Exited s)
exits_at start k most s c m a b d u v g within exits moved = (
  g.output,
  record { count = k; last = process_at c m g.output; ran_to = g.ran_to; exits = exits g.output; output_is = refl; within = within },
  stopped_moves a b d u v g.output (written c m) g.moves moved (exit_last c m [] s (exits [])),
)

pub raises_at : (start : Process) (k most s : ℕ) (c : Cpu) (m : Space) (a b d : Option (List ℕ)) (u v : List ℕ) → Going start k c m a b u → suc k ≤ most
    → ((before : List ℕ) → advanced (process_at c m before) ≡ Raises s) → Moves b d u v (written c m)
    → StopsBefore start most a d v (halt.Raised s)
raises_at start k most s c m a b d u v g within raises moved = (
  g.output,
  record { count = k; last = process_at c m g.output; ran_to = g.ran_to; raises = raises g.output; output_is = refl; within = within },
  stopped_moves a b d u v g.output (written c m) g.moves moved (raise_last c m [] s (raises [])),
)

pub spent_at : (start : Process) (k most : ℕ) (c : Cpu) (m : Space) (a b : Option (List ℕ)) (u : List ℕ) → Going start k c m a b u → k ≡ most → StopsBefore start most a b u halt.Spent
spent_at start k most c m a b u g all =
    (g.output, record { last = process_at c m g.output; ran_to = ap (λ n. ran n start) (sym all) ∙ g.ran_to; output_is = refl }, g.moves)

-- the sink failed at an instruction that writes
pub breaks_at : (start : Process) (k most : ℕ) (c : Cpu) (m : Space) (a b d : Option (List ℕ)) (u : List ℕ) → Going start k c m a b u → suc k ≤ most
    → ((before : List ℕ) → (p : Process) × (advanced (process_at c m before) ≡ Goes p) × (p.output ≡ before ++ written c m)) → GainsFront b d (u ++ written c m)
    → Breaks start most a d
breaks_at start k most c m a b d u g within goes front =
    let p = goes g.output in
    record {
      count = suc k;
      last = p.0;
      ran_to = ran_goes k start _ p.0 g.ran_to p.1;
      within = within;
      front = rw (p.2) (moves_front_more a b d [] u g.output (written c m) g.moves front);
    }

-- the sink failed behind the last instruction
pub breaks_stopped : (start : Process) (most : ℕ) (h : Halt) (output : List ℕ) (a d : Option (List ℕ)) → Stops start most h output → GainsFront a d output → Breaks start most a d
breaks_stopped start most (halt.Exited s) output a d stops front =
    record { count = stops.count; last = stops.last; ran_to = stops.ran_to; within = (let h = stops.within in omega arith); front = rw (stops.output_is) front }
breaks_stopped start most (halt.Raised s) output a d stops front =
    record { count = stops.count; last = stops.last; ran_to = stops.ran_to; within = (let h = stops.within in omega arith); front = rw (stops.output_is) front }
breaks_stopped start most halt.Spent output a d stops front =
    record { count = most; last = stops.last; ran_to = stops.ran_to; within = omega arith; front = rw (stops.output_is) front }
