-- What a system call is given, and the bytes that it puts out.
use Rattle.std.proofs.Common.{◌≡◌, ℕ, zero, suc, ◌<◌, ◌≤◌, ◌%◌, ◌^◌, List, [], ◌∷◌, ◌++◌, refl, sym, ap, ◌∙◌, append-nil, arith, true, false}
use Rattle.std.specs.Prelude.{Option, Some, None, ◌==◌, if◌then◌else◌, unwrap_or, Bool, min}
use Rattle.std.proofs.lemmas.Bool.{eq-eqb, eqb-true}
use Rattle.mach_mem.specs.Space.{Space, byte_at}
use Rattle.mach_exec.specs.declared.Cpu.{Cpu}
use Rattle.mach_exec.specs.Word.{add32}
use Rattle.mach_exec.specs.declared.Event.{Event}
use Rattle.mach_exec.specs.declared.Event.TheVariants.{Next, Trap, System, Signal}
use Rattle.mach_exec.specs.Operand.{reg}
use Rattle.mach_exec.specs.Strings.{is_readable, each_byte, bytes_from, with_bytes}
use Rattle.mach_exec.specs.Step.{stepped}
use Rattle.mach_exec.specs.System.{Called, Ended, Returned, argument, called, exited, transferred, succeeded, failed, bad_descriptor, bad_place, bad_call}
use Rattle.mach_exec.specs.Process.{Progress, Goes, Exits, Raises, performed, followed, advanced}
use Rattle.subject.specs.Process.{process_at, exit_status, cpu_behind, output_of, exit_called, transfer_called, stored_at, read_called, appended_from, write_called, written_at, written}

not_equal : (a b : ℕ) → (a ≡ b → ⊥) → (a == b) ≡ false
not_equal a b other = by_test (a == b) refl
  where
    by_test : (t : Bool) → (a == b) ≡ t → t ≡ false
    by_test true e = absurd (other (eqb-true a b e))
    by_test false e = refl

-- a transfer with its three arguments, of the descriptor of the call or of another one
pub placed : (c : Cpu) (m : Space) (given descriptor at count : ℕ) (x y z : Option ℕ) (f : ℕ → ℕ → Called) → Some given ≡ x → Some at ≡ y → Some count ≡ z
    → given ≡ descriptor → transferred c m [] descriptor x y z f ≡ f at count
placed c m given descriptor at count x y z f ex ey ez same = rw (← ex, ← ey, ← ez, eq-eqb given descriptor same) refl

pub misplaced : (c : Cpu) (m : Space) (given descriptor at count : ℕ) (x y z : Option ℕ) (f : ℕ → ℕ → Called) → Some given ≡ x → Some at ≡ y → Some count ≡ z
    → (given ≡ descriptor → ⊥) → transferred c m [] descriptor x y z f ≡ failed c m [] bad_descriptor
misplaced c m given descriptor at count x y z f ex ey ez other = rw (← ex, ← ey, ← ez, not_equal given descriptor other) refl

pub bytes_none : (m : Space) (at : ℕ) → bytes_from m at 0 ≡ []
unfolding bytes_from
bytes_none m at = refl

-- one more byte
pub bytes_more : (m : Space) (at n : ℕ) → at < 2 ^ 32 → bytes_from m at (suc n) ≡ bytes_from m at n ++ unwrap_or (byte_at m (add32 at n)) 0 ∷ []
unfolding bytes_from
bytes_more m at zero small =
    let e : add32 at 0 ≡ at = omega arith in
    rw e refl
bytes_more m at (suc n) small =
    let e : add32 (add32 at 1) n ≡ add32 at (suc n) = omega arith in
    let below : add32 at 1 < 2 ^ 32 = omega arith in
    ap (λ l. unwrap_or (byte_at m at) 0 ∷ l) (bytes_more m (add32 at 1) n below ∙ ap (λ k. bytes_from m (add32 at 1) n ++ unwrap_or (byte_at m k) 0 ∷ []) e)

-- the first bytes, and the others
pub bytes_split : (m : Space) (at k n : ℕ) → k ≤ n → (rest : List ℕ) × (bytes_from m at n ≡ bytes_from m at k ++ rest)
unfolding bytes_from
bytes_split m at zero n within = (bytes_from m at n, refl)
bytes_split m at (suc k) zero within = absurd (omega arith)
bytes_split m at (suc k) (suc n) within =
    let r = bytes_split m (add32 at 1) k n (omega arith) in
    (r.0, ap (λ l. unwrap_or (byte_at m at) 0 ∷ l) r.1)

-- ---- which call it is

pub called_exit : (c : Cpu) (m : Space) → reg c 0 ≡ 1 → called c m [] ≡ exit_called c m
unfolding called
called_exit c m e = rw e refl

pub called_read : (c : Cpu) (m : Space) → reg c 0 ≡ 3 → called c m [] ≡ read_called c m
unfolding called
called_read c m e = rw e refl

pub called_write : (c : Cpu) (m : Space) → reg c 0 ≡ 4 → called c m [] ≡ write_called c m
unfolding called
called_write c m e = rw e refl

pub called_other : (c : Cpu) (m : Space) → (reg c 0 ≡ 1 → ⊥) → (reg c 0 ≡ 3 → ⊥) → (reg c 0 ≡ 4 → ⊥) → called c m [] ≡ failed c m [] bad_call
unfolding called
called_other c m one three four = rw (not_equal (reg c 0) 1 one, not_equal (reg c 0) 3 three, not_equal (reg c 0) 4 four) refl

-- ---- what holds of a call that fails and of one that is done holds of the call

module _ (P : Called → Type 0) (c : Cpu) (m : Space) where
  pub transferred_either : (d : ℕ) (x y z : Option ℕ) (f : ℕ → ℕ → Called) → ((e : ℕ) → P (failed c m [] e)) → ((at n : ℕ) → P (f at n)) → P (transferred c m [] d x y z f)
  transferred_either d None y z f fails does = fails bad_place
  transferred_either d (Some g) None z f fails does = fails bad_place
  transferred_either d (Some g) (Some at) None f fails does = fails bad_place
  transferred_either d (Some g) (Some at) (Some n) f fails does = by_test (g == d)
    where
      by_test : (t : Bool) → P (if t then f at n else failed c m [] bad_descriptor)
      by_test true = does at n
      by_test false = fails bad_descriptor

  pub transfer_either : (d : ℕ) (f : ℕ → ℕ → Called) → ((e : ℕ) → P (failed c m [] e)) → ((at n : ℕ) → P (f at n)) → P (transfer_called c m d f)
  transfer_either d f fails does = transferred_either d (argument c m 4) (argument c m 8) (argument c m 12) f fails does

  pub exited_either : (o : Option ℕ) → ((e : ℕ) → P (failed c m [] e)) → ((s : ℕ) → P (Ended s)) → P (exited c m [] o)
  exited_either None fails ends = fails bad_place
  exited_either (Some s) fails ends = ends (s % 256)

  pub either_if : (t : Bool) (k : Called) → ((e : ℕ) → P (failed c m [] e)) → P k → P (if t then k else failed c m [] bad_place)
  either_if true k fails does = does
  either_if false k fails does = fails bad_place

  pub called_either : ((e : ℕ) → P (failed c m [] e)) → P (exit_called c m) → P (read_called c m) → P (write_called c m) → P (called c m [])
  unfolding called
  called_either fails exits reads writes = by_tests (reg c 0 == 1) (reg c 0 == 3) (reg c 0 == 4)
    where
      by_tests : (t u v : Bool) → P (if t then exit_called c m else if u then read_called c m else if v then write_called c m else failed c m [] bad_call)
      by_tests true u v = exits
      by_tests false true v = reads
      by_tests false false true = writes
      by_tests false false false = fails bad_call

pub nothing_stored : (c : Cpu) (m : Space) (at n : ℕ) → stored_at c m at n ≡ succeeded c m [] [] 0
unfolding each_byte with_bytes
nothing_stored c m at n =
    let e : min n 0 ≡ 0 = omega arith in
    rw e refl

pub exit_writes : (c : Cpu) (m : Space) → output_of (exit_called c m) ≡ []
exit_writes c m = exited_either (λ k. output_of k ≡ []) c m (argument c m 4) (λ e. refl) (λ s. refl)

pub read_writes : (c : Cpu) (m : Space) → output_of (read_called c m) ≡ []
read_writes c m = transfer_either (λ k. output_of k ≡ []) c m 0 (stored_at c m) (λ e. refl) (λ at n. ap output_of (nothing_stored c m at n))

pub read_returns : (c : Cpu) (m : Space) → exit_status (read_called c m) ≡ None
read_returns c m = transfer_either (λ k. exit_status k ≡ None) c m 0 (stored_at c m) (λ e. refl) (λ at n. ap exit_status (nothing_stored c m at n))

pub write_returns : (c : Cpu) (m : Space) → exit_status (write_called c m) ≡ None
write_returns c m =
    transfer_either (λ k. exit_status k ≡ None) c m 1 (appended_from c m) (λ e. refl)
    (λ at n. either_if (λ k. exit_status k ≡ None) c m (each_byte (is_readable m) at (min n 4096)) _ (λ e. refl) refl)

pub not_appended : (c : Cpu) (m : Space) (at n k : ℕ) → k ≡ min n 4096 → each_byte (is_readable m) at k ≡ false → appended_from c m at n ≡ failed c m [] bad_place
not_appended c m at n k is no_ = rw (← is, no_) refl

-- ---- a call leaves the memory and the empty input as they were

abbrev Leaves : Space → Called → Type 0
Leaves m (Ended status) = Unit {0}
Leaves m (Returned cpu mem input output) = (mem ≡ m) × (input ≡ [])

called_leaves : (c : Cpu) (m : Space) → Leaves m (called c m [])
called_leaves c m =
    called_either (Leaves m) c m (λ e. (refl, refl))
    (exited_either (Leaves m) c m (argument c m 4) (λ e. (refl, refl)) (λ s. tt))
    (transfer_either (Leaves m) c m 0 (stored_at c m) (λ e. (refl, refl)) (λ at n. rw (nothing_stored c m at n) (refl, refl)))
    (transfer_either (Leaves m) c m 1 (appended_from c m) (λ e. (refl, refl))
    (λ at n. either_if (Leaves m) c m (each_byte (is_readable m) at (min n 4096)) _ (λ e. (refl, refl)) (refl, refl)))

performed_goes : (c : Cpu) (m : Space) (k : Called) (before : List ℕ) → Leaves m k → exit_status k ≡ None
    → performed before k ≡ Goes (process_at (cpu_behind c k) m (before ++ output_of k))
performed_goes c m (Ended status) before stays none = absurd (let h : Some status ≡ None = none in cc)
performed_goes c m (Returned cpu mem input output) before stays none = rw (stays.0, stays.1) refl

performed_exits : (k : Called) (before : List ℕ) (s : ℕ) → exit_status k ≡ Some s → performed before k ≡ Exits s
performed_exits (Ended status) before s is = let e : status ≡ s = (let h : Some status ≡ Some s = is in cc) in ap Exits e
performed_exits (Returned cpu mem input output) before s is = absurd (let h : None ≡ Some s = is in cc)

-- ---- one instruction

module _ (c : Cpu) (m : Space) (before : List ℕ) where
  pub next_goes : (stepped c m).event ≡ Next → advanced (process_at c m before) ≡ Goes (process_at (stepped c m).cpu (stepped c m).mem (before ++ written c m))
  unfolding advanced written
  next_goes e = rw (e, append-nil before) refl

  pub system_goes : (c1 c2 : Cpu) (m2 : Space) → (stepped c m).event ≡ System → c2 ≡ (stepped c m).cpu → m2 ≡ (stepped c m).mem → None ≡ exit_status (called c2 m2 [])
      → c1 ≡ cpu_behind c2 (called c2 m2 []) → advanced (process_at c m before) ≡ Goes (process_at c1 m2 (before ++ written c m))
  unfolding advanced written
  system_goes c1 c2 m2 e ec em none is =
      rw (e, is, ← ec, ← em) (performed_goes c2 m2 (called c2 m2 []) before (called_leaves c2 m2) (sym none))

  pub system_exits : (c2 : Cpu) (m2 : Space) (s : ℕ) → (stepped c m).event ≡ System → c2 ≡ (stepped c m).cpu → m2 ≡ (stepped c m).mem → Some s ≡ exit_status (called c2 m2 [])
      → advanced (process_at c m before) ≡ Exits s
  unfolding advanced
  system_exits c2 m2 s e ec em is = rw (e, ← ec, ← em) (performed_exits (called c2 m2 []) before s (sym is))

  pub trap_raises : (stepped c m).event ≡ Trap → advanced (process_at c m before) ≡ Raises 5
  unfolding advanced
  trap_raises e = rw e refl

  pub signal_raises : (g : ℕ) → (stepped c m).event ≡ Signal g → advanced (process_at c m before) ≡ Raises g
  unfolding advanced
  signal_raises g e = rw e refl

pub written_none : (c : Cpu) (m : Space) → ((stepped c m).event ≡ System → ⊥) → written c m ≡ []
unfolding written
written_none c m other = by_event (stepped c m).event other
  where
    by_event : (e : Event) → (e ≡ System → ⊥) → written_at e (stepped c m).cpu (stepped c m).mem ≡ []
    by_event Next no_ = refl
    by_event Trap no_ = refl
    by_event System no_ = absurd (no_ refl)
    by_event (Signal g) no_ = refl

pub written_system : (c c2 : Cpu) (m m2 : Space) → (stepped c m).event ≡ System → c2 ≡ (stepped c m).cpu → m2 ≡ (stepped c m).mem → written c m ≡ output_of (called c2 m2 [])
unfolding written
written_system c c2 m m2 e ec em = rw (e, ← ec, ← em) refl

abbrev Stopped : Progress → Type 0
Stopped (Goes p) = ⊥
Stopped (Exits s) = Unit {0}
Stopped (Raises g) = Unit {0}

-- an instruction that ends a process writes nothing
pub last_writes : (c : Cpu) (m : Space) (before : List ℕ) → Stopped (advanced (process_at c m before)) → written c m ≡ []
unfolding advanced written
last_writes c m before = by_event (stepped c m).event
  where
    by_call : (k : Called) → Stopped (performed before k) → output_of k ≡ []
    by_call (Ended s) stops = refl
    by_call (Returned cpu mem input output) stops = absurd stops

    by_event : (e : Event) → Stopped (followed (process_at c m before) e (stepped c m).cpu (stepped c m).mem) → written_at e (stepped c m).cpu (stepped c m).mem ≡ []
    by_event Next stops = absurd stops
    by_event Trap stops = refl
    by_event System stops = by_call (called (stepped c m).cpu (stepped c m).mem []) stops
    by_event (Signal g) stops = refl

pub exit_last : (c : Cpu) (m : Space) (before : List ℕ) (s : ℕ) → advanced (process_at c m before) ≡ Exits s → written c m ≡ []
exit_last c m before s e = last_writes c m before (rw e tt)

pub raise_last : (c : Cpu) (m : Space) (before : List ℕ) (g : ℕ) → advanced (process_at c m before) ≡ Raises g → written c m ≡ []
raise_last c m before g e = last_writes c m before (rw e tt)
