-- A process stops in one way, and its output only grows.
use Rattle.std.proofs.Common.{◌≡◌, ℕ, zero, suc, ◌+◌, ◌<◌, ◌≤◌, List, [], ◌++◌, inl, inr, refl, sym, ap, ◌∙◌, append-nil, append_assoc, arith}
use Rattle.std.specs.Prelude.{◌-◌}
use Rattle.std.proofs.lemmas.Bool.{cases_lt}
use Rattle.mach_exec.specs.declared.processor.Cpu.{Cpu}
use Rattle.mach_exec.specs.declared.processor.Event.{Event}
use Rattle.mach_exec.specs.declared.processor.Event.TheVariants.{Next, Trap, System, Signal}
use Rattle.mach_mem.specs.Space.{Space}
use Rattle.mach_exec.specs.Step.{stepped}
use Rattle.mach_exec.specs.System.{Called, Ended, Returned, called}
use Rattle.mach_exec.specs.Process.{Process, Progress, Goes, Exits, Raises, performed, followed, advanced, and_on, ran}

-- a list begins with another
pub record Begins (front whole : List ℕ) : Type 0 where
  pub rest : List ℕ
  pub whole_is : whole ≡ front ++ rest

begins_self : (xs : List ℕ) → Begins xs xs
begins_self xs = record { rest = []; whole_is = sym (append-nil xs) }

begins_trans : (xs ys zs : List ℕ) → Begins xs ys → Begins ys zs → Begins xs zs
begins_trans xs ys zs p q = record { rest = p.rest ++ q.rest; whole_is = q.whole_is ∙ ap (λ l. l ++ q.rest) p.whole_is ∙ append_assoc xs p.rest q.rest }

pub goes_is : (p q : Process) → Goes p ≡ Goes q → p ≡ q
goes_is p q e = cc

-- one instruction keeps what was written
step_grows : (p q : Process) → advanced p ≡ Goes q → Begins p.output q.output
unfolding advanced
step_grows p q = by_event (stepped p.cpu p.mem).event (stepped p.cpu p.mem).cpu (stepped p.cpu p.mem).mem
  where
    by_call : (k : Called) → performed p.output k ≡ Goes q → Begins p.output q.output
    by_call (Ended s) e = absurd (let h : Exits s ≡ Goes q = e in cc)
    by_call (Returned cpu mem input output) e =
        let is = goes_is record { cpu = cpu; mem = mem; input = input; output = p.output ++ output } q e in
        record { rest = output; whole_is = sym (ap (λ r. r.output) is) }

    by_event : (e : Event) (cpu : Cpu) (mem : Space) → followed p e cpu mem ≡ Goes q → Begins p.output q.output
    by_event Next cpu mem e =
        let is = goes_is record { cpu = cpu; mem = mem; input = p.input; output = p.output } q e in
        record { rest = []; whole_is = sym (ap (λ r. r.output) is) ∙ sym (append-nil p.output) }
    by_event System cpu mem e = by_call (called cpu mem p.input) e
    by_event Trap cpu mem e = absurd (let h : Raises 5 ≡ Goes q = e in cc)
    by_event (Signal g) cpu mem e = absurd (let h : Raises g ≡ Goes q = e in cc)

pub ran_grows : (n : ℕ) (p q : Process) → ran n p ≡ Goes q → Begins p.output q.output
ran_grows zero p q e = let is = goes_is p q e in rw is (begins_self q.output)
ran_grows (suc n) p q e = by_progress (advanced p) refl e (λ r there. ran_grows n r q there)
  where
    by_progress : (x : Progress) → advanced p ≡ x → and_on x (ran n) ≡ Goes q → ((r : Process) → ran n r ≡ Goes q → Begins r.output q.output) → Begins p.output q.output
    by_progress (Goes r) is e onward = begins_trans p.output r.output q.output (step_grows p r is) (onward r e)
    by_progress (Exits s) is e onward = absurd (let h : Exits s ≡ Goes q = e in cc)
    by_progress (Raises g) is e onward = absurd (let h : Raises g ≡ Goes q = e in cc)

-- so many instructions, and then some more
pub ran_add : (a b : ℕ) (p : Process) → ran (a + b) p ≡ and_on (ran a p) (ran b)
ran_add zero b p = let e : 0 + b ≡ b = omega arith in rw e refl
ran_add (suc a) b p =
    let e : suc a + b ≡ suc (a + b) = omega arith in
    rw e (by_progress (advanced p) (λ q. ran_add a b q))
  where
    by_progress : (x : Progress) → ((q : Process) → ran (a + b) q ≡ and_on (ran a q) (ran b)) → and_on x (ran (a + b)) ≡ and_on (and_on x (ran a)) (ran b)
    by_progress (Goes q) onward = onward q
    by_progress (Exits s) onward = refl
    by_progress (Raises g) onward = refl

abbrev IsLast : Progress → Type 0
IsLast (Goes p) = ⊥
IsLast (Exits s) = Unit {0}
IsLast (Raises g) = Unit {0}

-- a process that has executed k instructions, the next of which is its last
pub record Lasts (start : Process) (k : ℕ) (last : Process) (x : Progress) : Type 0 where
  pub ran_to : ran k start ≡ Goes last
  pub by : advanced last ≡ x
  pub is_last : IsLast x

last_on : (x : Progress) (n : ℕ) → IsLast x → and_on x (ran n) ≡ x
last_on (Goes p) n is = absurd is
last_on (Exits s) n is = refl
last_on (Raises g) n is = refl

-- behind its last instruction it goes on no more
ends_at : (p last : Process) (k n : ℕ) (x : Progress) → Lasts p k last x → ran (k + suc n) p ≡ x
ends_at p last k n x l =
    ran_add k (suc n) p ∙ ap (λ y. and_on y (ran (suc n))) l.ran_to ∙ ap (λ y. and_on y (ran n)) l.by ∙ last_on x n l.is_last

no_more : (x : Progress) (q : Process) → IsLast x → x ≡ Goes q → ⊥
no_more (Goes p) q is e = is
no_more (Exits s) q is e = let h : Exits s ≡ Goes q = e in cc
no_more (Raises g) q is e = let h : Raises g ≡ Goes q = e in cc

-- a process that goes on behind n instructions has not executed its last one, and what it has written is a front of what it will have
pub before_last : (p last q : Process) (k n : ℕ) (x : Progress) → Lasts p k last x → ran n p ≡ Goes q → (n ≤ k) × Begins q.output last.output
before_last p last q k n x l e =
    elim (cases_lt k n) [
      | inl h ↦ absurd (past h)
      | inr h ↦ (h, ran_grows (k - n) q last (onward h))
    ]
  where
    past : k < n → ⊥
    past h =
        let split : n ≡ k + suc (n - suc k) = omega arith in
        no_more x q l.is_last (sym (ends_at p last k (n - suc k) x l) ∙ ap (λ j. ran j p) (sym split) ∙ e)

    onward : n ≤ k → ran (k - n) q ≡ Goes last
    onward h =
        let split : n + (k - n) ≡ k = omega arith in
        sym (ran_add n (k - n) p ∙ ap (λ y. and_on y (ran (k - n))) e) ∙ ap (λ j. ran j p) split ∙ l.ran_to

-- there is one last instruction
pub one_last : (p a b : Process) (k n : ℕ) (x y : Progress) → Lasts p k a x → Lasts p n b y → (k ≡ n) × (a ≡ b) × (x ≡ y)
one_last p a b k n x y l m =
    let below = (before_last p a b k n x l m.ran_to).0 in
    let above = (before_last p b a n k y m l.ran_to).0 in
    let same : k ≡ n = omega arith in
    let is : a ≡ b = goes_is a b (sym l.ran_to ∙ ap (λ j. ran j p) same ∙ m.ran_to) in
    (same, is, sym l.by ∙ ap advanced is ∙ m.by)
