-- A process over a memory that has executed nothing stops in one way, and what comes before is a front of its output.
use Rattle.std.proofs.Common.{◌≡◌, ℕ, ◌+◌, ◌-◌, ◌<◌, ◌≤◌, List, [], ◌∷◌, length, take, inl, inr, ◌⊎◌, refl, sym, ap, ◌∙◌, arith}
use Rattle.std.specs.Prelude.{Option}
use Rattle.std.proofs.lemmas.List.{take-append-le, ext_get_or}
use Rattle.std.specs.Io.KnownBytes.{Appends}
use Rattle.mach_mem.specs.Space.{Space, IsInitial}
use Rattle.mach_exec.specs.Process.{Process, Goes, Exits, Raises, and_on, ran}
use Rattle.mach_exec.specs.Ends.{Exited, Raised, Spent}
use Rattle.subject.specs.declared.process.Halt.{Halt}
use Rattle.subject.specs.declared.process.Halt.TheVariants as halt
use Rattle.subject.specs.Output.{GainsFront}
use Rattle.subject.specs.Process.{Stops, Breaks}
use Rattle.subject.proofs.Sending.{front_more}
use Rattle.mach_exec.proofs.Stopping.{Begins, goes_is, ran_grows, ran_add, Lasts, before_last, one_last}

nil_of : (xs : List ℕ) → length xs ≡ 0 → xs ≡ []
nil_of [] e = refl
nil_of (x ∷ xs) e = absurd (omega arith)

abbrev space : List ℕ → List ℕ → List ℕ → Space
space t s k = record { text = t; statics = s; stack = k }

pub one_memory : (text : List ℕ) (a b : Space) → IsInitial a text [] 0 → IsInitial b text [] 0 → a ≡ b
one_memory text a b p q =
    let texts : a.text ≡ b.text = p.text_is ∙ sym q.text_is in
    let statics : a.statics ≡ b.statics = nil_of a.statics p.statics_end ∙ sym (nil_of b.statics q.statics_end) in
    let stacks : a.stack ≡ b.stack = ext_get_or 0 a.stack b.stack (p.stack_size ∙ sym q.stack_size) (λ i below. p.stack_zero i ∙ sym (q.stack_zero i)) in
    ap (λ t. space t a.statics a.stack) texts ∙ ap (λ t. space b.text t a.stack) statics ∙ ap (λ t. space b.text b.statics t) stacks

exit_lasts : (p : Process) (s most : ℕ) (o : List ℕ) (e : Exited p s o most) → Lasts p e.count e.last (Exits s)
exit_lasts p s most o e = record { ran_to = e.ran_to; by = e.exits; is_last = tt }

raise_lasts : (p : Process) (g most : ℕ) (o : List ℕ) (e : Raised p g o most) → Lasts p e.count e.last (Raises g)
raise_lasts p g most o e = record { ran_to = e.ran_to; by = e.raises; is_last = tt }

-- what a process has written behind some instructions is a front of what it has written when it stops
pub front_of_stop : (p q : Process) (n most : ℕ) (h : Halt) (o : List ℕ) → ran n p ≡ Goes q → n ≤ most → Stops p most h o → Begins q.output o
front_of_stop p q n most (halt.Exited s) o e below stops = rw (stops.output_is) at (before_last p stops.last q stops.count n (Exits s) (exit_lasts p s most o stops) e).1
front_of_stop p q n most (halt.Raised g) o e below stops = rw (stops.output_is) at (before_last p stops.last q stops.count n (Raises g) (raise_lasts p g most o stops) e).1
front_of_stop p q n most halt.Spent o e below stops =
    let split : n + (most - n) ≡ most = omega arith in
    let on : ran (most - n) q ≡ Goes stops.last = sym (ran_add n (most - n) p ∙ ap (λ y. and_on y (ran (most - n))) e) ∙ ap (λ j. ran j p) split ∙ stops.ran_to in
    rw (stops.output_is) at (ran_grows (most - n) q stops.last on)

pub front_of_exit : (p q : Process) (n status far : ℕ) (o : List ℕ) → ran n p ≡ Goes q → Exited p status o far → Begins q.output o
front_of_exit p q n status far o e x = rw (x.output_is) at (before_last p x.last q x.count n (Exits status) (exit_lasts p status far o x) e).1

-- what a process has written is a front of what it has written later
pub earlier_front : (p q r : Process) (a b : ℕ) → ran a p ≡ Goes q → ran b p ≡ Goes r → a ≤ b → Begins q.output r.output
earlier_front p q r a b e there below =
    let split : a + (b - a) ≡ b = omega arith in
    let on : ran (b - a) q ≡ Goes r = sym (ran_add a (b - a) p ∙ ap (λ y. and_on y (ran (b - a))) e) ∙ ap (λ j. ran j p) split ∙ there in
    ran_grows (b - a) q r on

pub begins_front : (old new : Option (List ℕ)) (xs ys : List ℕ) → Begins xs ys → GainsFront old new xs → GainsFront old new ys
begins_front old new xs ys b f = rw (b.whole_is) (front_more old new xs b.rest f)

pub begins_all : (old new : Option (List ℕ)) (xs ys : List ℕ) → Begins xs ys → Appends old new xs → GainsFront old new ys
begins_all old new xs ys b a = (length xs, rw (b.whole_is, take-append-le (length xs) xs b.rest (omega arith), whole_taken xs) a)
  where
    whole_taken : (xs : List ℕ) → take (length xs) xs ≡ xs
    whole_taken [] = refl
    whole_taken (x ∷ xs) = ap (λ l. x ∷ l) (whole_taken xs)

pub breaks_front : (p : Process) (most : ℕ) (h : Halt) (o : List ℕ) (old new : Option (List ℕ)) → Breaks p most old new → Stops p most h o → GainsFront old new o
breaks_front p most h o old new b stops = begins_front old new b.last.output o (front_of_stop p b.last b.count most h o b.ran_to b.within stops) b.front

-- ---- one way

abbrev Same : Halt → Halt → List ℕ → List ℕ → Type 0
Same h k o r = (h ≡ k) × (o ≡ r)

exit_exit : (p : Process) (s t most : ℕ) (o r : List ℕ) → Exited p s o most → Exited p t r most → Same (halt.Exited s) (halt.Exited t) o r
exit_exit p s t most o r a b =
    let one = one_last p a.last b.last a.count b.count (Exits s) (Exits t) (exit_lasts p s most o a) (exit_lasts p t most r b) in
    let status : s ≡ t = (let e : Exits s ≡ Exits t = one.2 in cc) in
    (ap halt.Exited status, sym a.output_is ∙ ap (λ q. q.output) one.1 ∙ b.output_is)

raise_raise : (p : Process) (s t most : ℕ) (o r : List ℕ) → Raised p s o most → Raised p t r most → Same (halt.Raised s) (halt.Raised t) o r
raise_raise p s t most o r a b =
    let one = one_last p a.last b.last a.count b.count (Raises s) (Raises t) (raise_lasts p s most o a) (raise_lasts p t most r b) in
    let signal : s ≡ t = (let e : Raises s ≡ Raises t = one.2 in cc) in
    (ap halt.Raised signal, sym a.output_is ∙ ap (λ q. q.output) one.1 ∙ b.output_is)

exit_raise : (p : Process) (s t m n : ℕ) (o r : List ℕ) → Exited p s o m → Raised p t r n → ⊥
exit_raise p s t m n o r a b =
    let one = one_last p a.last b.last a.count b.count (Exits s) (Raises t) (exit_lasts p s m o a) (raise_lasts p t n r b) in
    let e : Exits s ≡ Raises t = one.2 in
    cc

exit_spent : (p : Process) (s most : ℕ) (o r : List ℕ) → Exited p s o most → Spent p r most → ⊥
exit_spent p s most o r a b =
    let below = (before_last p a.last b.last a.count most (Exits s) (exit_lasts p s most o a) b.ran_to).0 in
    let within = a.within in
    omega arith

raise_spent : (p : Process) (s most : ℕ) (o r : List ℕ) → Raised p s o most → Spent p r most → ⊥
raise_spent p s most o r a b =
    let below = (before_last p a.last b.last a.count most (Raises s) (raise_lasts p s most o a) b.ran_to).0 in
    let within = a.within in
    omega arith

pub one_stop : (p : Process) (most : ℕ) (h k : Halt) (o r : List ℕ) → Stops p most h o → Stops p most k r → Same h k o r
one_stop p most (halt.Exited s) (halt.Exited t) o r a b = exit_exit p s t most o r a b
one_stop p most (halt.Exited s) (halt.Raised t) o r a b = absurd (exit_raise p s t most most o r a b)
one_stop p most (halt.Exited s) halt.Spent o r a b = absurd (exit_spent p s most o r a b)
one_stop p most (halt.Raised s) (halt.Exited t) o r a b = absurd (exit_raise p t s most most r o b a)
one_stop p most (halt.Raised s) (halt.Raised t) o r a b = raise_raise p s t most o r a b
one_stop p most (halt.Raised s) halt.Spent o r a b = absurd (raise_spent p s most o r a b)
one_stop p most halt.Spent (halt.Exited t) o r a b = absurd (exit_spent p t most r o b a)
one_stop p most halt.Spent (halt.Raised t) o r a b = absurd (raise_spent p t most r o b a)
one_stop p most halt.Spent halt.Spent o r a b = (refl, sym a.output_is ∙ ap (λ q. q.output) (goes_is a.last b.last (sym a.ran_to ∙ b.ran_to)) ∙ b.output_is)

-- ---- a process that is known to exit, or to go on

-- it has stopped so, or the budget was spent before
pub exits_or_spent : (p : Process) (s most m : ℕ) (o : List ℕ) (h : Halt) (r : List ℕ) → Exited p s o m → Stops p most h r
    → ((h ≡ halt.Exited s) × (r ≡ o)) ⊎ ((h ≡ halt.Spent) × Begins r o × (most < m))
exits_or_spent p s most m o (halt.Exited t) r e stops =
    let one = one_last p e.last stops.last e.count stops.count (Exits s) (Exits t) (exit_lasts p s m o e) (exit_lasts p t most r stops) in
    let status : t ≡ s = (let q : Exits s ≡ Exits t = one.2 in cc) in
    inl (ap halt.Exited status, sym stops.output_is ∙ sym (ap (λ q. q.output) one.1) ∙ e.output_is)
exits_or_spent p s most m o (halt.Raised t) r e stops = absurd (exit_raise p s t m most o r e stops)
exits_or_spent p s most m o halt.Spent r e stops =
    let before = before_last p e.last stops.last e.count most (Exits s) (exit_lasts p s m o e) stops.ran_to in
    let within = e.within in
    let below = before.0 in
    inr (refl, rw (stops.output_is, e.output_is) at before.1, omega arith)

-- a process that goes on behind more instructions than the budget has spent it
pub goes_past : (p q : Process) (n most : ℕ) (h : Halt) (r : List ℕ) → ran n p ≡ Goes q → most ≤ n → Stops p most h r → (h ≡ halt.Spent) × Begins r q.output
goes_past p q n most (halt.Exited s) r e past stops =
    let below = (before_last p stops.last q stops.count n (Exits s) (exit_lasts p s most r stops) e).0 in
    let within = stops.within in
    absurd (omega arith)
goes_past p q n most (halt.Raised s) r e past stops =
    let below = (before_last p stops.last q stops.count n (Raises s) (raise_lasts p s most r stops) e).0 in
    let within = stops.within in
    absurd (omega arith)
goes_past p q n most halt.Spent r e past stops =
    let split : most + (n - most) ≡ n = omega arith in
    let on : ran (n - most) stops.last ≡ Goes q = sym (ran_add most (n - most) p ∙ ap (λ y. and_on y (ran (n - most))) stops.ran_to) ∙ ap (λ j. ran j p) split ∙ e in
    (refl, rw (stops.output_is) at (ran_grows (n - most) stops.last q on))
