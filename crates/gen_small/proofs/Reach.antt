-- Stretches of the machine's run, and the outcomes that it reaches.
use Rattle.std.proofs.Common.{◌≡◌, ℕ, zero, suc, ◌<◌, List, [], ◌∷◌, ◌++◌, Bool, true, false, Option, refl, sym, ap, ◌∙◌, subst}
use Rattle.mach_mem.specs.Space.{Space}
use Rattle.isa386.specs.declared.PlainOp.TheVariants.{Nop}
use Rattle.isa386.specs.declared.Ins.{Ins}
use Rattle.isa386.specs.declared.Ins.TheVariants.{Plain}
use Rattle.isa_dec.specs.Decoded.{decoded}
use Rattle.mach_exec.specs.Effect.{done}
use Rattle.mach_exec.specs.Execute.{executed}
use Rattle.mach_exec.specs.Step.{decided, stepped}
use Rattle.c_run.specs.Values.{Stop}
use Rattle.c_run.specs.State.{State, Out, Gave, Halt, bind}
use Rattle.mach_exec.specs.Process.{Goes, advanced, after, and_on, ran}
use Rattle.gen_small.specs.Ghost.{Regs, Flags, M, cpu_of, process, Prog, arrive, arrived, made_at, Moves, Path}
pub use Rattle.gen_small.specs.Reaches.{Comes, Reach}
use Rattle.gen_small.specs.Items.{Item, Start, Open, Op, Label, Goto, If, CallTo, Layout, code_from, Stays, Begins, Stands, last_start}

pub stays : (p : Prog) (m : M) → Comes p m m
stays p m = record { steps = 0; path = refl }

pub move_on : (p : Prog) (m m1 m2 : M) → Moves p m m1 → Comes p m1 m2 → Comes p m m2
move_on p m m1 m2 e g = record { steps = suc g.steps; path = (m1, e, g.path) }

pub moved : (p : Prog) (m m1 : M) → Moves p m m1 → Comes p m m1
moved p m m1 e = move_on p m m1 m1 e (stays p m1)

paths_on : (p : Prog) (k : ℕ) (m m1 m2 : M) → Path p k m m1 → Comes p m1 m2 → Comes p m m2
paths_on p zero m m1 m2 e g =
    let P : M → Type 0 = λ x. Comes p x m2 in
    subst P (sym e) g
paths_on p (suc k) m m1 m2 h g = move_on p m h.0 m2 h.1 (paths_on p k h.0 m1 m2 h.2 g)

pub come_on : (p : Prog) (m m1 m2 : M) → Comes p m m1 → Comes p m1 m2 → Comes p m m2
come_on p m m1 m2 g h = paths_on p g.steps m m1 m2 g.path h

module _ (p : Prog) (Halted : Stop → State → M → Type 0) where
  pub reach_after : {A : Type 0} (m m1 : M) (o : Out A) (Q : A → State → M → Type 0) → Comes p m m1 → Reach p Halted m1 o Q → Reach p Halted m o Q
  reach_after m m1 (Gave a s) Q g r = (r.0, come_on p m m1 r.0 g r.1, r.2)
  reach_after m m1 (Halt w s) Q g r = (r.0, come_on p m m1 r.0 g r.1, r.2)

  pub reach_bind : {A B : Type 0} (m : M) (o : Out A) (go : A → State → Out B) (Q : A → State → M → Type 0) (R : B → State → M → Type 0) → Reach p Halted m o Q → ((a : A) (s1 : State) (m1 : M) → Q a s1 m1 → Reach p Halted m1 (go a s1) R) → Reach p Halted m (bind o go) R
  reach_bind m (Gave a s) go Q R r f = reach_after m r.0 (go a s) R r.1 (f a s r.0 r.2)
  reach_bind m (Halt w s) go Q R r f = r

  pub reach_weaken : {A : Type 0} (m : M) (o : Out A) (Q R : A → State → M → Type 0) → Reach p Halted m o Q → ((a : A) (s1 : State) (m1 : M) → Q a s1 m1 → R a s1 m1) → Reach p Halted m o R
  reach_weaken m (Gave a s) Q R r f = (r.0, r.1, f a s r.0 r.2)
  reach_weaken m (Halt w s) Q R r f = r

-- two stretches of code
pub stands_split : (p : Prog) (l : Layout) (f k : ℕ) (xs ys : List Item) (a b : ℕ) → Stands p l f k a (xs ++ ys) b → (c : ℕ) × Stands p l f k a xs c × Stands p l f (last_start k xs) c ys b
stands_split p l f k [] ys a b h = (a, refl, h)
stands_split p l f k (Start j ∷ xs) ys a b h = let r = stands_split p l f j xs ys h.0 b h.2 in (r.0, (h.0, h.1, r.1), r.2)
stands_split p l f k (Open j ∷ xs) ys a b h = let r = stands_split p l f j xs ys h.0 b h.2 in (r.0, (h.0, h.1, r.1), r.2)
stands_split p l f k (Op i ∷ xs) ys a b h = let r = stands_split p l f k xs ys h.0 b h.2 in (r.0, (h.0, h.1, r.1), r.2)
stands_split p l f k (Label n ∷ xs) ys a b h = let r = stands_split p l f k xs ys a b h.1 in (r.0, (h.0, r.1), r.2)
stands_split p l f k (Goto n ∷ xs) ys a b h = let r = stands_split p l f k xs ys h.0 b h.4 in (r.0, (h.0, h.1, h.2, h.3, r.1), r.2)
stands_split p l f k (If cc n ∷ xs) ys a b h = let r = stands_split p l f k xs ys h.0 b h.4 in (r.0, (h.0, h.1, h.2, h.3, r.1), r.2)
stands_split p l f k (CallTo n ∷ xs) ys a b h = let r = stands_split p l f k xs ys h.0 b h.4 in (r.0, (h.0, h.1, h.2, h.3, r.1), r.2)

pub last_start_split : (k : ℕ) (xs ys : List Item) → last_start k (xs ++ ys) ≡ last_start (last_start k xs) ys
last_start_split k [] ys = refl
last_start_split k (Start j ∷ xs) ys = last_start_split j xs ys
last_start_split k (Open j ∷ xs) ys = last_start_split j xs ys
last_start_split k (Op i ∷ xs) ys = last_start_split k xs ys
last_start_split k (Label n ∷ xs) ys = last_start_split k xs ys
last_start_split k (Goto n ∷ xs) ys = last_start_split k xs ys
last_start_split k (If cc n ∷ xs) ys = last_start_split k xs ys
last_start_split k (CallTo n ∷ xs) ys = last_start_split k xs ys

-- the machine behind one instruction that is no start
abbrev pub on : M → Regs → Flags → ℕ → Space → M
on m r f eip mem = record m { regs = r; flags = f; eip = eip; mem = mem; since = suc m.since }

-- one instruction that is no start
pub step_at : (p : Prog) (l : Layout) (f k : ℕ) (m : M) (a c : ℕ) (i : Ins) (r : Regs) (fl : Flags) (eip : ℕ) (mem : Space) → Stays p l f k a i c → m.eip ≡ a → m.mem.text ≡ p.text → m.since < p.limit → executed (cpu_of m.regs m.flags a) m.mem i c ≡ done (cpu_of r fl eip) mem → Moves p m (on m r fl eip mem)
unfolding advanced stepped
step_at p l f k m a c i r fl eip mem st e text lt ex =
    let quiet : p.is_start m.eip ≡ false = ap p.is_start e ∙ st.no_start in
    let s = st.stored in
    record {
      within = subst (λ b. (arrive p b m).since < p.limit) (sym quiet) lt;
      by =
          ap (λ b. advanced (process (arrive p b m))) quiet
          ∙ ap (λ x. after (process m) (decided (cpu_of m.regs m.flags x) m.mem (decoded (code_from m.mem.text x)))) e
          ∙ ap (λ t. after (process m) (decided (cpu_of m.regs m.flags a) m.mem (decoded (code_from t a)))) text
          ∙ ap (λ d. after (process m) (decided (cpu_of m.regs m.flags a) m.mem d)) s.read
          ∙ ap (λ x. after (process m) (executed (cpu_of m.regs m.flags a) m.mem i x)) (sym s.next)
          ∙ ap (after (process m)) ex;
      turns = ap (λ b. (arrive p b m).turns) (sym quiet);
      since = ap (λ b. suc (arrive p b m).since) (sym quiet);
      made = ap (λ b. (arrive p b m).made) (sym quiet);
    }

-- the nop of a start
pub step_start : (p : Prog) (l : Layout) (f k : ℕ) (m : M) (a c : ℕ) (o : Option ℕ) → Begins p l f k a c o → m.eip ≡ a → (arrive p true m).mem.text ≡ p.text → 0 < p.limit → Moves p m (on (arrive p true m) m.regs m.flags c (arrive p true m).mem)
unfolding advanced stepped executed
step_start p l f k m a c o st e text lt =
    let here : p.is_start m.eip ≡ true = ap p.is_start e ∙ st.is_start in
    let s = st.stored in
    let m0 : M = arrive p true m in
    record {
      within = subst (λ b. (arrive p b m).since < p.limit) (sym here) lt;
      by =
          ap (λ b. advanced (process (arrive p b m))) here
          ∙ ap (λ x. after (process m0) (decided (cpu_of m.regs m.flags x) m0.mem (decoded (code_from m0.mem.text x)))) e
          ∙ ap (λ t. after (process m0) (decided (cpu_of m.regs m.flags a) m0.mem (decoded (code_from t a)))) text
          ∙ ap (λ d. after (process m0) (decided (cpu_of m.regs m.flags a) m0.mem d)) s.read
          ∙ ap (λ x. after (process m0) (executed (cpu_of m.regs m.flags a) m0.mem (Plain Nop) x)) (sym s.next);
      turns = ap (λ b. (arrive p b m).turns) (sym here);
      since = ap (λ b. suc (arrive p b m).since) (sym here);
      made = ap (λ b. (arrive p b m).made) (sym here);
    }

-- an arrival at which nothing is done to memory
pub unpoked : (p : Prog) (m : M) → ((t : ℕ) (made : List _) (s : Space) → p.poke t made s ≡ s) → (b : Bool) → process (arrive p b m) ≡ process m
unpoked p m none true = ap (λ s. process (record m { mem = s })) (none (suc m.turns) (made_at (p.opens m.eip) m.regs.ebp m.made) m.mem)
unpoked p m none false = refl

-- without anything done at turns, the ghosts can be taken away
pub without_ghosts : (p : Prog) (m m' : M) (k : ℕ) → ((t : ℕ) (made : List _) (s : Space) → p.poke t made s ≡ s) → Path p k m m' → ran k (process m) ≡ Goes (process m')
without_ghosts p m m' zero none e = ap (λ x. Goes (process x)) e
without_ghosts p m m' (suc k) none h =
    let same : process (arrived p m) ≡ process m = unpoked p m none (p.is_start m.eip) in
    ap (λ x. and_on (advanced x) (ran k)) (sym same) ∙ ap (λ r. and_on r (ran k)) h.1.by ∙ without_ghosts p h.0 m' k none h.2
