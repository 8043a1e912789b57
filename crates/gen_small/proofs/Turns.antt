-- Turns and arrivals.
use Rattle.std.proofs.Common.{◌≡◌, ℕ, suc, ◌<◌, List, [], ◌∷◌, Bool, true, false, Option, refl, sym, ap, ◌∙◌, subst}
use Rattle.std.specs.Prelude.{nat_lt}
use Rattle.mach_mem.specs.Space.{Space, byte_at}
use Rattle.c_run.specs.Values.{Object, Static, Local}
use Rattle.c_run.specs.State.{State, Act, Made, Acts, Out, Gave, Halt, bind, stop_if, at_start, begun, thing}
use Rattle.c_run.specs.Context.{Linked}
use Rattle.c_run.specs.Stmts.{turn}
use Rattle.gen_small.specs.Ghost.{Regs, M, Prog, arrive, made_at}
use Rattle.gen_small.specs.Items.{Layout, Begins}
use Rattle.gen_small.specs.Agree.{Ghost, Frames, Agree, Agrees}
use Rattle.gen_small.specs.Reaches.{IsAt, Halted, run_of}
use Rattle.gen_small.specs.Flows.{Kept, Respects}
use Rattle.gen_small.proofs.Reach.{stays, moved, Reach, reach_after, on, step_start}

-- a start that begins changes no object
thing_begun : (s : State) (k : ℕ) (o : Object) → thing (begun k s) o ≡ thing s o
thing_begun s k (Static j) = refl
thing_begun s k (Local serial i) = go s.chain
  where
    go : (rs : List Act) → thing (record s { chain = at_start k rs }) (Local serial i) ≡ thing (record s { chain = rs }) (Local serial i)
    go [] = refl
    go (a ∷ rs) = refl

at_begun : (rs : List Act) (f j k : ℕ) → IsAt rs f j → IsAt (at_start k rs) f k
at_begun [] f j k h = h
at_begun (a ∷ rs) f j k h = (h.0, refl)

module _ (p : Prog) (l : Layout) (w : Linked) where
  frames_begun : (told : ℕ → Option ℕ) (made : List Made) (gs : List Ghost) (rs : List Act) (k : ℕ) → Frames l w told made gs rs → Frames l w told made gs (at_start k rs)
  frames_begun told made gs [] k fr = fr
  frames_begun told made [] (a ∷ rs) k fr = absurd fr
  frames_begun told made (g ∷ gs) (a ∷ rs) k fr =
      let f = fr.0 in
      (record { whole_is = f.whole_is; body_is = f.body_is; serial_is = f.serial_is; fun_is = f.fun_is; known = f.known; made_is = f.made_is; temps = f.temps; few = f.few; link_told = f.link_told; ret_told = f.ret_told; returns = f.returns }, fr.1)

  begun_agrees : (s : State) (k : ℕ) (gs : List Ghost) (ebp esp : ℕ) (mem : Space) (input output : List ℕ) (turns : ℕ) (made : List Made) → Agree l w p.text s gs ebp esp mem input output turns made → Agree l w p.text (begun k s) gs ebp esp mem input output (suc turns) made
  begun_agrees s k gs ebp esp mem input output turns made ag =
      let pl = ag.placed in
      record {
        cells = λ o x h. ag.cells o x (sym (thing_begun s k o) ∙ h);
        frames = frames_begun (byte_at mem) s.made gs s.chain k ag.frames;
        placed = record {
          sorted = λ o x h. pl.sorted o x (sym (thing_begun s k o) ∙ h);
          writable = λ o x h. pl.writable o x (sym (thing_begun s k o) ∙ h);
          apart = λ o q x y h1 h2 ne. pl.apart o q x y (sym (thing_begun s k o) ∙ h1) (sym (thing_begun s k q) ∙ h2) ne;
          off = λ o x h. pl.off o x (sym (thing_begun s k o) ∙ h);
          free = λ o x h. pl.free o x (sym (thing_begun s k o) ∙ h);
        };
        layered = ag.layered;
        ebp_is = ag.ebp_is;
        esp_is = ag.esp_is;
        stack_is = ag.stack_is;
        text_is = ag.text_is;
        input_is = ag.input_is;
        output_is = ag.output_is;
        turns_is = ap suc ag.turns_is;
        made_is = ag.made_is;
      }

  -- a turn that is not the last: the machine is behind the start's nop
  pub record Turned (gs : List Ghost) (f k c : ℕ) (old : Regs) (s : State) (m : M) : Type 0 where
    pub agree : Agrees l w p.text s gs m
    pub here : IsAt s.chain f k
    pub eip_is : m.eip ≡ c
    pub since_is : m.since ≡ 1
    pub regs_is : m.regs ≡ old

  -- the start k begins
  pub turn_runs : {A : Type 0} (stop : ℕ) (acts : Acts) → Respects p l w acts → 0 < p.limit → (f j k : ℕ) (gs : List Ghost) (s : State) (m : M) (a c : ℕ) (o : Option ℕ) (go : State → Out A) (Q : A → State → M → Type 0) → Begins p l f k a c o → m.eip ≡ a → IsAt s.chain f j → Agree l w p.text s gs m.regs.ebp m.regs.esp m.mem m.input m.output m.turns (made_at o m.regs.ebp m.made) → ((s1 : State) (m1 : M) → Turned gs f k c m.regs s1 m1 → Reach p (Halted p l w) m1 (go s1) Q) → Reach p (Halted p l w) m (turn (run_of stop acts w) k s go) Q
  turn_runs stop acts ok pos f j k gs s m a c o go Q st at here ag on_go =
      acted (acts (suc s.turns) (begun k s)) (ok f k (begun k s) gs m.regs.ebp m.regs.esp m.mem m.input m.output (suc m.turns) (made_at o m.regs.ebp m.made) (begun_agrees s k gs m.regs.ebp m.regs.esp m.mem m.input m.output m.turns (made_at o m.regs.ebp m.made) ag) (at_begun s.chain f j k here))
    where
      opened : p.opens m.eip ≡ o
      opened = ap p.opens at ∙ st.opens

      acted : (r : Out (Unit {0})) → Kept p l w f k gs m.regs.ebp m.regs.esp (p.poke (suc m.turns) (made_at o m.regs.ebp m.made) m.mem) m.input m.output (suc m.turns) (made_at o m.regs.ebp m.made) r → Reach p (Halted p l w) m (bind r (λ u s1. stop_if (nat_lt (suc s.turns) stop) s1 go)) Q
      acted (Halt why s1) h = (m, stays p m, h m)
      acted (Gave u s1) h = stopped (nat_lt (suc s.turns) stop)
        where
          P : Option ℕ → Type 0
          P q = Agree l w p.text s1 gs m.regs.ebp m.regs.esp (p.poke (suc m.turns) (made_at q m.regs.ebp m.made) m.mem) m.input m.output (suc m.turns) (made_at q m.regs.ebp m.made)

          ag1 : Agrees l w p.text s1 gs (arrive p true m)
          ag1 = subst P (sym opened) h.0

          stopped : (b : Bool) → Reach p (Halted p l w) m (stop_if b s1 go) Q
          stopped false = (m, stays p m, record { ghosts = gs; fun = f; start = k; here = h.1; is_start = ap p.is_start at ∙ st.is_start; eip_is = st.start ∙ sym at; agree = ag1 })
          stopped true =
              let m0 : M = arrive p true m in
              let m1 : M = on m0 m.regs m.flags c m0.mem in
              reach_after p (Halted p l w) m m1 (go s1) Q (moved p m m1 (step_start p l f k m a c o st at ag1.text_is pos))
              (on_go s1 m1 (record { agree = record { cells = ag1.cells; frames = ag1.frames; placed = ag1.placed; layered = ag1.layered; ebp_is = ag1.ebp_is; esp_is = ag1.esp_is; stack_is = ag1.stack_is; text_is = ag1.text_is; input_is = ag1.input_is; output_is = ag1.output_is; turns_is = ag1.turns_is; made_is = ag1.made_is }; here = h.1; eip_is = refl; since_is = refl; regs_is = refl }))
