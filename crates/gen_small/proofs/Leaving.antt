-- A function is left, and the process ends with its value.
use Rattle.std.proofs.Common.{◌≡◌, ℕ, ◌+◌, ◌%◌, ◌<◌, ◌≤◌, List, [], ◌∷◌, Option, length, refl, sym, ap, ◌∙◌, subst, arith}
use Rattle.mach_mem.specs.Addresses.{stack_end}
use Rattle.mach_mem.specs.Space.{byte_at, with_number}
use Rattle.isa386.specs.declared.Dest.TheVariants.{Register}
use Rattle.isa386.specs.declared.StackOp.TheVariants.{Push, PushImm}
use Rattle.isa386.specs.declared.PlainOp.TheVariants.{Ret, Leave}
use Rattle.isa386.specs.declared.Ins.TheVariants.{MoveImm, Stack, Plain, Lcall}
use Rattle.mach_exec.specs.Word.{add32, sub32}
use Rattle.c_run.specs.State.{State, Act}
use Rattle.c_run.specs.Context.{Linked}
use Rattle.gen_small.specs.Ghost.{Regs, M, Prog}
use Rattle.gen_small.specs.Items.{Op, Layout, Stands}
use Rattle.gen_small.specs.Spelled.{bytes, Tells}
use Rattle.gen_small.specs.Agree.{Ghost, Frames, Agrees}
use Rattle.gen_small.specs.Reaches.{Comes, AtEnd}
use Rattle.gen_small.proofs.Reach.{move_on, moved, on, step_at}
use Rattle.gen_small.proofs.Memory.{Wrote, number_told, number_wrote, writable4, can_write_stack, tells_keep}
use Rattle.gen_small.proofs.Steps.{push_eax, push_number, set_eax}
use Rattle.gen_small.proofs.CallSteps.{leave, ret, exit_called, exits_at}

-- the link and the return address of the latest frame
links : (l : Layout) (w : Linked) (told : ℕ → Option ℕ) (s : State) (g : Ghost) (rs : List Act) → Frames l w told s.made (g ∷ []) rs → Tells told g.base (bytes 4 0) × Tells told (g.base + 4) (bytes 4 g.ret)
links l w told s g [] fr = absurd fr
links l w told s g (a ∷ rs) fr = (fr.0.link_told, fr.0.ret_told)

module _ (p : Prog) (l : Layout) (w : Linked) (most : ℕ) (room : most ≤ p.limit) where
  -- leave and ret
  pub record Back (text : List ℕ) (m : M) (c : ℕ) (m' : M) : Type 0 where
    pub comes : Comes p m m'
    pub esp_is : m'.regs.esp ≡ stack_end
    pub eax_is : m'.regs.eax ≡ m.regs.eax
    pub eip_is : m'.eip ≡ c
    pub mem_is : m'.mem ≡ m.mem
    pub input_is : m'.input ≡ m.input
    pub output_is : m'.output ≡ m.output
    pub turns_is : m'.turns ≡ m.turns
    pub since_is : m'.since ≡ m.since + 2

  pub back_runs : (f k : ℕ) (s : State) (g : Ghost) (m : M) (a b : ℕ) → Stands p l f k a (Op (Plain Leave) ∷ Op (Plain Ret) ∷ []) b → Agrees l w p.text s (g ∷ []) m → g.base ≡ 2147483640 → g.ret < 4294967296 → m.eip ≡ a → m.since + 2 ≤ most → (m' : M) × Back p.text m g.ret m'
  back_runs f k s g m a b st ag base small at soon =
      let c1 = st.0 in
      let c2 = st.2.0 in
      let ln = links l w (byte_at m.mem) s g s.chain ag.frames in
      let eb : m.regs.ebp ≡ 2147483640 = ag.ebp_is ∙ base in
      let r1 : Regs = record m.regs { esp = add32 m.regs.ebp 4; ebp = 0 } in
      let m1 : M = on m r1 m.flags c1 m.mem in
      let e1 = step_at p l f k m a c1 (Plain Leave) r1 m.flags c1 m.mem st.1 at ag.text_is (omega arith) (leave m.regs m.flags a m.mem 0 c1 (number_told (byte_at m.mem) m.regs.ebp 0 (omega arith) (subst (λ z. Tells (byte_at m.mem) z (bytes 4 0)) (sym ag.ebp_is) ln.0))) in
      let top : add32 m.regs.ebp 4 ≡ g.base + 4 = ap (λ z. add32 z 4) eb ∙ ap (λ z. z + 4) (sym base) in
      let r2 : Regs = record r1 { esp = add32 (add32 m.regs.ebp 4) 4 } in
      let m2 : M = on m1 r2 m.flags g.ret m.mem in
      let e2 = step_at p l f k m1 c1 c2 (Plain Ret) r2 m.flags g.ret m.mem st.2.1 refl ag.text_is (omega arith) (ret r1 m.flags c1 m.mem g.ret c2 (number_told (byte_at m.mem) (add32 m.regs.ebp 4) g.ret small (subst (λ z. Tells (byte_at m.mem) z (bytes 4 g.ret)) (sym top) ln.1))) in
      (m2, record { comes = move_on p m m1 m2 e1 (moved p m1 m2 e2); esp_is = ap (λ z. add32 (add32 z 4) 4) eb; eax_is = refl; eip_is = refl; mem_is = refl; input_is = refl; output_is = refl; turns_is = refl; since_is = omega arith })

  -- the exit with the value in eax
  pub exit_runs : (f k : ℕ) (s : State) (m : M) (a b n : ℕ) → Stands p l f k a (Op (Stack (Push 0)) ∷ Op (Stack (PushImm 0)) ∷ Op (MoveImm (Register 0) 1) ∷ Op Lcall ∷ []) b → m.eip ≡ a → m.regs.esp ≡ stack_end → m.regs.eax ≡ n → n < 4294967296 → length m.mem.stack ≡ 4194304 → m.mem.text ≡ p.text → m.output ≡ s.output → m.turns ≡ s.turns → m.since + 4 ≤ most → (m' : M) × Comes p m m' × AtEnd p l w (n % 256) s m'
  exit_runs f k s m a b n st at sp ax small whole text out turns soon =
      let c1 = st.0 in
      let c2 = st.2.0 in
      let c3 = st.2.2.0 in
      let c4 = st.2.2.2.0 in
      let can1 = can_write_stack 4 m.mem 2147483644 whole (omega arith) (omega arith) in
      let mem1 = with_number m.mem 2147483644 m.regs.eax in
      let w1 : Wrote m.mem 2147483644 (bytes 4 m.regs.eax) mem1 = number_wrote m.mem 2147483644 m.regs.eax (omega arith) can1 in
      let r1 : Regs = record m.regs { esp = 2147483644 } in
      let m1 : M = on m r1 m.flags c1 mem1 in
      let e1 = step_at p l f k m a c1 (Stack (Push 0)) r1 m.flags c1 mem1 st.1 at text (omega arith) (push_eax m.regs m.flags a m.mem 2147483644 c1 (ap (λ z. sub32 z 4) sp) (writable4 m.mem 2147483644 can1)) in
      let can2 = can_write_stack 4 mem1 2147483640 (w1.shaped.stack ∙ whole) (omega arith) (omega arith) in
      let mem2 = with_number mem1 2147483640 0 in
      let w2 : Wrote mem1 2147483640 (bytes 4 0) mem2 = number_wrote mem1 2147483640 0 (omega arith) can2 in
      let r2 : Regs = record m.regs { esp = 2147483640 } in
      let m2 : M = on m1 r2 m.flags c2 mem2 in
      let e2 = step_at p l f k m1 c1 c2 (Stack (PushImm 0)) r2 m.flags c2 mem2 st.2.1 refl (w1.shaped.text ∙ text) (omega arith) (push_number r1 m.flags c1 mem1 2147483640 0 c2 refl (writable4 mem1 2147483640 can2)) in
      let text2 : mem2.text ≡ p.text = w2.shaped.text ∙ w1.shaped.text ∙ text in
      let r3 : Regs = record r2 { eax = 1 } in
      let m3 : M = on m2 r3 m.flags c3 mem2 in
      let e3 = step_at p l f k m2 c2 c3 (MoveImm (Register 0) 1) r3 m.flags c3 mem2 st.2.2.1 refl text2 (omega arith) (set_eax r2 m.flags c2 mem2 1 c3) in
      let told : Tells (byte_at mem2) 2147483644 (bytes 4 n) = tells_keep (bytes 4 n) (byte_at mem1) (byte_at mem2) 2147483644 (λ x lo hi. w2.above x (omega arith)) (subst (λ z. Tells (byte_at mem1) 2147483644 (bytes 4 z)) ax w1.tells) in (
        m3,
        move_on p m m1 m3 e1 (move_on p m1 m2 m3 e2 (moved p m2 m3 e3)),
        record {
          exits = exits_at p l f k m3 c3 c4 (n % 256) st.2.2.2.1 refl text2 (exit_called r2 m.flags mem2 m.input c4 n (number_told (byte_at mem2) 2147483644 n small told));
          within = omega arith;
          output_is = out;
          turns_is = turns;
        },
      )
