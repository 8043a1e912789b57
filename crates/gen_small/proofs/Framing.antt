-- A frame is made: the call, the link, room for objects and temporaries, and zeros.
use Rattle.std.proofs.Common.{◌≡◌, ℕ, zero, suc, ◌+◌, ◌-◌, ◌%◌, ◌<◌, ◌≤◌, List, [], ◌∷◌, true, Option, Some, length, refl, ap, ◌∙◌, subst, arith}
use Rattle.std.specs.Prelude.{ℤ}
use Rattle.std.specs.Int.{w32, cast_signed, cast_unsigned}
use Rattle.mach_mem.specs.Addresses.{stack_start, stack_end, stack_room}
use Rattle.mach_mem.specs.Space.{Space, byte_at, is_writable, with_number}
use Rattle.isa386.specs.declared.Opnd.TheVariants.{Reg}
use Rattle.isa386.specs.declared.Way.TheVariants.{ToOperand}
use Rattle.isa386.specs.declared.Dest.TheVariants.{Register}
use Rattle.isa386.specs.declared.StackOp.TheVariants.{Push}
use Rattle.isa386.specs.declared.ArithOp.TheVariants as machine
use Rattle.isa386.specs.declared.StringOp.TheVariants.{RepStosb}
use Rattle.isa386.specs.declared.Callee.TheVariants.{Relative}
use Rattle.isa386.specs.declared.Ins.TheVariants.{Move, MoveImm, Lea, Stack, ArithImm, Call, Str}
use Rattle.mach_exec.specs.Word.{add32, sub32}
use Rattle.mach_exec.specs.Strings.{filled}
use Rattle.c_run.specs.State.{State}
use Rattle.c_run.specs.Context.{Linked}
use Rattle.gen_small.specs.Ghost.{Regs, M, Prog}
use Rattle.gen_small.specs.Items.{Op, Layout, Stays, Stands}
use Rattle.gen_small.specs.Spelled.{bytes, Tells}
use Rattle.gen_small.specs.Code.{below, zero_code}
use Rattle.gen_small.specs.Agree.{Agree}
use Rattle.gen_small.specs.Reaches.{Comes}
use Rattle.gen_small.proofs.Reach.{stays, move_on, moved, on, step_at}
use Rattle.gen_small.proofs.Memory.{Wrote, number_wrote, writable4, can_write_stack, tells_keep}
use Rattle.gen_small.proofs.Steps.{push_ebp, esp_to_ebp, sub_esp, set_eax, place_below, place as step_place, difference_flags}
use Rattle.gen_small.proofs.CallSteps.{call_near, address_edi, set_ecx, fill, Filled, filled_all, each_writable}
use Rattle.gen_small.proofs.Agreement.{scratch_agrees}

-- so many zeros
zeros : ℕ → List ℕ
zeros zero = []
zeros (suc n) = 0 ∷ zeros n

length-zeros : (n : ℕ) → length (zeros n) ≡ n
unfolding zeros
length-zeros zero = refl
length-zeros (suc n) = ap suc (length-zeros n)

zeros_told : (m : ℕ → Option ℕ) (n at : ℕ) → ((x : ℕ) → at ≤ x → x < at + n → m x ≡ Some 0) → Tells m at (zeros n)
unfolding zeros
zeros_told m zero at h = tt
zeros_told m (suc n) at h = (h at (omega arith) (omega arith), zeros_told m n (suc at) (λ x lo hi. h x (omega arith) (omega arith)))

filled_wrote : (m m' : Space) (at n : ℕ) → Filled m at 0 n m' → Wrote m at (zeros n) m'
filled_wrote m m' at n h = record { tells = zeros_told (byte_at m') n at h.inside; below = h.below; above = λ b le. h.above b (omega (arith, length-zeros n)); shaped = h.shaped }

-- each byte of the stack can be written
one_writable : (m : Space) (x : ℕ) → length m.stack ≡ stack_room → stack_start ≤ x → x < stack_end → is_writable m x ≡ true
one_writable m x whole lo hi = (can_write_stack 1 m x whole lo (omega arith)).0

module _ (p : Prog) (l : Layout) (w : Linked) (most : ℕ) (room : most ≤ p.limit) where
  -- the automatic objects, n bytes below the base B, become zero
  pub record Zeroed (s : State) (B n : ℕ) (m : M) (c : ℕ) (m' : M) : Type 0 where
    pub comes : Comes p m m'
    pub ebp_is : m'.regs.ebp ≡ m.regs.ebp
    pub esp_is : m'.regs.esp ≡ m.regs.esp
    pub eip_is : m'.eip ≡ c
    pub since_is : m'.since ≤ m.since + 4
    pub agree : Agree l w p.text s [] 0 stack_end m'.mem m'.input m'.output m'.turns m'.made
    pub zero : (x : ℕ) → B - n ≤ x → x < B → byte_at m'.mem x ≡ Some 0
    pub above : (x : ℕ) → B ≤ x → byte_at m'.mem x ≡ byte_at m.mem x

  pub zero_runs : (f k : ℕ) (s : State) (B n : ℕ) (m : M) (a b : ℕ) → Stands p l f k a (zero_code n n) b → Agree l w p.text s [] 0 stack_end m.mem m.input m.output m.turns m.made → m.regs.ebp ≡ B → B < stack_end → stack_start + n ≤ B → m.eip ≡ a → m.since + 4 ≤ most → (m' : M) × Zeroed s B n m b m'
  zero_runs f k s B zero m a b st ag eb hi lo at soon =
      (m, record { comes = stays p m; ebp_is = refl; esp_is = refl; eip_is = at ∙ st; since_is = omega arith; agree = ag; zero = λ x l h. absurd (omega arith); above = λ x h. refl })
  zero_runs f k s B (suc n) m a b st ag eb hi lo at soon =
      let c1 = st.0 in
      let c2 = st.2.0 in
      let c3 = st.2.2.0 in
      let c4 = st.2.2.2.0 in
      let z = B - suc n in
      let addr = ap (λ u. step_place u (cast_signed w32 (4294967296 - suc n))) eb ∙ place_below B (suc n) (omega arith) (omega arith) (omega arith) in
      let r1 : Regs = record m.regs { edi = z } in
      let m1 : M = on m r1 m.flags c1 m.mem in
      let e1 = step_at p l f k m a c1 (Lea 7 (below (suc n))) r1 m.flags c1 m.mem st.1 at ag.text_is (omega arith) (address_edi m.regs m.flags a m.mem (suc n) z c1 addr) in
      let r2 : Regs = record r1 { ecx = suc n } in
      let m2 : M = on m1 r2 m.flags c2 m.mem in
      let e2 = step_at p l f k m1 c1 c2 (MoveImm (Register 1) (suc n)) r2 m.flags c2 m.mem st.2.1 refl ag.text_is (omega arith) (set_ecx r1 m.flags c1 m.mem (suc n) c2) in
      let r3 : Regs = record r2 { eax = 0 } in
      let m3 : M = on m2 r3 m.flags c3 m.mem in
      let e3 = step_at p l f k m2 c2 c3 (MoveImm (Register 0) 0) r3 m.flags c3 m.mem st.2.2.1 refl ag.text_is (omega arith) (set_eax r2 m.flags c2 m.mem 0 c3) in
      let can : (x : ℕ) → z ≤ x → x < z + suc n → is_writable m.mem x ≡ true = λ x lx hx. one_writable m.mem x ag.stack_is (omega arith) (omega arith) in
      let mem4 = filled m.mem z 0 (suc n) in
      let r4 : Regs = record r2 { eax = 0; ecx = 0; edi = add32 z (suc n) } in
      let m4 : M = on m3 r4 m.flags c4 mem4 in
      let e4 = step_at p l f k m3 c3 c4 (Str RepStosb) r4 m.flags c4 mem4 st.2.2.2.1 refl ag.text_is (omega arith) (fill r2 m.flags c3 m.mem c4 (each_writable m.mem z (suc n) (omega arith) can)) in
      let fl = filled_all m.mem z 0 (suc n) (omega arith) can in (
        m4,
        record {
          comes = move_on p m m1 m4 e1 (move_on p m1 m2 m4 e2 (move_on p m2 m3 m4 e3 (moved p m3 m4 e4)));
          ebp_is = refl;
          esp_is = refl;
          eip_is = st.2.2.2.2;
          since_is = omega arith;
          agree = scratch_agrees l w p.text s [] 0 stack_end m.mem mem4 m.input m.output m.turns m.made z (zeros (suc n)) ag (omega arith) (omega (arith, length-zeros (suc n))) (filled_wrote m.mem mem4 z (suc n) fl);
          zero = λ x lx hx. fl.inside x lx (omega arith);
          above = λ x le. fl.above x (omega arith);
        },
      )

  -- the frame is made: the return address and the old base stand above it
  pub record Framed (s : State) (n size : ℕ) (m : M) (ret c : ℕ) (m' : M) : Type 0 where
    pub comes : Comes p m m'
    pub ebp_is : m'.regs.ebp ≡ 2147483640
    pub esp_is : m'.regs.esp ≡ 2147483640 - size
    pub eip_is : m'.eip ≡ c
    pub since_is : m'.since ≡ m.since + 4
    pub agree : Agree l w p.text s [] 0 stack_end m'.mem m'.input m'.output m'.turns m'.made
    pub made_is : m'.made ≡ m.made
    pub link : Tells (byte_at m'.mem) 2147483640 (bytes 4 0)
    pub back : Tells (byte_at m'.mem) 2147483644 (bytes 4 ret)

  pub frame_runs : (f0 k0 f k : ℕ) (s : State) (size : ℕ) (m : M) (a0 c0 a b : ℕ) (d : ℤ) → Stays p l f0 k0 a0 (Call (Relative d)) c0 → add32 c0 (cast_unsigned w32 d) ≡ a → Stands p l f k a (Op (Stack (Push 5)) ∷ Op (Move ToOperand 4 (Reg 5)) ∷ Op (ArithImm machine.Sub (Reg 4) size) ∷ []) b → Agree l w p.text s [] m.regs.ebp m.regs.esp m.mem m.input m.output m.turns m.made → stack_start + size ≤ 2147483640 → m.eip ≡ a0 → m.since + 4 ≤ most → (m' : M) × Framed s 0 size m c0 b m'
  frame_runs f0 k0 f k s size m a0 c0 a b d call to st ag fits at soon =
      let small : c0 < 4294967296 = omega (arith, call.stored.next) in
      let sp0 : m.regs.esp ≡ stack_end = ag.esp_is in
      let bp0 : m.regs.ebp ≡ 0 = ag.ebp_is in
      let ag0 : Agree l w p.text s [] 0 stack_end m.mem m.input m.output m.turns m.made = record { cells = ag.cells; frames = ag.frames; placed = ag.placed; layered = ag.layered; ebp_is = refl; esp_is = refl; stack_is = ag.stack_is; text_is = ag.text_is; input_is = ag.input_is; output_is = ag.output_is; turns_is = ag.turns_is; made_is = ag.made_is } in
      let can1 = can_write_stack 4 m.mem 2147483644 ag.stack_is (omega arith) (omega arith) in
      let mem1 = with_number m.mem 2147483644 c0 in
      let goal = add32 c0 (cast_unsigned w32 d) in
      let r1 : Regs = record m.regs { esp = 2147483644 } in
      let m1 : M = on m r1 m.flags goal mem1 in
      let e1 = step_at p l f0 k0 m a0 c0 (Call (Relative d)) r1 m.flags goal mem1 call at ag.text_is (omega arith) (call_near m.regs m.flags a0 m.mem d 2147483644 c0 (ap (λ z. sub32 z 4) sp0) (writable4 m.mem 2147483644 can1)) in
      let w1 = number_wrote m.mem 2147483644 c0 small can1 in
      let ag1 = scratch_agrees l w p.text s [] 0 stack_end m.mem mem1 m.input m.output m.turns m.made 2147483644 (bytes 4 c0) ag0 (omega arith) (omega arith) w1 in
      let c1 = st.0 in
      let c2 = st.2.0 in
      let c3 = st.2.2.0 in
      let can2 = can_write_stack 4 mem1 2147483640 ag1.stack_is (omega arith) (omega arith) in
      let mem2 = with_number mem1 2147483640 m.regs.ebp in
      let r2 : Regs = record m.regs { esp = 2147483640 } in
      let m2 : M = on m1 r2 m.flags c1 mem2 in
      let e2 = step_at p l f k m1 a c1 (Stack (Push 5)) r2 m.flags c1 mem2 st.1 to ag1.text_is (omega arith) (push_ebp r1 m.flags a mem1 2147483640 c1 refl (writable4 mem1 2147483640 can2)) in
      let w2 : Wrote mem1 2147483640 (bytes 4 m.regs.ebp) mem2 = number_wrote mem1 2147483640 m.regs.ebp (omega arith) can2 in
      let ag2 = scratch_agrees l w p.text s [] 0 stack_end mem1 mem2 m.input m.output m.turns m.made 2147483640 (bytes 4 m.regs.ebp) ag1 (omega arith) (omega arith) w2 in
      let r3 : Regs = record r2 { ebp = 2147483640 } in
      let m3 : M = on m2 r3 m.flags c2 mem2 in
      let e3 = step_at p l f k m2 c1 c2 (Move ToOperand 4 (Reg 5)) r3 m.flags c2 mem2 st.2.1 refl ag2.text_is (omega arith) (esp_to_ebp r2 m.flags c1 mem2 c2) in
      let r4 : Regs = record r3 { esp = sub32 2147483640 size } in
      let m4 : M = on m3 r4 (difference_flags 2147483640 size) c3 mem2 in
      let e4 = step_at p l f k m3 c2 c3 (ArithImm machine.Sub (Reg 4) size) r4 (difference_flags 2147483640 size) c3 mem2 st.2.2.1 refl ag2.text_is (omega arith) (sub_esp r3 m.flags c2 mem2 size c3) in (
        m4,
        record {
          comes = move_on p m m1 m4 e1 (move_on p m1 m2 m4 e2 (move_on p m2 m3 m4 e3 (moved p m3 m4 e4)));
          ebp_is = refl;
          esp_is = under size fits;
          eip_is = st.2.2.2;
          since_is = omega arith;
          agree = ag2;
          made_is = refl;
          link = subst (λ z. Tells (byte_at mem2) 2147483640 (bytes 4 z)) bp0 w2.tells;
          back = tells_keep (bytes 4 c0) (byte_at mem1) (byte_at mem2) 2147483644 (λ x lo hi. w2.above x (omega arith)) w1.tells;
        },
      )
    where
      under : (size : ℕ) → stack_start + size ≤ 2147483640 → (2147483640 + (4294967296 - size)) % 4294967296 ≡ 2147483640 - size
      under size fits = omega arith
