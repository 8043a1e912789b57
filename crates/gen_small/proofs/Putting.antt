-- The code of putchar writes one byte.
use Rattle.std.proofs.Common.{◌≡◌, ℕ, ◌+◌, ◌-◌, ◌%◌, ◌<◌, ◌≤◌, List, [], ◌∷◌, ◌++◌, true, false, Some, refl, sym, ap, ◌∙◌, subst, arith}
use Rattle.std.specs.Int.{w32, cast_signed}
use Rattle.mach_mem.specs.Addresses.{stack_start, stack_end}
use Rattle.c_type.specs.declared.Kind.TheVariants.{Int}
use Rattle.c_type.specs.Types.{num}
use Rattle.mach_mem.specs.Space.{Space, byte_at, number_at, with_number, is_writable4}
use Rattle.isa386.specs.declared.Dw.TheVariants.{D32}
use Rattle.isa386.specs.declared.Opnd.TheVariants.{Reg, Mem}
use Rattle.isa386.specs.declared.Way.TheVariants.{ToOperand}
use Rattle.isa386.specs.declared.Dest.TheVariants.{Register}
use Rattle.isa386.specs.declared.StackOp.TheVariants.{Push, PushImm}
use Rattle.isa386.specs.declared.ArithOp.TheVariants as machine
use Rattle.isa386.specs.declared.WidenOp.TheVariants.{ZeroByte}
use Rattle.isa386.specs.declared.Ins.{Ins}
use Rattle.isa386.specs.declared.Ins.TheVariants.{Move, MoveImm, Stack, ArithImm, Widen, Lcall}
use Rattle.mach_exec.specs.Word.{add32, sub32}
use Rattle.mach_exec.specs.Effect.{done}
use Rattle.mach_exec.specs.Execute.{executed}
use Rattle.c_run.specs.State.{State}
use Rattle.c_run.specs.Context.{Linked}
use Rattle.c_run.specs.Calls.{put_byte}
use Rattle.gen_small.specs.Ghost.{Regs, Flags, cpu_of, M, Prog}
use Rattle.gen_small.specs.Items.{Op, Layout, Stays, Stands}
use Rattle.gen_small.specs.Spelled.{bytes, Tells}
use Rattle.gen_small.specs.Agree.{Ghost, floor, Agree}
use Rattle.gen_small.specs.Reaches.{IsAt, Halted, Given}
use Rattle.gen_small.proofs.Reach.{Comes, move_on, moved, come_on, Reach, on, step_at}
use Rattle.gen_small.proofs.Memory.{Wrote, number_told, number_wrote, writable4, can_write_stack, tells_keep}
use Rattle.gen_small.proofs.Steps.{set_eax, esp_to_eax, push_eax, push_number, add_esp, sum_flags}
use Rattle.gen_small.proofs.PutSteps.{load_byte, called_on, write_byte, step_called}
use Rattle.gen_small.proofs.Agreement.{scratch_agrees}
use Rattle.gen_small.proofs.Exprs.{no_more}
use Rattle.gen_small.proofs.Sums.{suits_number}

sub_small : (a b c : ℕ) → a ≡ c + b → a < 4294967296 → 0 < b → sub32 a b ≡ c
sub_small a b c e lt pos = omega arith

kept4 : (m m' : Space) (at c v : ℕ) → Wrote m at (bytes 4 v) m' → at + 4 ≤ c → (x : ℕ) → Tells (byte_at m) c (bytes 4 x) → Tells (byte_at m') c (bytes 4 x)
kept4 m m' at c v wr le x t = tells_keep (bytes 4 x) (byte_at m) (byte_at m') c (λ b lo hi. wr.above b (omega arith)) t

module _ (p : Prog) (l : Layout) (w : Linked) (most : ℕ) (room : most ≤ p.limit) where
  -- below the frames, whose lowest address is e
  pub record Low (s : State) (gs : List Ghost) (e q : ℕ) (m : M) : Type 0 where
    pub agree : Agree l w p.text s gs m.regs.ebp e m.mem m.input m.output m.turns m.made
    pub floor_is : e ≡ floor gs
    pub esp_is : m.regs.esp + q ≡ e
    pub low : stack_start + 44 ≤ e
    pub high : e ≤ stack_end

  -- a number is pushed at the address `at`
  record Pushed (s : State) (gs : List Ghost) (e q : ℕ) (m : M) (c at v : ℕ) : Type 0 where
    moves : Comes p m (on m (record m.regs { esp = at }) m.flags c (with_number m.mem at v))
    low : Low s gs e (q + 4) (on m (record m.regs { esp = at }) m.flags c (with_number m.mem at v))
    told : Tells (byte_at (with_number m.mem at v)) at (bytes 4 v)
    kept : (z x : ℕ) → at + 4 ≤ z → Tells (byte_at m.mem) z (bytes 4 x) → Tells (byte_at (with_number m.mem at v)) z (bytes 4 x)

  push : (f k : ℕ) (s : State) (gs : List Ghost) (e q : ℕ) (m : M) (a c at v : ℕ) (i : Ins) → Low s gs e q m → q ≤ 40 → at + (q + 4) ≡ e → Stays p l f k a i c → m.eip ≡ a → v < 4294967296 → m.since < most → (sub32 m.regs.esp 4 ≡ at → is_writable4 m.mem at ≡ true → executed (cpu_of m.regs m.flags a) m.mem i c ≡ done (cpu_of (record m.regs { esp = at }) m.flags c) (with_number m.mem at v)) → Pushed s gs e q m c at v
  push f k s gs e q m a c at v i lw few ate st here lt soon does =
      let ag = lw.agree in
      let low = lw.low in
      let high = lw.high in
      let es = lw.esp_is in
      let can = can_write_stack 4 m.mem at ag.stack_is (omega arith) (omega arith) in
      let wr = number_wrote m.mem at v lt can in
      let ex = does (sub_small m.regs.esp 4 at (omega arith) (omega arith) (omega arith)) (writable4 m.mem at can) in
      record {
        moves = moved p m _ (step_at p l f k m a c i (record m.regs { esp = at }) m.flags c (with_number m.mem at v) st here ag.text_is (omega arith) ex);
        low = record {
          agree = scratch_agrees l w p.text s gs m.regs.ebp e m.mem (with_number m.mem at v) m.input m.output m.turns m.made at (bytes 4 v) ag (omega arith) (omega (arith, lw.floor_is)) wr;
          floor_is = lw.floor_is;
          esp_is = ate;
          low = low;
          high = high;
        };
        told = wr.tells;
        kept = λ z x le t. kept4 m.mem (with_number m.mem at v) at z v wr le x t;
      }

  -- the value, its address and the number 1 stand below the frames
  pub record First (s : State) (gs : List Ghost) (e : ℕ) (m : M) (c n : ℕ) (m3 : M) : Type 0 where
    pub comes : Comes p m m3
    pub low : Low s gs e 8 m3
    pub eip_is : m3.eip ≡ c
    pub since_is : m3.since ≡ m.since + 3
    pub eax_is : m3.regs.eax ≡ e - 4
    pub value : Tells (byte_at m3.mem) (e - 4) (bytes 4 n)
    pub count : Tells (byte_at m3.mem) (e - 8) (bytes 4 1)

  pub first : (f k : ℕ) (s : State) (gs : List Ghost) (e : ℕ) (m : M) (a b n : ℕ) → Low s gs e 0 m → Stands p l f k a (Op (Stack (Push 0)) ∷ Op (Move ToOperand 4 (Reg 0)) ∷ Op (Stack (PushImm 1)) ∷ []) b → m.eip ≡ a → m.regs.eax ≡ n → n < 4294967296 → m.since + 3 ≤ most → (m3 : M) × First s gs e m b n m3
  first f k s gs e m a b n lw st at ax lt soon =
      let low = lw.low in
      let c1 = st.0 in
      let c2 = st.2.0 in
      let c3 = st.2.2.0 in
      let p1 = push f k s gs e 0 m a c1 (e - 4) m.regs.eax (Stack (Push 0)) lw (omega arith) (omega arith) st.1 at (subst (λ z. z < 4294967296) (sym ax) lt) (omega arith) (push_eax m.regs m.flags a m.mem (e - 4) c1) in
      let r1 : Regs = record m.regs { esp = e - 4 } in
      let mem1 = with_number m.mem (e - 4) m.regs.eax in
      let m1 : M = on m r1 m.flags c1 mem1 in
      let r2 : Regs = record r1 { eax = e - 4 } in
      let m2 : M = on m1 r2 m.flags c2 mem1 in
      let l1 = p1.low in
      let e2 = step_at p l f k m1 c1 c2 (Move ToOperand 4 (Reg 0)) r2 m.flags c2 mem1 st.2.1 refl l1.agree.text_is (omega arith) (esp_to_eax r1 m.flags c1 mem1 c2) in
      let l2 : Low s gs e 4 m2 = record { agree = l1.agree; floor_is = l1.floor_is; esp_is = omega arith; low = l1.low; high = l1.high } in
      let p3 = push f k s gs e 4 m2 c2 c3 (e - 8) 1 (Stack (PushImm 1)) l2 (omega arith) (omega arith) st.2.2.1 refl (omega arith) (omega arith) (push_number r2 m.flags c2 mem1 (e - 8) 1 c3) in
      let m3 : M = on m2 (record r2 { esp = e - 8 }) m.flags c3 (with_number mem1 (e - 8) 1) in (
        m3,
        record {
          comes = come_on p m m1 m3 p1.moves (move_on p m1 m2 m3 e2 p3.moves);
          low = record { agree = p3.low.agree; floor_is = p3.low.floor_is; esp_is = omega arith; low = low; high = lw.high };
          eip_is = st.2.2.2;
          since_is = omega arith;
          eax_is = refl;
          value = p3.kept (e - 4) n (omega arith) (subst (λ z. Tells (byte_at mem1) (e - 4) (bytes 4 z)) ax p1.told);
          count = p3.told;
        },
      )

  -- the arguments of the system call stand there
  pub record Second (s : State) (gs : List Ghost) (e : ℕ) (m : M) (c n : ℕ) (m3 : M) : Type 0 where
    pub comes : Comes p m m3
    pub low : Low s gs e 20 m3
    pub eip_is : m3.eip ≡ c
    pub since_is : m3.since ≡ m.since + 3
    pub value : Tells (byte_at m3.mem) (e - 4) (bytes 4 n)
    pub count : Tells (byte_at m3.mem) (e - 8) (bytes 4 1)
    pub place : Tells (byte_at m3.mem) (e - 12) (bytes 4 (e - 4))
    pub descriptor : Tells (byte_at m3.mem) (e - 16) (bytes 4 1)

  pub second : (f k : ℕ) (s : State) (gs : List Ghost) (e : ℕ) (m : M) (a b n : ℕ) → Low s gs e 8 m → Stands p l f k a (Op (Stack (Push 0)) ∷ Op (Stack (PushImm 1)) ∷ Op (Stack (PushImm 0)) ∷ []) b → m.eip ≡ a → m.regs.eax ≡ e - 4 → Tells (byte_at m.mem) (e - 4) (bytes 4 n) → Tells (byte_at m.mem) (e - 8) (bytes 4 1) → m.since + 3 ≤ most → (m3 : M) × Second s gs e m b n m3
  second f k s gs e m a b n lw st at ax tv tc soon =
      let low = lw.low in
      let high = lw.high in
      let c1 = st.0 in
      let c2 = st.2.0 in
      let c3 = st.2.2.0 in
      let p1 = push f k s gs e 8 m a c1 (e - 12) m.regs.eax (Stack (Push 0)) lw (omega arith) (omega arith) st.1 at (omega arith) (omega arith) (push_eax m.regs m.flags a m.mem (e - 12) c1) in
      let r1 : Regs = record m.regs { esp = e - 12 } in
      let mem1 = with_number m.mem (e - 12) m.regs.eax in
      let m1 : M = on m r1 m.flags c1 mem1 in
      let p2 = push f k s gs e 12 m1 c1 c2 (e - 16) 1 (Stack (PushImm 1)) p1.low (omega arith) (omega arith) st.2.1 refl (omega arith) (omega arith) (push_number r1 m.flags c1 mem1 (e - 16) 1 c2) in
      let mem2 = with_number mem1 (e - 16) 1 in
      let m2 : M = on m1 (record r1 { esp = e - 16 }) m.flags c2 mem2 in
      let p3 = push f k s gs e 16 m2 c2 c3 (e - 20) 0 (Stack (PushImm 0)) p2.low (omega arith) (omega arith) st.2.2.1 refl (omega arith) (omega arith) (push_number (record r1 { esp = e - 16 }) m.flags c2 mem2 (e - 20) 0 c3) in
      let m3 : M = on m2 (record r1 { esp = e - 20 }) m.flags c3 (with_number mem2 (e - 20) 0) in (
        m3,
        record {
          comes = come_on p m m1 m3 p1.moves (come_on p m1 m2 m3 p2.moves p3.moves);
          low = p3.low;
          eip_is = st.2.2.2;
          since_is = omega arith;
          value = p3.kept (e - 4) n (omega arith) (p2.kept (e - 4) n (omega arith) (p1.kept (e - 4) n (omega arith) tv));
          count = p3.kept (e - 8) 1 (omega arith) (p2.kept (e - 8) 1 (omega arith) (p1.kept (e - 8) 1 (omega arith) tc));
          place = p3.kept (e - 12) (e - 4) (omega arith) (p2.kept (e - 12) (e - 4) (omega arith) (subst (λ z. Tells (byte_at mem1) (e - 12) (bytes 4 z)) ax p1.told));
          descriptor = p3.kept (e - 16) 1 (omega arith) p2.told;
        },
      )

  -- the call, and the byte in eax
  pub third : (g : Ghost) (gr : List Ghost) (f k : ℕ) (s : State) (e : ℕ) (m : M) (a b n t : ℕ) → Low s (g ∷ gr) e 20 m → IsAt s.chain f k → Stands p l f k a (Op (MoveImm (Register 0) 4) ∷ Op Lcall ∷ Op (Widen ZeroByte 0 (Mem (Some 4) (Some (4, 0)) (cast_signed w32 16) D32)) ∷ Op (ArithImm machine.Add (Reg 4) 20) ∷ []) b → m.eip ≡ a → Tells (byte_at m.mem) (e - 4) (bytes 4 n) → Tells (byte_at m.mem) (e - 8) (bytes 4 1) → Tells (byte_at m.mem) (e - 12) (bytes 4 (e - 4)) → Tells (byte_at m.mem) (e - 16) (bytes 4 1) → m.since + 4 ≤ t → t ≤ most → Reach p (Halted p l w) m (put_byte (n % 256) s) (Given p l w (g ∷ gr) f k s b t (num Int))
  third g gr f k s e m a b n t lw here st at tv tc tp td soon le =
      let ag = lw.agree in
      let low = lw.low in
      let high = lw.high in
      let es = lw.esp_is in
      let c1 = st.0 in
      let c2 = st.2.0 in
      let c3 = st.2.2.0 in
      let c4 = st.2.2.2.0 in
      let m1 : M = on m (record m.regs { eax = 4 }) m.flags c1 m.mem in
      let e1 = step_at p l f k m a c1 (MoveImm (Register 0) 4) (record m.regs { eax = 4 }) m.flags c1 m.mem st.1 at ag.text_is (omega arith) (set_eax m.regs m.flags a m.mem 4 c1) in
      let call = write_byte m.regs m.flags m.mem m.input c2 (e - 4) (n % 256)
      (ap (λ z. number_at (byte_at m.mem) z) (up m.regs.esp 4 (e - 16) (omega arith) (omega arith)) ∙ number_told (byte_at m.mem) (e - 16) 1 (omega arith) td)
      (ap (λ z. number_at (byte_at m.mem) z) (up m.regs.esp 8 (e - 12) (omega arith) (omega arith)) ∙ number_told (byte_at m.mem) (e - 12) (e - 4) (omega arith) tp)
      (ap (λ z. number_at (byte_at m.mem) z) (up m.regs.esp 12 (e - 8) (omega arith) (omega arith)) ∙ number_told (byte_at m.mem) (e - 8) 1 (omega arith) tc)
      (omega arith) tv.0 in
      let r2 : Regs = record m.regs { eax = 1 } in
      let f2 : Flags = record m.flags { cf = false } in
      let m2 : M = called_on m1 r2 f2 c2 (n % 256 ∷ []) in
      let e2 = step_called p l f k m1 c1 c2 r2 f2 (n % 256 ∷ []) st.2.1 refl ag.text_is (omega arith) call in
      let r3 : Regs = record m.regs { eax = n % 256 } in
      let m3 : M = on m2 r3 f2 c3 m.mem in
      let e3 = step_at p l f k m2 c2 c3 (Widen ZeroByte 0 (Mem (Some 4) (Some (4, 0)) (cast_signed w32 16) D32)) r3 f2 c3 m.mem st.2.2.1 refl ag.text_is (omega arith) (load_byte r2 f2 c2 m.mem (e - 4) (n % 256) c3 (up m.regs.esp 16 (e - 4) (omega arith) (omega arith)) tv.0) in
      let r4 : Regs = record r3 { esp = add32 m.regs.esp 20 } in
      let m4 : M = on m3 r4 (sum_flags m.regs.esp 20) c4 m.mem in
      let e4 = step_at p l f k m3 c3 c4 (ArithImm machine.Add (Reg 4) 20) r4 (sum_flags m.regs.esp 20) c4 m.mem st.2.2.2.1 refl ag.text_is (omega arith) (add_esp r3 f2 c3 m.mem 20 c4) in
      let pl = ag.placed in
      let small : n % 256 < 4294967296 = omega arith in (
        m4,
        move_on p m m1 m4 e1 (move_on p m1 m2 m4 e2 (move_on p m2 m3 m4 e3 (moved p m3 m4 e4))),
        record {
          agree = record {
            cells = ag.cells;
            frames = ag.frames;
            placed = record { sorted = pl.sorted; writable = pl.writable; apart = pl.apart; off = pl.off; free = pl.free };
            layered = ag.layered;
            ebp_is = ag.ebp_is;
            esp_is = up m.regs.esp 20 e (omega arith) (omega arith) ∙ lw.floor_is;
            stack_is = ag.stack_is;
            text_is = ag.text_is;
            input_is = ag.input_is;
            output_is = ap (λ z. z ++ n % 256 ∷ []) ag.output_is;
            turns_is = ag.turns_is;
            made_is = ag.made_is;
          };
          here = here;
          eip_is = st.2.2.2.2;
          eax_is = refl;
          typed = suits_number (n % 256) small;
          ok = small;
          more = [];
          grows = no_more p l w most room s;
          soon = omega arith;
        },
      )
    where
      up : (x d z : ℕ) → x + d ≡ z → z < 4294967296 → (x + d) % 4294967296 ≡ z
      up x d z e lt = omega arith
