-- The code of a program of the small form runs its main, and exits with its value.
use Rattle.std.proofs.Common.{◌≡◌, ℕ, ◌+◌, ◌%◌, ◌<◌, ◌≤◌, List, [], ◌∷◌, ◌++◌, map, Bool, true, false, Option, Some, None, length, refl, sym, ap, ◌∙◌, subst, arith}
use Rattle.std.specs.Prelude.{nat_le}
use Rattle.std.proofs.lemmas.Bool.{leb-true}
use Rattle.mach_mem.specs.Addresses.{stack_start, stack_end}
use Rattle.c_type.specs.Types.{CType}
use Rattle.mach_mem.specs.Space.{byte_at}
use Rattle.isa386.specs.declared.Dest.TheVariants.{Register}
use Rattle.isa386.specs.declared.StackOp.TheVariants.{Push, PushImm}
use Rattle.isa386.specs.declared.PlainOp.TheVariants.{Ret, Leave}
use Rattle.isa386.specs.declared.Ins.TheVariants.{MoveImm, Stack, Plain, Lcall}
use Rattle.c_tree.specs.TStmt.{Local, auto, auto_init, static_, extern_, function, locals}
use Rattle.c_tree.specs.Bodies.{BodyAt, autos}
use Rattle.c_run.specs.Values.{Value, Num, Stack, zero_of}
use Rattle.c_run.specs.State.{State, Act, Made, Acts, Out, Gave, Halt, Flow, Next, Broke, Continued, Returned, bind, choose}
use Rattle.c_run.specs.Context.{Linked, Context, context, fresh_all}
use Rattle.c_run.specs.Pointers.{leaves}
use Rattle.c_run.specs.Stmts.{Given as Run, Rest, turn, inits, stmts}
use Rattle.c_run.specs.Calls.{stack_base, main_base, frame_of, next_base, fit, all_suit, params, entered, left, result, body, enter, call_body, rest}
use Rattle.c_run.specs.Run.{ended, call_main}
use Rattle.gen_small.specs.Ghost.{Regs, M, Prog, made_at}
use Rattle.gen_small.specs.Items.{Item, Start, Open, Op, Label, Layout, Stands, Close, last_start}
use Rattle.gen_small.specs.Code.{Site, locals_size, stmts_code, zero_code, func_code, start_code}
use Rattle.gen_small.specs.Agree.{spell, IsVal, Ghost, Frames, Agree, Agrees}
use Rattle.gen_small.specs.Reaches.{Reach, IsAt, AtEnd, Halted, run_of}
use Rattle.gen_small.specs.Flows.{Respects, Flowed}
use Rattle.gen_small.specs.Mains.{AllPlain, IsMain}
use Rattle.gen_small.proofs.Reach.{stays, moved, come_on, reach_after, reach_bind, stands_split, on, step_at}
use Rattle.gen_small.proofs.Steps.{set_eax}
use Rattle.gen_small.proofs.Exprs.{quiet_step}
use Rattle.gen_small.proofs.Sums.{is_number}
use Rattle.gen_small.proofs.Turns.{turn_runs}
use Rattle.gen_small.proofs.Stmts.{puts_byte, loops_on, stmts_run}
use Rattle.gen_small.proofs.Entering.{rounded_ints, inside_of, entered_agrees}
use Rattle.gen_small.proofs.Framing.{frame_runs, zero_runs}
use Rattle.gen_small.proofs.Leaving.{back_runs, exit_runs}
use Rattle.gen_small.proofs.Memory.{tells_keep}
use Rattle.gen_small.specs.Spelled.{bytes}

-- declarators without initialisers do nothing
inits_plain : (g : Run) (r : Rest) (c : Context) (ds : List Local) (s : State) (go : State → Out Flow) → AllPlain ds → inits g r c ds s go ≡ go s
inits_plain g r c [] s go all = refl
inits_plain g r c (auto d i ∷ ds) s go all = inits_plain g r c ds s go all
inits_plain g r c (auto_init d i k line e ∷ ds) s go all = absurd all
inits_plain g r c (static_ d k i ∷ ds) s go all = absurd all
inits_plain g r c (extern_ d ∷ ds) s go all = absurd all
inits_plain g r c (function d q ∷ ds) s go all = absurd all

-- no frames, no activations
none_made : (l : Layout) (w : Linked) (told : ℕ → Option ℕ) (made : List Made) (rs : List Act) → Frames l w told made [] rs → rs ≡ []
none_made l w told made [] fr = refl
none_made l w told made (a ∷ rs) fr = absurd fr

module _ (p : Prog) (l : Layout) (w : Linked) (most : ℕ) (room : most ≤ p.limit) (enough : 16 ≤ most) (stop : ℕ) (acts : Acts) (ok : Respects p l w acts) (f : ℕ) (b : BodyAt) (is : IsMain w most f b) (fuel : ℕ) where
  abbrev G : Run
  G = run_of stop acts w

  abbrev site : Site
  site = record { whole = w; fun = f; body = b }

  -- the frame of main, by the number of its activation and the address behind its call
  abbrev main_frame : ℕ → ℕ → Ghost
  main_frame serial ret = record { serial = serial; site = record { whole = w; fun = f; body = b }; base = 2147483640; ret = ret; temps = [] }

  -- the value that main gives is about to be the status
  abbrev Ends : Value → State → M → Type 0
  Ends x s m = (n : ℕ) × (x ≡ Num n) × AtEnd p l w (n % 256) s m

  -- the exit behind the call of main
  abbrev Exit : ℕ → ℕ → ℕ → ℕ → Type 0
  Exit f0 k0 c z = Stands p l f0 k0 c (Op (Stack (Push 0)) ∷ Op (Stack (PushImm 0)) ∷ Op (MoveImm (Register 0) 1) ∷ Op Lcall ∷ []) z

  -- the close of main, with its value in eax
  close_runs : (f0 k0 z ret : ℕ) (s : State) (g : Ghost) (i j : ℕ) (m : M) (a e n : ℕ) (t : CType) (fl : Flow) → Exit f0 k0 ret z → g.base ≡ 2147483640 → g.ret ≡ ret → ret < 4294967296 → Stands p l f j a (Start b.func.close ∷ Op (Plain Leave) ∷ Op (Plain Ret) ∷ []) e → Agrees l w p.text s (g ∷ []) m → IsAt s.chain f i → m.eip ≡ a → m.regs.eax ≡ n → n < 4294967296 → result t fl ≡ Num n → Reach p (Halted p l w) m (turn G b.func.close s (λ s3. Gave (result t fl) (left s3))) Ends
  close_runs f0 k0 z ret s g i j m a e n t fl ex base rets small st ag here at ax fits is_n =
      turn_runs p l w stop acts ok (omega arith) f i b.func.close (g ∷ []) s m a st.0 None (λ s3. Gave (result t fl) (left s3)) Ends st.1 at here ag (λ s3 m3 t3.
      let since : m3.since ≡ 1 = t3.since_is in
      let bk = back_runs p l w most room f b.func.close s3 g m3 st.0 e st.2 t3.agree base (subst (λ u. u < 4294967296) (sym rets) small) t3.eip_is (omega arith) in
      let h = bk.1 in
      let ax3 : bk.0.regs.eax ≡ n = h.eax_is ∙ ap (λ (r : Regs). r.eax) t3.regs_is ∙ ax in
      let xt = exit_runs p l w most room f0 k0 (left s3) bk.0 ret z n ex (h.eip_is ∙ rets) h.esp_is ax3 fits (ap (λ u. length u.stack) h.mem_is ∙ t3.agree.stack_is) (ap (λ u. u.text) h.mem_is ∙ t3.agree.text_is) (h.output_is ∙ t3.agree.output_is) (h.turns_is ∙ t3.agree.turns_is) (omega (arith, h.since_is)) in
      (xt.0, come_on p m3 bk.0 xt.0 h.comes xt.1, (n, is_n, xt.2)))

  -- the body of main
  body_runs : (f0 k0 z ret serial : ℕ) (s : State) (m : M) (j a e : ℕ) → Exit f0 k0 ret z → ret < 4294967296 → Stands p l f j a (Open b.func.open_ ∷ (stmts_code site b.func.stmts ++ (Op (MoveImm (Register 0) 0) ∷ Label (Close f) ∷ Start b.func.close ∷ Op (Plain Leave) ∷ Op (Plain Ret) ∷ []))) e → Agree l w p.text s (main_frame serial ret ∷ []) m.regs.ebp m.regs.esp m.mem m.input m.output m.turns (made_at (Some f) m.regs.ebp m.made) → IsAt s.chain f 0 → m.eip ≡ a → Reach p (Halted p l w) m (body G (rest fuel G) (context w b) b.func s) Ends
  body_runs f0 k0 z ret serial s m j a e ex small st ag here at =
      turn_runs p l w stop acts ok (omega arith) f 0 b.func.open_ (main_frame serial ret ∷ []) s m a c0 (Some f) (λ s1. bind (inits G (rest fuel G) (context w b) (locals b.func.locals) s1 (stmts G (rest fuel G) (context w b) b.func.stmts)) closing) Ends st.1 at here ag (λ s1 m1 t1.
      subst (λ o. Reach p (Halted p l w) m1 (bind o closing) Ends) (sym (inits_plain G (rest fuel G) (context w b) (locals b.func.locals) s1 (stmts G (rest fuel G) (context w b) b.func.stmts) is.plain))
      (reach_bind p (Halted p l w) m1 (stmts G (rest fuel G) (context w b) b.func.stmts s1) closing (Flowed p l w (main_frame serial ret ∷ []) f split1.0 most) Ends
      (stmts_run p l w most room (omega arith) stop acts ok (rest fuel G) (puts_byte w stop acts fuel) (loops_on p l w most room (omega arith) stop acts ok fuel) b.func.stmts is.small (main_frame serial ret) [] s1 m1 b.func.open_ c0 split1.0 b.func.open_ split1.1 t1.agree t1.here t1.eip_is (omega (arith, t1.since_is)) refl)
      (λ fl s2 m2 fd. closed fl s2 m2 fd)))
    where
      c0 : ℕ
      c0 = st.0

      last : List Item
      last = Op (MoveImm (Register 0) 0) ∷ Label (Close f) ∷ Start b.func.close ∷ Op (Plain Leave) ∷ Op (Plain Ret) ∷ []

      split1 : (c : ℕ) × Stands p l f b.func.open_ c0 (stmts_code site b.func.stmts) c × Stands p l f (last_start b.func.open_ (stmts_code site b.func.stmts)) c last e
      split1 = stands_split p l f b.func.open_ (stmts_code site b.func.stmts) last c0 e st.2

      k1 : ℕ
      k1 = last_start b.func.open_ (stmts_code site b.func.stmts)

      c1 : ℕ
      c1 = split1.2.0

      closing : Flow → State → Out Value
      closing fl s2 = turn G b.func.close s2 (λ s3. Gave (result b.func.result fl) (left s3))

      closed : (fl : Flow) (s2 : State) (m2 : M) → Flowed p l w (main_frame serial ret ∷ []) f split1.0 most fl s2 m2 → Reach p (Halted p l w) m2 (closing fl s2) Ends
      closed Next s2 m2 fd =
          let m3 : M = on m2 (record m2.regs { eax = 0 }) m2.flags c1 m2.mem in
          let e3 = step_at p l f k1 m2 split1.0 c1 (MoveImm (Register 0) 0) (record m2.regs { eax = 0 }) m2.flags c1 m2.mem split1.2.1 fd.eip_is fd.agree.text_is (omega (arith, fd.soon)) (set_eax m2.regs m2.flags split1.0 m2.mem 0 c1) in
          reach_after p (Halted p l w) m2 m3 (closing Next s2) Ends (moved p m2 m3 e3)
          (close_runs f0 k0 z ret s2 (main_frame serial ret) fd.start k1 m3 c1 e 0 b.func.result Next ex refl refl small split1.2.2.1 (quiet_step p l w most room m2 s2 (main_frame serial ret ∷ []) (record m2.regs { eax = 0 }) m2.flags c1 fd.agree refl refl) fd.here refl refl (omega arith) (ap zero_of is.result_is))
      closed Broke s2 m2 fd = absurd fd
      closed Continued s2 m2 fd = absurd fd
      closed (Returned None) s2 m2 fd = absurd fd
      closed (Returned (Some x)) s2 m2 fd =
          let nx = is_number x fd.2 in
          let lt : nx.0 < 4294967296 = subst (λ u. val_ok s2 u) nx.1 fd.3 in
          let st_is = fd.0 in
          close_runs f0 k0 z ret s2 (main_frame serial ret) st_is.start k1 m2 c1 e nx.0 b.func.result (Returned (Some x)) ex refl refl small split1.2.2.1 st_is.agree st_is.here (st_is.eip_is ∙ split1.2.2.0) (fd.1 ∙ ap (λ u. spell l w s2.made u) nx.1) lt nx.1
        where
          val_ok : State → Value → Type 0
          val_ok s2 u = IsVal l w s2.made u

  -- main gives no value: the run ends, or goes no further
  abbrev Never : Value → State → M → Type 0
  Never x s m = ⊥

  -- main is entered
  enter_runs : (f0 k0 a0 z j a1 e : ℕ) (s : State) (m : M) → Stands p l f0 k0 a0 (start_code f) z → Stands p l f j a1 (func_code site) e → Agrees l w p.text s [] m → m.eip ≡ a0 → m.since + 9 ≤ most → stack_start + frame_of (context w b) b.func ≤ 2147483640 → Reach p (Halted p l w) m (body G (rest fuel G) (context w b) b.func (inside_of l w f b 2147483640 s is.ints is.body_is is.params_none)) Ends
  enter_runs f0 k0 a0 z j a1 e s m st sf ag at soon fits =
      let c0 = st.0 in
      let ret_small : c0 < 4294967296 = omega (arith, st.2.stored.next) in
      let c1 = sf.1.0 in
      let c2 = sf.1.2.0 in
      let c3 = sf.1.2.2.0 in
      let n = locals_size site in
      let size = frame_of (context w b) b.func in
      let fr = frame_runs p l w most room f0 k0 f j s size m a0 c0 a1 c3 st.1 st.2 (st.3 ∙ sf.0) (c1, sf.1.1, (c2, sf.1.2.1, (c3, sf.1.2.2.1, refl))) ag fits at (omega arith) in
      let h = fr.1 in
      let split1 = stands_split p l f j (zero_code n n) _ c3 e sf.1.2.2.2 in
      let zr = zero_runs p l w most room f j s 2147483640 n fr.0 c3 split1.0 split1.1 h.agree h.ebp_is (omega arith) (omega arith) h.eip_is (omega (arith, h.since_is)) in
      let q = zr.1 in
      let words = rounded_ints (context w b) (autos b.func) is.ints in
      let made : State = inside_of l w f b 2147483640 s is.ints is.body_is is.params_none in
      let ea = entered_agrees l w f b 2147483640 s is.ints is.body_is is.params_none p.text c0 0 stack_end zr.0.mem zr.0.input zr.0.output zr.0.turns zr.0.made q.agree (omega arith) refl (λ x lo hi. q.zero x (omega arith) hi)
      (tells_keep (bytes 4 0) (byte_at fr.0.mem) (byte_at zr.0.mem) 2147483640 (λ x lo hi. q.above x lo) h.link)
      (tells_keep (bytes 4 c0) (byte_at fr.0.mem) (byte_at zr.0.mem) 2147483644 (λ x lo hi. q.above x (omega arith)) h.back) in
      let P : ℕ → ℕ → Type 0 = λ u z. Agree l w p.text made (main_frame (length s.made) c0 ∷ []) u z zr.0.mem zr.0.input zr.0.output zr.0.turns (zr.0.made ++ record { fun = f; base = u } ∷ []) in
      let ag1 : P zr.0.regs.ebp zr.0.regs.esp = subst (λ u. P u zr.0.regs.esp) (sym (q.ebp_is ∙ h.ebp_is)) (subst (λ z. P 2147483640 z) (sym (q.esp_is ∙ h.esp_is)) ea) in
      reach_after p (Halted p l w) m zr.0 (body G (rest fuel G) (context w b) b.func made) Ends (come_on p m fr.0 zr.0 h.comes q.comes)
      (body_runs f0 k0 z c0 (length s.made) made zr.0 (last_start j (zero_code n n)) split1.0 e st.4 ret_small split1.2 ag1 (refl, refl) q.eip_is)

  -- what entering main makes of the state
  entered_is : (s : State) → s.chain ≡ [] → entered (context w b) f b.func [] 2147483640 s ≡ inside_of l w f b 2147483640 s is.ints is.body_is is.params_none
  entered_is s none =
      ap (λ vs. record s { chain = record { serial = length s.made; fun = f; start = 0; things = params (context w b) vs [] ++ fresh_all (context w b) (map (λ x. x.ty) (autos b.func)) } ∷ s.chain; made = s.made ++ record { fun = f; base = 2147483640 } ∷ [] }) is.params_none
      ∙ ap (λ rs. record s { chain = record { serial = length s.made; fun = f; start = 0; things = fresh_all (context w b) (map (λ x. x.ty) (autos b.func)) } ∷ rs; made = s.made ++ record { fun = f; base = 2147483640 } ∷ [] }) none

  -- the whole run from the first state on
  pub main_runs : (f0 k0 a0 z j a1 e : ℕ) (s : State) (m : M) → Stands p l f0 k0 a0 (start_code f) z → Stands p l f j a1 (func_code site) e → Agrees l w p.text s [] m → m.eip ≡ a0 → m.since + 9 ≤ most → Reach p (Halted p l w) m (call_main G fuel (Some f) s) Never
  main_runs f0 k0 a0 z j a1 e s m st sf ag at soon =
      let none = none_made l w (byte_at m.mem) s.made s.chain ag.frames in
      let P0 : Option BodyAt → Type 0 = λ o. Reach p (Halted p l w) m (bind (call_body G (rest fuel G) f o [] s) ended) Never in
      let P1 : Bool → Type 0 = λ q. Reach p (Halted p l w) m (bind (choose q s (λ s1. enter G (rest fuel G) f b (context w b) [] (next_base w s1 0 s1.chain) s1) (leaves 4)) ended) Never in
      let P2 : List Act → Type 0 = λ rs. Reach p (Halted p l w) m (bind (enter G (rest fuel G) f b (context w b) [] (next_base w s 0 rs) s) ended) Never in
      let P3 : Bool → Type 0 = λ q. Reach p (Halted p l w) m (bind (choose q s (λ s1. choose (nat_le (stack_base + frame_of (context w b) b.func) main_base) s1 (λ s2. body G (rest fuel G) (context w b) b.func (entered (context w b) f b.func [] main_base s2)) (Halt Stack)) (leaves 0)) ended) Never in
      subst P0 (sym is.body_is) (subst P1 (sym (ap (λ vs. fit (context w b).classes vs []) is.params_none)) (subst P2 (sym none) (subst P3 (sym (ap (λ vs. all_suit vs []) is.params_none)) (roomy none (nat_le (stack_base + frame_of (context w b) b.func) main_base) refl))))
    where
      roomy : s.chain ≡ [] → (q : Bool) → nat_le (stack_base + frame_of (context w b) b.func) main_base ≡ q → Reach p (Halted p l w) m (bind (choose q s (λ s2. body G (rest fuel G) (context w b) b.func (entered (context w b) f b.func [] main_base s2)) (Halt Stack)) ended) Never
      roomy none false e1 = (m, stays p m, tt)
      roomy none true e1 =
          let fits = leb-true _ _ e1 in
          let P4 : State → Type 0 = λ u. Reach p (Halted p l w) m (bind (body G (rest fuel G) (context w b) b.func u) ended) Never in
          subst P4 (sym (entered_is s none))
          (reach_bind p (Halted p l w) m (body G (rest fuel G) (context w b) b.func (inside_of l w f b 2147483640 s is.ints is.body_is is.params_none)) ended Ends Never
          (enter_runs f0 k0 a0 z j a1 e s m st sf ag at soon fits)
          (λ x s1 m1 h. let P : Value → Type 0 = λ u. Reach p (Halted p l w) m1 (ended u s1) Never in subst P (sym h.1) (m1, stays p m1, h.2)))
