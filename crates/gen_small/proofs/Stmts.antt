-- The code of statements runs their starts.
use Rattle.std.proofs.Common.{◌≡◌, ℕ, zero, suc, ◌+◌, ◌<◌, ◌≤◌, inl, inr, List, [], ◌∷◌, ◌++◌, Bool, true, false, Some, None, length, refl, sym, ap, ◌∙◌, subst, arith}
use Rattle.std.specs.Prelude.{nat_eq, if◌then◌else◌, ℤ}
use Rattle.std.specs.Int.{w32, cast_unsigned}
use Rattle.std.proofs.lemmas.Bool.{ne_eqb}
use Rattle.c_type.specs.declared.Kind.TheVariants.{Int}
use Rattle.c_type.specs.Types.{num}
use Rattle.isa386.specs.declared.Opnd.TheVariants.{Reg}
use Rattle.isa386.specs.declared.Cond.TheVariants.{Equal}
use Rattle.isa386.specs.declared.Target.TheVariants.{Near}
use Rattle.isa386.specs.declared.Ins.TheVariants.{Test, Jump, Branch}
use Rattle.mach_exec.specs.Word.{add32}
use Rattle.c_tree.specs.TExpr.{TExpr}
use Rattle.c_tree.specs.TStmt.{TStmt, TStmts, expr, while_, return_, block, no_stmts, more_stmts}
use Rattle.c_run.specs.Values.{Value, Num, is_true}
use Rattle.c_run.specs.State.{State, Made, Acts, Out, Gave, Flow, Next, Broke, Continued, Returned, bind, choose}
use Rattle.c_run.specs.Context.{Linked}
use Rattle.c_run.specs.Exprs.{value}
use Rattle.c_run.specs.Stmts as src
use Rattle.c_run.specs.Stmts.{Rest, turn, after, around, next, while_round}
use Rattle.c_run.specs.Calls.{rest}
use Rattle.gen_small.specs.Ghost.{M, Prog}
use Rattle.gen_small.specs.Items.{Item, Op, Label, Goto, If, Layout, Stays, Stands, Top, End, Close, last_start}
use Rattle.gen_small.specs.Code.{inside, expr_code, stmt_code, stmts_code}
use Rattle.gen_small.specs.Small.{cost}
use Rattle.gen_small.specs.Agree.{spell, Ghost, Agrees}
use Rattle.gen_small.specs.Reaches.{Comes, Reach, IsAt, Halted, Given, run_of, PutsByte}
use Rattle.gen_small.specs.Flows.{Respects, Flowed, IsWhole, IsSmallStmt, IsSmallStmts}
use Rattle.gen_small.proofs.Reach.{stays, moved, come_on, reach_after, reach_bind, stands_split, on, step_at}
use Rattle.gen_small.proofs.Steps.{test_eax, test_flags, jump, jump_equal}
use Rattle.gen_small.proofs.Exprs.{quiet_step}
use Rattle.gen_small.proofs.Sums.{is_number}
use Rattle.gen_small.proofs.ExprsRun.{quiet, expr_runs}
use Rattle.gen_small.proofs.Turns.{turn_runs}

-- with any fuel a call of putchar is that of the library, or there is none
pub puts_byte : (w : Linked) (stop : ℕ) (acts : Acts) (n : ℕ) → PutsByte (run_of stop acts w) (rest n (run_of stop acts w)).call
puts_byte w stop acts zero a s = inl refl
puts_byte w stop acts (suc n) a s = inr refl

module _ (p : Prog) (l : Layout) (w : Linked) (most : ℕ) (room : most ≤ p.limit) (pos : 0 < p.limit) (stop : ℕ) (acts : Acts) (ok : Respects p l w acts) where
  -- what the code of a statement does
  abbrev pub Does : Out Flow → List Item → Ghost → List Ghost → State → M → Type 0
  Does o is g gr s m = (j a b i : ℕ) → Stands p l g.site.fun j a is b → Agrees l w p.text s (g ∷ gr) m → IsAt s.chain g.site.fun i → m.eip ≡ a → m.since < most → g.temps ≡ [] → Reach p (Halted p l w) m o (Flowed p l w (g ∷ gr) g.site.fun b most)

  -- further rounds of a loop
  abbrev pub Loops : Rest → Type 0
  Loops r = (k line : ℕ) (e : TExpr) (body : TStmt) → IsSmallStmt most (while_ k line e body) → (g : Ghost) (gr : List Ghost) (s : State) (m : M) (j a b i : ℕ) → Stands p l g.site.fun j a (stmt_code g.site (while_ k line e body)) b → Agrees l w p.text s (g ∷ gr) m → IsAt s.chain g.site.fun i → m.eip ≡ a → g.temps ≡ [] → Reach p (Halted p l w) m (r.again (inside g.site) (while_ k line e body) s) (Flowed p l w (g ∷ gr) g.site.fun b most)

  -- the value of an expression at its start
  evaluated : (r : Rest) → PutsByte (run_of stop acts w) r.call → (e : TExpr) → IsWhole most e → (g : Ghost) (gr : List Ghost) (k : ℕ) (s : State) (m : M) (a b : ℕ) → Stands p l g.site.fun k a (expr_code g.site e 0) b → Agrees l w p.text s (g ∷ gr) m → IsAt s.chain g.site.fun k → m.eip ≡ a → m.since ≡ 1 → g.temps ≡ [] → Reach p (Halted p l w) m (value (inside g.site) r.call e s) (Given p l w (g ∷ gr) g.site.fun k s b (1 + cost e) (num Int))
  evaluated r puts e whole g gr k s m a b st ag here at since empty =
      let soon = whole.soon in
      let few = whole.few in
      let none : length g.temps ≡ 0 = ap length empty in
      let run = expr_runs p l w most room stop acts r.call puts e whole.small g gr g.site.fun k s m (omega arith) in
      let st1 = subst (λ d. Stands p l g.site.fun k a (expr_code g.site e d) b) (sym none) st in
      subst (λ t. Reach p (Halted p l w) m (value (inside g.site) r.call e s) (Given p l w (g ∷ gr) g.site.fun k s b t (num Int))) (ap (λ z. z + cost e) since) (run a b st1 ag here at (omega arith))

  -- testl and je behind a value: on where it is true, else at the label
  record Tested (gs : List Ghost) (f k : ℕ) (s : State) (m : M) (c label : ℕ) (x : Value) (m2 : M) : Type 0 where
    comes : Comes p m m2
    agree : Agrees l w p.text s gs m2
    since_is : m2.since ≡ m.since + 2
    eip_is : m2.eip ≡ (if nat_eq m.regs.eax 0 then label else c)

  tested : (gs : List Ghost) (f k : ℕ) (s : State) (m : M) (a c1 c2 label : ℕ) (d : ℤ) (x : Value) → Stays p l f k a (Test 0 (Reg 0)) c1 → Stays p l f k c1 (Branch Equal (Near d)) c2 → add32 c2 (cast_unsigned w32 d) ≡ label → Agrees l w p.text s gs m → m.eip ≡ a → m.since + 2 ≤ most → (m2 : M) × Tested gs f k s m c2 label x m2
  tested gs f k s m a c1 c2 label d x st1 st2 to ag at soon =
      let m1 : M = on m m.regs (test_flags m.regs.eax) c1 m.mem in
      let e1 = step_at p l f k m a c1 (Test 0 (Reg 0)) m.regs (test_flags m.regs.eax) c1 m.mem st1 at ag.text_is (omega arith) (test_eax m.regs m.flags a m.mem c1) in
      let goal = if nat_eq m.regs.eax 0 then add32 c2 (cast_unsigned w32 d) else c2 in
      let m2 : M = on m1 m.regs (test_flags m.regs.eax) goal m.mem in
      let e2 = step_at p l f k m1 c1 c2 (Branch Equal (Near d)) m.regs (test_flags m.regs.eax) goal m.mem st2 refl ag.text_is (omega arith) (jump_equal m.regs (test_flags m.regs.eax) c1 m.mem d c2) in (
        m2,
        record {
          comes = come_on p m m1 m2 (moved p m m1 e1) (moved p m1 m2 e2);
          agree = quiet_step p l w most room m s gs m.regs (test_flags m.regs.eax) goal ag refl refl;
          since_is = omega arith;
          eip_is = ap (λ z. if nat_eq m.regs.eax 0 then z else c2) to;
        },
      )

  -- the test agrees with the value
  true_zero : (made : List Made) (x : Value) (eax : ℕ) → eax ≡ spell l w made x → (n : ℕ) × (x ≡ Num n) → is_true x ≡ false → nat_eq eax 0 ≡ true
  true_zero made x eax e n f =
      let en : eax ≡ n.0 = e ∙ ap (λ z. spell l w made z) n.1 in
      ap (λ z. nat_eq z 0) en ∙ zero_if n.0 (sym (ap is_true n.1) ∙ f)
    where
      zero_if : (n : ℕ) → is_true (Num n) ≡ false → nat_eq n 0 ≡ true
      zero_if zero h = refl
      zero_if (suc n) h = absurd (cc)

  true_more : (made : List Made) (x : Value) (eax : ℕ) → eax ≡ spell l w made x → (n : ℕ) × (x ≡ Num n) → is_true x ≡ true → nat_eq eax 0 ≡ false
  true_more made x eax e n f =
      let en : eax ≡ n.0 = e ∙ ap (λ z. spell l w made z) n.1 in
      ap (λ z. nat_eq z 0) en ∙ more_if n.0 (sym (ap is_true n.1) ∙ f)
    where
      more_if : (n : ℕ) → is_true (Num n) ≡ true → nat_eq n 0 ≡ false
      more_if zero h = absurd (cc)
      more_if (suc n) h = ne_eqb (suc n) 0 (omega arith)

  -- jmp
  jumped : (f k : ℕ) (s : State) (gs : List Ghost) (m : M) (a c label : ℕ) (d : ℤ) → Stays p l f k a (Jump (Near d)) c → add32 c (cast_unsigned w32 d) ≡ label → Agrees l w p.text s gs m → m.eip ≡ a → m.since < most → (m1 : M) × Comes p m m1 × Agrees l w p.text s gs m1 × (m1.eip ≡ label) × (m1.since ≡ suc m.since) × (m1.regs.eax ≡ m.regs.eax)
  jumped f k s gs m a c label d st to ag at soon =
      let goal = add32 c (cast_unsigned w32 d) in
      let m1 : M = on m m.regs m.flags goal m.mem in
      (m1, moved p m m1 (step_at p l f k m a c (Jump (Near d)) m.regs m.flags goal m.mem st at ag.text_is (omega arith) (jump m.regs m.flags a m.mem d c)), quiet_step p l w most room m s gs m.regs m.flags goal ag refl refl, to, refl, refl)

  -- a while: its test, its body, and its further rounds
  while_runs : (r : Rest) → PutsByte (run_of stop acts w) r.call → Loops r → (k line : ℕ) (e : TExpr) (body : TStmt) → IsSmallStmt most (while_ k line e body) → (g : Ghost) (gr : List Ghost) (s : State) (m : M) → ((s1 : State) (m1 : M) → Does (src.stmt (run_of stop acts w) r (inside g.site) body s1) (stmt_code g.site body) g gr s1 m1) → (j a b i : ℕ) → Stands p l g.site.fun j a (stmt_code g.site (while_ k line e body)) b → Agrees l w p.text s (g ∷ gr) m → IsAt s.chain g.site.fun i → m.eip ≡ a → g.temps ≡ [] → Reach p (Halted p l w) m (while_round (run_of stop acts w) (inside g.site) r.call k e (src.stmt (run_of stop acts w) r (inside g.site) body) (r.again (inside g.site) (while_ k line e body)) s) (Flowed p l w (g ∷ gr) g.site.fun b most)
  while_runs r puts loops k line e body sm g gr s m rb j a b i st ag here at empty =
      turn_runs p l w stop acts ok pos g.site.fun i k (g ∷ gr) s m a c0 None rest_of (Flowed p l w (g ∷ gr) g.site.fun b most) st.1.1 at here ag (λ s1 m1 t1.
      reach_bind p (Halted p l w) m1 (value (inside g.site) r.call e s1) (chosen s1) (Given p l w (g ∷ gr) g.site.fun k s1 split1.0 (1 + cost e) (num Int)) (Flowed p l w (g ∷ gr) g.site.fun b most)
      (evaluated r puts e sm.0 g gr k s1 m1 c0 split1.0 split1.1 t1.agree t1.here t1.eip_is t1.since_is empty)
      (λ x s2 m2 gv. branched x s2 m2 gv.agree gv.here gv.eip_is gv.soon (is_true x) (λ q. true_zero s2.made x m2.regs.eax gv.eax_is (is_number x gv.typed) q) (λ q. true_more s2.made x m2.regs.eax gv.eax_is (is_number x gv.typed) q) refl))
    where
      c0 : ℕ
      c0 = st.1.0

      f : ℕ
      f = g.site.fun

      whole : cost e + 5 ≤ most
      whole = sm.0.soon

      tail : List Item
      tail = Op (Test 0 (Reg 0)) ∷ If Equal (End f k) ∷ (stmt_code g.site body ++ (Goto (Top f k) ∷ Label (End f k) ∷ []))

      split1 : (c : ℕ) × Stands p l f k c0 (expr_code g.site e 0) c × Stands p l f (last_start k (expr_code g.site e 0)) c tail b
      split1 = stands_split p l f k (expr_code g.site e 0) tail c0 b st.1.2

      st2 : Stands p l f k split1.0 tail b
      st2 = subst (λ z. Stands p l f z split1.0 tail b) (quiet g.site e 0 k) split1.2

      c1 : ℕ
      c1 = st2.0

      c2 : ℕ
      c2 = st2.2.0

      split3 : (c : ℕ) × Stands p l f k c2 (stmt_code g.site body) c × Stands p l f (last_start k (stmt_code g.site body)) c (Goto (Top f k) ∷ Label (End f k) ∷ []) b
      split3 = stands_split p l f k (stmt_code g.site body) (Goto (Top f k) ∷ Label (End f k) ∷ []) c2 b st2.2.4

      ends : l.label (End f k) ≡ b
      ends = split3.2.4.0 ∙ split3.2.4.1

      again : State → Out Flow
      again = r.again (inside g.site) (while_ k line e body)

      chosen : State → Value → State → Out Flow
      chosen s1 x s2 = choose (is_true x) s2 (λ s3. bind (src.stmt (run_of stop acts w) r (inside g.site) body s3) (λ fl s4. around fl s4 again)) next

      rest_of : State → Out Flow
      rest_of s1 = bind (value (inside g.site) r.call e s1) (chosen s1)

      rounds : (fl : Flow) (s4 : State) (m4 : M) → Flowed p l w (g ∷ gr) f split3.0 most fl s4 m4 → Reach p (Halted p l w) m4 (around fl s4 again) (Flowed p l w (g ∷ gr) f b most)
      rounds Next s4 m4 fd =
          let jp = jumped f (last_start k (stmt_code g.site body)) s4 (g ∷ gr) m4 split3.0 split3.2.0 (l.label (Top f k)) split3.2.1 split3.2.2 split3.2.3 fd.agree fd.eip_is fd.soon in
          reach_after p (Halted p l w) m4 jp.0 (again s4) (Flowed p l w (g ∷ gr) f b most) jp.1
          (loops k line e body sm g gr s4 jp.0 j a b fd.start st jp.2 fd.here (jp.3 ∙ st.0) empty)
      rounds Broke s4 m4 fd = absurd fd
      rounds Continued s4 m4 fd = absurd fd
      rounds (Returned None) s4 m4 fd = absurd fd
      rounds (Returned (Some x)) s4 m4 fd = (m4, stays p m4, fd)

      branched : (x : Value) (s2 : State) (m2 : M) → Agrees l w p.text s2 (g ∷ gr) m2 → IsAt s2.chain f k → m2.eip ≡ split1.0 → m2.since ≤ 1 + cost e → (q : Bool) → (is_true x ≡ false → nat_eq m2.regs.eax 0 ≡ true) → (is_true x ≡ true → nat_eq m2.regs.eax 0 ≡ false) → is_true x ≡ q → Reach p (Halted p l w) m2 (choose q s2 (λ s3. bind (src.stmt (run_of stop acts w) r (inside g.site) body s3) (λ fl s4. around fl s4 again)) next) (Flowed p l w (g ∷ gr) f b most)
      branched x s2 m2 ag2 here2 at2 soon2 true z0 z1 q =
          let t = tested (g ∷ gr) f k s2 m2 split1.0 c1 c2 (l.label (End f k)) st2.2.1 x st2.1 st2.2.2 st2.2.3 ag2 at2 (omega (arith, whole)) in
          let h = t.1 in
          let on_to : t.0.eip ≡ c2 = h.eip_is ∙ ap (λ z. if z then l.label (End f k) else c2) (z1 q) in
          reach_after p (Halted p l w) m2 t.0 (bind (src.stmt (run_of stop acts w) r (inside g.site) body s2) (λ fl s4. around fl s4 again)) (Flowed p l w (g ∷ gr) f b most) h.comes
          (reach_bind p (Halted p l w) t.0 (src.stmt (run_of stop acts w) r (inside g.site) body s2) (λ fl s4. around fl s4 again) (Flowed p l w (g ∷ gr) f split3.0 most) (Flowed p l w (g ∷ gr) f b most)
          (rb s2 t.0 k c2 split3.0 k split3.1 h.agree here2 on_to (omega (arith, whole, h.since_is)) empty)
          (λ fl s4 m4 fd. rounds fl s4 m4 fd))
      branched x s2 m2 ag2 here2 at2 soon2 false z0 z1 q =
          let t = tested (g ∷ gr) f k s2 m2 split1.0 c1 c2 (l.label (End f k)) st2.2.1 x st2.1 st2.2.2 st2.2.3 ag2 at2 (omega (arith, whole)) in
          let h = t.1 in
          (t.0, h.comes, record { start = k; agree = h.agree; here = here2; eip_is = h.eip_is ∙ ap (λ z. if z then l.label (End f k) else c2) (z0 q) ∙ ends; soon = omega (arith, whole, h.since_is) })

  -- an expression as a statement
  expr_stmt_runs : (r : Rest) → PutsByte (run_of stop acts w) r.call → (k line : ℕ) (e : TExpr) → IsWhole most e → (g : Ghost) (gr : List Ghost) (s : State) (m : M) → Does (src.stmt (run_of stop acts w) r (inside g.site) (expr k line e) s) (stmt_code g.site (expr k line e)) g gr s m
  expr_stmt_runs r puts k line e whole g gr s m j a b i st ag here at soon empty =
      turn_runs p l w stop acts ok pos g.site.fun i k (g ∷ gr) s m a st.0 None (λ s1. bind (value (inside g.site) r.call e s1) (λ x s2. Gave Next s2)) (Flowed p l w (g ∷ gr) g.site.fun b most) st.1 at here ag (λ s1 m1 t1.
      reach_bind p (Halted p l w) m1 (value (inside g.site) r.call e s1) (λ x s2. Gave Next s2) (Given p l w (g ∷ gr) g.site.fun k s1 b (1 + cost e) (num Int)) (Flowed p l w (g ∷ gr) g.site.fun b most)
      (evaluated r puts e whole g gr k s1 m1 st.0 b st.2 t1.agree t1.here t1.eip_is t1.since_is empty)
      (λ x s2 m2 gv. (m2, stays p m2, record { start = k; agree = gv.agree; here = gv.here; eip_is = gv.eip_is; soon = omega (arith, gv.soon, whole.soon) })))

  -- a return: the value stays in eax, and the close is next
  return_runs : (r : Rest) → PutsByte (run_of stop acts w) r.call → (k line : ℕ) (e : TExpr) → IsWhole most e → (g : Ghost) (gr : List Ghost) (s : State) (m : M) → Does (src.stmt (run_of stop acts w) r (inside g.site) (return_ k line (Some e)) s) (stmt_code g.site (return_ k line (Some e))) g gr s m
  return_runs r puts k line e whole g gr s m j a b i st ag here at soon empty =
      turn_runs p l w stop acts ok pos f i k (g ∷ gr) s m a c0 None (λ s1. bind (value (inside g.site) r.call e s1) (λ x s2. Gave (Returned (Some x)) s2)) (Flowed p l w (g ∷ gr) f b most) st.1 at here ag (λ s1 m1 t1.
      reach_bind p (Halted p l w) m1 (value (inside g.site) r.call e s1) (λ x s2. Gave (Returned (Some x)) s2) (Given p l w (g ∷ gr) f k s1 split1.0 (1 + cost e) (num Int)) (Flowed p l w (g ∷ gr) f b most)
      (evaluated r puts e whole g gr k s1 m1 c0 split1.0 split1.1 t1.agree t1.here t1.eip_is t1.since_is empty)
      (λ x s2 m2 gv.
      let jp = jumped f k s2 (g ∷ gr) m2 split1.0 st2.0 (l.label (Close f)) st2.1 st2.2 st2.3 gv.agree gv.eip_is (omega (arith, gv.soon, whole.soon)) in
      (jp.0, jp.1, (record { start = k; agree = jp.2; here = gv.here; eip_is = jp.3; soon = omega (arith, gv.soon, whole.soon, jp.4) }, jp.5 ∙ gv.eax_is, gv.typed, gv.ok))))
    where
      f : ℕ
      f = g.site.fun

      c0 : ℕ
      c0 = st.0

      split1 : (c : ℕ) × Stands p l f k c0 (expr_code g.site e 0) c × Stands p l f (last_start k (expr_code g.site e 0)) c (Goto (Close f) ∷ []) b
      split1 = stands_split p l f k (expr_code g.site e 0) (Goto (Close f) ∷ []) c0 b st.2

      st2 : Stands p l f k split1.0 (Goto (Close f) ∷ []) b
      st2 = subst (λ z. Stands p l f z split1.0 (Goto (Close f) ∷ []) b) (quiet g.site e 0 k) split1.2

  -- one statement after the other
  join_runs : (r : Rest) (a1 : TStmt) (ss : TStmts) (g : Ghost) (gr : List Ghost) (s : State) (m : M) → Does (src.stmt (run_of stop acts w) r (inside g.site) a1 s) (stmt_code g.site a1) g gr s m → ((s1 : State) (m1 : M) → Does (src.stmts (run_of stop acts w) r (inside g.site) ss s1) (stmts_code g.site ss) g gr s1 m1) → Does (src.stmts (run_of stop acts w) r (inside g.site) (more_stmts a1 ss) s) (stmts_code g.site (more_stmts a1 ss)) g gr s m
  join_runs r a1 ss g gr s m first others j a b i st ag here at soon empty =
      reach_bind p (Halted p l w) m (src.stmt (run_of stop acts w) r (inside g.site) a1 s) (λ fl s1. after fl s1 (src.stmts (run_of stop acts w) r (inside g.site) ss)) (Flowed p l w (g ∷ gr) f split1.0 most) (Flowed p l w (g ∷ gr) f b most)
      (first j a split1.0 i split1.1 ag here at soon empty) (λ fl s1 m1 fd. go_on fl s1 m1 fd)
    where
      f : ℕ
      f = g.site.fun

      split1 : (c : ℕ) × Stands p l f j a (stmt_code g.site a1) c × Stands p l f (last_start j (stmt_code g.site a1)) c (stmts_code g.site ss) b
      split1 = stands_split p l f j (stmt_code g.site a1) (stmts_code g.site ss) a b st

      go_on : (fl : Flow) (s1 : State) (m1 : M) → Flowed p l w (g ∷ gr) f split1.0 most fl s1 m1 → Reach p (Halted p l w) m1 (after fl s1 (src.stmts (run_of stop acts w) r (inside g.site) ss)) (Flowed p l w (g ∷ gr) f b most)
      go_on Next s1 m1 fd = others s1 m1 (last_start j (stmt_code g.site a1)) split1.0 b fd.start split1.2 fd.agree fd.here fd.eip_is fd.soon empty
      go_on Broke s1 m1 fd = absurd fd
      go_on Continued s1 m1 fd = absurd fd
      go_on (Returned None) s1 m1 fd = absurd fd
      go_on (Returned (Some x)) s1 m1 fd = (m1, stays p m1, fd)

  module _ (r : Rest) (puts : PutsByte (run_of stop acts w) r.call) (loops : Loops r) where
    mutual
      pub stmt_runs : (t : TStmt) → IsSmallStmt most t → (g : Ghost) (gr : List Ghost) (s : State) (m : M) → Does (src.stmt (run_of stop acts w) r (inside g.site) t s) (stmt_code g.site t) g gr s m
      stmt_runs (expr k line e) sm g gr s m = expr_stmt_runs r puts k line e sm g gr s m
      stmt_runs (while_ k line e body) sm g gr s m = λ j a b i st ag here at soon empty. while_runs r puts loops k line e body sm g gr s m (λ s1 m1. stmt_runs body sm.1 g gr s1 m1) j a b i st ag here at empty
      stmt_runs (return_ k line (Some e)) sm g gr s m = return_runs r puts k line e sm g gr s m
      stmt_runs (block line [] ss close_line) sm g gr s m = stmts_run ss sm g gr s m
      stmt_runs _ sm g gr s m = absurd sm

      pub stmts_run : (ss : TStmts) → IsSmallStmts most ss → (g : Ghost) (gr : List Ghost) (s : State) (m : M) → Does (src.stmts (run_of stop acts w) r (inside g.site) ss s) (stmts_code g.site ss) g gr s m
      stmts_run no_stmts sm g gr s m = λ j a b i st ag here at soon empty. (m, stays p m, record { start = i; agree = ag; here = here; eip_is = at ∙ st; soon = soon })
      stmts_run (more_stmts t ss) sm g gr s m = join_runs r t ss g gr s m (stmt_runs t sm.0 g gr s m) (λ s1 m1. stmts_run ss sm.1 g gr s1 m1)

  -- further rounds of loops, with any fuel
  pub loops_on : (n : ℕ) → Loops (rest n (run_of stop acts w))
  loops_on zero k line e body sm g gr s m j a b i st ag here at empty = (m, stays p m, tt)
  loops_on (suc n) k line e body sm g gr s m j a b i st ag here at empty =
      while_runs (rest n (run_of stop acts w)) (puts_byte w stop acts n) (loops_on n) k line e body sm g gr s m (λ s1 m1. stmt_runs (rest n (run_of stop acts w)) (puts_byte w stop acts n) (loops_on n) body sm.1 g gr s1 m1) j a b i st ag here at empty
