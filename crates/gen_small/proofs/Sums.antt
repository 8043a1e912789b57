-- The code of a sum: the left side is kept in a temporary while the right side is evaluated.
use Rattle.std.proofs.Common.{◌≡◌, ℕ, suc, ◌+◌, ◌-◌, ◌%◌, ◌<◌, ◌≤◌, List, [], ◌∷◌, ◌++◌, true, length, refl, sym, ap, ◌∙◌, subst, arith, append_assoc}
use Rattle.std.specs.Prelude.{nat_eq}
use Rattle.std.specs.Int.{w32, cast_signed}
use Rattle.c_type.specs.declared.Kind.TheVariants.{Int}
use Rattle.c_type.specs.Types.{num}
use Rattle.mach_mem.specs.Space.{Space, byte_at, with_number}
use Rattle.isa386.specs.declared.Opnd.TheVariants.{Reg}
use Rattle.isa386.specs.declared.Way.TheVariants.{ToOperand, ToRegister}
use Rattle.isa386.specs.declared.ArithOp.TheVariants as machine
use Rattle.isa386.specs.declared.Ins.{Ins}
use Rattle.isa386.specs.declared.Ins.TheVariants.{Move, ArithTo}
use Rattle.mach_exec.specs.Effect.{done}
use Rattle.mach_exec.specs.Execute.{executed}
use Rattle.c_tree.specs.Arith.{add32, sub32}
use Rattle.c_tree.specs.declared.TBinary.{TBinary}
use Rattle.c_tree.specs.declared.TBinary.TheVariants.{Add, Sub}
use Rattle.c_run.specs.Values.{Value, Num, Null, To, Fn, suits}
use Rattle.c_run.specs.State.{State, Made, Out, Gave, bind}
use Rattle.c_run.specs.Context.{Linked}
use Rattle.c_run.specs.Exprs.{numbers}
use Rattle.gen_small.specs.Ghost.{Regs, Flags, cpu_of, M, Prog}
use Rattle.gen_small.specs.Items.{Item, Op, Layout, Stays, Stands, last_start}
use Rattle.gen_small.specs.Spelled.{bytes}
use Rattle.gen_small.specs.Code.{temp_depth, below, operator}
use Rattle.gen_small.specs.Small.{IsSum}
use Rattle.gen_small.specs.Agree.{spell, IsVal, Ghost, Layered, Agrees}
use Rattle.gen_small.specs.Reaches.{IsAt, Halted, Given}
use Rattle.gen_small.proofs.Reach.{Comes, move_on, moved, Reach, reach_after, reach_bind, reach_weaken, stands_split, on, step_at}
use Rattle.gen_small.proofs.Memory.{Wrote, number_told, number_wrote, writable4, can_write_stack}
use Rattle.gen_small.proofs.Steps.{load, store, place_below, place as step_place, eax_to_ecx, add_ecx, sub_ecx, sum_flags, difference_flags}
use Rattle.gen_small.proofs.Agreement.{push_temp, temp_agrees, untemp_agrees}
use Rattle.gen_small.proofs.Exprs.{Runs, quiet_step, no_more}

pub sum_small : (a b : ℕ) → add32 a b < 4294967296
unfolding add32
sum_small a b = omega arith

pub difference_small : (a b : ℕ) → sub32 a b < 4294967296
unfolding sub32
difference_small a b = omega arith

-- a number within 32 bits is one of type int
pub suits_number : (n : ℕ) → n < 4294967296 → suits (num Int) (Num n) ≡ true
suits_number n lt = ap (λ z. nat_eq z n) (small n lt) ∙ same n
  where
    small : (n : ℕ) → n < 4294967296 → n % 4294967296 ≡ n
    small n lt = omega arith

    same : (n : ℕ) → nat_eq n n ≡ true
    same n = grind arith

-- a value of type int is a number
pub is_number : (x : Value) → suits (num Int) x ≡ true → (n : ℕ) × (x ≡ Num n)
is_number (Num n) e = (n, refl)
is_number Null e = absurd (cc)
is_number (To o a) e = absurd (cc)
is_number (Fn f) e = absurd (cc)

-- where a temporary stands
temp_place : (g : Ghost) (gr : List Ghost) (ebp : ℕ) → Layered (g ∷ gr) → length g.temps < 64 → ebp ≡ g.base → step_place ebp (cast_signed w32 (4294967296 - temp_depth g.site (length g.temps))) ≡ g.base - temp_depth g.site (length g.temps)
temp_place g gr ebp lay few e =
    ap (λ u. step_place u (cast_signed w32 (4294967296 - temp_depth g.site (length g.temps)))) e
    ∙ place_below g.base (temp_depth g.site (length g.temps)) (omega arith) (omega arith) (omega arith)

-- what the last instruction of a sum does
abbrev Combines : Ins → (ℕ → ℕ → ℕ) → (ℕ → ℕ → Flags) → Type 0
Combines i op fl = (r : Regs) (f : Flags) (a : ℕ) (m : Space) (c : ℕ) → executed (cpu_of r f a) m i c ≡ done (cpu_of (record r { eax = op r.eax r.ecx }) (fl r.eax r.ecx) c) m

add_combines : Combines (ArithTo machine.Add 1 (Reg 0)) add32 sum_flags
unfolding add32
add_combines r f a m c = add_ecx r f a m c

sub_combines : Combines (ArithTo machine.Sub 1 (Reg 0)) sub32 difference_flags
unfolding sub32
sub_combines r f a m c = sub_ecx r f a m c

module _ (p : Prog) (l : Layout) (w : Linked) (most : ℕ) (room : most ≤ p.limit) where
  -- the left side is in a temporary, the right side in eax
  combine : (i : Ins) (op : ℕ → ℕ → ℕ) (fl : ℕ → ℕ → Flags) → Combines i op fl → ((x y : ℕ) → op x y < 4294967296) → (g : Ghost) (gr : List Ghost) (f k : ℕ) (s : State) (m : M) (x y : ℕ) (a b t : ℕ) → x < 4294967296 → Stands p l f k a (Op (Move ToOperand 0 (Reg 1)) ∷ Op (Move ToRegister 0 (below (temp_depth g.site (length g.temps)))) ∷ Op i ∷ []) b → Agrees l w p.text s (push_temp g x ∷ gr) m → IsAt s.chain f k → m.eip ≡ a → m.regs.eax ≡ y → length g.temps < 64 → m.since + 3 ≤ t → t ≤ most → Reach p (Halted p l w) m (Gave (Num (op x y)) s) (Given p l w (g ∷ gr) f k s b t (num Int))
  combine i op fl does small g gr f k s m x y a b t lt st ag here at ay few soon le =
      let c1 = st.0 in
      let c2 = st.2.0 in
      let c3 = st.2.2.0 in
      let un = untemp_agrees l w p.text s g gr m.regs.ebp m.regs.esp m.mem m.input m.output m.turns m.made x ag in
      let r1 : Regs = record m.regs { ecx = m.regs.eax } in
      let m1 : M = on m r1 m.flags c1 m.mem in
      let e1 = step_at p l f k m a c1 (Move ToOperand 0 (Reg 1)) r1 m.flags c1 m.mem st.1 at ag.text_is (omega arith) (eax_to_ecx m.regs m.flags a m.mem c1) in
      let r2 : Regs = record r1 { eax = x } in
      let m2 : M = on m1 r2 m.flags c2 m.mem in
      let addr = temp_place g gr m.regs.ebp ag.layered few ag.ebp_is in
      let told = number_told (byte_at m.mem) (g.base - temp_depth g.site (length g.temps)) x lt un.0 in
      let e2 = step_at p l f k m1 c1 c2 (Move ToRegister 0 (below (temp_depth g.site (length g.temps)))) r2 m.flags c2 m.mem st.2.1 refl ag.text_is (omega arith) (load r1 m.flags c1 m.mem (cast_signed w32 (4294967296 - temp_depth g.site (length g.temps))) (g.base - temp_depth g.site (length g.temps)) x c2 addr told) in
      let r3 : Regs = record r2 { eax = op x m.regs.eax } in
      let m3 : M = on m2 r3 (fl x m.regs.eax) c3 m.mem in
      let e3 = step_at p l f k m2 c2 c3 i r3 (fl x m.regs.eax) c3 m.mem st.2.2.1 refl ag.text_is (omega arith) (does r2 m.flags c2 m.mem c3) in (
        m3,
        move_on p m m1 m3 e1 (move_on p m1 m2 m3 e2 (moved p m2 m3 e3)),
        record {
          agree = quiet_step p l w most room m s (g ∷ gr) r3 (fl x m.regs.eax) c3 un.1 refl refl;
          here = here;
          eip_is = st.2.2.2;
          eax_is = ap (op x) ay;
          typed = suits_number (op x y) (small x y);
          ok = small x y;
          more = [];
          grows = no_more p l w most room s;
          soon = omega arith;
        },
      )

  -- eax is kept in the next temporary
  record Kept (g : Ghost) (gr : List Ghost) (f k : ℕ) (s : State) (m : M) (c x : ℕ) (m1 : M) : Type 0 where
    comes : Comes p m m1
    agree : Agrees l w p.text s (push_temp g x ∷ gr) m1
    eip_is : m1.eip ≡ c
    since_is : m1.since ≡ suc m.since

  keep : (g : Ghost) (gr : List Ghost) (f k : ℕ) (s : State) (m : M) (a c x : ℕ) → Stays p l f k a (Move ToOperand 0 (below (temp_depth g.site (length g.temps)))) c → Agrees l w p.text s (g ∷ gr) m → m.eip ≡ a → m.regs.eax ≡ x → x < 4294967296 → length g.temps < 64 → m.since < most → (m1 : M) × Kept g gr f k s m c x m1
  keep g gr f k s m a c x st ag at ax lt few soon =
      let lay = ag.layered in
      let z = g.base - temp_depth g.site (length g.temps) in
      let addr = temp_place g gr m.regs.ebp ag.layered few ag.ebp_is in
      let can = can_write_stack 4 m.mem z ag.stack_is (omega arith) (omega arith) in
      let mem1 = with_number m.mem z m.regs.eax in
      let m1 : M = on m m.regs m.flags c mem1 in
      let e1 = step_at p l f k m a c (Move ToOperand 0 (below (temp_depth g.site (length g.temps)))) m.regs m.flags c mem1 st at ag.text_is (omega arith) (store m.regs m.flags a m.mem (cast_signed w32 (4294967296 - temp_depth g.site (length g.temps))) z c addr (writable4 m.mem z can)) in
      let wr : Wrote m.mem z (bytes 4 m.regs.eax) mem1 = number_wrote m.mem z m.regs.eax (subst (λ n. n < 4294967296) (sym ax) lt) can in
      let wr1 : Wrote m.mem z (bytes 4 x) mem1 = subst (λ n. Wrote m.mem z (bytes 4 n) mem1) ax wr in (
        m1,
        record {
          comes = moved p m m1 e1;
          agree = temp_agrees l w p.text s g gr m.regs.ebp m.regs.esp m.mem mem1 m.input m.output m.turns m.made x ag few wr1;
          eip_is = refl;
          since_is = refl;
        },
      )

  -- a value that comes later than an earlier state
  pub older : (g : Ghost) (gr : List Ghost) (f k : ℕ) (s s1 s2 : State) (b t : ℕ) (m : M) (o : Out Value) (more1 more2 : List Made) → s1.made ≡ s.made ++ more1 → s2.made ≡ s1.made ++ more2 → Reach p (Halted p l w) m o (Given p l w (g ∷ gr) f k s2 b t (num Int)) → Reach p (Halted p l w) m o (Given p l w (g ∷ gr) f k s b t (num Int))
  older g gr f k s s1 s2 b t m o more1 more2 e1 e2 r = reach_weaken p (Halted p l w) m o (Given p l w (g ∷ gr) f k s2 b t (num Int)) (Given p l w (g ∷ gr) f k s b t (num Int)) r (λ x s3 m3 v3.
      record {
        agree = v3.agree;
        here = v3.here;
        eip_is = v3.eip_is;
        eax_is = v3.eax_is;
        typed = v3.typed;
        ok = v3.ok;
        soon = v3.soon;
        more = more1 ++ (more2 ++ v3.more);
        grows = v3.grows ∙ ap (λ z. z ++ v3.more) e2 ∙ ap (λ z. (z ++ more2) ++ v3.more) e1 ∙ append_assoc (s.made ++ more1) more2 v3.more ∙ append_assoc s.made more1 (more2 ++ v3.more);
      })

  -- both sides, and what the operator makes of them
  pub two_sides : (o : TBinary) → IsSum o → (g : Ghost) (gr : List Ghost) (f k : ℕ) (s : State) (m : M) (left : State → Out Value) (right : State → Out Value) (n1 n2 : ℕ) (is1 is2 : List Item) → ((s1 : State) → last_start k is1 ≡ k) → ((s1 : State) → last_start k is2 ≡ k) → length g.temps < 64 → Runs p l w most room (left s) (num Int) n1 is1 g gr f k s m → ((n : ℕ) (s1 : State) (m1 : M) → Runs p l w most room (right s1) (num Int) n2 is2 (push_temp g n) gr f k s1 m1) → Runs p l w most room (bind (left s) (λ x s1. bind (right s1) (numbers o true x))) (num Int) (n1 + (1 + (n2 + 3))) (is1 ++ (Op (Move ToOperand 0 (below (temp_depth g.site (length g.temps)))) ∷ (is2 ++ (Op (Move ToOperand 0 (Reg 1)) ∷ Op (Move ToRegister 0 (below (temp_depth g.site (length g.temps)))) ∷ operator o)))) g gr f k s m
  two_sides o sum g gr f k s m left right n1 n2 is1 is2 q1 q2 few r1 r2 a b st ag here at soon =
      let split1 = stands_split p l f k is1 _ a b st in
      let c1 = split1.0 in
      let st1 = subst (λ j. Stands p l f j c1 (Op (Move ToOperand 0 (below (temp_depth g.site (length g.temps)))) ∷ (is2 ++ (Op (Move ToOperand 0 (Reg 1)) ∷ Op (Move ToRegister 0 (below (temp_depth g.site (length g.temps)))) ∷ operator o))) b) (q1 s) split1.2 in
      let c2 = st1.0 in
      let split2 = stands_split p l f k is2 _ c2 b st1.2 in
      let c3 = split2.0 in
      let st3 = subst (λ j. Stands p l f j c3 (Op (Move ToOperand 0 (Reg 1)) ∷ Op (Move ToRegister 0 (below (temp_depth g.site (length g.temps)))) ∷ operator o) b) (q2 s) split2.2 in
      reach_bind p (Halted p l w) m (left s) (λ x s1. bind (right s1) (numbers o true x)) (Given p l w (g ∷ gr) f k s c1 (m.since + n1) (num Int)) (Given p l w (g ∷ gr) f k s b (m.since + (n1 + (1 + (n2 + 3)))) (num Int)) (r1 a c1 split1.1 ag here at (omega arith)) (λ x s1 m1 v1.
      let nx = is_number x v1.typed in
      let so1 = v1.soon in
      let small : nx.0 < 4294967296 = subst (λ z. IsVal l w s1.made z) nx.1 v1.ok in
      let ax : m1.regs.eax ≡ nx.0 = v1.eax_is ∙ ap (λ z. spell l w s1.made z) nx.1 in
      let t = keep g gr f k s1 m1 c1 c2 nx.0 st1.1 v1.agree v1.eip_is ax small few (omega arith) in
      let m2 = t.0 in
      let kept = t.1 in
      reach_after p (Halted p l w) m1 m2 (bind (right s1) (numbers o true x)) (Given p l w (g ∷ gr) f k s b (m.since + (n1 + (1 + (n2 + 3)))) (num Int)) kept.comes (
      reach_bind p (Halted p l w) m2 (right s1) (numbers o true x) (Given p l w (push_temp g nx.0 ∷ gr) f k s1 c3 (m2.since + n2) (num Int)) (Given p l w (g ∷ gr) f k s b (m.since + (n1 + (1 + (n2 + 3)))) (num Int)) (r2 nx.0 s1 m2 c2 c3 split2.1 kept.agree v1.here kept.eip_is (omega (arith, kept.since_is))) (λ y s2 m3 v3.
      let ny = is_number y v3.typed in
      let so3 = v3.soon in
      let ay : m3.regs.eax ≡ ny.0 = v3.eax_is ∙ ap (λ z. spell l w s2.made z) ny.1 in
      let P : Value → Value → Type 0 = λ u z. Reach p (Halted p l w) m3 (numbers o true u z s2) (Given p l w (g ∷ gr) f k s2 b (m.since + (n1 + (1 + (n2 + 3)))) (num Int)) in
      let done : P (Num nx.0) (Num ny.0) = last o sum s2 m3 nx.0 ny.0 c3 (m.since + (n1 + (1 + (n2 + 3)))) small st3 v3.agree v3.here v3.eip_is ay (omega (arith, kept.since_is)) soon in
      let all : P x y = subst (λ u. P u y) (sym nx.1) (subst (λ z. P (Num nx.0) z) (sym ny.1) done) in
      older g gr f k s s1 s2 b (m.since + (n1 + (1 + (n2 + 3)))) m3 (numbers o true x y s2) v1.more v3.more v1.grows v3.grows all)))
    where
      last : (o : TBinary) → IsSum o → (s2 : State) (m3 : M) (x y c3 t : ℕ) → x < 4294967296 → Stands p l f k c3 (Op (Move ToOperand 0 (Reg 1)) ∷ Op (Move ToRegister 0 (below (temp_depth g.site (length g.temps)))) ∷ operator o) b → Agrees l w p.text s2 (push_temp g x ∷ gr) m3 → IsAt s2.chain f k → m3.eip ≡ c3 → m3.regs.eax ≡ y → m3.since + 3 ≤ t → t ≤ most → Reach p (Halted p l w) m3 (numbers o true (Num x) (Num y) s2) (Given p l w (g ∷ gr) f k s2 b t (num Int))
      last Add sum s2 m3 x y c3 t lt st ag here at ay soon le = combine (ArithTo machine.Add 1 (Reg 0)) add32 sum_flags add_combines sum_small g gr f k s2 m3 x y c3 b t lt st ag here at ay few soon le
      last Sub sum s2 m3 x y c3 t lt st ag here at ay soon le = combine (ArithTo machine.Sub 1 (Reg 0)) sub32 difference_flags sub_combines difference_small g gr f k s2 m3 x y c3 b t lt st ag here at ay few soon le
      last _ sum s2 m3 x y c3 t lt st ag here at ay soon le = absurd sum
