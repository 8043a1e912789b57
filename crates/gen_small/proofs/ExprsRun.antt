-- The code of each expression of the small form gives its value.
use Rattle.std.proofs.Common.{◌≡◌, ℕ, suc, ◌+◌, ◌-◌, ◌*◌, ◌%◌, ◌<◌, ◌≤◌, ◌⊎◌, inl, inr, List, [], ◌∷◌, ◌++◌, Bool, true, false, Option, Some, length, refl, sym, ap, ◌∙◌, subst, arith, length-append}
use Rattle.std.specs.Prelude.{nat_le, max, slice_get}
use Rattle.std.proofs.lemmas.Bool.{leb-true}
use Rattle.mach_mem.specs.Addresses.{stack_start}
use Rattle.c_type.specs.Names.{pick, at_or, same_name}
use Rattle.c_type.specs.declared.Kind.TheVariants.{Int}
use Rattle.c_type.specs.Types.{CType, num}
use Rattle.isa386.specs.declared.Dest.TheVariants.{Register}
use Rattle.isa386.specs.declared.Ins.TheVariants.{MoveImm}
use Rattle.c_tree.specs.declared.TBinary.{TBinary}
use Rattle.c_tree.specs.declared.TBinary.TheVariants.{Add, Sub}
use Rattle.c_tree.specs.TExpr.{Local, Outer, TExpr, name, int, convert, binary, assign, call, no_args, more_args, type_of}
use Rattle.c_run.specs.Values as v
use Rattle.c_run.specs.Values.{Value, Num, Null, To, Fn, Putchar, Stop, NoFuel, Stack, suits, converted}
use Rattle.c_tree.specs.Constant.{is_zero}
use Rattle.c_run.specs.State.{State, Act, Made, Acts, Out, Gave, Halt, bind, choose, current}
use Rattle.c_run.specs.Context.{Linked, outer, shared}
use Rattle.c_tree.specs.Library.{putchar_name}
use Rattle.c_run.specs.Pointers.{store}
use Rattle.c_run.specs.Exprs.{Arg, Call, value, args, as_function, value_of, operate}
use Rattle.c_run.specs.Calls.{stack_base, library, int_var, put_byte, first_number, next_base, no_made, frame, frame_at}
use Rattle.gen_small.specs.Ghost.{Regs, M, Prog}
use Rattle.gen_small.specs.Items.{Item, Layout, Stands, last_start}
use Rattle.gen_small.specs.Code.{Site, inside, named, load_from, store_to, operator, put_code, target_of, is_putchar, expr_code, temps}
use Rattle.gen_small.specs.Small.{IsInt, IsVariable, IsPutchar, IsSmall, cost}
use Rattle.gen_small.specs.Agree.{spell, IsVal, Ghost, floor, Layered, Frames, Agree, Agrees}
use Rattle.gen_small.specs.Agree as agree
use Rattle.gen_small.specs.Reaches.{IsAt, Halted, Given, run_of, PutsByte}
use Rattle.gen_small.proofs.Reach.{stays, moved, Reach, reach_after, reach_bind, reach_weaken, stands_split, last_start_split, on, step_at}
use Rattle.gen_small.proofs.Steps.{set_eax}
use Rattle.gen_small.proofs.Agreement.{push_temp}
use Rattle.gen_small.proofs.Exprs.{Runs, quiet_step, no_more, load_local, store_local, serial_of}
use Rattle.gen_small.proofs.Sums.{suits_number, is_number, two_sides, older}
use Rattle.gen_small.proofs.Putting.{first, second, third, Low}

-- no start stands in the code of an expression
load_quiet : (k : ℕ) (os : List _) → last_start k (load_from os) ≡ k
load_quiet k [] = refl
load_quiet k (o ∷ os) = refl

store_quiet : (k : ℕ) (os : List _) → last_start k (store_to os) ≡ k
store_quiet k [] = refl
store_quiet k (o ∷ os) = refl

operator_quiet : (k : ℕ) (o : TBinary) → last_start k (operator o) ≡ k
operator_quiet k Add = refl
operator_quiet k Sub = refl
operator_quiet k _ = refl

behind : (k : ℕ) (xs ys : List Item) → last_start k xs ≡ k → last_start k ys ≡ k → last_start k (xs ++ ys) ≡ k
behind k xs ys e1 e2 = last_start_split k xs ys ∙ ap (λ j. last_start j ys) e1 ∙ e2

pub quiet : (t : Site) (e : TExpr) (d k : ℕ) → last_start k (expr_code t e d) ≡ k
quiet t (name ty r) d k = load_quiet k (named t r)
quiet t (int ty n) d k = refl
quiet t (convert ty e) d k = quiet t e d k
quiet t (binary ty o a b) d k =
    behind k (expr_code t a d) _ (quiet t a d k) (behind k (expr_code t b (suc d)) _ (quiet t b (suc d) k) (operator_quiet k o))
quiet t (assign ty a b) d k = behind k (expr_code t b d) _ (quiet t b d k) (store_quiet k (target_of t a))
quiet t (call ty f (more_args e no_args)) d k = chosen (is_putchar f) (quiet t e d k)
  where
    chosen : (q : Bool) → last_start k (expr_code t e d) ≡ k → last_start k (pick q (expr_code t e d ++ put_code) []) ≡ k
    chosen true h = behind k (expr_code t e d) put_code h refl
    chosen false h = refl
quiet t _ d k = refl

-- the base of an activation that the latest one calls
next_is : (l : Layout) (w : Linked) (told : ℕ → Option ℕ) (s : State) (g : Ghost) (gs : List Ghost) (rs : List Act) → Frames l w told s.made (g ∷ gs) rs → next_base w s 1 rs ≡ g.base - (agree.frame g + 4 * 1 + 8)
next_is l w told s g gs [] fr = absurd fr
next_is l w told s g gs (a ∷ rs) fr =
    let f = fr.0 in
    let at : at_or no_made s.made a.serial ≡ record { fun = g.site.fun; base = g.base } = ap (λ z. at_or no_made s.made z) f.serial_is ∙ f.made_is in
    let size : frame w a.fun ≡ agree.frame g = ap (λ z. frame_at w (slice_get w.bodies z)) f.fun_is ∙ ap (λ o. frame_at w o) f.body_is ∙ ap (λ u. frame_at u (Some g.site.body)) (sym f.whole_is) in
    ap (λ (d : Made). d.base - (frame w a.fun + 4 * 1 + 8)) at ∙ ap (λ z. g.base - (z + 4 * 1 + 8)) size

module _ (p : Prog) (l : Layout) (w : Linked) (most : ℕ) (room : most ≤ p.limit) where
  -- the whole code of putchar
  put_runs : (g : Ghost) (gr : List Ghost) (f k : ℕ) (s : State) (m : M) (n a b t : ℕ) → Stands p l f k a put_code b → Agrees l w p.text s (g ∷ gr) m → IsAt s.chain f k → m.eip ≡ a → m.regs.eax ≡ n → n < 4294967296 → stack_start + 44 ≤ floor (g ∷ gr) → m.since + 10 ≤ t → t ≤ most → Reach p (Halted p l w) m (put_byte (n % 256) s) (Given p l w (g ∷ gr) f k s b t (num Int))
  put_runs g gr f k s m n a b t st ag here at ax lt low soon le =
      let c1 = st.0 in
      let c2 = st.2.0 in
      let c3 = st.2.2.0 in
      let d1 = st.2.2.2.0 in
      let d2 = st.2.2.2.2.0 in
      let d3 = st.2.2.2.2.2.0 in
      let lay = ag.layered in
      let e = floor (g ∷ gr) in
      let lw : Low p l w most room s (g ∷ gr) e 0 m = record {
        agree = record { cells = ag.cells; frames = ag.frames; placed = ag.placed; layered = ag.layered; ebp_is = ag.ebp_is; esp_is = refl; stack_is = ag.stack_is; text_is = ag.text_is; input_is = ag.input_is; output_is = ag.output_is; turns_is = ag.turns_is; made_is = ag.made_is };
        floor_is = refl;
        esp_is = omega (arith, ag.esp_is);
        low = low;
        high = omega arith;
      } in
      let r1 = first p l w most room f k s (g ∷ gr) e m a c3 n lw (c1, st.1, (c2, st.2.1, (c3, st.2.2.1, refl))) at ax lt (omega arith) in
      let h1 = r1.1 in
      let r2 = second p l w most room f k s (g ∷ gr) e r1.0 c3 d3 n h1.low (d1, st.2.2.2.1, (d2, st.2.2.2.2.1, (d3, st.2.2.2.2.2.1, refl))) h1.eip_is h1.eax_is h1.value h1.count (omega (arith, h1.since_is)) in
      let h2 = r2.1 in
      reach_after p (Halted p l w) m r1.0 (put_byte (n % 256) s) (Given p l w (g ∷ gr) f k s b t (num Int)) h1.comes (
      reach_after p (Halted p l w) r1.0 r2.0 (put_byte (n % 256) s) (Given p l w (g ∷ gr) f k s b t (num Int)) h2.comes
      (third p l w most room g gr f k s e r2.0 d3 b n t h2.low here st.2.2.2.2.2.2 h2.eip_is h2.value h2.count h2.place h2.descriptor (omega (arith, h1.since_is, h2.since_is)) le))

  -- a call of putchar whose argument is in eax
  library_runs : (stop : ℕ) (acts : Acts) (g : Ghost) (gr : List Ghost) (f k : ℕ) (s : State) (m : M) (n a b t : ℕ) (z0 : Bool) → Stands p l f k a put_code b → Agrees l w p.text s (g ∷ gr) m → IsAt s.chain f k → m.eip ≡ a → m.regs.eax ≡ n → n < 4294967296 → m.since + 10 ≤ t → t ≤ most → Reach p (Halted p l w) m (library (run_of stop acts w) (int_var ∷ []) (record { ty = num Int; zero = z0; val = Num n } ∷ []) s (put_byte (first_number (record { ty = num Int; zero = z0; val = Num n } ∷ []) % 256))) (Given p l w (g ∷ gr) f k s b t (num Int))
  library_runs stop acts g gr f k s m n a b t z0 st ag here at ax lt soon le = decided (nat_le (stack_base + 32) (next_base w s 1 s.chain)) refl
    where
      decided : (q : Bool) → nat_le (stack_base + 32) (next_base w s 1 s.chain) ≡ q → Reach p (Halted p l w) m (choose q s (put_byte (n % 256)) (Halt Stack)) (Given p l w (g ∷ gr) f k s b t (num Int))
      decided false e = (m, stays p m, tt)
      decided true e =
          let lay = ag.layered in
          let is = next_is l w _ s g gr s.chain ag.frames in
          let le1 = leb-true _ _ e in
          put_runs g gr f k s m n a b t st ag here at ax lt (omega arith) soon le

  -- from here on, calls of putchar are those of the library
  module _ (stop : ℕ) (acts : Acts) (go : Call) (puts : PutsByte (run_of stop acts w) go) where
    -- an argument, as a call receives it
    abbrev arg_of : Ghost → TExpr → Value → Arg
    arg_of g e x = record { ty = num Int; zero = is_zero (inside g.site).tags e; val = x }

    -- putchar with an evaluated argument
    called : (g : Ghost) (gr : List Ghost) (f k : ℕ) (s : State) (m : M) (z0 : Bool) (x : Value) (a b t : ℕ) → Stands p l f k a put_code b → Given p l w (g ∷ gr) f k s a (m.since) (num Int) x s m → m.since + 10 ≤ t → t ≤ most → Reach p (Halted p l w) m (go (Fn Putchar) (record { ty = num Int; zero = z0; val = x } ∷ []) s) (Given p l w (g ∷ gr) f k s b t (num Int))
    called g gr f k s m z0 x a b t st gv soon le = which (puts (record { ty = num Int; zero = z0; val = x }) s)
      where
        arg : Value → Arg
        arg z = record { ty = num Int; zero = z0; val = z }

        which : (go (Fn Putchar) (arg x ∷ []) s ≡ Halt NoFuel s) ⊎ (go (Fn Putchar) (arg x ∷ []) s ≡ library (run_of stop acts w) (int_var ∷ []) (arg x ∷ []) s (put_byte (first_number (arg x ∷ []) % 256))) → Reach p (Halted p l w) m (go (Fn Putchar) (arg x ∷ []) s) (Given p l w (g ∷ gr) f k s b t (num Int))
        which (inl e) = subst (λ o. Reach p (Halted p l w) m o (Given p l w (g ∷ gr) f k s b t (num Int))) (sym e) (m, stays p m, tt)
        which (inr e) =
            let nx = is_number x gv.typed in
            let small : nx.0 < 4294967296 = subst (λ z. IsVal l w s.made z) nx.1 gv.ok in
            let ax : m.regs.eax ≡ nx.0 = gv.eax_is ∙ ap (λ z. spell l w s.made z) nx.1 in
            let P : Value → Type 0 = λ z. Reach p (Halted p l w) m (library (run_of stop acts w) (int_var ∷ []) (arg z ∷ []) s (put_byte (first_number (arg z ∷ []) % 256))) (Given p l w (g ∷ gr) f k s b t (num Int)) in
            subst (λ o. Reach p (Halted p l w) m o (Given p l w (g ∷ gr) f k s b t (num Int))) (sym e)
            (subst P (sym nx.1) (library_runs stop acts g gr f k s m nx.0 a b t z0 st gv.agree gv.here gv.eip_is ax small soon le))

    -- the value of a call of putchar
    abbrev Means : Ghost → TExpr → TExpr → State → Out Value
    Means g fn e s = bind (value (inside g.site) go fn s) (λ h s1. bind (args (inside g.site) go (more_args e no_args) s1) (go h))

    put_called : (g : Ghost) (gr : List Ghost) (f k : ℕ) (s : State) (m : M) (e : TExpr) → IsInt (type_of e) → Runs p l w most room (value (inside g.site) go e s) (num Int) (cost e) (expr_code g.site e (length g.temps)) g gr f k s m → Runs p l w most room (bind (args (inside g.site) go (more_args e no_args) s) (go (Fn Putchar))) (num Int) (cost e + 10) (expr_code g.site e (length g.temps) ++ put_code) g gr f k s m
    put_called g gr f k s m e ty run a b st ag here at soon =
        let split1 = stands_split p l f k (expr_code g.site e (length g.temps)) put_code a b st in
        let c1 = split1.0 in
        let st1 = subst (λ j. Stands p l f j c1 put_code b) (quiet g.site e (length g.temps) k) split1.2 in
        let inner = run a c1 split1.1 ag here at (omega arith) in
        reach_bind p (Halted p l w) m (args (inside g.site) go (more_args e no_args) s) (go (Fn Putchar)) Mid (Given p l w (g ∷ gr) f k s b (m.since + (cost e + 10)) (num Int))
        (reach_bind p (Halted p l w) m (value (inside g.site) go e s) (λ x s1. Gave (record { ty = shared (inside g.site).classes (type_of e); zero = is_zero (inside g.site).tags e; val = x } ∷ []) s1) (Given p l w (g ∷ gr) f k s c1 (m.since + cost e) (num Int)) Mid inner (λ x s1 m1 gv. (m1, stays p m1, (x, c1, ap (λ z. record { ty = shared (inside g.site).classes z; zero = is_zero (inside g.site).tags e; val = x } ∷ []) ty, gv, st1))))
        (λ as_ s1 m1 mid. ended as_ s1 m1 mid)
      where
        Mid : List Arg → State → M → Type 0
        Mid as_ s1 m1 = (x : Value) × (end : ℕ) × (as_ ≡ arg_of g e x ∷ []) × Given p l w (g ∷ gr) f k s end (m.since + cost e) (num Int) x s1 m1 × Stands p l f k end put_code b

        ended : (as_ : List Arg) (s1 : State) (m1 : M) → Mid as_ s1 m1 → Reach p (Halted p l w) m1 (go (Fn Putchar) as_ s1) (Given p l w (g ∷ gr) f k s b (m.since + (cost e + 10)) (num Int))
        ended as_ s1 m1 mid =
            let gv = mid.3 in
            let so = gv.soon in
            let now : Given p l w (g ∷ gr) f k s1 mid.1 m1.since (num Int) mid.0 s1 m1 = record { agree = gv.agree; here = gv.here; eip_is = gv.eip_is; eax_is = gv.eax_is; typed = gv.typed; ok = gv.ok; more = []; grows = no_more p l w most room s1; soon = omega arith } in
            let r = called g gr f k s1 m1 (is_zero (inside g.site).tags e) mid.0 mid.1 b (m.since + (cost e + 10)) mid.4 now (omega arith) soon in
            older p l w most room g gr f k s s1 s1 b (m.since + (cost e + 10)) m1 (go (Fn Putchar) as_ s1) gv.more [] gv.grows (no_more p l w most room s1)
            (subst (λ z. Reach p (Halted p l w) m1 (go (Fn Putchar) z s1) (Given p l w (g ∷ gr) f k s1 b (m.since + (cost e + 10)) (num Int))) (sym mid.2) r)

    pub expr_runs : (e : TExpr) → IsSmall e → (g : Ghost) (gr : List Ghost) (f k : ℕ) (s : State) (m : M) → length g.temps + temps e ≤ 64 → Runs p l w most room (value (inside g.site) go e s) (num Int) (cost e) (expr_code g.site e (length g.temps)) g gr f k s m
    expr_runs (name ty (Local i)) sm g gr f k s m de a b st ag here at soon =
        subst (λ z. Reach p (Halted p l w) m (value_of (inside g.site) z (Local i) s) (Given p l w (g ∷ gr) f k s b (m.since + 1) (num Int))) (sym sm) (load_local p l w most room g gr f k s m i a b st ag here at soon)
    expr_runs (int ty n) sm g gr f k s m de a b st ag here at soon =
        let c = st.0 in
        let z = n % 4294967296 in
        let small : z < 4294967296 = omega arith in
        let r1 : Regs = record m.regs { eax = z } in
        let m1 : M = on m r1 m.flags c m.mem in
        let e1 = step_at p l f k m a c (MoveImm (Register 0) z) r1 m.flags c m.mem st.1 at ag.text_is (omega arith) (set_eax m.regs m.flags a m.mem z c) in
        subst (λ u. Reach p (Halted p l w) m (Gave (converted u (Num n)) s) (Given p l w (g ∷ gr) f k s b (m.since + 1) (num Int))) (sym sm)
        (m1, moved p m m1 e1, record { agree = quiet_step p l w most room m s (g ∷ gr) r1 m.flags c ag refl refl; here = here; eip_is = st.2; eax_is = refl; typed = suits_number z small; ok = small; more = []; grows = no_more p l w most room s; soon = omega arith })
    expr_runs (convert ty e) sm g gr f k s m de a b st ag here at soon =
        reach_bind p (Halted p l w) m (value (inside g.site) go e s) (λ x s1. Gave (converted ty x) s1) (Given p l w (g ∷ gr) f k s b (m.since + cost e) (num Int)) (Given p l w (g ∷ gr) f k s b (m.since + cost e) (num Int)) (expr_runs e sm.1 g gr f k s m de a b st ag here at soon) (λ x s1 m1 gv.
        let nx = is_number x gv.typed in
        let small : nx.0 < 4294967296 = subst (λ z. IsVal l w s1.made z) nx.1 gv.ok in
        let flat : nx.0 % 4294967296 ≡ nx.0 = omega arith in
        let same : x ≡ converted ty x = nx.1 ∙ ap Num (sym flat) ∙ ap (λ u. converted u (Num nx.0)) (sym sm.0) ∙ ap (λ z. converted ty z) (sym nx.1) in
        (m1, stays p m1, subst (λ z. Given p l w (g ∷ gr) f k s b (m.since + cost e) (num Int) z s1 m1) same gv))
    expr_runs (binary ty o ea eb) sm g gr f k s m de a b st ag here at soon =
        let r = two_sides p l w most room o sm.0 g gr f k s m (value (inside g.site) go ea) (value (inside g.site) go eb) (cost ea) (cost eb) (expr_code g.site ea (length g.temps)) (expr_code g.site eb (suc (length g.temps))) (λ u. quiet g.site ea (length g.temps) k) (λ u. quiet g.site eb (suc (length g.temps)) k) (omega arith)
        (expr_runs ea sm.3 g gr f k s m (omega arith))
        (λ n s1 m1. subst (λ d. Runs p l w most room (value (inside g.site) go eb s1) (num Int) (cost eb) (expr_code g.site eb d) (push_temp g n) gr f k s1 m1) (more g n) (expr_runs eb sm.4 (push_temp g n) gr f k s1 m1 (deeper g n (temps ea) (temps eb) de)))
        a b st ag here at soon in
        let P : CType → CType → Type 0 = λ u z. Reach p (Halted p l w) m (bind (value (inside g.site) go ea s) (λ x s1. bind (value (inside g.site) go eb s1) (operate (inside g.site) o u z x))) (Given p l w (g ∷ gr) f k s b (m.since + (cost ea + (1 + (cost eb + 3)))) (num Int)) in
        subst (λ u. P u (type_of eb)) (sym sm.1) (subst (λ z. P (num Int) z) (sym sm.2) r)
      where
        more : (g : Ghost) (n : ℕ) → length (push_temp g n).temps ≡ suc (length g.temps)
        more g n = omega (arith, length-append g.temps (n ∷ []))

        deeper : (g : Ghost) (n x y : ℕ) → length g.temps + max x (suc y) ≤ 64 → length (push_temp g n).temps + y ≤ 64
        deeper g n x y h = omega (arith, length-append g.temps (n ∷ []))
    expr_runs (assign ty ea eb) sm g gr f k s m de a b st ag here at soon = assigned ea sm.0 (expr_runs eb sm.1 g gr f k s m de) st
      where
        assigned : (ea : TExpr) → IsVariable ea → Runs p l w most room (value (inside g.site) go eb s) (num Int) (cost eb) (expr_code g.site eb (length g.temps)) g gr f k s m → Stands p l f k a (expr_code g.site eb (length g.temps) ++ store_to (target_of g.site ea)) b → Reach p (Halted p l w) m (value (inside g.site) go (assign ty ea eb) s) (Given p l w (g ∷ gr) f k s b (m.since + (cost eb + 1)) (num Int))
        assigned (name u (Local i)) is_int run st =
            let split1 = stands_split p l f k (expr_code g.site eb (length g.temps)) (store_to (target_of g.site (name u (Local i)))) a b st in
            let c1 = split1.0 in
            let st1 = subst (λ j. Stands p l f j c1 (store_to (target_of g.site (name u (Local i)))) b) (quiet g.site eb (length g.temps) k) split1.2 in
            let o = v.Local (current s.chain) ((inside g.site).params + i) in
            subst (λ z. Reach p (Halted p l w) m (value (inside g.site) go (assign ty (name z (Local i)) eb) s) (Given p l w (g ∷ gr) f k s b (m.since + (cost eb + 1)) (num Int))) (sym is_int)
            (reach_bind p (Halted p l w) m (value (inside g.site) go eb s) (store (inside g.site) (num Int) (To o 0)) (Given p l w (g ∷ gr) f k s c1 (m.since + cost eb) (num Int)) (Given p l w (g ∷ gr) f k s b (m.since + (cost eb + 1)) (num Int)) (run a c1 split1.1 ag here at (omega arith)) (λ x s1 m1 gv.
            let so = gv.soon in
            let same : current s.chain ≡ current s1.chain = serial_of l w _ s.made g gr s.chain ag.frames ∙ sym (serial_of l w _ s1.made g gr s1.chain gv.agree.frames) in
            let r = store_local p l w most room g gr f k s1 m1 i (current s.chain) x same gv.ok gv.eax_is c1 b st1 gv.agree gv.here gv.eip_is (omega arith) in
            older p l w most room g gr f k s s1 s1 b (m.since + (cost eb + 1)) m1 (store (inside g.site) (num Int) (To o 0) x s1) gv.more [] gv.grows (no_more p l w most room s1)
            (reach_weaken p (Halted p l w) m1 (store (inside g.site) (num Int) (To o 0) x s1) (Given p l w (g ∷ gr) f k s1 b (m1.since + 1) (num Int)) (Given p l w (g ∷ gr) f k s1 b (m.since + (cost eb + 1)) (num Int)) r (λ y s2 m2 v2.
            let so2 = v2.soon in
            record { agree = v2.agree; here = v2.here; eip_is = v2.eip_is; eax_is = v2.eax_is; typed = v2.typed; ok = v2.ok; more = v2.more; grows = v2.grows; soon = omega arith }))))
        assigned _ is_int run st = absurd is_int
    expr_runs (call ty fn (more_args e no_args)) sm g gr f k s m de a b st ag here at soon = put fn sm.0 (expr_runs e sm.2 g gr f k s m de) st
      where
        put : (fn : TExpr) → IsPutchar fn → Runs p l w most room (value (inside g.site) go e s) (num Int) (cost e) (expr_code g.site e (length g.temps)) g gr f k s m → Stands p l f k a (pick (is_putchar fn) (expr_code g.site e (length g.temps) ++ put_code) []) b → Reach p (Halted p l w) m (Means g fn e s) (Given p l w (g ∷ gr) f k s b (m.since + (cost e + 10)) (num Int))
        put (name u (Outer x)) is run st =
            let P : List ℕ → Type 0 = λ z. Stands p l f k a (pick (same_name z putchar_name) (expr_code g.site e (length g.temps) ++ put_code) []) b → Reach p (Halted p l w) m (bind (as_function (outer (inside g.site) z) s) (λ h s1. bind (args (inside g.site) go (more_args e no_args) s1) (go h))) (Given p l w (g ∷ gr) f k s b (m.since + (cost e + 10)) (num Int)) in
            let done : P putchar_name = λ st. put_called g gr f k s m e sm.1 run a b st ag here at soon in
            (subst P (sym is) done) st
        put _ is run st = absurd is
    expr_runs _ sm g gr f k s m de a b st ag here at soon = absurd sm
