-- The code of expressions gives their values.
use Rattle.std.proofs.Common.{◌≡◌, ℕ, zero, suc, ◌+◌, ◌-◌, ◌*◌, ◌<◌, ◌≤◌, inl, inr, List, [], ◌∷◌, ◌++◌, Bool, true, false, Option, Some, None, length, refl, sym, ap, ◌∙◌, subst, arith, ⊎_elim}
use Rattle.std.specs.Prelude.{nat_lt, nat_eq, slice_get, slice_set, take}
use Rattle.std.proofs.lemmas.Bool.{le-ltb, cases_lt}
use Rattle.std.proofs.lemmas.List.{append-nil}
use Rattle.std.specs.Int.{w32, cast_signed}
use Rattle.c_type.specs.Names.{pick, at_or}
use Rattle.c_type.specs.declared.Kind.TheVariants.{Int}
use Rattle.c_type.specs.Types.{CType, num}
use Rattle.c_type.specs.Sizes.{size}
use Rattle.mach_mem.specs.Space.{Space, byte_at, with_number, number_at}
use Rattle.isa386.specs.declared.Way.TheVariants.{ToOperand, ToRegister}
use Rattle.isa386.specs.declared.Ins.TheVariants.{Move}
use Rattle.c_tree.specs.Bodies.{autos}
use Rattle.c_run.specs.Values as v
use Rattle.c_run.specs.Values.{Object, Value, Num, Null, To, Fn, Stop, suits, converted, number_as, kept_as}
use Rattle.c_run.specs.State.{State, Act, Made, Thing, Out, choose, current, thing, set_chain, read_slot, write_slot}
use Rattle.c_run.specs.Context.{Linked, context}
use Rattle.c_run.specs.Pointers.{given_or, read_thing, write_cell, write_thing, leaves}
use Rattle.c_run.specs.Calls.{no_made, rounded}
use Rattle.c_run.specs.Place.{place, made_place, local_place}
use Rattle.gen_small.specs.Ghost.{Regs, Flags, M, Prog}
use Rattle.gen_small.specs.Items.{Item, Op, Layout, Stands}
use Rattle.gen_small.specs.Spelled.{bytes, Tells}
use Rattle.gen_small.specs.Code.{local_depth, below}
use Rattle.gen_small.specs.Agree.{spell, IsVal, IsApart, CanWrite, Ghost, Frames, Agree, Agrees}
use Rattle.gen_small.specs.Reaches.{IsAt, Halted, Given}
use Rattle.gen_small.proofs.Reach.{stays, moved, Reach, on, step_at}
use Rattle.gen_small.proofs.Memory.{Wrote, number_told, number_wrote, writable4}
use Rattle.gen_small.proofs.Steps.{load, store, place_below, place as step_place}
use Rattle.gen_small.proofs.Objects.{cells_read, same_suits}
use Rattle.gen_small.proofs.Agreement.{put_agrees}

-- where a local of the latest frame stands
locate : (l : Layout) (w : Linked) (told : ℕ → Option ℕ) (s : State) (g : Ghost) (gs : List Ghost) (i : ℕ) → Frames l w told s.made (g ∷ gs) s.chain → place w s.made (v.Local (current s.chain) (length g.site.body.func.params + i)) ≡ g.base - local_depth g.site i
locate l w told s g gs i fr = go s.chain fr
  where
    past : (n : ℕ) → nat_lt (n + i) n ≡ false
    past n = le-ltb (n + i) n (omega arith)

    back : (n : ℕ) → n + i - n ≡ i
    back n = omega arith

    at_depth : g.site.whole ≡ w → local_place (context w g.site.body) g.site.body.func g.base (length g.site.body.func.params + i) ≡ g.base - local_depth g.site i
    at_depth same =
        ap (λ b. pick b (g.base + 8 + 4 * (length g.site.body.func.params + i)) (g.base - rounded (context w g.site.body) (take (suc (length g.site.body.func.params + i - length g.site.body.func.params)) (autos g.site.body.func)))) (past (length g.site.body.func.params))
        ∙ ap (λ j. g.base - rounded (context w g.site.body) (take (suc j) (autos g.site.body.func))) (back (length g.site.body.func.params))
        ∙ ap (λ u. g.base - rounded (context u g.site.body) (take (suc i) (autos g.site.body.func))) (sym same)

    go : (rs : List Act) → Frames l w told s.made (g ∷ gs) rs → place w s.made (v.Local (current rs) (length g.site.body.func.params + i)) ≡ g.base - local_depth g.site i
    go [] fr = absurd fr
    go (a ∷ rs) fr =
        let f = fr.0 in
        let at : at_or no_made s.made a.serial ≡ record { fun = g.site.fun; base = g.base } = ap (λ z. at_or no_made s.made z) f.serial_is ∙ f.made_is in
        ap (λ (d : Made). made_place w (slice_get w.bodies d.fun) d.base (length g.site.body.func.params + i)) at
        ∙ ap (λ o. made_place w o g.base (length g.site.body.func.params + i)) f.body_is
        ∙ at_depth f.whole_is

-- the serial of the latest activation is that of its frame
pub serial_of : (l : Layout) (w : Linked) (told : ℕ → Option ℕ) (made : List Made) (g : Ghost) (gs : List Ghost) (rs : List Act) → Frames l w told made (g ∷ gs) rs → current rs ≡ g.serial
serial_of l w told made g gs [] fr = absurd fr
serial_of l w told made g gs (a ∷ rs) fr = fr.0.serial_is

no_write_at_0 : (m : Space) (n : ℕ) → 0 < n → CanWrite m 0 n → ⊥
no_write_at_0 m zero pos h = absurd (omega arith)
no_write_at_0 m (suc n) pos h = cc

-- a local that holds something has a depth within the base
depth_bounds : (m : Space) (base depth n : ℕ) → 0 < n → n ≤ 8 → IsApart (base - depth) n base 8 → CanWrite m (base - depth) n → (0 < depth) × (depth ≤ base)
depth_bounds m base depth n pos few (inl h) can = (
  omega arith,
  ⊎_elim
      (λ lt. absurd (no_write_at_0 m n pos (subst (λ z. CanWrite m z n) (zero_at base depth (omega arith)) can)))
      (λ le. le)
      (cases_lt base depth),
)
  where
    zero_at : (base depth : ℕ) → base ≤ depth → base - depth ≡ 0
    zero_at base depth le = omega arith
depth_bounds m base depth n pos few (inr h) can = absurd (omega arith)

-- an object anew leaves function and start
set_at : (rs : List Act) (serial i : ℕ) (y : Thing) (f k : ℕ) → IsAt rs f k → IsAt (set_chain rs serial i y) f k
set_at [] serial i y f k h = h
set_at (a ∷ rs) serial i y f k h = sets (nat_eq a.serial serial)
  where
    sets : (b : Bool) → IsAt (pick b (record a { things = slice_set a.things i y } ∷ rs) (a ∷ set_chain rs serial i y)) f k
    sets true = h
    sets false = h

can_prefix : (n k : ℕ) (m : Space) (a : ℕ) → k ≤ n → CanWrite m a n → CanWrite m a k
can_prefix n zero m a le h = tt
can_prefix zero (suc k) m a le h = absurd (omega arith)
can_prefix (suc n) (suc k) m a le h = (h.0, can_prefix n k m (suc a) (omega arith) h.1)

apart_less : (a n b k j : ℕ) → j ≤ n → IsApart a n b k → IsApart a j b k
apart_less a n b k j le (inl h) = inl (omega arith)
apart_less a n b k j le (inr h) = inr h

module _ (p : Prog) (l : Layout) (w : Linked) (most : ℕ) (room : most ≤ p.limit) where
  pub spell_small : (made : List Made) (x : Value) → IsVal l w made x → spell l w made x < 4294967296
  spell_small made (Num n) h = h
  spell_small made Null h = omega arith
  spell_small made (To o n) h = h.2
  spell_small made (Fn f) h = h.1

  pub no_more : (s : State) → s.made ≡ s.made ++ []
  no_more s = sym (append-nil s.made)

  -- one instruction that leaves memory alone and the frame's registers
  pub quiet_step : (m : M) (s : State) (gs : List Ghost) (r : Regs) (fl : Flags) (c : ℕ) → Agrees l w p.text s gs m → r.ebp ≡ m.regs.ebp → r.esp ≡ m.regs.esp → Agrees l w p.text s gs (on m r fl c m.mem)
  quiet_step m s gs r fl c ag eb es = record {
    cells = ag.cells;
    frames = ag.frames;
    placed = ag.placed;
    layered = ag.layered;
    ebp_is = eb ∙ ag.ebp_is;
    esp_is = es ∙ ag.esp_is;
    stack_is = ag.stack_is;
    text_is = ag.text_is;
    input_is = ag.input_is;
    output_is = ag.output_is;
    turns_is = ag.turns_is;
    made_is = ag.made_is;
  }

  -- a local of the latest frame that holds a value of four bytes
  record IsFound (s : State) (g : Ghost) (i : ℕ) (x : Thing) (t : CType) (ebp : ℕ) (mem : Space) (y : Value) : Type 0 where
    address : step_place ebp (cast_signed w32 (4294967296 - local_depth g.site i)) ≡ place w s.made (v.Local (current s.chain) (length g.site.body.func.params + i))
    told : number_at (byte_at mem) (place w s.made (v.Local (current s.chain) (length g.site.body.func.params + i))) ≡ Some (spell l w s.made y)
    fits : suits t y ≡ true
    ok : IsVal l w s.made y
    can : CanWrite mem (place w s.made (v.Local (current s.chain) (length g.site.body.func.params + i))) 4

  find_local : (s : State) (g : Ghost) (gr : List Ghost) (ebp esp : ℕ) (mem : Space) (input output : List ℕ) (turns : ℕ) (made : List Made) (i : ℕ) (x : Thing) (t : CType) (y : Value) → size [] t ≡ 4 → Agree l w p.text s (g ∷ gr) ebp esp mem input output turns made → thing s (v.Local (current s.chain) (length g.site.body.func.params + i)) ≡ Some x → read_slot t 0 x.slots ≡ Some y → IsFound s g i x t ebp mem y
  find_local s g gr ebp esp mem input output turns made i x t y four ag e r =
      let o : Object = v.Local (current s.chain) (length g.site.body.func.params + i) in
      let z = place w s.made o in
      let lay = ag.layered in
      let rd = cells_read l w s.made (byte_at mem) z 0 x.size x.slots t 0 y (ag.placed.sorted o x e) (ag.cells o x e) r in
      let within = rd.within in
      let enough : 4 ≤ x.size = omega (arith, four) in
      let can : CanWrite mem z 4 = can_prefix x.size 4 mem z enough (ag.placed.writable o x e) in
      let at = locate l w (byte_at mem) s g gr i ag.frames in
      let far : IsApart (g.base - local_depth g.site i) 4 g.base 8 = subst (λ u. IsApart u 4 g.base 8) at (apart_less z x.size g.base 8 4 enough (ag.placed.off o x e).1) in
      let bounds = depth_bounds mem g.base (local_depth g.site i) 4 (omega arith) (omega arith) far (subst (λ u. CanWrite mem u 4) at can) in
      let flat : z + 0 ≡ z = omega arith in
      record {
        address = ap (λ u. step_place u (cast_signed w32 (4294967296 - local_depth g.site i))) ag.ebp_is ∙ place_below g.base (local_depth g.site i) bounds.0 bounds.1 (omega arith) ∙ sym at;
        told = number_told (byte_at mem) z (spell l w s.made y) (spell_small s.made y rd.ok) (subst (λ u. Tells (byte_at mem) u (bytes 4 (spell l w s.made y))) flat (subst (λ n. Tells (byte_at mem) (z + 0) (bytes n (spell l w s.made y))) four rd.told));
        fits = rd.fits;
        ok = rd.ok;
        can = can;
      }

  -- what the code of an expression does
  abbrev pub Runs : (Out Value) → CType → ℕ → List Item → Ghost → List Ghost → ℕ → ℕ → State → M → Type 0
  Runs o ty n is g gr f k s m = (a b : ℕ) → Stands p l f k a is b → Agrees l w p.text s (g ∷ gr) m → IsAt s.chain f k → m.eip ≡ a → m.since + n ≤ most → Reach p (Halted p l w) m o (Given p l w (g ∷ gr) f k s b (m.since + n) ty)

  -- a local is read
  pub load_local : (g : Ghost) (gr : List Ghost) (f k : ℕ) (s : State) (m : M) (i : ℕ) → Runs (read_thing (num Int) 0 (thing s (v.Local (current s.chain) (length g.site.body.func.params + i))) s) (num Int) 1 (Op (Move ToRegister 0 (below (local_depth g.site i))) ∷ []) g gr f k s m
  load_local g gr f k s m i a b st ag here at soon = looked (thing s o) refl
    where
      o : Object
      o = v.Local (current s.chain) (length g.site.body.func.params + i)

      looked : (ot : Option Thing) → thing s o ≡ ot → Reach p (Halted p l w) m (read_thing (num Int) 0 ot s) (Given p l w (g ∷ gr) f k s b (m.since + 1) (num Int))
      looked None e = (m, stays p m, tt)
      looked (Some x) e = found (read_slot (num Int) 0 x.slots) refl
        where
          found : (ov : Option Value) → read_slot (num Int) 0 x.slots ≡ ov → Reach p (Halted p l w) m (given_or 1 ov s) (Given p l w (g ∷ gr) f k s b (m.since + 1) (num Int))
          found None e1 = (m, stays p m, tt)
          found (Some y) e1 =
              let c = st.0 in
              let is = find_local s g gr m.regs.ebp m.regs.esp m.mem m.input m.output m.turns m.made i x (num Int) y refl ag e e1 in
              let r1 : Regs = record m.regs { eax = spell l w s.made y } in
              let m1 : M = on m r1 m.flags c m.mem in
              let e2 = step_at p l f k m a c (Move ToRegister 0 (below (local_depth g.site i))) r1 m.flags c m.mem st.1 at ag.text_is (omega arith) (load m.regs m.flags a m.mem (cast_signed w32 (4294967296 - local_depth g.site i)) (place w s.made o) (spell l w s.made y) c is.address is.told) in (
                m1,
                moved p m m1 e2,
                record {
                  agree = quiet_step m s (g ∷ gr) r1 m.flags c ag refl refl;
                  here = here;
                  eip_is = st.2;
                  eax_is = refl;
                  typed = is.fits;
                  ok = is.ok;
                  more = [];
                  grows = no_more s;
                  soon = omega arith;
                },
              )

  -- a local is written
  pub store_local : (g : Ghost) (gr : List Ghost) (f k : ℕ) (s : State) (m : M) (i serial : ℕ) (y : Value) → serial ≡ current s.chain → IsVal l w s.made y → m.regs.eax ≡ spell l w s.made y → Runs (choose (suits (num Int) y) s (write_thing (num Int) (v.Local serial (length g.site.body.func.params + i)) 0 y (thing s (v.Local serial (length g.site.body.func.params + i)))) (leaves 0)) (num Int) 1 (Op (Move ToOperand 0 (below (local_depth g.site i))) ∷ []) g gr f k s m
  store_local g gr f k s m i serial y same ok ax a b st ag here at soon =
      subst (λ r. Reach p (Halted p l w) m (choose (suits (num Int) y) s (write_thing (num Int) (v.Local r (length g.site.body.func.params + i)) 0 y (thing s (v.Local r (length g.site.body.func.params + i)))) (leaves 0)) (Given p l w (g ∷ gr) f k s b (m.since + 1) (num Int))) (sym same) (fitting (suits (num Int) y) refl)
    where
      o : Object
      o = v.Local (current s.chain) (length g.site.body.func.params + i)

      written : suits (num Int) y ≡ true → (x : Thing) → thing s o ≡ Some x → (ov : Option Value) → read_slot (num Int) 0 x.slots ≡ ov → Reach p (Halted p l w) m (write_cell (num Int) o 0 y x ov s) (Given p l w (g ∷ gr) f k s b (m.since + 1) (num Int))
      written fit x e None e1 = (m, stays p m, tt)
      written fit x e (Some old) e1 =
          let c = st.0 in
          let is = find_local s g gr m.regs.ebp m.regs.esp m.mem m.input m.output m.turns m.made i x (num Int) old refl ag e e1 in
          let z = place w s.made o in
          let mem1 = with_number m.mem z m.regs.eax in
          let m1 : M = on m m.regs m.flags c mem1 in
          let e2 = step_at p l f k m a c (Move ToOperand 0 (below (local_depth g.site i))) m.regs m.flags c mem1 st.1 at ag.text_is (omega arith) (store m.regs m.flags a m.mem (cast_signed w32 (4294967296 - local_depth g.site i)) z c is.address (writable4 m.mem z is.can)) in
          let wr : Wrote m.mem z (bytes 4 m.regs.eax) mem1 = number_wrote m.mem z m.regs.eax (subst (λ n. n < 4294967296) (sym ax) (spell_small s.made y ok)) is.can in
          let flat : z ≡ z + 0 = omega arith in
          let wr1 : Wrote m.mem (z + 0) (bytes 4 (spell l w s.made y)) mem1 = subst (λ n. Wrote m.mem (z + 0) (bytes 4 n) mem1) ax (subst (λ u. Wrote m.mem u (bytes 4 m.regs.eax) mem1) flat wr) in
          let ag1 = put_agrees l w p.text s (g ∷ gr) m.regs.ebp m.regs.esp m.mem mem1 m.input m.output m.turns m.made o x (num Int) 0 old y ag e e1 (λ c h. same_suits c (num Int) y h ∙ fit) ok wr1 in (
            m1,
            moved p m m1 e2,
            record {
              agree = ag1;
              here = set_at s.chain (current s.chain) (length g.site.body.func.params + i) (record x { slots = write_slot (num Int) 0 y x.slots }) f k here;
              eip_is = st.2;
              eax_is = ax;
              typed = fit;
              ok = ok;
              more = [];
              grows = no_more s;
              soon = omega arith;
            },
          )

      fitting : (q : Bool) → suits (num Int) y ≡ q → Reach p (Halted p l w) m (choose q s (write_thing (num Int) o 0 y (thing s o)) (leaves 0)) (Given p l w (g ∷ gr) f k s b (m.since + 1) (num Int))
      fitting false e = (m, stays p m, tt)
      fitting true fit = looked (thing s o) refl
        where
          looked : (ot : Option Thing) → thing s o ≡ ot → Reach p (Halted p l w) m (write_thing (num Int) o 0 y ot s) (Given p l w (g ∷ gr) f k s b (m.since + 1) (num Int))
          looked None e = (m, stays p m, tt)
          looked (Some x) e = written fit x e (read_slot (num Int) 0 x.slots) refl
