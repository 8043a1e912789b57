-- A function without parameters whose automatic objects are of type int is entered: states agree.
use Rattle.std.proofs.Common.{◌≡◌, ℕ, zero, suc, ◌+◌, ◌-◌, ◌*◌, ◌/◌, ◌<◌, ◌≤◌, ◌≢◌, inl, inr, List, [], ◌∷◌, ◌++◌, map, Bool, true, false, Option, Some, None, length, refl, sym, ap, ◌∙◌, subst, arith, ⊎_elim, length-append}
use Rattle.std.specs.Prelude.{nat_eq, nat_lt, slice_get, take, ◌&&◌}
use Rattle.std.proofs.lemmas.Bool.{eqb-true, le-ltb, cases_lt}
use Rattle.std.proofs.lemmas.List.{get_or_append_left, get_or_at}
use Rattle.mach_mem.specs.Addresses.{stack_start, stack_end}
use Rattle.c_type.specs.Names.{pick, at_or}
use Rattle.c_type.specs.declared.Kind.TheVariants.{Int}
use Rattle.c_type.specs.Types.{CType, num}
use Rattle.c_type.specs.Sizes.{size, up_to}
use Rattle.mach_mem.specs.Space.{Space, byte_at}
use Rattle.c_tree.specs.Bodies.{BodyAt, Auto, autos}
use Rattle.c_run.specs.Values.{Object, Static, Local, Value, Num, Null, To, Fn, same_object}
use Rattle.c_run.specs.State.{State, Made, Thing, Slot, thing}
use Rattle.c_run.specs.Context.{Linked, Context, context, fresh, fresh_all}
use Rattle.c_run.specs.Calls.{no_made, rounded}
use Rattle.c_run.specs.Place.{place, made_place}
use Rattle.gen_small.specs.Items.{Layout}
use Rattle.gen_small.specs.Spelled.{bytes, Tells}
use Rattle.gen_small.specs.Mains.{AllInt}
use Rattle.gen_small.specs.Agree.{IsKnown, spell, IsVal, Cells, Sorted, IsApart, CanWrite, Ghost, frame, floor, KeepsOff, Agree}
use Rattle.gen_small.proofs.Memory.{can_write_stack}

-- an object of type int that holds zero
abbrev pub int_thing : Thing
int_thing = record { size = 4; slots = record { off = 0; ty = num Int; val = Num 0 } ∷ [] }

same_eq : (n : ℕ) → nat_eq n n ≡ true
same_eq n = grind arith

fresh_ints : (c : Context) (as_ : List Auto) (i : ℕ) (x : Thing) → AllInt as_ → slice_get (fresh_all c (map (λ a. a.ty) as_)) i ≡ Some x → (i < length as_) × (x ≡ int_thing)
fresh_ints c [] i x all e = absurd (cc)
fresh_ints c (a ∷ as_) zero x all e =
    let is : fresh c a.ty ≡ int_thing = ap (fresh c) all.0 in
    (omega arith, cc)
fresh_ints c (a ∷ as_) (suc i) x all e = let r = fresh_ints c as_ i x all.1 e in (omega (arith, r.0), r.1)

four : (c : Context) (t : CType) → t ≡ num Int → up_to 4 (size c.tags t) ≡ 4
unfolding up_to
four c t e = ap (λ u. (size c.tags u + 3) / 4 * 4) e

pub rounded_ints : (c : Context) (as_ : List Auto) → AllInt as_ → rounded c as_ ≡ 4 * length as_
rounded_ints c [] all = refl
rounded_ints c (a ∷ as_) all = ap (λ z. z + rounded c as_) (four c a.ty all.0) ∙ ap (λ z. 4 + z) (rounded_ints c as_ all.1) ∙ omega arith

pub rounded_take : (c : Context) (as_ : List Auto) (i : ℕ) → AllInt as_ → i < length as_ → rounded c (take (suc i) as_) ≡ 4 * suc i
rounded_take c [] i all lt = absurd (omega arith)
rounded_take c (a ∷ as_) zero all lt = ap (λ z. z + 0) (four c a.ty all.0)
rounded_take c (a ∷ as_) (suc i) all lt = ap (λ z. z + rounded c (take (suc i) as_)) (four c a.ty all.0) ∙ ap (λ z. 4 + z) (rounded_take c as_ i all.1 (omega arith)) ∙ omega arith

module _ (l : Layout) (w : Linked) where
  -- values, cells and places stay where further activations are made
  place_grow : (made more : List Made) (o : Object) → IsKnown made o → place w (made ++ more) o ≡ place w made o
  place_grow made more (Static k) h = refl
  place_grow made more (Local serial i) h = ap (λ (d : Made). made_place w (slice_get w.bodies d.fun) d.base i) (get_or_append_left made more no_made serial h)

  spell_grow : (made more : List Made) (x : Value) → IsVal l w made x → spell l w (made ++ more) x ≡ spell l w made x
  spell_grow made more (Num n) h = refl
  spell_grow made more Null h = refl
  spell_grow made more (To o a) h = ap (λ z. z + a) (place_grow made more o h.0)
  spell_grow made more (Fn f) h = refl

  known_grow : (made more : List Made) (o : Object) → IsKnown made o → IsKnown (made ++ more) o
  known_grow made more (Static k) h = tt
  known_grow made more (Local serial i) h = omega (arith, length-append made more)

  val_grow : (made more : List Made) (x : Value) → IsVal l w made x → IsVal l w (made ++ more) x
  val_grow made more (Num n) h = h
  val_grow made more Null h = tt
  val_grow made more (To o a) h =
      let e = sym (place_grow made more o h.0) in
      (known_grow made more o h.0, subst (λ z. 0 < z + a) e h.1, subst (λ z. z + a < 4294967296) e h.2)
  val_grow made more (Fn f) h = h

  cells_grow : (made more : List Made) (told : ℕ → Option ℕ) (at : ℕ) (cs : List Slot) → Cells l w made told at cs → Cells l w (made ++ more) told at cs
  cells_grow made more told at [] h = tt
  cells_grow made more told at (c ∷ cs) h =
      (subst (λ z. Tells told (at + c.off) (bytes (size [] c.ty) z)) (sym (spell_grow made more c.val h.2)) h.0, h.1, val_grow made more c.val h.2, cells_grow made more told at cs h.3)

  module _ (f : ℕ) (b : BodyAt) (B : ℕ) (s : State) (ints : AllInt (autos b.func)) (known : slice_get w.bodies f ≡ Some b) (none : b.func.params ≡ []) where
    -- the state as the function begins
    abbrev pub inside_of : State
    inside_of = record s {
      chain = record { serial = length s.made; fun = f; start = 0; things = fresh_all (context w b) (map (λ x. x.ty) (autos b.func)) } ∷ [];
      made = s.made ++ record { fun = f; base = B } ∷ [];
    }

    abbrev pub ghost_of : ℕ → Ghost
    ghost_of ret = record { serial = length s.made; site = record { whole = w; fun = f; body = b }; base = B; ret = ret; temps = [] }

    -- its objects are the statics and the new automatic ones
    each : (P : Object → Thing → Type 0) → ((i : ℕ) → i < length (autos b.func) → P (Local (length s.made) i) int_thing) → ((k : ℕ) (x : Thing) → thing s (Static k) ≡ Some x → P (Static k) x) → (o : Object) (x : Thing) → thing inside_of o ≡ Some x → P o x
    each P own old (Static k) x h = old k x h
    each P own old (Local serial i) x h = cases (nat_eq (length s.made) serial) refl h
      where
        cases : (q : Bool) → nat_eq (length s.made) serial ≡ q → pick q (slice_get (fresh_all (context w b) (map (λ x. x.ty) (autos b.func))) i) None ≡ Some x → P (Local serial i) x
        cases true same h =
            let r = fresh_ints (context w b) (autos b.func) i x ints h in
            subst (λ z. P (Local z i) x) (eqb-true _ _ same) (subst (λ z. P (Local (length s.made) i) z) (sym r.1) (own i r.0))
        cases false other h = absurd (cc)

    last_made : at_or no_made inside_of.made (length s.made) ≡ record { fun = f; base = B }
    last_made = get_or_at s.made (record { fun = f; base = B }) [] no_made (length s.made) refl

    -- where an automatic object stands
    own_place : (i : ℕ) → i < length (autos b.func) → place w inside_of.made (Local (length s.made) i) ≡ B - 4 * suc i
    own_place i lt =
        ap (λ (d : Made). made_place w (slice_get w.bodies d.fun) d.base i) last_made
        ∙ ap (λ o. made_place w o B i) known
        ∙ ap (λ vs. pick (nat_lt i (length vs)) (B + 8 + 4 * i) (B - rounded (context w b) (take (suc (i - length vs)) (autos b.func)))) none
        ∙ ap (λ q. pick q (B + 8 + 4 * i) (B - rounded (context w b) (take (suc (i - 0)) (autos b.func)))) (le-ltb i 0 (omega arith))
        ∙ ap (λ j. B - rounded (context w b) (take (suc j) (autos b.func))) (flat i)
        ∙ ap (λ z. B - z) (rounded_take (context w b) (autos b.func) i ints lt)
      where
        flat : (i : ℕ) → i - 0 ≡ i
        flat i = omega arith

    -- states agree as the opening brace begins
    pub entered_agrees : (text : List ℕ) (ret : ℕ) (ebp esp : ℕ) (mem : Space) (input output : List ℕ) (turns : ℕ) (made : List Made) → Agree l w text s [] ebp esp mem input output turns made → stack_start + (4 * length (autos b.func) + 256) ≤ B → B + 8 ≡ stack_end → ((x : ℕ) → B - 4 * length (autos b.func) ≤ x → x < B → byte_at mem x ≡ Some 0) → Tells (byte_at mem) B (bytes 4 0) → Tells (byte_at mem) (B + 4) (bytes 4 ret) → Agree l w text inside_of (ghost_of ret ∷ []) B (floor (ghost_of ret ∷ [])) mem input output turns (made ++ record { fun = f; base = B } ∷ [])
    entered_agrees text ret ebp esp mem input output turns made ag room top zeros link back = record {
      cells = each (λ o x. Cells l w inside_of.made (byte_at mem) (place w inside_of.made o) x.slots)
          (λ i lt. (own_told i lt, refl, omega arith, tt))
          (λ k x h. cells_grow s.made (record { fun = f; base = B } ∷ []) (byte_at mem) (place w s.made (Static k)) x.slots (ag.cells (Static k) x h));
      frames = (
        record {
          whole_is = refl;
          body_is = known;
          serial_is = refl;
          fun_is = refl;
          known = omega (arith, length-append s.made (record { fun = f; base = B } ∷ []));
          made_is = last_made;
          temps = λ j lt. absurd (omega arith);
          few = omega arith;
          link_told = link;
          ret_told = back;
          returns = tt;
        },
        tt,
      );
      placed = record {
        sorted = each (λ o x. Sorted 0 x.slots x.size) (λ i lt. (omega arith, omega arith)) (λ k x h. ag.placed.sorted (Static k) x h);
        writable = each (λ o x. CanWrite mem (place w inside_of.made o) x.size) (λ i lt. subst (λ z. CanWrite mem z 4) (sym (own_place i lt)) (can_write_stack 4 mem (B - 4 * suc i) ag.stack_is (omega arith) (omega arith))) (λ k x h. ag.placed.writable (Static k) x h);
        apart = λ o q x y h1 h2 ne. each (λ o x. same_object o q ≡ false → IsApart (place w inside_of.made o) x.size (place w inside_of.made q) y.size)
            (λ i lt. each (λ q y. same_object (Local (length s.made) i) q ≡ false → IsApart (place w inside_of.made (Local (length s.made) i)) 4 (place w inside_of.made q) y.size)
            (λ j lt2 ne. subst (λ z. IsApart z 4 (place w inside_of.made (Local (length s.made) j)) 4) (sym (own_place i lt)) (subst (λ z. IsApart (B - 4 * suc i) 4 z 4) (sym (own_place j lt2)) (own_apart i j lt lt2 ne)))
            (λ k y h ne. subst (λ z. IsApart z 4 (place w s.made (Static k)) y.size) (sym (own_place i lt)) (old_apart i lt k y h)) q y h2)
            (λ k x h. each (λ q y. same_object (Static k) q ≡ false → IsApart (place w s.made (Static k)) x.size (place w inside_of.made q) y.size)
            (λ j lt2 ne. subst (λ z. IsApart (place w s.made (Static k)) x.size z 4) (sym (own_place j lt2)) (turn_round (B - 4 * suc j) 4 (place w s.made (Static k)) x.size (old_apart j lt2 k x h)))
            (λ j y h2 ne. ag.placed.apart (Static k) (Static j) x y h h2 ne) q y h2)
            o x h1 ne;
        off = each (λ o x. KeepsOff (ghost_of ret ∷ []) (place w inside_of.made o) x.size)
            (λ i lt. subst (λ z. KeepsOff (ghost_of ret ∷ []) z 4) (sym (own_place i lt)) (inr (omega (arith, size_is)), inl (omega arith), tt))
            (λ k x h. (in_stack _ _ (B - frame (ghost_of ret)) 256 (omega (arith, size_is)) (omega (arith, size_is)) (ag.placed.free (Static k) x h), in_stack _ _ B 8 (omega arith) (omega arith) (ag.placed.free (Static k) x h), tt));
        free = each (λ o x. IsApart (place w inside_of.made o) x.size stack_start (floor (ghost_of ret ∷ []) - stack_start))
            (λ i lt. subst (λ z. IsApart z 4 stack_start (floor (ghost_of ret ∷ []) - stack_start)) (sym (own_place i lt)) (inr (omega (arith, size_is))))
            (λ k x h. in_stack _ _ stack_start (floor (ghost_of ret ∷ []) - stack_start) (omega arith) (omega (arith, size_is)) (ag.placed.free (Static k) x h));
      };
      layered = (omega (arith, size_is), omega (arith, none_length), omega arith, tt);
      ebp_is = refl;
      esp_is = refl;
      stack_is = ag.stack_is;
      text_is = ag.text_is;
      input_is = ag.input_is;
      output_is = ag.output_is;
      turns_is = ag.turns_is;
      made_is = ap (λ z. z ++ record { fun = f; base = B } ∷ []) ag.made_is;
    }
      where
        size_is : frame (ghost_of ret) ≡ 4 * length (autos b.func) + 256
        size_is = ap (λ z. z + 256) (rounded_ints (context w b) (autos b.func) ints)

        none_length : length b.func.params ≡ 0
        none_length = ap length none

        four_zeros : (z : ℕ) → B - 4 * length (autos b.func) ≤ z → z + 4 ≤ B → Tells (byte_at mem) z (bytes 4 0)
        four_zeros z lo hi = (zeros z lo (omega arith), (zeros (suc z) (omega arith) (omega arith), (zeros (suc (suc z)) (omega arith) (omega arith), (zeros (suc (suc (suc z))) (omega arith) (omega arith), tt))))

        own_told : (i : ℕ) → i < length (autos b.func) → Tells (byte_at mem) (place w inside_of.made (Local (length s.made) i) + 0) (bytes 4 0)
        own_told i lt = subst (λ z. Tells (byte_at mem) (z + 0) (bytes 4 0)) (sym (own_place i lt)) (four_zeros (B - 4 * suc i + 0) (omega arith) (omega arith))

        differ : (i j : ℕ) → (nat_eq (length s.made) (length s.made) && nat_eq i j) ≡ false → i ≢ j
        differ i j ne = λ e. let t : (nat_eq (length s.made) (length s.made) && nat_eq i j) ≡ true = ap (λ q. q && nat_eq i j) (same_eq (length s.made)) ∙ ap (λ z. nat_eq i z) (sym e) ∙ same_eq i in cc

        own_apart : (i j : ℕ) → i < length (autos b.func) → j < length (autos b.func) → (nat_eq (length s.made) (length s.made) && nat_eq i j) ≡ false → IsApart (B - 4 * suc i) 4 (B - 4 * suc j) 4
        own_apart i j li lj ne = ⊎_elim (λ lt. inr (omega arith)) (λ le. inl (omega (arith, differ i j ne))) (cases_lt i j)

        in_stack : (a n c k : ℕ) → stack_start ≤ c → c + k ≤ stack_end → IsApart a n stack_start (floor [] - stack_start) → IsApart a n c k
        in_stack a n c k lo hi (inl h) = inl (omega arith)
        in_stack a n c k lo hi (inr h) = inr (omega arith)

        turn_round : (a n c k : ℕ) → IsApart a n c k → IsApart c k a n
        turn_round a n c k (inl h) = inr h
        turn_round a n c k (inr h) = inl h

        old_apart : (i : ℕ) → i < length (autos b.func) → (k : ℕ) (y : Thing) → thing s (Static k) ≡ Some y → IsApart (B - 4 * suc i) 4 (place w s.made (Static k)) y.size
        old_apart i lt k y h = turn_round (place w s.made (Static k)) y.size (B - 4 * suc i) 4 (in_stack (place w s.made (Static k)) y.size (B - 4 * suc i) 4 (omega arith) (omega arith) (ag.placed.free (Static k) y h))
