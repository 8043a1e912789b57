-- States that agree still agree after a write.
use Rattle.std.proofs.Common.{◌≡◌, ℕ, suc, ◌+◌, ◌-◌, ◌*◌, ◌<◌, ◌≤◌, inl, inr, List, [], ◌∷◌, ◌++◌, Bool, true, false, Option, Some, length, refl, sym, ap, ◌∙◌, subst, arith, ⊎_elim, length-append}
use Rattle.std.specs.Prelude.{nat_eq, slice_index, slice_set}
use Rattle.std.proofs.lemmas.Bool.{cases_lt, eqb-true, and_parts}
use Rattle.std.proofs.lemmas.List.{get_or_append_left, get_or_at}
use Rattle.mach_mem.specs.Addresses.{stack_start}
use Rattle.c_type.specs.Names.{pick}
use Rattle.c_type.specs.Types.{CType, same_type}
use Rattle.c_type.specs.Sizes.{size}
use Rattle.mach_mem.specs.Space.{Space, byte_at}
use Rattle.c_run.specs.Values.{Object, Static, Local, Value, same_object, suits}
use Rattle.c_run.specs.State.{State, Act, Made, Thing, thing, set_chain, set_thing, put_cell, read_slot, write_slot}
use Rattle.c_run.specs.Context.{Linked}
use Rattle.c_run.specs.Place.{place}
use Rattle.gen_small.specs.Items.{Layout}
use Rattle.gen_small.specs.Spelled.{bytes, Tells}
use Rattle.gen_small.specs.Code.{locals_size, temp_depth}
use Rattle.gen_small.specs.Agree.{spell, IsVal, Cells, Sorted, IsApart, CanWrite, Ghost, floor, Layered, Returns, Frames, KeepsOff, Placed, Agree}
use Rattle.gen_small.proofs.Memory.{tells_keep, length-bytes, Wrote, Shaped, can_write_shaped}
use Rattle.gen_small.proofs.Objects.{cells_keep, cells_read, cells_put, sorted_put, thing_here, thing_there}

-- a number that a write of n bytes at a leaves
pub told_apart : (m m' : ℕ → Option ℕ) (a n c x : ℕ) → ((b : ℕ) → b < a → m' b ≡ m b) → ((b : ℕ) → a + n ≤ b → m' b ≡ m b) → IsApart a n c 4 → Tells m c (bytes 4 x) → Tells m' c (bytes 4 x)
told_apart m m' a n c x below above (inl h) t = tells_keep (bytes 4 x) m m' c (λ b lo hi. above b (omega arith)) t
told_apart m m' a n c x below above (inr h) t = tells_keep (bytes 4 x) m m' c (λ b lo hi. below b (omega arith)) t

apart_in : (a n b k c : ℕ) → IsApart a n b k → b ≤ c → c + 4 ≤ b + k → IsApart a n c 4
apart_in a n b k c (inl h) lo hi = inl (omega arith)
apart_in a n b k c (inr h) lo hi = inr (omega arith)

temp_room : (base size few j : ℕ) → stack_start + (size + 256) ≤ base → j < few → few ≤ 64 → (base - (size + 256) ≤ base - (size + 4 * suc j)) × (base - (size + 4 * suc j) + 4 ≤ base - (size + 256) + 256)
temp_room base size few j low lt le = (omega arith, omega arith)

same_is : (o q : Object) → same_object o q ≡ true → o ≡ q
same_is (Static k) (Static j) e = ap Static (eqb-true _ _ e)
same_is (Static k) (Local r j) e = absurd (cc)
same_is (Local s i) (Static j) e = absurd (cc)
same_is (Local s i) (Local r j) e = let q = and_parts _ _ e in ap (λ z. Local z i) (eqb-true _ _ q.0) ∙ ap (λ z. Local r z) (eqb-true _ _ q.1)

-- a part of an object keeps off what the object keeps off
off_part : (gs : List Ghost) (a n b k : ℕ) → a ≤ b → b + k ≤ a + n → KeepsOff gs a n → KeepsOff gs b k
off_part [] a n b k lo hi h = tt
off_part (g ∷ gs) a n b k lo hi h = (part _ _ h.0, part _ _ h.1, off_part gs a n b k lo hi h.2)
  where
    part : (c d : ℕ) → IsApart a n c d → IsApart b k c d
    part c d (inl x) = inl (omega arith)
    part c d (inr x) = inr (omega arith)

-- one more temporary
abbrev pub push_temp : Ghost → ℕ → Ghost
push_temp g x = record g { temps = g.temps ++ x ∷ [] }

temps_more : (P : ℕ → ℕ → Type 0) (ts : List ℕ) (x : ℕ) → ((j : ℕ) → j < length ts → P j (slice_index ts j)) → P (length ts) x → (j : ℕ) → j < length (ts ++ x ∷ []) → P j (slice_index (ts ++ x ∷ []) j)
temps_more P ts x old new j lt =
    ⊎_elim
    (λ l. subst (λ z. P j z) (sym (get_or_append_left ts (x ∷ []) 0 j l)) (old j l))
    (λ ge.
    let e : length ts ≡ j = omega (arith, length-append ts (x ∷ [])) in
    let n : slice_index (ts ++ x ∷ []) j ≡ x = get_or_at ts x [] 0 j e in
    subst (λ z. P j z) (sym n) (subst (λ z. P z x) e new))
    (cases_lt j (length ts))

apart_inner : (a n b k c j : ℕ) → IsApart a n b k → b ≤ c → c + j ≤ b + k → IsApart a n c j
apart_inner a n b k c j (inl h) lo hi = inl (omega arith)
apart_inner a n b k c j (inr h) lo hi = inr (omega arith)

-- what stands below the frames keeps off them
pub off_under : (gs : List Ghost) (a n : ℕ) → Layered gs → a + n ≤ floor gs → KeepsOff gs a n
off_under [] a n lay le = tt
off_under (g ∷ gs) a n lay le = (inl le, inl (omega arith), off_under gs a n lay.3 (omega arith))

module _ (l : Layout) (w : Linked) where
  -- frames that a write of n bytes at a keeps off
  pub frames_off : (m m' : ℕ → Option ℕ) (made : List Made) (a n : ℕ) (gs : List Ghost) (rs : List Act) → Layered gs → KeepsOff gs a n → ((b : ℕ) → b < a → m' b ≡ m b) → ((b : ℕ) → a + n ≤ b → m' b ≡ m b) → Frames l w m made gs rs → Frames l w m' made gs rs
  frames_off m m' made a n [] [] lay off below above fr = tt
  frames_off m m' made a n [] (x ∷ rs) lay off below above fr = fr
  frames_off m m' made a n (g ∷ gs) [] lay off below above fr = fr
  frames_off m m' made a n (g ∷ gs) (x ∷ rs) lay off below above fr =
      let f = fr.0 in (
        record {
          whole_is = f.whole_is;
          body_is = f.body_is;
          serial_is = f.serial_is;
          fun_is = f.fun_is;
          known = f.known;
          made_is = f.made_is;
          few = f.few;
          returns = f.returns;
          temps = λ j h. let r = temp_room g.base (locals_size g.site) (length g.temps) j lay.0 h f.few in told_apart m m' a n _ _ below above (apart_in a n _ 256 _ off.0 r.0 r.1) (f.temps j h);
          link_told = told_apart m m' a n _ _ below above (apart_in a n _ 8 _ off.1 (omega arith) (omega arith)) f.link_told;
          ret_told = told_apart m m' a n _ _ below above (apart_in a n _ 8 _ off.1 (omega arith) (omega arith)) f.ret_told;
        },
        frames_off m m' made a n gs rs lay.3 off.2 below above fr.1,
      )

  -- one more temporary
  frames_temp : (m m' : ℕ → Option ℕ) (made : List Made) (g : Ghost) (gs : List Ghost) (rs : List Act) (x : ℕ) → Layered (g ∷ gs) → length g.temps < 64 → Tells m' (g.base - temp_depth g.site (length g.temps)) (bytes 4 x) → ((b : ℕ) → b < g.base - temp_depth g.site (length g.temps) → m' b ≡ m b) → ((b : ℕ) → g.base - temp_depth g.site (length g.temps) + 4 ≤ b → m' b ≡ m b) → Frames l w m made (g ∷ gs) rs → Frames l w m' made (push_temp g x ∷ gs) rs
  frames_temp m m' made g gs [] x lay few told below above fr = fr
  frames_temp m m' made g gs (r ∷ rs) x lay few told below above fr =
      let f = fr.0 in
      let at = g.base - temp_depth g.site (length g.temps) in (
        record {
          whole_is = f.whole_is;
          body_is = f.body_is;
          serial_is = f.serial_is;
          fun_is = f.fun_is;
          known = f.known;
          made_is = f.made_is;
          returns = f.returns;
          few = omega (arith, length-append g.temps (x ∷ []));
          temps = temps_more (λ j z. Tells m' (g.base - temp_depth g.site j) (bytes 4 z)) g.temps x (λ j h. told_apart m m' at 4 _ _ below above (inl (omega arith)) (f.temps j h)) told;
          link_told = told_apart m m' at 4 _ _ below above (inl (omega arith)) f.link_told;
          ret_told = told_apart m m' at 4 _ _ below above (inl (omega arith)) f.ret_told;
        },
        frames_off m m' made at 4 gs rs lay.3 (off_under gs at 4 lay.3 (omega arith)) below above fr.1,
      )

  frames_untemp : (m : ℕ → Option ℕ) (made : List Made) (g : Ghost) (gs : List Ghost) (rs : List Act) (x : ℕ) → Frames l w m made (push_temp g x ∷ gs) rs → Tells m (g.base - temp_depth g.site (length g.temps)) (bytes 4 x) × Frames l w m made (g ∷ gs) rs
  frames_untemp m made g gs [] x fr = absurd fr
  frames_untemp m made g gs (r ∷ rs) x fr =
      let f = fr.0 in
      let len = length-append g.temps (x ∷ []) in
      let few = f.few in
      let n : slice_index (g.temps ++ x ∷ []) (length g.temps) ≡ x = get_or_at g.temps x [] 0 (length g.temps) refl in (
        subst (λ z. Tells m (g.base - temp_depth g.site (length g.temps)) (bytes 4 z)) n (f.temps (length g.temps) (omega arith)),
        (
          record {
            whole_is = f.whole_is;
            body_is = f.body_is;
            serial_is = f.serial_is;
            fun_is = f.fun_is;
            known = f.known;
            made_is = f.made_is;
            returns = f.returns;
            few = omega arith;
            temps = λ j h. subst (λ z. Tells m (g.base - temp_depth g.site j) (bytes 4 z)) (get_or_append_left g.temps (x ∷ []) 0 j h) (f.temps j (omega arith));
            link_told = f.link_told;
            ret_told = f.ret_told;
          },
          fr.1,
        ),
      )

  -- the cells of an object that a write keeps off
  kept_cells : (s : State) (mem mem' : Space) (a : ℕ) (bs : List ℕ) (o : Object) (x : Thing) → Sorted 0 x.slots x.size → IsApart (place w s.made o) x.size a (length bs) → Wrote mem a bs mem' → Cells l w s.made (byte_at mem) (place w s.made o) x.slots → Cells l w s.made (byte_at mem') (place w s.made o) x.slots
  kept_cells s mem mem' a bs o x so far wr h =
      cells_keep l w s.made (byte_at mem) (byte_at mem') (place w s.made o) 0 x.size x.slots so (λ b lo hi. ⊎_elim (λ u. wr.below b (omega arith)) (λ u. wr.above b (omega arith)) far) h

  placed_kept : (s : State) (gs : List Ghost) (mem mem' : Space) → Shaped mem mem' → Placed w s gs mem → Placed w s gs mem'
  placed_kept s gs mem mem' sh pl = record {
    sorted = pl.sorted;
    apart = pl.apart;
    off = pl.off;
    free = pl.free;
    writable = λ o x h. can_write_shaped x.size mem mem' _ sh (pl.writable o x h);
  }

  -- frames do not look at objects
  frames_set : (m : ℕ → Option ℕ) (made : List Made) (gs : List Ghost) (rs : List Act) (serial i : ℕ) (y : Thing) → Frames l w m made gs rs → Frames l w m made gs (set_chain rs serial i y)
  frames_set m made [] [] serial i y fr = fr
  frames_set m made [] (x ∷ rs) serial i y fr = absurd fr
  frames_set m made (g ∷ gs) [] serial i y fr = fr
  frames_set m made (g ∷ gs) (x ∷ rs) serial i y fr = cases (frames_set m made gs rs serial i y fr.1) (nat_eq x.serial serial)
    where
      returns_set : (rs : List Act) → Returns l g.ret rs → Returns l g.ret (set_chain rs serial i y)
      returns_set [] h = h
      returns_set (z ∷ zs) h = sets (nat_eq z.serial serial)
        where
          sets : (b : Bool) → Returns l g.ret (pick b (record z { things = slice_set z.things i y } ∷ zs) (z ∷ set_chain zs serial i y))
          sets true = h
          sets false = h

      cases : Frames l w m made gs (set_chain rs serial i y) → (b : Bool) → Frames l w m made (g ∷ gs) (pick b (record x { things = slice_set x.things i y } ∷ rs) (x ∷ set_chain rs serial i y))
      cases deep true = let f = fr.0 in (
        record {
          whole_is = f.whole_is;
          body_is = f.body_is;
          serial_is = f.serial_is;
          fun_is = f.fun_is;
          known = f.known;
          made_is = f.made_is;
          few = f.few;
          returns = f.returns;
          temps = f.temps;
          link_told = f.link_told;
          ret_told = f.ret_told;
        },
        fr.1,
      )
      cases deep false = let f = fr.0 in (
        record {
          whole_is = f.whole_is;
          body_is = f.body_is;
          serial_is = f.serial_is;
          fun_is = f.fun_is;
          known = f.known;
          made_is = f.made_is;
          few = f.few;
          returns = returns_set rs f.returns;
          temps = f.temps;
          link_told = f.link_told;
          ret_told = f.ret_told;
        },
        deep,
      )

  pub frames_set_thing : (m : ℕ → Option ℕ) (made : List Made) (gs : List Ghost) (s : State) (o : Object) (y : Thing) → Frames l w m made gs s.chain → Frames l w m made gs (set_thing s o y).chain
  frames_set_thing m made gs s (Static k) y fr = fr
  frames_set_thing m made gs s (Local serial i) y fr = frames_set m made gs s.chain serial i y fr

  -- what stays where an object becomes another
  pub record Same (s s' : State) : Type 0 where
    pub made : s'.made ≡ s.made
    pub input : s'.input ≡ s.input
    pub output : s'.output ≡ s.output
    pub turns : s'.turns ≡ s.turns

  pub set_same : (s : State) (o : Object) (y : Thing) → Same s (set_thing s o y)
  set_same s (Static k) y = record { made = refl; input = refl; output = refl; turns = refl }
  set_same s (Local serial i) y = record { made = refl; input = refl; output = refl; turns = refl }

  -- one object is another, of the same size, and each object is where it was
  split_thing : (s : State) (o : Object) (x y : Thing) → thing s o ≡ Some x → (P : Object → Thing → Type 0) → ((q : Object) → same_object o q ≡ true → P q y) → ((q : Object) (z : Thing) → same_object o q ≡ false → thing s q ≡ Some z → P q z) → (q : Object) (z : Thing) → thing (set_thing s o y) q ≡ Some z → P q z
  split_thing s o x y e P here there q z h = cases (same_object o q) refl
    where
      cases : (b : Bool) → same_object o q ≡ b → P q z
      cases true eq =
          let is_y : thing (set_thing s o y) q ≡ Some y = subst (λ u. thing (set_thing s o y) u ≡ Some y) (same_is o q eq) (thing_here s o x y e) in
          let ez : y ≡ z = cc in
          subst (λ u. P q u) ez (here q eq)
      cases false ne = there q z ne (sym (thing_there s o q y ne) ∙ h)

  -- what an object was
  record Before (s : State) (q : Object) (z : Thing) : Type 0 where
    old : Thing
    was : thing s q ≡ Some old
    size_is : old.size ≡ z.size
    sorted : Sorted 0 z.slots z.size

  -- a cell of an object is written, and memory with it
  pub put_agrees : (text : List ℕ) (s : State) (gs : List Ghost) (ebp esp : ℕ) (mem mem' : Space) (input output : List ℕ) (turns : ℕ) (made : List Made) (o : Object) (x : Thing) (t : CType) (a : ℕ) (old v : Value) → Agree l w text s gs ebp esp mem input output turns made → thing s o ≡ Some x → read_slot t a x.slots ≡ Some old → ((c : CType) → same_type c t ≡ true → suits c v ≡ true) → IsVal l w s.made v → Wrote mem (place w s.made o + a) (bytes (size [] t) (spell l w s.made v)) mem' → Agree l w text (put_cell s o x t a v) gs ebp esp mem' input output turns made
  put_agrees text s gs ebp esp mem mem' input output turns made o x t a old v ag e r fit ok wr =
      let y : Thing = record x { slots = write_slot t a v x.slots } in
      let same = set_same s o y in
      let placed = ag.placed in
      let so = placed.sorted o x e in
      let rd = cells_read l w s.made (byte_at mem) (place w s.made o) 0 x.size x.slots t a old so (ag.cells o x e) r in
      let within = rd.within in
      let len = length-bytes (size [] t) (spell l w s.made v) in
      let above : (b : ℕ) → place w s.made o + a + size [] t ≤ b → byte_at mem' b ≡ byte_at mem b = λ b le. wr.above b (omega arith) in
      let now : (q : Object) (z : Thing) → thing (set_thing s o y) q ≡ Some z → Before s q z = split_thing s o x y e (λ q z. Before s q z)
      (λ q eq. record { old = x; was = subst (λ u. thing s u ≡ Some x) (same_is o q eq) e; size_is = refl; sorted = sorted_put 0 x.size x.slots t a v so })
      (λ q z ne hz. record { old = z; was = hz; size_is = refl; sorted = placed.sorted q z hz }) in
      record {
        cells = λ q z h. subst (λ d. Cells l w d (byte_at mem') (place w d q) z.slots) (sym same.made) (split_thing s o x y e (λ q z. Cells l w s.made (byte_at mem') (place w s.made q) z.slots)
            (λ q eq. subst (λ u. Cells l w s.made (byte_at mem') (place w s.made u) y.slots) (same_is o q eq) (cells_put l w s.made (byte_at mem) (byte_at mem') (place w s.made o) 0 x.size x.slots t a old v so (ag.cells o x e) r fit ok wr.tells wr.below above))
            (λ q z ne hz. cells_keep l w s.made (byte_at mem) (byte_at mem') (place w s.made q) 0 z.size z.slots (placed.sorted q z hz) (λ b lo hi. ⊎_elim (λ u. above b (omega arith)) (λ u. wr.below b (omega arith)) (placed.apart o q x z e hz ne)) (ag.cells q z hz))
            q z h);
        frames = subst (λ d. Frames l w (byte_at mem') d gs (set_thing s o y).chain) (sym same.made) (frames_set_thing (byte_at mem') s.made gs s o y (frames_off (byte_at mem) (byte_at mem') s.made (place w s.made o + a) (size [] t) gs s.chain ag.layered (off_part gs (place w s.made o) x.size (place w s.made o + a) (size [] t) (omega arith) (omega arith) (placed.off o x e)) wr.below above ag.frames));
        placed = record {
          sorted = λ q z h. (now q z h).sorted;
          writable = λ q z h. let b = now q z h in subst (λ d. CanWrite mem' (place w d q) z.size) (sym same.made) (subst (λ n. CanWrite mem' (place w s.made q) n) b.size_is (can_write_shaped _ mem mem' _ wr.shaped (placed.writable q b.old b.was)));
          apart = λ q1 q2 z1 z2 h1 h2 ne. let b1 = now q1 z1 h1 in let b2 = now q2 z2 h2 in subst (λ d. IsApart (place w d q1) z1.size (place w d q2) z2.size) (sym same.made) (subst (λ n. IsApart (place w s.made q1) n (place w s.made q2) z2.size) b1.size_is (subst (λ n. IsApart (place w s.made q1) b1.old.size (place w s.made q2) n) b2.size_is (placed.apart q1 q2 b1.old b2.old b1.was b2.was ne)));
          off = λ q z h. let b = now q z h in subst (λ d. KeepsOff gs (place w d q) z.size) (sym same.made) (subst (λ n. KeepsOff gs (place w s.made q) n) b.size_is (placed.off q b.old b.was));
          free = λ q z h. let b = now q z h in subst (λ d. IsApart (place w d q) z.size stack_start (floor gs - stack_start)) (sym same.made) (subst (λ n. IsApart (place w s.made q) n stack_start (floor gs - stack_start)) b.size_is (placed.free q b.old b.was));
        };
        layered = ag.layered;
        ebp_is = ag.ebp_is;
        esp_is = ag.esp_is;
        stack_is = wr.shaped.stack ∙ ag.stack_is;
        text_is = wr.shaped.text ∙ ag.text_is;
        input_is = ag.input_is ∙ sym same.input;
        output_is = ag.output_is ∙ sym same.output;
        turns_is = ag.turns_is ∙ sym same.turns;
        made_is = ag.made_is ∙ sym same.made;
      }

  -- memory is written where no object and no frame's own words stand
  pub quiet_agrees : (text : List ℕ) (s : State) (gs : List Ghost) (ebp esp : ℕ) (mem mem' : Space) (input output : List ℕ) (turns : ℕ) (made : List Made) (a : ℕ) (bs : List ℕ) → Agree l w text s gs ebp esp mem input output turns made → KeepsOff gs a (length bs) → ((o : Object) (x : Thing) → thing s o ≡ Some x → IsApart (place w s.made o) x.size a (length bs)) → Wrote mem a bs mem' → Agree l w text s gs ebp esp mem' input output turns made
  quiet_agrees text s gs ebp esp mem mem' input output turns made a bs ag off far wr = record {
    cells = λ o x h. kept_cells s mem mem' a bs o x (ag.placed.sorted o x h) (far o x h) wr (ag.cells o x h);
    frames = frames_off (byte_at mem) (byte_at mem') s.made a (length bs) gs s.chain ag.layered off wr.below wr.above ag.frames;
    placed = placed_kept s gs mem mem' wr.shaped ag.placed;
    layered = ag.layered;
    ebp_is = ag.ebp_is;
    esp_is = ag.esp_is;
    stack_is = wr.shaped.stack ∙ ag.stack_is;
    text_is = wr.shaped.text ∙ ag.text_is;
    input_is = ag.input_is;
    output_is = ag.output_is;
    turns_is = ag.turns_is;
    made_is = ag.made_is;
  }

  -- memory is written in the part of the stack that no frame uses
  pub scratch_agrees : (text : List ℕ) (s : State) (gs : List Ghost) (ebp esp : ℕ) (mem mem' : Space) (input output : List ℕ) (turns : ℕ) (made : List Made) (a : ℕ) (bs : List ℕ) → Agree l w text s gs ebp esp mem input output turns made → stack_start ≤ a → a + length bs ≤ floor gs → Wrote mem a bs mem' → Agree l w text s gs ebp esp mem' input output turns made
  scratch_agrees text s gs ebp esp mem mem' input output turns made a bs ag lo hi wr =
      quiet_agrees text s gs ebp esp mem mem' input output turns made a bs ag (off_under gs a (length bs) ag.layered hi) (λ o x h. apart_inner (place w s.made o) x.size stack_start (floor gs - stack_start) a (length bs) (ag.placed.free o x h) lo (omega arith)) wr

  -- one more temporary of the latest frame
  pub temp_agrees : (text : List ℕ) (s : State) (g : Ghost) (gs : List Ghost) (ebp esp : ℕ) (mem mem' : Space) (input output : List ℕ) (turns : ℕ) (made : List Made) (x : ℕ) → Agree l w text s (g ∷ gs) ebp esp mem input output turns made → length g.temps < 64 → Wrote mem (g.base - temp_depth g.site (length g.temps)) (bytes 4 x) mem' → Agree l w text s (push_temp g x ∷ gs) ebp esp mem' input output turns made
  temp_agrees text s g gs ebp esp mem mem' input output turns made x ag few wr =
      let lay = ag.layered in
      let room = temp_room g.base (locals_size g.site) (suc (length g.temps)) (length g.temps) lay.0 (omega arith) (omega arith) in
      let placed = placed_kept s (g ∷ gs) mem mem' wr.shaped ag.placed in
      record {
        cells = λ o x1 h. kept_cells s mem mem' _ (bytes 4 x) o x1 (ag.placed.sorted o x1 h) (apart_inner _ _ _ 256 _ 4 (ag.placed.off o x1 h).0 room.0 room.1) wr (ag.cells o x1 h);
        frames = frames_temp (byte_at mem) (byte_at mem') s.made g gs s.chain x lay few wr.tells wr.below wr.above ag.frames;
        placed = record { sorted = placed.sorted; writable = placed.writable; apart = placed.apart; off = placed.off; free = placed.free };
        layered = ag.layered;
        ebp_is = ag.ebp_is;
        esp_is = ag.esp_is;
        stack_is = wr.shaped.stack ∙ ag.stack_is;
        text_is = wr.shaped.text ∙ ag.text_is;
        input_is = ag.input_is;
        output_is = ag.output_is;
        turns_is = ag.turns_is;
        made_is = ag.made_is;
      }

  -- the last temporary is read, and is no longer in use
  pub untemp_agrees : (text : List ℕ) (s : State) (g : Ghost) (gs : List Ghost) (ebp esp : ℕ) (mem : Space) (input output : List ℕ) (turns : ℕ) (made : List Made) (x : ℕ) → Agree l w text s (push_temp g x ∷ gs) ebp esp mem input output turns made → Tells (byte_at mem) (g.base - temp_depth g.site (length g.temps)) (bytes 4 x) × Agree l w text s (g ∷ gs) ebp esp mem input output turns made
  untemp_agrees text s g gs ebp esp mem input output turns made x ag =
      let r = frames_untemp (byte_at mem) s.made g gs s.chain x ag.frames in
      let placed = ag.placed in (
        r.0,
        record {
          cells = ag.cells;
          frames = r.1;
          placed = record { sorted = placed.sorted; writable = placed.writable; apart = placed.apart; off = placed.off; free = placed.free };
          layered = ag.layered;
          ebp_is = ag.ebp_is;
          esp_is = ag.esp_is;
          stack_is = ag.stack_is;
          text_is = ag.text_is;
          input_is = ag.input_is;
          output_is = ag.output_is;
          turns_is = ag.turns_is;
          made_is = ag.made_is;
        },
      )
