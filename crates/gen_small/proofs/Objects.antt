-- Objects in memory: reading and writing a cell.
use Rattle.std.proofs.Common.{◌≡◌, ℕ, zero, suc, ◌+◌, ◌*◌, ◌<◌, ◌≤◌, ◌≢◌, List, [], ◌∷◌, Bool, true, false, Option, Some, refl, sym, ap, ◌∙◌, subst, arith}
use Rattle.std.specs.Prelude.{nat_eq, ◌&&◌, slice_get, slice_set}
use Rattle.std.proofs.lemmas.Bool.{eqb-true, eqb-false, and_parts}
use Rattle.c_type.specs.Names.{pick}
use Rattle.c_type.specs.declared.Kind.{Kind}
use Rattle.c_type.specs.declared.Kind.TheVariants.{Char, UChar, Short, UShort, Int, UInt, Long, ULong}
use Rattle.c_type.specs.Kinds.{kind_size}
use Rattle.c_type.specs.Types.{CType, num, void, ptr, arr, struct, union, enum, fun, same_type, kind_code}
use Rattle.c_type.specs.Sizes.{size, capped}
use Rattle.c_run.specs.Values.{Object, Static, Local, Value, Num, Null, To, Fn, same_object, suits}
use Rattle.c_run.specs.State.{State, Act, Made, Thing, Slot, thing, in_chain, set_chain, set_thing, slot_is, read_slot, write_slot}
use Rattle.c_run.specs.Context.{Linked}
use Rattle.gen_small.specs.Items.{Layout}
use Rattle.gen_small.specs.Spelled.{bytes, Tells}
use Rattle.gen_small.specs.Agree.{spell, IsVal, Cells, Sorted}
use Rattle.gen_small.proofs.Memory.{tells_keep, length-bytes}

-- types that are the same have one size
size_by : ℕ → ℕ
size_by n = pick (nat_eq n 2) 1 (pick (nat_eq n 12) 1 (pick (nat_eq n 3) 2 (pick (nat_eq n 13) 2 4)))

kind_by : (k : Kind) → kind_size k ≡ size_by (kind_code k)
unfolding size_by
kind_by Char = refl
kind_by UChar = refl
kind_by Short = refl
kind_by UShort = refl
kind_by Int = refl
kind_by UInt = refl
kind_by Long = refl
kind_by ULong = refl

pub same_size : (a b : CType) → same_type a b ≡ true → size [] a ≡ size [] b
same_size (num a) (num b) e = kind_by a ∙ ap size_by (eqb-true _ _ e) ∙ sym (kind_by b)
same_size void void e = refl
same_size (ptr a) (ptr b) e = refl
same_size (arr n a) (arr m b) e = let q = and_parts _ _ e in ap (λ z. capped (z * size [] a)) (eqb-true n m q.0) ∙ ap (λ z. capped (m * z)) (same_size a b q.1)
same_size (struct a) (struct b) e = refl
same_size (union a) (union b) e = refl
same_size (enum a) (enum b) e = refl
same_size (fun a) (fun b) e = refl
same_size _ _ e = absurd (cc)

-- kinds with one code are one kind
kind_of : ℕ → Kind
kind_of n = pick (nat_eq n 2) Char (pick (nat_eq n 12) UChar (pick (nat_eq n 3) Short (pick (nat_eq n 13) UShort (pick (nat_eq n 4) Int (pick (nat_eq n 14) UInt (pick (nat_eq n 5) Long ULong))))))

kind_back : (k : Kind) → kind_of (kind_code k) ≡ k
unfolding kind_of
kind_back Char = refl
kind_back UChar = refl
kind_back Short = refl
kind_back UShort = refl
kind_back Int = refl
kind_back UInt = refl
kind_back Long = refl
kind_back ULong = refl

-- a value suits types alike that are the same
pub same_suits : (a b : CType) (x : Value) → same_type a b ≡ true → suits a x ≡ suits b x
same_suits (num a) (num b) x e = ap (λ z. suits (num z) x) (sym (kind_back a) ∙ ap kind_of (eqb-true _ _ e) ∙ kind_back b)
same_suits void void x e = refl
same_suits (ptr a) (ptr b) (Num n) e = refl
same_suits (ptr a) (ptr b) Null e = refl
same_suits (ptr a) (ptr b) (To o n) e = refl
same_suits (ptr a) (ptr b) (Fn f) e = refl
same_suits (arr n a) (arr m b) x e = refl
same_suits (struct a) (struct b) x e = refl
same_suits (union a) (union b) x e = refl
same_suits (enum a) (enum b) (Num n) e = refl
same_suits (enum a) (enum b) Null e = refl
same_suits (enum a) (enum b) (To o n) e = refl
same_suits (enum a) (enum b) (Fn f) e = refl
same_suits (fun a) (fun b) x e = refl
same_suits _ _ x e = absurd (cc)

sorted_bound : (low high : ℕ) (cs : List Slot) → Sorted low cs high → low ≤ high
sorted_bound low high [] h = h
sorted_bound low high (c ∷ cs) h = let r = sorted_bound (c.off + size [] c.ty) high cs h.1 in omega (arith, h.0)

module _ (l : Layout) (w : Linked) (made : List Made) where
  -- cells in a part of memory that is kept
  pub cells_keep : (m m' : ℕ → Option ℕ) (a low high : ℕ) (cs : List Slot) → Sorted low cs high → ((b : ℕ) → a + low ≤ b → b < a + high → m' b ≡ m b) → Cells l w made m a cs → Cells l w made m' a cs
  cells_keep m m' a low high [] so same sp = tt
  cells_keep m m' a low high (c ∷ cs) so same sp =
      let r = sorted_bound (c.off + size [] c.ty) high cs so.1 in
      let len = length-bytes (size [] c.ty) (spell l w made c.val) in
      (tells_keep _ m m' _ (λ b lo hi. same b (omega arith) (omega arith)) sp.0, sp.1, sp.2, cells_keep m m' a (c.off + size [] c.ty) high cs so.1 (λ b lo hi. same b (omega arith) hi) sp.3)

  -- what a read says of memory
  pub record IsRead (m : ℕ → Option ℕ) (a low high : ℕ) (t : CType) (off : ℕ) (v : Value) : Type 0 where
    pub told : Tells m (a + off) (bytes (size [] t) (spell l w made v))
    pub fits : suits t v ≡ true
    pub ok : IsVal l w made v
    pub above : low ≤ off
    pub within : off + size [] t ≤ high

  pub cells_read : (m : ℕ → Option ℕ) (a low high : ℕ) (cs : List Slot) (t : CType) (off : ℕ) (v : Value) → Sorted low cs high → Cells l w made m a cs → read_slot t off cs ≡ Some v → IsRead m a low high t off v
  cells_read m a low high [] t off v so sp e = absurd (cc)
  cells_read m a low high (c ∷ cs) t off v so sp e = cases (λ e1. cells_read m a (c.off + size [] c.ty) high cs t off v so.1 sp.3 e1) (slot_is t off c) refl e
    where
      cases : (read_slot t off cs ≡ Some v → IsRead m a (c.off + size [] c.ty) high t off v) → (b : Bool) → slot_is t off c ≡ b → pick b (Some c.val) (read_slot t off cs) ≡ Some v → IsRead m a low high t off v
      cases deep true same e =
          let q = and_parts _ _ same in
          let eo = eqb-true _ _ q.0 in
          let es = same_size c.ty t q.1 in
          let ev : c.val ≡ v = cc in
          let r = sorted_bound (c.off + size [] c.ty) high cs so.1 in
          record {
            told = subst (λ z. Tells m (a + off) (bytes (size [] t) (spell l w made z))) ev (subst (λ z. Tells m (a + off) (bytes z (spell l w made c.val))) es (subst (λ z. Tells m (a + z) (bytes (size [] c.ty) (spell l w made c.val))) eo sp.0));
            fits = subst (λ z. suits t z ≡ true) ev (sym (same_suits c.ty t c.val q.1) ∙ sp.1);
            ok = subst (λ z. IsVal l w made z) ev sp.2;
            above = omega (arith, so.0);
            within = omega arith;
          }
      cases deep false other e =
          let r = deep e in
          let above = r.above in
          record { told = r.told; fits = r.fits; ok = r.ok; above = omega (arith, so.0); within = r.within }

  -- a cell is written
  pub cells_put : (m m' : ℕ → Option ℕ) (a low high : ℕ) (cs : List Slot) (t : CType) (off : ℕ) (old v : Value) → Sorted low cs high → Cells l w made m a cs → read_slot t off cs ≡ Some old → ((c : CType) → same_type c t ≡ true → suits c v ≡ true) → IsVal l w made v → Tells m' (a + off) (bytes (size [] t) (spell l w made v)) → ((b : ℕ) → b < a + off → m' b ≡ m b) → ((b : ℕ) → a + off + size [] t ≤ b → m' b ≡ m b) → Cells l w made m' a (write_slot t off v cs)
  cells_put m m' a low high [] t off old v so sp e fit ok here below above = absurd (cc)
  cells_put m m' a low high (c ∷ cs) t off old v so sp e fit ok here below above = cases (λ e1. cells_put m m' a (c.off + size [] c.ty) high cs t off old v so.1 sp.3 e1 fit ok here below above) (slot_is t off c) refl e
    where
      cases : (read_slot t off cs ≡ Some old → Cells l w made m' a (write_slot t off v cs)) → (b : Bool) → slot_is t off c ≡ b → pick b (Some c.val) (read_slot t off cs) ≡ Some old → Cells l w made m' a (pick b (record c { val = v } ∷ cs) (c ∷ write_slot t off v cs))
      cases deep true same e =
          let q = and_parts _ _ same in
          let eo = eqb-true _ _ q.0 in
          let es = same_size c.ty t q.1 in
          (subst (λ z. Tells m' (a + c.off) (bytes z (spell l w made v))) (sym es) (subst (λ z. Tells m' (a + z) (bytes (size [] t) (spell l w made v))) (sym eo) here), fit c.ty q.1, ok, cells_keep m m' a (c.off + size [] c.ty) high cs so.1 (λ b lo hi. above b (omega arith)) sp.3)
      cases deep false other e =
          let r = cells_read m a (c.off + size [] c.ty) high cs t off old so.1 sp.3 e in
          let r1 = r.above in
          let len = length-bytes (size [] c.ty) (spell l w made c.val) in
          (tells_keep _ m m' _ (λ b lo hi. below b (omega arith)) sp.0, sp.1, sp.2, deep e)

pub sorted_put : (low high : ℕ) (cs : List Slot) (t : CType) (off : ℕ) (v : Value) → Sorted low cs high → Sorted low (write_slot t off v cs) high
sorted_put low high [] t off v so = so
sorted_put low high (c ∷ cs) t off v so = cases (sorted_put (c.off + size [] c.ty) high cs t off v so.1) (slot_is t off c)
  where
    cases : Sorted (c.off + size [] c.ty) (write_slot t off v cs) high → (b : Bool) → Sorted low (pick b (record c { val = v } ∷ cs) (c ∷ write_slot t off v cs)) high
    cases deep true = (so.0, so.1)
    cases deep false = (so.0, deep)

-- an object anew, and the others

get_set_here : {A : Type 0} (xs : List A) (i : ℕ) (x y : A) → slice_get xs i ≡ Some x → slice_get (slice_set xs i y) i ≡ Some y
get_set_here [] i x y e = absurd (cc)
get_set_here (z ∷ xs) zero x y e = refl
get_set_here (z ∷ xs) (suc i) x y e = get_set_here xs i x y e

get_set_there : {A : Type 0} (xs : List A) (i j : ℕ) (y : A) → i ≢ j → slice_get (slice_set xs i y) j ≡ slice_get xs j
get_set_there [] i j y ne = refl
get_set_there (z ∷ xs) zero zero y ne = absurd (ne refl)
get_set_there (z ∷ xs) zero (suc j) y ne = refl
get_set_there (z ∷ xs) (suc i) zero y ne = refl
get_set_there (z ∷ xs) (suc i) (suc j) y ne = get_set_there xs i j y (omega arith)

chain_here : (rs : List Act) (serial i : ℕ) (x y : Thing) → in_chain rs serial i ≡ Some x → in_chain (set_chain rs serial i y) serial i ≡ Some y
chain_here [] serial i x y e = absurd (cc)
chain_here (a ∷ rs) serial i x y e = cases (λ e1. chain_here rs serial i x y e1) (nat_eq a.serial serial) refl e
  where
    cases : (in_chain rs serial i ≡ Some x → in_chain (set_chain rs serial i y) serial i ≡ Some y) → (b : Bool) → nat_eq a.serial serial ≡ b → pick b (slice_get a.things i) (in_chain rs serial i) ≡ Some x → in_chain (pick b (record a { things = slice_set a.things i y } ∷ rs) (a ∷ set_chain rs serial i y)) serial i ≡ Some y
    cases deep true same e =
        ap (λ b. pick b (slice_get (slice_set a.things i y) i) (in_chain rs serial i)) same ∙ get_set_here a.things i x y e
    cases deep false other e =
        ap (λ b. pick b (slice_get a.things i) (in_chain (set_chain rs serial i y) serial i)) other ∙ deep e

chain_there : (rs : List Act) (serial i r j : ℕ) (y : Thing) → (nat_eq serial r && nat_eq i j) ≡ false → in_chain (set_chain rs serial i y) r j ≡ in_chain rs r j
chain_there [] serial i r j y ne = refl
chain_there (a ∷ rs) serial i r j y ne = cases (chain_there rs serial i r j y ne) (nat_eq a.serial serial) refl
  where
    same_serial : (b c : Bool) → nat_eq serial r ≡ b → nat_eq i j ≡ c → a.serial ≡ serial → pick (nat_eq a.serial r) (slice_get (slice_set a.things i y) j) (in_chain rs r j) ≡ pick (nat_eq a.serial r) (slice_get a.things j) (in_chain rs r j)
    same_serial b false eb ec e = ap (λ z. pick (nat_eq a.serial r) z (in_chain rs r j)) (get_set_there a.things i j y (eqb-false _ _ ec))
    same_serial true true eb ec e = absurd (let t : (nat_eq serial r && nat_eq i j) ≡ true = ap (λ z. z && nat_eq i j) eb ∙ ec in cc)
    same_serial false true eb ec e =
        let n : nat_eq a.serial r ≡ false = ap (λ z. nat_eq z r) e ∙ eb in
        ap (λ b. pick b (slice_get (slice_set a.things i y) j) (in_chain rs r j)) n ∙ sym (ap (λ b. pick b (slice_get a.things j) (in_chain rs r j)) n)

    cases : in_chain (set_chain rs serial i y) r j ≡ in_chain rs r j → (b : Bool) → nat_eq a.serial serial ≡ b → in_chain (pick b (record a { things = slice_set a.things i y } ∷ rs) (a ∷ set_chain rs serial i y)) r j ≡ pick (nat_eq a.serial r) (slice_get a.things j) (in_chain rs r j)
    cases deep true same = same_serial (nat_eq serial r) (nat_eq i j) refl refl (eqb-true _ _ same)
    cases deep false other = ap (λ z. pick (nat_eq a.serial r) (slice_get a.things j) z) deep

pub thing_here : (s : State) (o : Object) (x y : Thing) → thing s o ≡ Some x → thing (set_thing s o y) o ≡ Some y
thing_here s (Static k) x y e = get_set_here s.statics k x y e
thing_here s (Local serial i) x y e = chain_here s.chain serial i x y e

pub thing_there : (s : State) (o q : Object) (y : Thing) → same_object o q ≡ false → thing (set_thing s o y) q ≡ thing s q
thing_there s (Static k) (Static j) y ne = get_set_there s.statics k j y (eqb-false _ _ ne)
thing_there s (Static k) (Local r j) y ne = refl
thing_there s (Local serial i) (Static j) y ne = refl
thing_there s (Local serial i) (Local r j) y ne = chain_there s.chain serial i r j y ne
