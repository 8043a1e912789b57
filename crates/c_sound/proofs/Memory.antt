-- Reading, writing, copying and changing leave each cell with a value of its type.
use Rattle.std.proofs.Common.{◌≡◌, ℕ, zero, suc, ◌+◌, List, [], ◌∷◌, Bool, true, false, nat_eq, ◌&&◌, refl, sym, ap, ◌∙◌, subst, ◌⊎◌, inl, inr, slice_get, slice_set, Option, Some, None}
use Rattle.std.proofs.lemmas.Bool.{eqb-true, or_cases, and_parts}
use Rattle.c_type.specs.Names.{pick}
use Rattle.c_type.specs.Types.{CType, num, void, ptr, arr, struct, union, enum, fun, same_type}
use Rattle.c_type.specs.Sizes.{size}
use Rattle.c_type.specs.Cells.{Cell, cells}
use Rattle.c_run.specs.Values as v
use Rattle.c_run.specs.Values.{Object, Target, Body, Putchar, Getchar, Exit, Value, Num, Null, To, Fn, same_object, same_target, same_value, suits, zero_of}
use Rattle.c_run.specs.State.{State, Thing, Slot, Act, Out, Gave, Halt, bind, choose, slot_is, read_slot, write_slot, type_at, in_chain, thing, set_chain, set_thing, put_cell, Change, holds_slot, holds_thing, holds_act, is_held, is_given, written, change_cell, change_thing, apply}
use Rattle.c_run.specs.Context.{Linked, Context, shared, shared_cells, cells_in, zero_slots, fresh}
use Rattle.c_run.specs.Pointers.{leaves, given_or, read_thing, read, load, write_cell, write_thing, write, store, read_cells, write_cells, and_cons, look_thing, look, overlap, paste_thing, paste, copy}
use Rattle.c_rule.specs.RuleTypes.{is_function}
use Rattle.c_rule.specs.RuleValues.{is_scalar}
use Rattle.c_run.proofs.Suited.{same_is}
use Rattle.c_sound.specs.HasType.{HasType, HoldSlots, HoldsThing, HoldThings, HoldActs, Holds}
use Rattle.c_sound.specs.Program.{HaveSizes}
use Rattle.c_sound.proofs.Goes.{Goes, goes_bind, goes_choose}
use Rattle.c_sound.proofs.CellValues.{AreValues, cells_are_values}
use Rattle.c_sound.proofs.Types.{like_has, shared_like, like_shared, shared_scalar, has_suits, zero_has, size_below}

-- a value that is taken as a place
abbrev pub IsSpot : Value → Type 0
IsSpot Null = Unit {0}
IsSpot (To o a) = Unit {0}
IsSpot (Num n) = ⊥
IsSpot (Fn f) = ⊥

-- what is there is as wanted
abbrev pub Given : {A : Type 0} → (A → Type 0) → Option A → Type 0
Given P None = Unit {0}
Given P (Some a) = P a

pick_given : {A : Type 0} (P : A → Type 0) (b : Bool) (x y : Option A) → Given P x → Given P y → Given P (pick b x y)
pick_given P true x y hx hy = hx
pick_given P false x y hx hy = hy

pub goes_as : {A : Type 0} (ch : Bool) (w : Linked) (P Q : A → Type 0) (o : Out A) → ((a : A) → P a → Q a) → Goes ch w P o → Goes ch w Q o
goes_as ch w P Q (Gave a s) f h = (f a h.0, h.1)
goes_as ch w P Q (Halt why s) f h = h

-- live objects

get_holds : (w : Linked) (xs : List Thing) (i : ℕ) → HoldThings w xs → Given (HoldsThing w) (slice_get xs i)
get_holds w [] i h = tt
get_holds w (x ∷ xs) zero h = h.0
get_holds w (x ∷ xs) (suc i) h = get_holds w xs i h.1

chain_holds : (w : Linked) (rs : List Act) (q i : ℕ) → HoldActs w rs → Given (HoldsThing w) (in_chain rs q i)
chain_holds w [] q i h = tt
chain_holds w (a ∷ rs) q i h =
    pick_given (HoldsThing w) (nat_eq a.serial q) (slice_get a.things i) (in_chain rs q i) (get_holds w a.things i h.0) (chain_holds w rs q i h.1)

-- an object that is live or not
pub live_holds : (w : Linked) (s : State) (o : Object) → Holds w s → Given (HoldsThing w) (thing s o)
live_holds w s (v.Static k) h = get_holds w s.statics k h.statics
live_holds w s (v.Local q i) h = chain_holds w s.chain q i h.chain

pub thing_holds : (w : Linked) (s : State) (o : Object) (x : Thing) → Holds w s → thing s o ≡ Some x → HoldsThing w x
thing_holds w s o x h e = subst (Given (HoldsThing w)) e (live_holds w s o h)

set_holds : (w : Linked) (xs : List Thing) (i : ℕ) (x : Thing) → HoldThings w xs → HoldsThing w x → HoldThings w (slice_set xs i x)
set_holds w [] i x h g = tt
set_holds w (y ∷ xs) zero x h g = (g, h.1)
set_holds w (y ∷ xs) (suc i) x h g = (h.0, set_holds w xs i x h.1 g)

set_chain_holds : (w : Linked) (rs : List Act) (q i : ℕ) (x : Thing) → HoldActs w rs → HoldsThing w x → HoldActs w (set_chain rs q i x)
set_chain_holds w [] q i x h g = tt
set_chain_holds w (a ∷ rs) q i x h g = case_of (nat_eq a.serial q) (set_chain_holds w rs q i x h.1 g)
  where
    case_of : (b : Bool) → HoldActs w (set_chain rs q i x) → HoldActs w (pick b (record a { things = slice_set a.things i x } ∷ rs) (a ∷ set_chain rs q i x))
    case_of true rest = (set_holds w a.things i x h.0 g, h.1)
    case_of false rest = (h.0, rest)

pub set_thing_holds : (w : Linked) (s : State) (o : Object) (x : Thing) → Holds w s → HoldsThing w x → Holds w (set_thing s o x)
set_thing_holds w s (v.Static k) x h g = record { statics = set_holds w s.statics k x h.statics g; chain = h.chain; input = h.input }
set_thing_holds w s (v.Local q i) x h g = record { statics = h.statics; chain = set_chain_holds w s.chain q i x h.chain g; input = h.input }

-- fresh objects

shared_value : (cs : List ℕ) (t : CType) → is_function t ≡ false → is_function (shared cs t) ≡ false
shared_value cs (num k) h = refl
shared_value cs void h = refl
shared_value cs (ptr t) h = refl
shared_value cs (arr n t) h = refl
shared_value cs (struct k) h = refl
shared_value cs (union k) h = refl
shared_value cs (enum k) h = refl
shared_value cs (fun t) h = h

zeros_hold : (w : Linked) (cs : List ℕ) (xs : List Cell) → AreValues xs → HoldSlots w (zero_slots (shared_cells cs xs))
zeros_hold w cs [] h = tt
zeros_hold w cs (x ∷ xs) h = (zero_has w (shared cs x.ty) (shared_value cs x.ty h.0), zeros_hold w cs xs h.1)

pub fresh_holds : (c : Context) (t : CType) → HaveSizes c.tags → HoldsThing c.whole (fresh c t)
fresh_holds c t h = (size_below c.tags t h, zeros_hold c.whole c.classes (cells c.tags t) (cells_are_values c.tags t))

-- reading a scalar

given_goes : {A : Type 0} (ch : Bool) (w : Linked) (P : A → Type 0) (a : Option A) (s : State) → Given P a → Holds w s → Goes ch w P (given_or 1 a s)
given_goes ch w P None s g h = tt
given_goes ch w P (Some a) s g h = (g, h)

read_has : (w : Linked) (t : CType) (a : ℕ) (cs : List Slot) → HoldSlots w cs → Given (HasType w t) (read_slot t a cs)
read_has w t a [] h = tt
read_has w t a (c ∷ cs) h = case_of (slot_is t a c) refl (read_has w t a cs h.1)
  where
    case_of : (b : Bool) → slot_is t a c ≡ b → Given (HasType w t) (read_slot t a cs) → Given (HasType w t) (pick b (Some c.val) (read_slot t a cs))
    case_of true e rest = subst (λ y. HasType w y c.val) (same_is c.ty t (and_parts (nat_eq c.off a) (same_type c.ty t) e).1) h.0
    case_of false e rest = rest

read_thing_goes : (ch : Bool) (w : Linked) (t : CType) (a : ℕ) (x : Option Thing) (s : State) → Given (HoldsThing w) x → Holds w s → Goes ch w (HasType w t) (read_thing t a x s)
read_thing_goes ch w t a None s g h = tt
read_thing_goes ch w t a (Some x) s g h = given_goes ch w (HasType w t) (read_slot t a x.slots) s (read_has w t a x.slots g.1) h

read_goes : (ch : Bool) (w : Linked) (t : CType) (p : Value) (s : State) → IsSpot p → Holds w s → Goes ch w (HasType w t) (read t p s)
read_goes ch w t Null s i h = tt
read_goes ch w t (To o a) s i h = read_thing_goes ch w t a (thing s o) s (live_holds w s o h) h
read_goes ch w t (Num n) s i h = absurd i
read_goes ch w t (Fn f) s i h = absurd i

shared_read_goes : (ch : Bool) (c : Context) (t : CType) (p : Value) (s : State) → IsSpot p → Holds c.whole s → Goes ch c.whole (HasType c.whole t) (read (shared c.classes t) p s)
shared_read_goes ch c t p s i h =
    goes_as ch c.whole (HasType c.whole (shared c.classes t)) (HasType c.whole t) (read (shared c.classes t) p s)
    (λ x. like_has c.whole (shared c.classes t) t x (like_shared c.classes t)) (read_goes ch c.whole (shared c.classes t) p s i h)

pub load_goes : (ch : Bool) (c : Context) (t : CType) (p : Value) (s : State) → is_scalar t ≡ true → IsSpot p → Holds c.whole s → Goes ch c.whole (HasType c.whole t) (load c t p s)
load_goes ch c (num k) p s sc i h = read_goes ch c.whole (num k) p s i h
load_goes ch c (ptr t) p s sc i h = shared_read_goes ch c (ptr t) p s i h
load_goes ch c (enum k) p s sc i h = shared_read_goes ch c (enum k) p s i h
load_goes ch c void p s sc i h = absurd cc
load_goes ch c (arr n t) p s sc i h = absurd cc
load_goes ch c (struct k) p s sc i h = absurd cc
load_goes ch c (union k) p s sc i h = absurd cc
load_goes ch c (fun t) p s sc i h = absurd cc

-- writing a scalar

write_holds : (w : Linked) (t : CType) (a : ℕ) (x : Value) (cs : List Slot) → HasType w t x → HoldSlots w cs → HoldSlots w (write_slot t a x cs)
write_holds w t a x [] g h = tt
write_holds w t a x (c ∷ cs) g h = case_of (slot_is t a c) refl (write_holds w t a x cs g h.1)
  where
    case_of : (b : Bool) → slot_is t a c ≡ b → HoldSlots w (write_slot t a x cs) → HoldSlots w (pick b (record c { val = x } ∷ cs) (c ∷ write_slot t a x cs))
    case_of true e rest = (subst (λ y. HasType w y x) (sym (same_is c.ty t (and_parts (nat_eq c.off a) (same_type c.ty t) e).1)) g, h.1)
    case_of false e rest = (h.0, rest)

put_cell_holds : (w : Linked) (s : State) (o : Object) (x : Thing) (t : CType) (a : ℕ) (y : Value) → HoldsThing w x → HasType w t y → Holds w s → Holds w (put_cell s o x t a y)
put_cell_holds w s o x t a y g k h = set_thing_holds w s o (record x { slots = write_slot t a y x.slots }) h (g.0, write_holds w t a y x.slots k g.1)

write_cell_goes : (ch : Bool) (w : Linked) (P : Value → Type 0) (t : CType) (o : Object) (a : ℕ) (y : Value) (x : Thing) (old : Option Value) (s : State) →
    P y → HasType w t y → HoldsThing w x → Holds w s → Goes ch w P (write_cell t o a y x old s)
write_cell_goes ch w P t o a y x None s p k g h = tt
write_cell_goes ch w P t o a y x (Some old) s p k g h = (p, put_cell_holds w s o x t a y g k h)

write_thing_goes : (ch : Bool) (w : Linked) (P : Value → Type 0) (t : CType) (o : Object) (a : ℕ) (y : Value) (x : Option Thing) (s : State) →
    P y → HasType w t y → Given (HoldsThing w) x → Holds w s → Goes ch w P (write_thing t o a y x s)
write_thing_goes ch w P t o a y None s p k g h = tt
write_thing_goes ch w P t o a y (Some x) s p k g h = write_cell_goes ch w P t o a y x (read_slot t a x.slots) s p k g h

write_goes : (ch : Bool) (w : Linked) (P : Value → Type 0) (t : CType) (q y : Value) (s : State) →
    P y → is_scalar t ≡ true → IsSpot q → HasType w t y → Holds w s → Goes ch w P (write t q y s)
write_goes ch w P t Null y s p sc i k h = tt
write_goes ch w P t (To o a) y s p sc i k h =
    subst (λ b. Goes ch w P (choose b s (write_thing t o a y (thing s o)) (leaves 0))) (sym (has_suits w t y sc k))
    (write_thing_goes ch w P t o a y (thing s o) s p k (live_holds w s o h) h)
write_goes ch w P t (Num n) y s p sc i k h = absurd i
write_goes ch w P t (Fn f) y s p sc i k h = absurd i

pub store_goes : (ch : Bool) (c : Context) (t : CType) (p v : Value) (s : State) → is_scalar t ≡ true → IsSpot p → HasType c.whole t v → Holds c.whole s → Goes ch c.whole (HasType c.whole t) (store c t p v s)
store_goes ch c t p y s sc i k h =
    write_goes ch c.whole (HasType c.whole t) (shared c.classes t) p y s k (shared_scalar c.classes t sc) i
    (like_has c.whole t (shared c.classes t) y (shared_like c.classes t) k) h

-- copying a structure

-- values of cells
abbrev ValuesHave : Linked → List Cell → List Value → Type 0
ValuesHave w [] ys = Unit {0}
ValuesHave w (c ∷ cs) [] = Unit {0}
ValuesHave w (c ∷ cs) (y ∷ ys) = HasType w c.ty y × ValuesHave w cs ys

cons_have : (w : Linked) (c : Cell) (cs : List Cell) (y : Option Value) (ys : Option (List Value)) →
    Given (HasType w c.ty) y → Given (ValuesHave w cs) ys → Given (ValuesHave w (c ∷ cs)) (and_cons y ys)
cons_have w c cs None ys g k = tt
cons_have w c cs (Some y) None g k = tt
cons_have w c cs (Some y) (Some ys) g k = (g, k)

cells_have : (w : Linked) (cs : List Cell) (a : ℕ) (xs : List Slot) → HoldSlots w xs → Given (ValuesHave w cs) (read_cells cs a xs)
cells_have w [] a xs h = tt
cells_have w (c ∷ cs) a xs h = cons_have w c cs (read_slot c.ty (a + c.off) xs) (read_cells cs a xs) (read_has w c.ty (a + c.off) xs h) (cells_have w cs a xs h)

cells_hold : (w : Linked) (cs : List Cell) (a : ℕ) (ys : List Value) (xs : List Slot) → ValuesHave w cs ys → HoldSlots w xs → HoldSlots w (write_cells cs a ys xs)
cells_hold w [] a ys xs g h = h
cells_hold w (c ∷ cs) a [] xs g h = h
cells_hold w (c ∷ cs) a (y ∷ ys) xs g h = cells_hold w cs a ys (write_slot c.ty (a + c.off) y xs) g.1 (write_holds w c.ty (a + c.off) y xs g.0 h)

look_thing_goes : (ch : Bool) (w : Linked) (cs : List Cell) (a : ℕ) (x : Option Thing) (s : State) → Given (HoldsThing w) x → Holds w s → Goes ch w (ValuesHave w cs) (look_thing cs a x s)
look_thing_goes ch w cs a None s g h = tt
look_thing_goes ch w cs a (Some x) s g h = given_goes ch w (ValuesHave w cs) (read_cells cs a x.slots) s (cells_have w cs a x.slots g.1) h

look_goes : (ch : Bool) (w : Linked) (cs : List Cell) (p : Value) (s : State) → IsSpot p → Holds w s → Goes ch w (ValuesHave w cs) (look cs p s)
look_goes ch w cs Null s i h = tt
look_goes ch w cs (To o a) s i h = look_thing_goes ch w cs a (thing s o) s (live_holds w s o h) h
look_goes ch w cs (Num n) s i h = absurd i
look_goes ch w cs (Fn f) s i h = absurd i

paste_thing_goes : (ch : Bool) (w : Linked) (cs : List Cell) (o : Object) (a : ℕ) (ys : List Value) (x : Option Thing) (s : State) →
    ValuesHave w cs ys → Given (HoldsThing w) x → Holds w s → Goes ch w (λ y. Unit {0}) (paste_thing cs o a ys x s)
paste_thing_goes ch w cs o a ys None s k g h = tt
paste_thing_goes ch w cs o a ys (Some x) s k g h =
    (tt, set_thing_holds w s o (record x { slots = write_cells cs a ys x.slots }) h (g.0, cells_hold w cs a ys x.slots k g.1))

-- the target is looked at before, so here it is no null pointer
target_goes : (ch : Bool) (w : Linked) (n : ℕ) (cs : List Cell) (p q : Value) (ys : List Value) (s : State) → ValuesHave w cs ys → IsSpot p → Holds w s →
    Goes ch w (λ y. Unit {0}) (bind (look cs p s) (λ old s1. choose (overlap n p q) s1 (leaves 5) (paste cs p ys)))
target_goes ch w n cs Null q ys s k i h = tt
target_goes ch w n cs (To o a) q ys s k i h =
    goes_bind ch w (ValuesHave w cs) (λ y. Unit {0}) (look cs (To o a) s) (λ old s1. choose (overlap n (To o a) q) s1 (leaves 5) (paste cs (To o a) ys))
    (look_goes ch w cs (To o a) s tt h)
    (λ old s1 unused h1. goes_choose ch w (λ y. Unit {0}) (overlap n (To o a) q) s1 (leaves 5) (paste cs (To o a) ys) (λ e. tt)
    (λ e. paste_thing_goes ch w cs o a ys (thing s1 o) s1 k (live_holds w s1 o h1) h1))
target_goes ch w n cs (Num m) q ys s k i h = absurd i
target_goes ch w n cs (Fn f) q ys s k i h = absurd i

pub copy_goes : (ch : Bool) (c : Context) (t : CType) (p q : Value) (s : State) → IsSpot p → IsSpot q → Holds c.whole s → Goes ch c.whole (λ v. Unit {0}) (copy c t p q s)
copy_goes ch c t p q s i j h =
    goes_bind ch c.whole (ValuesHave c.whole (cells_in c t)) (λ y. Unit {0}) (look (cells_in c t) q s) _
    (look_goes ch c.whole (cells_in c t) q s j h)
    (λ ys s1 k h1. target_goes ch c.whole (size c.tags t) (cells_in c t) p q ys s1 k i h1)

-- changes

same_object_is : (o p : Object) → same_object o p ≡ true → o ≡ p
same_object_is (v.Static k) (v.Static j) h = ap v.Static (eqb-true _ _ h)
same_object_is (v.Local q i) (v.Local r j) h =
    let e = and_parts (nat_eq q r) (nat_eq i j) h in ap (λ x. v.Local x i) (eqb-true _ _ e.0) ∙ ap (v.Local r) (eqb-true _ _ e.1)
same_object_is _ _ h = cc

same_target_is : (f g : Target) → same_target f g ≡ true → f ≡ g
same_target_is (Body f) (Body g) h = ap Body (eqb-true _ _ h)
same_target_is Putchar Putchar h = refl
same_target_is Getchar Getchar h = refl
same_target_is Exit Exit h = refl
same_target_is _ _ h = cc

same_value_is : (x y : Value) → same_value x y ≡ true → x ≡ y
same_value_is (Num n) (Num m) h = ap Num (eqb-true _ _ h)
same_value_is Null Null h = refl
same_value_is (To o a) (To p b) h =
    let e = and_parts (same_object o p) (nat_eq a b) h in ap (λ x. To x a) (same_object_is o p e.0) ∙ ap (To p) (eqb-true _ _ e.1)
same_value_is (Fn f) (Fn g) h = ap Fn (same_target_is f g h)
same_value_is _ _ h = cc

slot_has : (w : Linked) (t : CType) (y : Value) (cs : List Slot) → holds_slot t y cs ≡ true → HoldSlots w cs → HasType w t y
slot_has w t y [] e h = absurd cc
slot_has w t y (c ∷ cs) e h = case_of (λ q. slot_has w t y cs q h.1) (or_cases (same_type c.ty t && same_value c.val y) (holds_slot t y cs) e)
  where
    case_of : (holds_slot t y cs ≡ true → HasType w t y) → ((same_type c.ty t && same_value c.val y) ≡ true) ⊎ (holds_slot t y cs ≡ true) → HasType w t y
    case_of rest (inl q) =
        let r = and_parts (same_type c.ty t) (same_value c.val y) q in
        subst (λ x. HasType w x y) (same_is c.ty t r.0) (subst (λ x. HasType w c.ty x) (same_value_is c.val y r.1) h.0)
    case_of rest (inr q) = rest q

thing_has : (w : Linked) (t : CType) (y : Value) (xs : List Thing) → holds_thing t y xs ≡ true → HoldThings w xs → HasType w t y
thing_has w t y [] e h = absurd cc
thing_has w t y (x ∷ xs) e h = case_of (λ q. thing_has w t y xs q h.1) (or_cases (holds_slot t y x.slots) (holds_thing t y xs) e)
  where
    case_of : (holds_thing t y xs ≡ true → HasType w t y) → (holds_slot t y x.slots ≡ true) ⊎ (holds_thing t y xs ≡ true) → HasType w t y
    case_of rest (inl q) = slot_has w t y x.slots q h.0.1
    case_of rest (inr q) = rest q

act_has : (w : Linked) (t : CType) (y : Value) (rs : List Act) → holds_act t y rs ≡ true → HoldActs w rs → HasType w t y
act_has w t y [] e h = absurd cc
act_has w t y (a ∷ rs) e h = case_of (λ q. act_has w t y rs q h.1) (or_cases (holds_thing t y a.things) (holds_act t y rs) e)
  where
    case_of : (holds_act t y rs ≡ true → HasType w t y) → (holds_thing t y a.things ≡ true) ⊎ (holds_act t y rs ≡ true) → HasType w t y
    case_of rest (inl q) = thing_has w t y a.things q h.0
    case_of rest (inr q) = rest q

held_has : (w : Linked) (s : State) (t : CType) (y : Value) → is_held s t y ≡ true → Holds w s → HasType w t y
held_has w s t y e h = case_of (or_cases (holds_thing t y s.statics) (holds_act t y s.chain) e)
  where
    case_of : (holds_thing t y s.statics ≡ true) ⊎ (holds_act t y s.chain ≡ true) → HasType w t y
    case_of (inl q) = thing_has w t y s.statics q h.statics
    case_of (inr q) = act_has w t y s.chain q h.chain

number_given : (w : Linked) (t : CType) (n : ℕ) → suits t (Num n) ≡ true → HasType w t (Num n)
number_given w (num k) n e = eqb-true _ _ e
number_given w (enum k) n e = eqb-true _ _ e
number_given w _ n e = absurd cc

null_given : (w : Linked) (t : CType) → suits t Null ≡ true → HasType w t Null
null_given w (ptr t) e = zero_has w (ptr t) refl
null_given w _ e = absurd cc

given_has : (w : Linked) (s : State) (t : CType) (y : Value) → is_given s t y ≡ true → Holds w s → HasType w t y
given_has w s t (Num n) e h = number_given w t n e
given_has w s t Null e h = null_given w t e
given_has w s t (To o a) e h = held_has w s t (To o a) (and_parts (suits t (To o a)) (is_held s t (To o a)) e).1 h
given_has w s t (Fn f) e h = held_has w s t (Fn f) (and_parts (suits t (Fn f)) (is_held s t (Fn f)) e).1 h

written_goes : (w : Linked) (b : Bool) (s s1 : State) → (b ≡ true → Holds w s1) → Goes true w (λ u. Unit {0}) (written b s s1)
written_goes w true s s1 f = (tt, f refl)
written_goes w false s s1 f = refl

cell_goes : (w : Linked) (t : Option CType) (x : Thing) (d : Change) (s : State) → HoldsThing w x → Holds w s → Goes true w (λ u. Unit {0}) (change_cell t x d s)
cell_goes w None x d s g h = refl
cell_goes w (Some t) x d s g h =
    written_goes w (is_given s t d.value) s (put_cell s d.object x t d.off d.value)
    (λ e. put_cell_holds w s d.object x t d.off d.value g (given_has w s t d.value e h) h)

change_goes : (w : Linked) (x : Option Thing) (d : Change) (s : State) → Given (HoldsThing w) x → Holds w s → Goes true w (λ u. Unit {0}) (change_thing x d s)
change_goes w None d s g h = refl
change_goes w (Some x) d s g h = cell_goes w (type_at d.off x.slots) x d s g h

pub apply_goes : (w : Linked) (cs : List Change) (s : State) → Holds w s → Goes true w (λ u. Unit {0}) (apply cs s)
apply_goes w [] s h = (tt, h)
apply_goes w (d ∷ cs) s h =
    goes_bind true w (λ u. Unit {0}) (λ u. Unit {0}) (change_thing (thing s d.object) d s) (λ u s1. apply cs s1)
    (change_goes w (thing s d.object) d s (live_holds w s d.object h) h) (λ u s1 k h1. apply_goes w cs s1 h1)
