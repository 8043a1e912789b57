-- Operators on numbers and pointers give values of their types.
use Rattle.std.proofs.Common.{◌≡◌, ℕ, ◌+◌, ◌-◌, ◌*◌, ◌/◌, ◌<◌, Bool, true, false, nat_eq, nat_lt, nat_le, ◌&&◌, ◌||◌, not, refl, arith, Option, Some, None, lt_of_le_of_lt}
use Rattle.std.proofs.lemmas.Bool.{leb-true}
use Rattle.c_type.specs.Names.{pick}
use Rattle.c_type.specs.Types.{CType, num, void, ptr, arr, struct, union, enum, fun}
use Rattle.c_tree.specs.declared.TBinary.{TBinary}
use Rattle.c_tree.specs.declared.TBinary.TheVariants.{Mul, Div, Rem, Add, Sub, Shl, Shr, Lt, Gt, Le, Ge, Eq, Ne, BitAnd, BitXor, BitOr}
use Rattle.c_run.specs.Values.{Object, Value, Num, Null, To, Fn, same_object, truth}
use Rattle.c_tree.specs.Arith.{sub32}
use Rattle.c_run.specs.State.{State, Thing, Gave, bind, choose, thing}
use Rattle.c_run.specs.Context.{Linked}
use Rattle.c_run.specs.Pointers.{leaves, moved_in, moved, add_to, as_pointer, beyond, is_end, equal_things, unequal_null, equal, offsets, apart, two_pointers}
use Rattle.c_rule.specs.RuleTypes.{is_function}
use Rattle.c_rule.specs.RuleValues.{is_object_pointer}
use Rattle.c_sound.specs.HasType.{IsFunction, IsPlace, PointsTo, HasType, HoldsThing, Holds}
use Rattle.c_sound.specs.Suits.{is_wide, compares}
use Rattle.c_sound.proofs.Goes.{Goes, goes_bind, goes_choose}
use Rattle.c_sound.proofs.Numbers.{part_below, sub_below}
use Rattle.c_sound.proofs.Types.{pointer_is, wide_has, truth_has}
use Rattle.c_sound.proofs.Memory.{IsSpot, Given, live_holds}

-- moving a pointer

-- a pointer to a place is a place to begin at
pub place_spot : (p : Value) → IsPlace p → IsSpot p
place_spot Null h = tt
place_spot (To o a) h = tt
place_spot (Num n) h = h
place_spot (Fn f) h = h

moved_in_goes : (ch : Bool) (w : Linked) (o : Object) (a : ℕ) (down : Bool) (d : ℕ) (x : Option Thing) (s : State) →
    (down ≡ true → a < 4294967296) → Given (HoldsThing w) x → Holds w s → Goes ch w IsPlace (moved_in o a down d x s)
moved_in_goes ch w o a down d None s b g h = tt
moved_in_goes ch w o a true d (Some x) s b g h =
    goes_choose ch w IsPlace (nat_le d a) s (Gave (To o (a - d))) (leaves 2) (λ e. (let lt = b refl in omega arith, h)) (λ e. tt)
moved_in_goes ch w o a false d (Some x) s b g h =
    goes_choose ch w IsPlace (nat_le (a + d) x.size) s (Gave (To o (a + d))) (leaves 2)
    (λ e. (lt_of_le_of_lt (leb-true (a + d) x.size e) g.0, h)) (λ e. tt)

-- Upwards a pointer stays within its object's size, downwards only below where it was.
pub moved_goes : (ch : Bool) (w : Linked) (p : Value) (down : Bool) (d : ℕ) (s : State) → IsSpot p → (down ≡ true → IsPlace p) → Holds w s → Goes ch w IsPlace (moved p down d s)
moved_goes ch w (To o a) down d s i b h = moved_in_goes ch w o a down d (thing s o) s b (live_holds w s o h) h
moved_goes ch w Null down d s i b h = tt
moved_goes ch w (Num n) down d s i b h = absurd i
moved_goes ch w (Fn f) down d s i b h = absurd i

pub as_pointer_goes : (ch : Bool) (w : Linked) (p : Value) (s : State) → IsSpot p → Holds w s → Goes ch w IsPlace (as_pointer p s)
as_pointer_goes ch w p s i h = moved_goes ch w p false 0 s i (λ e. absurd cc) h

pub add_to_goes : (ch : Bool) (w : Linked) (step : ℕ) (signed off : Bool) (p : Value) (n : ℕ) (s : State) → IsPlace p → Holds w s → Goes ch w IsPlace (add_to step signed off p (Num n) s)
add_to_goes ch w step signed off p n s i h =
    goes_choose ch w IsPlace (signed && nat_le 2147483648 n) s (moved p (not off) ((4294967296 - n) * step)) (moved p off (n * step))
    (λ e. moved_goes ch w p (not off) ((4294967296 - n) * step) s (place_spot p i) (λ q. i) h)
    (λ e. moved_goes ch w p off (n * step) s (place_spot p i) (λ q. i) h)

pub beyond_goes : (ch : Bool) (w : Linked) (d : ℕ) (p : Value) (s : State) → IsSpot p → Holds w s → Goes ch w IsSpot (beyond d p s)
beyond_goes ch w d (To o a) s i h = (tt, h)
beyond_goes ch w d Null s i h = (tt, h)
beyond_goes ch w d (Num n) s i h = absurd i
beyond_goes ch w d (Fn f) s i h = absurd i

-- comparing pointers

equal_things_go : (ch : Bool) (w : Linked) (o : Object) (a : ℕ) (p : Object) (b : ℕ) (x y : Option Thing) (s : State) → Holds w s → Goes ch w (λ r. Unit {0}) (equal_things o a p b x y s)
equal_things_go ch w o a p b None y s h = tt
equal_things_go ch w o a p b (Some x) None s h = tt
equal_things_go ch w o a p b (Some x) (Some y) s h =
    goes_choose ch w (λ r. Unit {0}) (same_object o p) s (Gave (nat_eq a b)) (λ s1. choose (is_end a x || is_end b y) s1 (leaves 3) (Gave false))
    (λ e. (tt, h)) (λ e. goes_choose ch w (λ r. Unit {0}) (is_end a x || is_end b y) s (leaves 3) (Gave false) (λ q. tt) (λ q. (tt, h)))

unequal_null_goes : (ch : Bool) (w : Linked) (x : Option Thing) (s : State) → Holds w s → Goes ch w (λ r. Unit {0}) (unequal_null x s)
unequal_null_goes ch w None s h = tt
unequal_null_goes ch w (Some x) s h = (tt, h)

equal_places_go : (ch : Bool) (w : Linked) (x y : Value) (s : State) → IsPlace x → IsPlace y → Holds w s → Goes ch w (λ r. Unit {0}) (equal x y s)
equal_places_go ch w (To o a) (To p b) s i j h = equal_things_go ch w o a p b (thing s o) (thing s p) s h
equal_places_go ch w (To o a) Null s i j h = unequal_null_goes ch w (thing s o) s h
equal_places_go ch w Null (To p b) s i j h = unequal_null_goes ch w (thing s p) s h
equal_places_go ch w Null Null s i j h = (tt, h)
equal_places_go ch w (Num n) y s i j h = absurd i
equal_places_go ch w (Fn f) y s i j h = absurd i
equal_places_go ch w x (Num n) s i j h = absurd j
equal_places_go ch w x (Fn f) s i j h = absurd j

equal_functions_go : (ch : Bool) (w : Linked) (t : CType) (x y : Value) (s : State) → IsFunction w t x → IsFunction w t y → Holds w s → Goes ch w (λ r. Unit {0}) (equal x y s)
equal_functions_go ch w t (Fn f) (Fn g) s i j h = (tt, h)
equal_functions_go ch w t (Fn f) Null s i j h = (tt, h)
equal_functions_go ch w t Null (Fn g) s i j h = (tt, h)
equal_functions_go ch w t Null Null s i j h = (tt, h)
equal_functions_go ch w t (Num n) y s i j h = absurd i
equal_functions_go ch w t (To o a) y s i j h = absurd i
equal_functions_go ch w t x (Num n) s i j h = absurd j
equal_functions_go ch w t x (To o a) s i j h = absurd j

pub equal_goes : (ch : Bool) (w : Linked) (t : CType) (x y : Value) (s : State) → PointsTo w t x → PointsTo w t y → Holds w s → Goes ch w (λ r. Unit {0}) (equal x y s)
equal_goes ch w (num k) x y s i j h = equal_places_go ch w x y s i j h
equal_goes ch w void x y s i j h = equal_places_go ch w x y s i j h
equal_goes ch w (ptr t) x y s i j h = equal_places_go ch w x y s i j h
equal_goes ch w (arr n t) x y s i j h = equal_places_go ch w x y s i j h
equal_goes ch w (struct k) x y s i j h = equal_places_go ch w x y s i j h
equal_goes ch w (union k) x y s i j h = equal_places_go ch w x y s i j h
equal_goes ch w (enum k) x y s i j h = equal_places_go ch w x y s i j h
equal_goes ch w (fun t) x y s i j h = equal_functions_go ch w t x y s i j h

-- offsets are numbers of 32 bits
abbrev pub AreOffsets : ℕ × ℕ → Type 0
AreOffsets d = (d.0 < 4294967296) × (d.1 < 4294967296)

pub offsets_go : (ch : Bool) (w : Linked) (x y : Value) (s : State) → IsPlace x → IsPlace y → Holds w s → Goes ch w AreOffsets (offsets x y s)
offsets_go ch w (To o a) (To p b) s i j h = goes_choose ch w AreOffsets (same_object o p) s (Gave (a, b)) (leaves 3) (λ e. ((i, j), h)) (λ e. tt)
offsets_go ch w (To o a) Null s i j h = tt
offsets_go ch w Null (To p b) s i j h = tt
offsets_go ch w Null Null s i j h = ((omega arith, omega arith), h)
offsets_go ch w (Num n) y s i j h = absurd i
offsets_go ch w (Fn f) y s i j h = absurd i
offsets_go ch w x (Num n) s i j h = absurd j
offsets_go ch w x (Fn f) s i j h = absurd j

apart_below : (step a b : ℕ) → a < 4294967296 → apart step a b < 4294967296
apart_below step a b lt = case_of (nat_le b a)
  where
    case_of : (down : Bool) → pick down ((a - b) / step) (sub32 0 ((b - a) / step)) < 4294967296
    case_of true = part_below (a - b) step (omega arith)
    case_of false = sub_below 0 ((b - a) / step)

-- what a pointer to an object points to is no function
pub object_target : (t : CType) → is_object_pointer (ptr t) ≡ true → is_function t ≡ false
object_target (num k) h = refl
object_target void h = refl
object_target (ptr t) h = refl
object_target (arr n t) h = refl
object_target (struct k) h = refl
object_target (union k) h = refl
object_target (enum k) h = refl
object_target (fun t) h = cc

-- what follows two offsets is of a wide type
after_offsets : (ch : Bool) (w : Linked) (t u : CType) (x y : Value) (s : State) (f : ℕ × ℕ → Value) →
    ((d : ℕ × ℕ) → AreOffsets d → HasType w t (f d)) → is_object_pointer (ptr u) ≡ true → PointsTo w u x → PointsTo w u y → Holds w s →
    Goes ch w (HasType w t) (bind (offsets x y s) (λ d s1. Gave (f d) s1))
after_offsets ch w t u x y s f g e i j h =
    let q = object_target u e in
    goes_bind ch w AreOffsets (HasType w t) (offsets x y s) (λ d s1. Gave (f d) s1) (offsets_go ch w x y s (pointer_is w u x q i) (pointer_is w u y q j) h)
    (λ d s1 b h1. (g d b, h1))

pub two_pointers_go : (ch : Bool) (w : Linked) (t u : CType) (step : ℕ) (op : TBinary) (x y : Value) (s : State) →
    is_wide t ≡ true → compares op (is_object_pointer (ptr u)) ≡ true → PointsTo w u x → PointsTo w u y → Holds w s →
    Goes ch w (HasType w t) (two_pointers step op x y s)
two_pointers_go ch w t u step Eq x y s a e i j h =
    goes_bind ch w (λ r. Unit {0}) (HasType w t) (equal x y s) (λ b s1. Gave (truth b) s1) (equal_goes ch w u x y s i j h) (λ b s1 q h1. (truth_has w t b a, h1))
two_pointers_go ch w t u step Ne x y s a e i j h =
    goes_bind ch w (λ r. Unit {0}) (HasType w t) (equal x y s) (λ b s1. Gave (truth (not b)) s1) (equal_goes ch w u x y s i j h) (λ b s1 q h1. (truth_has w t (not b) a, h1))
two_pointers_go ch w t u step Lt x y s a e i j h = after_offsets ch w t u x y s (λ d. truth (nat_lt d.0 d.1)) (λ d b. truth_has w t (nat_lt d.0 d.1) a) e i j h
two_pointers_go ch w t u step Gt x y s a e i j h = after_offsets ch w t u x y s (λ d. truth (nat_lt d.1 d.0)) (λ d b. truth_has w t (nat_lt d.1 d.0) a) e i j h
two_pointers_go ch w t u step Le x y s a e i j h = after_offsets ch w t u x y s (λ d. truth (nat_le d.0 d.1)) (λ d b. truth_has w t (nat_le d.0 d.1) a) e i j h
two_pointers_go ch w t u step Ge x y s a e i j h = after_offsets ch w t u x y s (λ d. truth (nat_le d.1 d.0)) (λ d b. truth_has w t (nat_le d.1 d.0) a) e i j h
two_pointers_go ch w t u step Sub x y s a e i j h =
    after_offsets ch w t u x y s (λ d. Num (apart step d.0 d.1)) (λ d b. wide_has w t (apart step d.0 d.1) a (apart_below step d.0 d.1 b.0)) e i j h
two_pointers_go ch w t u step Mul x y s a e i j h = absurd cc
two_pointers_go ch w t u step Div x y s a e i j h = absurd cc
two_pointers_go ch w t u step Rem x y s a e i j h = absurd cc
two_pointers_go ch w t u step Add x y s a e i j h = absurd cc
two_pointers_go ch w t u step Shl x y s a e i j h = absurd cc
two_pointers_go ch w t u step Shr x y s a e i j h = absurd cc
two_pointers_go ch w t u step BitAnd x y s a e i j h = absurd cc
two_pointers_go ch w t u step BitXor x y s a e i j h = absurd cc
two_pointers_go ch w t u step BitOr x y s a e i j h = absurd cc
