-- The values of a type: like types have the same ones, and conversions, zero and truth values are of their types.
use Rattle.std.proofs.Common.{◌≡◌, ℕ, zero, suc, ◌*◌, ◌<◌, List, [], ◌∷◌, Bool, true, false, ◌||◌, refl, sym, ◌∙◌, subst, arith, ◌⊎◌, inl, inr, slice_get, Option, Some, None}
use Rattle.std.proofs.lemmas.Bool.{eqb-true, eq-eqb, or_cases}
use Rattle.c_type.specs.declared.Kind.{Kind}
use Rattle.c_type.specs.declared.Kind.TheVariants as kinds
use Rattle.c_type.specs.Names.{at_or}
use Rattle.c_type.specs.Kinds.{kind_size}
use Rattle.c_type.specs.Types.{CType, num, void, ptr, arr, struct, union, enum, fun, Tag, same_type, is_integer}
use Rattle.c_type.specs.Sizes.{size, capped, no_tag}
use Rattle.c_tree.specs.Bodies.{BodyAt}
use Rattle.c_run.specs.Values.{Target, Body, Putchar, Getchar, Exit, Value, Num, Null, To, Fn, converted, suits, zero_of, truth}
use Rattle.c_run.specs.Context.{Linked, shared}
use Rattle.c_run.specs.Calls.{int_type}
use Rattle.c_rule.specs.RuleTypes.{is_function}
use Rattle.c_rule.specs.RuleValues.{is_scalar}
use Rattle.c_run.proofs.Suited.{same_is}
use Rattle.c_sound.specs.HasType.{like, BodyGives, Gives, IsFunction, IsPlace, PointsTo, HasType}
use Rattle.c_sound.specs.Suits.{is_wide, is_used, converts}
use Rattle.c_sound.specs.Program.{HaveSizes}
use Rattle.c_sound.proofs.Numbers.{convert_below, convert_again, wide_keeps, zero_kept}

-- like types

pub like_turned : (t u : CType) → like t u ≡ true → like u t ≡ true
like_turned (num a) (num b) h = eq-eqb _ _ (sym (eqb-true _ _ h))
like_turned void void h = refl
like_turned (ptr t) (ptr u) h = like_turned t u h
like_turned (arr n t) (arr m u) h = like_turned t u h
like_turned (struct a) (struct b) h = refl
like_turned (union a) (union b) h = refl
like_turned (enum a) (enum b) h = refl
like_turned (fun t) (fun u) h = like_turned t u h
like_turned _ _ h = cc

pub like_along : (t u r : CType) → like t u ≡ true → like u r ≡ true → like t r ≡ true
like_along (num a) (num b) (num c) h k = eq-eqb _ _ (eqb-true _ _ h ∙ eqb-true _ _ k)
like_along void void void h k = refl
like_along (ptr t) (ptr u) (ptr r) h k = like_along t u r h k
like_along (arr n t) (arr m u) (arr l r) h k = like_along t u r h k
like_along (struct a) (struct b) (struct c) h k = refl
like_along (union a) (union b) (union c) h k = refl
like_along (enum a) (enum b) (enum c) h k = refl
like_along (fun t) (fun u) (fun r) h k = like_along t u r h k
like_along _ _ _ h k = cc

pub shared_like : (cs : List ℕ) (t : CType) → like t (shared cs t) ≡ true
shared_like cs (num k) = eq-eqb _ _ refl
shared_like cs void = refl
shared_like cs (ptr t) = shared_like cs t
shared_like cs (arr n t) = shared_like cs t
shared_like cs (struct k) = refl
shared_like cs (union k) = refl
shared_like cs (enum k) = refl
shared_like cs (fun t) = shared_like cs t

pub like_shared : (cs : List ℕ) (t : CType) → like (shared cs t) t ≡ true
like_shared cs t = like_turned t (shared cs t) (shared_like cs t)

body_gives : (t u : CType) (b : Option BodyAt) → like t u ≡ true → BodyGives t b → BodyGives u b
body_gives t u None l h = h
body_gives t u (Some b) l h = like_along b.func.result t u h l

gives : (w : Linked) (t u : CType) (f : Target) → like t u ≡ true → Gives w t f → Gives w u f
gives w t u (Body f) l h = body_gives t u (slice_get w.bodies f) l h
gives w t u Putchar l h = like_along int_type t u h l
gives w t u Getchar l h = like_along int_type t u h l
gives w t u Exit l h = like_along int_type t u h l

function_has : (w : Linked) (t u : CType) (v : Value) → like t u ≡ true → IsFunction w t v → IsFunction w u v
function_has w t u Null l h = tt
function_has w t u (Fn f) l h = gives w t u f l h
function_has w t u (Num n) l h = h
function_has w t u (To o a) l h = h

points_has : (w : Linked) (t u : CType) (v : Value) → like t u ≡ true → PointsTo w t v → PointsTo w u v
points_has w (num a) (num b) v l h = h
points_has w void void v l h = h
points_has w (ptr t) (ptr u) v l h = h
points_has w (arr n t) (arr m u) v l h = h
points_has w (struct a) (struct b) v l h = h
points_has w (union a) (union b) v l h = h
points_has w (enum a) (enum b) v l h = h
points_has w (fun t) (fun u) v l h = function_has w t u v l h
points_has w _ _ v l h = absurd cc

pub like_has : (w : Linked) (t u : CType) (v : Value) → like t u ≡ true → HasType w t v → HasType w u v
like_has w (num a) (num b) v l h = subst (λ x. HasType w x v) (same_is (num a) (num b) l) h
like_has w void void v l h = h
like_has w (ptr t) (ptr u) v l h = points_has w t u v l h
like_has w (arr n t) (arr m u) v l h = h
like_has w (struct a) (struct b) v l h = h
like_has w (union a) (union b) v l h = h
like_has w (enum a) (enum b) v l h = h
like_has w (fun t) (fun u) v l h = function_has w t u v l h
like_has w _ _ v l h = absurd cc

-- what is known of like types

pub shared_scalar : (cs : List ℕ) (t : CType) → is_scalar t ≡ true → is_scalar (shared cs t) ≡ true
shared_scalar cs (num k) h = refl
shared_scalar cs (ptr t) h = refl
shared_scalar cs (enum k) h = refl
shared_scalar cs _ h = cc

pub shared_integer : (cs : List ℕ) (t : CType) → is_integer t ≡ true → is_integer (shared cs t) ≡ true
shared_integer cs (num k) h = refl
shared_integer cs (enum k) h = refl
shared_integer cs _ h = cc

-- the values of integer types and pointers

pub integer_is : (w : Linked) (t : CType) (v : Value) → is_integer t ≡ true → HasType w t v → (n : ℕ) × (v ≡ Num n) × (n < 4294967296)
integer_is w (num k) (Num n) i h = (n, refl, subst (λ x. x < 4294967296) h (convert_below k n))
integer_is w (enum k) (Num n) i h = (n, refl, subst (λ x. x < 4294967296) h (convert_below kinds.Int n))
integer_is w (num k) Null i h = absurd h
integer_is w (num k) (To o a) i h = absurd h
integer_is w (num k) (Fn f) i h = absurd h
integer_is w (enum k) Null i h = absurd h
integer_is w (enum k) (To o a) i h = absurd h
integer_is w (enum k) (Fn f) i h = absurd h
integer_is w _ v i h = absurd cc

-- a pointer to an object is a place
pub pointer_is : (w : Linked) (t : CType) (v : Value) → is_function t ≡ false → PointsTo w t v → IsPlace v
pointer_is w (num k) v f h = h
pointer_is w void v f h = h
pointer_is w (ptr t) v f h = h
pointer_is w (arr n t) v f h = h
pointer_is w (struct k) v f h = h
pointer_is w (union k) v f h = h
pointer_is w (enum k) v f h = h
pointer_is w (fun t) v f h = absurd cc

pub is_pointer_to : (w : Linked) (t : CType) (v : Value) → is_function t ≡ false → IsPlace v → PointsTo w t v
is_pointer_to w (num k) v f h = h
is_pointer_to w void v f h = h
is_pointer_to w (ptr t) v f h = h
is_pointer_to w (arr n t) v f h = h
is_pointer_to w (struct k) v f h = h
is_pointer_to w (union k) v f h = h
is_pointer_to w (enum k) v f h = h
is_pointer_to w (fun t) v f h = absurd cc

null_has : (w : Linked) (t : CType) → PointsTo w t Null
null_has w (num k) = tt
null_has w void = tt
null_has w (ptr t) = tt
null_has w (arr n t) = tt
null_has w (struct k) = tt
null_has w (union k) = tt
null_has w (enum k) = tt
null_has w (fun t) = tt

not_a_number : (w : Linked) (t : CType) (n : ℕ) → PointsTo w t (Num n) → ⊥
not_a_number w (num k) n h = h
not_a_number w void n h = h
not_a_number w (ptr t) n h = h
not_a_number w (arr m t) n h = h
not_a_number w (struct k) n h = h
not_a_number w (union k) n h = h
not_a_number w (enum k) n h = h
not_a_number w (fun t) n h = h

pub has_suits : (w : Linked) (t : CType) (v : Value) → is_scalar t ≡ true → HasType w t v → suits t v ≡ true
has_suits w (num k) (Num n) s h = eq-eqb _ _ h
has_suits w (num k) Null s h = absurd h
has_suits w (num k) (To o a) s h = absurd h
has_suits w (num k) (Fn f) s h = absurd h
has_suits w (enum k) (Num n) s h = eq-eqb _ _ h
has_suits w (enum k) Null s h = absurd h
has_suits w (enum k) (To o a) s h = absurd h
has_suits w (enum k) (Fn f) s h = absurd h
has_suits w (ptr t) (Num n) s h = absurd (not_a_number w t n h)
has_suits w (ptr t) Null s h = refl
has_suits w (ptr t) (To o a) s h = refl
has_suits w (ptr t) (Fn f) s h = refl
has_suits w _ v s h = cc

-- conversions

-- a number converted to a scalar type
pub number_has : (w : Linked) (t : CType) (n : ℕ) → is_scalar t ≡ true → HasType w t (converted t (Num n))
number_has w (num k) n s = convert_again k n
number_has w (enum k) n s = convert_again kinds.Int n
number_has w (ptr t) n s = null_has w t
number_has w _ n s = absurd cc

integer_has : (w : Linked) (t u : CType) (v : Value) → is_scalar t ≡ true → is_integer u ≡ true → HasType w u v → HasType w t (converted t v)
integer_has w t u v s i h =
    let q = integer_is w u v i h in subst (λ x. HasType w t (converted t x)) (sym q.1) (number_has w t q.0 s)

-- a pointer stays what it is
pointer_has : (w : Linked) (t : CType) (v : Value) → HasType w (ptr t) v → HasType w (ptr t) (converted (ptr t) v)
pointer_has w t (Num n) h = absurd (not_a_number w t n h)
pointer_has w t Null h = h
pointer_has w t (To o a) h = h
pointer_has w t (Fn f) h = h

or_false : (b : Bool) → (b || false) ≡ true → b ≡ true
or_false true h = refl
or_false false h = h

to_pointer : (w : Linked) (t u : CType) (v : Value) → (is_integer u ≡ true) ⊎ (same_type (ptr t) u ≡ true) → HasType w u v → HasType w (ptr t) (converted (ptr t) v)
to_pointer w t u v (inl i) h = integer_has w (ptr t) u v refl i h
to_pointer w t u v (inr e) h = pointer_has w t v (subst (λ x. HasType w x v) (sym (same_is (ptr t) u e)) h)

pub converts_has : (w : Linked) (t u : CType) (v : Value) → is_used u ≡ true → converts t u ≡ true → HasType w u v → HasType w t (converted t v)
converts_has w void u v a c h = tt
converts_has w (num k) u v a c h = integer_has w (num k) u v refl (or_false (is_integer u) c) h
converts_has w (enum k) u v a c h = integer_has w (enum k) u v refl (or_false (is_integer u) c) h
converts_has w (ptr t) u v a c h = to_pointer w t u v (or_cases (is_integer u) (same_type (ptr t) u) c) h
converts_has w (arr n t) u v a c h = tt
converts_has w (struct k) u v a c h = tt
converts_has w (union k) u v a c h = tt
converts_has w (fun t) u v a c h = absurd cc

pub zero_has : (w : Linked) (t : CType) → is_function t ≡ false → HasType w t (zero_of t)
zero_has w (num k) f = zero_kept k
zero_has w void f = tt
zero_has w (ptr t) f = null_has w t
zero_has w (arr n t) f = tt
zero_has w (struct k) f = tt
zero_has w (union k) f = tt
zero_has w (enum k) f = zero_kept kinds.Int
zero_has w (fun t) f = absurd cc

-- a number of 32 bits is of a wide type
pub wide_has : (w : Linked) (t : CType) (n : ℕ) → is_wide t ≡ true → n < 4294967296 → HasType w t (Num n)
wide_has w (num k) n h lt = wide_keeps k n h lt
wide_has w _ n h lt = absurd cc

pub truth_has : (w : Linked) (t : CType) (b : Bool) → is_wide t ≡ true → HasType w t (truth b)
truth_has w t true h = wide_has w t 1 h (omega arith)
truth_has w t false h = wide_has w t 0 h (omega arith)

-- sizes

kind_below : (k : Kind) → kind_size k < 4294967296
kind_below kinds.Char = omega arith
kind_below kinds.UChar = omega arith
kind_below kinds.Short = omega arith
kind_below kinds.UShort = omega arith
kind_below kinds.Int = omega arith
kind_below kinds.UInt = omega arith
kind_below kinds.Long = omega arith
kind_below kinds.ULong = omega arith

tag_below : (ts : List Tag) (k : ℕ) → HaveSizes ts → (at_or no_tag ts k).size < 4294967296
tag_below [] k h = omega arith
tag_below (t ∷ ts) zero h = h.0
tag_below (t ∷ ts) (suc k) h = tag_below ts k h.1

capped_below : (n : ℕ) → capped n < 4294967296
capped_below n = omega arith

pub size_below : (ts : List Tag) (t : CType) → HaveSizes ts → size ts t < 4294967296
size_below ts (num k) h = kind_below k
size_below ts void h = omega arith
size_below ts (ptr t) h = omega arith
size_below ts (arr n t) h = capped_below (n * size ts t)
size_below ts (struct k) h = tag_below ts k h
size_below ts (union k) h = tag_below ts k h
size_below ts (enum k) h = omega arith
size_below ts (fun t) h = omega arith
