-- The steps of an evaluation give values of their types: names, loads, addresses, calls.
use Rattle.std.proofs.Common.{◌≡◌, List, arith, Bool, true, false, not, refl, sym, subst, Option, Some, None}
use Rattle.std.proofs.lemmas.Bool.{and_parts, and_from, or_left, or_right}
use Rattle.c_type.specs.declared.Kind.TheVariants as kinds
use Rattle.c_type.specs.Types.{CType, num, void, ptr, arr, struct, union, enum, fun, Tag, same_type, is_integer, is_pointer}
use Rattle.c_type.specs.Sizes.{size}
use Rattle.c_tree.specs.declared.TUnary.{TUnary}
use Rattle.c_tree.specs.declared.TUnary.TheVariants.{Neg, Flip, Not}
use Rattle.c_tree.specs.declared.TBinary.TheVariants.{Add}
use Rattle.c_tree.specs.TExpr as e
use Rattle.c_tree.specs.TExpr.{Ref, TExpr, type_of}
use Rattle.c_run.specs.Values.{Object, Target, Value, Num, Null, To, Fn, is_true, truth}
use Rattle.c_tree.specs.Arith.{one_number}
use Rattle.c_run.specs.State.{State, Gave, bind, current}
use Rattle.c_run.specs.Context.{Linked, Context, object_of, own, outer}
use Rattle.c_run.specs.Pointers.{load}
use Rattle.c_run.specs.Exprs as x
use Rattle.c_run.specs.Exprs.{unary_op, operate, as_place, as_function, place_of, value_of, is_member}
use Rattle.c_rule.specs.RuleTypes.{is_void, is_function}
use Rattle.c_rule.specs.RuleValues.{is_scalar, is_object_pointer, is_variable}
use Rattle.c_rule.specs.RuleExprs.{is_structure}
use Rattle.c_run.proofs.Suited.{same_is}
use Rattle.c_sound.specs.HasType.{IsFunction, IsPlace, PointsTo, HasType, Holds}
use Rattle.c_sound.specs.Suits.{is_wide, is_used, unary_suits, binary_suits, callee}
use Rattle.c_sound.specs.Program.{IsThere, IsCallable, IsBound, HaveSizes}
use Rattle.c_sound.proofs.Goes.{Goes, is_valued}
use Rattle.c_sound.proofs.Numbers.{one_below}
use Rattle.c_sound.proofs.Types.{integer_is, number_has, is_pointer_to, wide_has, truth_has, size_below}
use Rattle.c_sound.proofs.Memory.{load_goes}
use Rattle.c_sound.proofs.Pointers.{object_target, place_spot}
use Rattle.c_sound.proofs.Operators.{operate_goes}
use Rattle.c_sound.proofs.TypeTests.{same_self, wide_integer}

-- types

pub function_same : (t : CType) → x.is_function t ≡ is_function t
function_same (num k) = refl
function_same void = refl
function_same (ptr t) = refl
function_same (arr n t) = refl
function_same (struct k) = refl
function_same (union k) = refl
function_same (enum k) = refl
function_same (fun t) = refl

pub structure_same : (t : CType) → x.is_structure t ≡ is_structure t
structure_same (num k) = refl
structure_same void = refl
structure_same (ptr t) = refl
structure_same (arr n t) = refl
structure_same (struct k) = refl
structure_same (union k) = refl
structure_same (enum k) = refl
structure_same (fun t) = refl

pub function_valued : (t : CType) → is_function t ≡ true → is_valued t ≡ true
function_valued t h = or_right (is_used t) (is_function t) h

pub valued_scalar : (t : CType) → is_valued t ≡ true → is_void t ≡ false → is_function t ≡ false → is_scalar t ≡ true
valued_scalar (num k) a b d = refl
valued_scalar (ptr t) a b d = refl
valued_scalar (enum k) a b d = refl
valued_scalar _ a b d = cc

object_pointer : (t : CType) → is_function t ≡ false → is_object_pointer (ptr t) ≡ true
object_pointer (num k) h = refl
object_pointer void h = refl
object_pointer (ptr t) h = refl
object_pointer (arr n t) h = refl
object_pointer (struct k) h = refl
object_pointer (union k) h = refl
object_pointer (enum k) h = refl
object_pointer (fun t) h = cc

pub void_has : (w : Linked) (t : CType) (v : Value) → is_void t ≡ true → HasType w t v
void_has w void v h = tt
void_has w _ v h = absurd cc

-- names and loads

pub object_goes : (ch : Bool) (w : Linked) (o : Option Object) (s : State) → IsThere o → Holds w s → Goes ch w IsPlace (as_place o s)
object_goes ch w None s i h = absurd i
object_goes ch w (Some o) s i h = (omega arith, h)

object_loads : (ch : Bool) (c : Context) (t : CType) (o : Option Object) (s : State) → is_scalar t ≡ true → IsThere o → Holds c.whole s →
    Goes ch c.whole (HasType c.whole t) (bind (as_place o s) (load c t))
object_loads ch c t None s sc i h = absurd i
object_loads ch c t (Some o) s sc i h = load_goes ch c t (To o 0) s sc tt h

function_goes : (ch : Bool) (w : Linked) (t : CType) (f : Option Target) (s : State) → IsCallable w t f → Holds w s → Goes ch w (HasType w t) (as_function f s)
function_goes ch w (fun t) (Some f) s i h = (i, h)
function_goes ch w (fun t) None s i h = absurd i
function_goes ch w (num k) f s i h = absurd i
function_goes ch w void f s i h = absurd i
function_goes ch w (ptr t) f s i h = absurd i
function_goes ch w (arr n t) f s i h = absurd i
function_goes ch w (struct k) f s i h = absurd i
function_goes ch w (union k) f s i h = absurd i
function_goes ch w (enum k) f s i h = absurd i

pub name_goes : (ch : Bool) (c : Context) (t : CType) (r : Ref) (s : State) → IsBound c t r → is_void t ≡ false → is_valued t ≡ true → Holds c.whole s →
    Goes ch c.whole (HasType c.whole t) (value_of c t r s)
name_goes ch c t (e.Const n) s b d a h = (number_has c.whole t n (or_left (is_integer t) (is_pointer t) b), h)
name_goes ch c t (e.Func k) s b d a h = function_goes ch c.whole t (own c k) s b h
name_goes ch c t (e.Outer y) s b d a h = function_goes ch c.whole t (outer c y) s b h
name_goes ch c t (e.Local i) s b d a h = object_loads ch c t (object_of c (current s.chain) (e.Local i)) s (valued_scalar t a d b) tt h
name_goes ch c t (e.Param i) s b d a h = object_loads ch c t (object_of c (current s.chain) (e.Param i)) s (valued_scalar t a d b) tt h
name_goes ch c t (e.Static k) s b d a h = object_loads ch c t (object_of c (current s.chain) (e.Static k)) s (valued_scalar t a d b.0) b.1 h
name_goes ch c t (e.Ext y) s b d a h = object_loads ch c t (object_of c (current s.chain) (e.Ext y)) s (valued_scalar t a d b.0) b.1 h

pub variable_goes : (ch : Bool) (c : Context) (t : CType) (r : Ref) (s : State) → IsBound c t r → is_variable r ≡ true → Holds c.whole s →
    Goes ch c.whole IsPlace (place_of c r s)
variable_goes ch c t (e.Local i) s b d h = object_goes ch c.whole (object_of c (current s.chain) (e.Local i)) s tt h
variable_goes ch c t (e.Param i) s b d h = object_goes ch c.whole (object_of c (current s.chain) (e.Param i)) s tt h
variable_goes ch c t (e.Static k) s b d h = object_goes ch c.whole (object_of c (current s.chain) (e.Static k)) s b.1 h
variable_goes ch c t (e.Ext y) s b d h = object_goes ch c.whole (object_of c (current s.chain) (e.Ext y)) s b.1 h
variable_goes ch c t (e.Const n) s b d h = absurd cc
variable_goes ch c t (e.Func k) s b d h = absurd cc
variable_goes ch c t (e.Outer y) s b d h = absurd cc

-- what a pointer points to
pub target_goes : (ch : Bool) (c : Context) (t : CType) (p : Value) (s : State) → is_void t ≡ false → is_valued t ≡ true → PointsTo c.whole t p → Holds c.whole s →
    Goes ch c.whole (HasType c.whole t) (load c t p s)
target_goes ch c (fun t) p s d a i h = (i, h)
target_goes ch c (num k) p s d a i h = load_goes ch c (num k) p s refl (place_spot p i) h
target_goes ch c (ptr t) p s d a i h = load_goes ch c (ptr t) p s refl (place_spot p i) h
target_goes ch c (enum k) p s d a i h = load_goes ch c (enum k) p s refl (place_spot p i) h
target_goes ch c void p s d a i h = absurd cc
target_goes ch c (arr n t) p s d a i h = absurd cc
target_goes ch c (struct k) p s d a i h = absurd cc
target_goes ch c (union k) p s d a i h = absurd cc

-- operators

unary_number_goes : (ch : Bool) (w : Linked) (t : CType) (op : TUnary) (v : Value) (s : State) → is_wide t ≡ true → HasType w t v → Holds w s →
    Goes ch w (HasType w t) (unary_op op v s)
unary_number_goes ch w t op v s a hv h =
    let n = integer_is w t v (wide_integer t a) hv in
    subst (λ y. Goes ch w (HasType w t) (unary_op op y s)) (sym n.1) (wide_has w t (one_number op n.0) a (one_below op n.0), h)

denial_goes : (ch : Bool) (w : Linked) (t : CType) (v : Value) (s : State) → is_wide t ≡ true → Holds w s → Goes ch w (HasType w t) (unary_op Not v s)
denial_goes ch w t (Num n) s a h = (wide_has w t (one_number Not n) a (one_below Not n), h)
denial_goes ch w t Null s a h = (truth_has w t (not (is_true Null)) a, h)
denial_goes ch w t (To o i) s a h = (truth_has w t (not (is_true (To o i))) a, h)
denial_goes ch w t (Fn f) s a h = (truth_has w t (not (is_true (Fn f))) a, h)

pub unary_goes : (ch : Bool) (w : Linked) (t : CType) (op : TUnary) (u : CType) (v : Value) (s : State) → unary_suits t op u ≡ true → HasType w u v → Holds w s →
    Goes ch w (HasType w t) (unary_op op v s)
unary_goes ch w t Neg u v s q hv h =
    let b = and_parts (is_wide t) (same_type t u) q in unary_number_goes ch w t Neg v s b.0 (subst (λ r. HasType w r v) (sym (same_is t u b.1)) hv) h
unary_goes ch w t Flip u v s q hv h =
    let b = and_parts (is_wide t) (same_type t u) q in unary_number_goes ch w t Flip v s b.0 (subst (λ r. HasType w r v) (sym (same_is t u b.1)) hv) h
unary_goes ch w t Not u v s q hv h = denial_goes ch w t v s (and_parts (is_wide t) (is_scalar u) q).0 h

wide_scalar : (t : CType) → is_wide t ≡ true → is_scalar t ≡ true
wide_scalar t a = or_left (is_integer t) (is_pointer t) (wide_integer t a)

pub unary_scalar : (t : CType) (op : TUnary) (u : CType) → unary_suits t op u ≡ true → is_scalar u ≡ true
unary_scalar t Neg u q =
    let b = and_parts (is_wide t) (same_type t u) q in subst (λ r. is_scalar r ≡ true) (same_is t u b.1) (wide_scalar t b.0)
unary_scalar t Flip u q =
    let b = and_parts (is_wide t) (same_type t u) q in subst (λ r. is_scalar r ≡ true) (same_is t u b.1) (wide_scalar t b.0)
unary_scalar t Not u q = (and_parts (is_wide t) (is_scalar u) q).1

pub truth_goes : (ch : Bool) (w : Linked) (b : Bool) (s : State) → Holds w s → Goes ch w (HasType w (num kinds.Int)) (Gave (truth b) s)
truth_goes ch w b s h = (truth_has w (num kinds.Int) b refl, h)

pub size_goes : (ch : Bool) (w : Linked) (ts : List Tag) (t : CType) (s : State) → HaveSizes ts → Holds w s → Goes ch w (HasType w (num kinds.UInt)) (Gave (Num (size ts t)) s)
size_goes ch w ts t s z h = (wide_has w (num kinds.UInt) (size ts t) refl (size_below ts t z), h)

-- pointers

-- a function is a pointer to it
pub function_pointer : (w : Linked) (t u : CType) (v : Value) → is_function u ≡ true → t ≡ ptr u → HasType w u v → HasType w t v
function_pointer w t (fun u) v f q h = subst (λ r. HasType w r v) (sym q) h
function_pointer w t _ v f q h = absurd cc

pub address_has : (w : Linked) (t u : CType) (p : Value) → is_function u ≡ false → t ≡ ptr u → IsPlace p → HasType w t p
address_has w t u p f q h = subst (λ r. HasType w r p) (sym q) (is_pointer_to w u p f h)

pub object_has : (w : Linked) (t : CType) (p : Value) → is_object_pointer t ≡ true → IsPlace p → HasType w t p
object_has w (ptr t) p i h = is_pointer_to w t p (object_target t i) h
object_has w _ p i h = absurd cc

index_suits : (t u : CType) → is_function t ≡ false → is_integer u ≡ true → binary_suits (ptr t) Add (ptr t) u ≡ true
index_suits t (num k) f i = and_from (is_object_pointer (ptr t)) (same_type t t) (object_pointer t f) (same_self t)
index_suits t (enum k) f i = and_from (is_object_pointer (ptr t)) (same_type t t) (object_pointer t f) (same_self t)
index_suits t _ f i = cc

-- the place of an element
pub element_goes : (ch : Bool) (c : Context) (t u r : CType) (v y : Value) (s : State) → u ≡ ptr t → is_function t ≡ false → is_integer r ≡ true →
    HasType c.whole u v → HasType c.whole r y → Holds c.whole s → Goes ch c.whole (PointsTo c.whole t) (operate c Add u r v y s)
element_goes ch c t u r v y s q f i hv hy h =
    subst (λ k. Goes ch c.whole (PointsTo c.whole t) (operate c Add k r v y s)) (sym q)
    (operate_goes ch c (ptr t) Add (ptr t) r v y s (index_suits t r f i) (subst (λ k. HasType c.whole k v) q hv) hy h)

-- calls

pub callee_valued : (t u : CType) → callee u ≡ fun t → is_valued u ≡ true
callee_valued t (ptr u) q = refl
callee_valued t (fun u) q = refl
callee_valued t _ q = cc

pub callee_has : (w : Linked) (t u : CType) (v : Value) → callee u ≡ fun t → HasType w u v → IsFunction w t v
callee_has w t (ptr u) v q h = subst (λ r. PointsTo w r v) q h
callee_has w t (fun u) v q h = subst (λ r. HasType w r v) q h
callee_has w t _ v q h = absurd cc
