-- Each rule on expressions gives a typed expression that suits, where its parts suit.
use Rattle.std.proofs.Common.{◌≡◌, ℕ, suc, ◌+◌, List, [], ◌∷◌, length, Option, Some, None, Bool, true, false, not, refl, sym, ap, ◌∙◌, subst}
use Rattle.std.specs.Prelude.{nat_eq, ◌&&◌, ◌||◌}
use Rattle.std.proofs.lemmas.Bool.{and_parts, and_from, or_left, or_right}
use Rattle.c_type.specs.declared.Kind.{Kind}
use Rattle.c_type.specs.declared.Kind.TheVariants.{Char, UChar, Short, UShort, Int, UInt, Long, ULong}
use Rattle.c_type.specs.Names.{Name, same_name, pick, at_or}
use Rattle.c_type.specs.Sizes.{no_tag}
use Rattle.c_type.specs.Kinds.{widened, meet, kind_size}
use Rattle.c_type.specs.Types.{CType, num, void, ptr, arr, struct, union, enum, fun, same_type, is_integer, is_pointer, Member, target}
use Rattle.c_tree.specs.TExpr as e
use Rattle.c_tree.specs.TExpr.{TExpr, TArgs, Ref, type_of}
use Rattle.c_tree.specs.declared.TUnary.{TUnary}
use Rattle.c_tree.specs.declared.TUnary.TheVariants.{Neg, Flip, Not}
use Rattle.c_tree.specs.declared.TStep.{TStep}
use Rattle.c_tree.specs.declared.TStep.TheVariants.{PreInc, PreDec}
use Rattle.c_tree.specs.declared.expr.AssignOp.TheVariants as ao
use Rattle.c_tree.specs.declared.expr.BinaryOp.TheVariants as bo
use Rattle.c_tree.specs.declared.expr.UnaryOp.TheVariants as uo
use Rattle.c_tree.specs.declared.expr.AssignOp.{AssignOp}
use Rattle.c_tree.specs.declared.expr.BinaryOp.{BinaryOp}
use Rattle.c_tree.specs.declared.expr.UnaryOp.{UnaryOp}
use Rattle.c_tree.specs.declared.TBinary.{TBinary}
use Rattle.c_tree.specs.declared.TBinary.TheVariants.{Mul, Div, Rem, Add, Sub, Shl, Shr, Lt, Gt, Le, Ge, Eq, Ne, BitAnd, BitXor, BitOr}
use Rattle.c_rule.specs.RuleScope.{Judged, Is, onward, provided, Env, Meaning, Alias, Constant, Thing, Function, known, is_sized, function_ref}
use Rattle.c_rule.specs.RuleTypes.{is_void, void_is_a_result, is_function, elements_are_objects, functions_return, may_return}
use Rattle.c_rule.specs.RuleExprs as r
use Rattle.c_rule.specs.RuleExprs.{is_number, is_structure}
use Rattle.c_rule.specs.RuleValues.{target_is_sized, used, used_as, to_type, wide, widen, meeting, integer, scalar, is_scalar, is_object_pointer, is_place, is_variable, is_open, is_taken, taken, value_for, are_alike, are_integers, is_with_zero}
use Rattle.c_run.proofs.Suited.{same_is}
use Rattle.c_sound.specs.Unit.{Declares, IsMeant, AnyText}
use Rattle.c_sound.proofs.Stands.{void_in_place, IsSane, IsDeclared, IsSaneName, SaneMembers, SaneTags, members_at, function_meant, OptionMeans}
use Rattle.c_sound.specs.Suits.{Suits, SuitArgs, callee, is_used, is_wide, converts, unary_suits, binary_suits, is_move, compares}
use Rattle.c_sound.proofs.Outcomes.{Each, onward_each, provided_each, pick_each}
use Rattle.c_sound.proofs.TypeTests.{same_self, integer_scalar, scalar_used, integer_used, object_scalar}

-- types

abbrev pub is_array : CType → Bool
is_array (arr n t) = true
is_array _ = false

integer_sane : (t : CType) → is_integer t ≡ true → IsSane t
integer_sane (num k) h = (refl, refl, refl)
integer_sane (enum k) h = (refl, refl, refl)
integer_sane _ h = cc

used_array : (t : CType) → is_used t ≡ true → is_array t ≡ false
used_array (num k) h = refl
used_array void h = refl
used_array (ptr t) h = refl
used_array (enum k) h = refl
used_array _ h = cc

widened_integer : (t : CType) → is_integer t ≡ true → is_integer (wide t) ≡ true
widened_integer (num k) h = refl
widened_integer (enum k) h = refl
widened_integer _ h = cc

widened_wide : (k : Kind) → nat_eq (kind_size (widened k)) 4 ≡ true
widened_wide Char = refl
widened_wide UChar = refl
widened_wide Short = refl
widened_wide UShort = refl
widened_wide Int = refl
widened_wide UInt = refl
widened_wide Long = refl
widened_wide ULong = refl

wide_wide : (t : CType) → is_integer t ≡ true → is_wide (wide t) ≡ true
wide_wide (num k) h = widened_wide k
wide_wide (enum k) h = refl
wide_wide _ h = cc

meeting_integer : (a b : CType) → is_integer (meeting a b) ≡ true
meeting_integer (num j) (num k) = refl
meeting_integer _ _ = refl

meet_wide : (a b : Kind) → nat_eq (kind_size (meet a b)) 4 ≡ true
meet_wide ULong b = refl
meet_wide Long ULong = refl
meet_wide Long UInt = refl
meet_wide Long _ = refl
meet_wide UInt ULong = refl
meet_wide UInt Long = refl
meet_wide UInt _ = refl
meet_wide _ ULong = refl
meet_wide _ Long = refl
meet_wide _ UInt = refl
meet_wide _ _ = refl

meeting_wide : (a b : CType) → is_wide (meeting a b) ≡ true
meeting_wide (num j) (num k) = meet_wide j k
meeting_wide _ _ = refl

-- what operators take

converts_integer : (t u : CType) → is_integer t ≡ true → is_integer u ≡ true → converts t u ≡ true
converts_integer (num k) u h g = rw g refl
converts_integer (enum k) u h g = rw g refl
converts_integer _ u h g = cc

converts_self : (t : CType) → is_scalar t ≡ true → converts t t ≡ true
converts_self (num k) h = refl
converts_self (enum k) h = refl
converts_self (ptr t) h = same_self t
converts_self _ h = cc

both_integers : (t : CType) (op : TBinary) (a b : CType) → is_integer a ≡ true → is_integer b ≡ true → is_wide t ≡ true → binary_suits t op a b ≡ true
both_integers t op (num j) (num k) h g w = w
both_integers t op (num j) (enum k) h g w = w
both_integers t op (enum j) (num k) h g w = w
both_integers t op (enum j) (enum k) h g w = w
both_integers t op _ _ h g w = cc

moved_suits : (op : TBinary) (a b : CType) → is_object_pointer a ≡ true → is_integer b ≡ true → is_move op ≡ true → binary_suits a op a b ≡ true
moved_suits op (ptr a) (num k) h g m = rw (h, m) (same_self a)
moved_suits op (ptr a) (enum k) h g m = rw (h, m) (same_self a)
moved_suits op _ _ h g m = cc

added_suits : (a b : CType) → is_integer a ≡ true → is_object_pointer b ≡ true → binary_suits b Add a b ≡ true
added_suits (num k) (ptr b) h g = rw g (same_self b)
added_suits (enum k) (ptr b) h g = rw g (same_self b)
added_suits _ _ h g = cc

compared_suits : (op : TBinary) (a b : CType) → is_pointer a ≡ true → same_type a b ≡ true → compares op (is_object_pointer a) ≡ true → binary_suits (num Int) op a b ≡ true
compared_suits op (ptr a) (ptr b) h g m = rw (g, m) refl
compared_suits op _ _ h g m = cc

converts_zero : (t u : CType) → is_pointer t ≡ true → is_integer u ≡ true → converts t u ≡ true
converts_zero (ptr t) u h g = or_left (is_integer u) (same_type (ptr t) u) g
converts_zero _ u h g = cc

void_is : (t : CType) → is_void t ≡ true → t ≡ void
void_is void h = refl
void_is _ h = cc

pointer_is : (t : CType) → is_pointer t ≡ true → t ≡ ptr (target t)
pointer_is (ptr t) h = refl
pointer_is _ h = cc

object_is : (t : CType) → is_object_pointer t ≡ true → (t ≡ ptr (target t)) × (is_function (target t) ≡ false)
object_is (ptr (num k)) h = (refl, refl)
object_is (ptr void) h = (refl, refl)
object_is (ptr (ptr t)) h = (refl, refl)
object_is (ptr (arr m t)) h = (refl, refl)
object_is (ptr (struct k)) h = (refl, refl)
object_is (ptr (union k)) h = (refl, refl)
object_is (ptr (enum k)) h = (refl, refl)
object_is _ h = cc

stepped_used : (t : CType) → (is_number t || is_object_pointer t) ≡ true → is_used t ≡ true
stepped_used (num k) h = refl
stepped_used (ptr t) h = refl
stepped_used _ h = cc

array_placed : (t : CType) (v : TExpr) → is_array t ≡ true → is_place (e.deref t v) ≡ true
array_placed (arr m t) v h = refl
array_placed _ v h = cc

to_structure : (t : CType) (k : ℕ) → is_pointer t ≡ true → target t ≡ struct k → is_object_pointer t ≡ true
to_structure (ptr (struct j)) k h q = refl
to_structure (ptr _) k h q = cc
to_structure _ k h q = cc

called_function : (t : CType) → is_function t ≡ true → callee t ≡ fun (r.result_of t)
called_function (fun t) h = refl
called_function _ h = cc

called_pointer : (t : CType) → r.is_function_pointer t ≡ true → callee t ≡ fun (r.result_of t)
called_pointer (ptr (fun t)) h = refl
called_pointer (ptr _) h = cc
called_pointer _ h = cc

returned_array : (t : CType) → may_return t ≡ true → is_array t ≡ false
returned_array (arr m t) h = cc
returned_array (num k) h = refl
returned_array void h = refl
returned_array (ptr t) h = refl
returned_array (struct k) h = refl
returned_array (union k) h = refl
returned_array (enum k) h = refl
returned_array (fun t) h = refl

-- what a pointer points to is not void
pub target_declared : (t : CType) → IsSane (ptr t) → IsDeclared t
target_declared t h = ((h.0, h.1, or_right (is_void t) (void_is_a_result t) h.2), not_void t h.2)
  where
    not_void : (t : CType) → void_is_a_result t ≡ true → is_void t ≡ false
    not_void void h = cc
    not_void (num k) h = refl
    not_void (ptr t) h = refl
    not_void (arr m t) h = refl
    not_void (struct k) h = refl
    not_void (union k) h = refl
    not_void (enum k) h = refl
    not_void (fun t) h = refl

function_not_void : (t : CType) → is_function t ≡ true → is_void t ≡ false
function_not_void (fun t) h = refl
function_not_void _ h = cc

unused_not_void : (t : CType) → is_used t ≡ false → is_void t ≡ false
unused_not_void void h = cc
unused_not_void (num k) h = refl
unused_not_void (ptr t) h = refl
unused_not_void (arr m t) h = refl
unused_not_void (struct k) h = refl
unused_not_void (union k) h = refl
unused_not_void (enum k) h = refl
unused_not_void (fun t) h = refl

pointer_sane : (t : CType) → IsDeclared t → IsSane (ptr t)
pointer_sane t h = (h.0.0, h.0.1, subst (λ b. (b || void_is_a_result t) ≡ true) h.1 h.0.2)

-- a pointer to an array's element
pub element_sane : (m : ℕ) (t : CType) → IsSane (arr m t) → IsSane (ptr t)
element_sane m t h = ((and_parts (not (is_function t)) (elements_are_objects t) h.0).1, h.1, h.2)

callee_sane : (t : CType) → IsSane t → IsSane (callee t)
callee_sane (ptr t) h = (target_declared t h).0
callee_sane (num k) h = h
callee_sane void h = h
callee_sane (arr m t) h = h
callee_sane (struct k) h = h
callee_sane (union k) h = h
callee_sane (enum k) h = h
callee_sane (fun t) h = h

pub returned_void : (t : CType) → void_is_a_result (fun t) ≡ true → void_in_place t ≡ true
returned_void void h = refl
returned_void (num k) h = refl
returned_void (ptr t) h = h
returned_void (arr m t) h = h
returned_void (struct k) h = refl
returned_void (union k) h = refl
returned_void (enum k) h = refl
returned_void (fun t) h = h

-- what a call gives is no array
result_sane : (t : CType) → callee t ≡ fun (r.result_of t) → IsSane t → IsSane (r.result_of t) × (is_array (r.result_of t) ≡ false)
result_sane t q h =
    let s : IsSane (fun (r.result_of t)) = subst IsSane q (callee_sane t h) in
    let p = and_parts (may_return (r.result_of t)) (functions_return (r.result_of t)) s.1 in
    ((s.0, p.1, returned_void (r.result_of t) s.2), returned_array (r.result_of t) p.0)

array_variable : (n : ℕ) (ks : Declares) (t : CType) (q : Ref) → is_array t ≡ true → IsMeant n ks t q → is_variable q ≡ true
array_variable n ks t (e.Local i) h g = refl
array_variable n ks t (e.Param i) h g = refl
array_variable n ks t (e.Static k) h g = refl
array_variable n ks t (e.Ext x) h g = refl
array_variable n ks (arr m t) (e.Func k) h g = let p = g.0 in cc
array_variable n ks (arr m t) (e.Outer x) h g = cc
array_variable n ks (arr m t) (e.Const k) h g = cc
array_variable n ks _ _ h g = cc

-- the conditions of rules

or_turn : (a b : Bool) → (a || b) ≡ true → (b || a) ≡ true
or_turn true b h = or_right b true refl
or_turn false b h = or_left b false h

pub or_cases : (P : Type 0) (a b : Bool) → (a || b) ≡ true → (a ≡ true → P) → (b ≡ true → P) → P
or_cases P true b h f g = f refl
or_cases P false b h f g = g h

taken_by : (t u : CType) (zero : Bool) → ((is_integer t && is_integer u) || (is_pointer t && (same_type t u || (is_integer u && zero)))) ≡ true →
    (converts t u ≡ true) × (is_scalar t ≡ true) × (is_used u ≡ true)
taken_by (num k) u z h = or_cases _ (is_integer u) false h (λ g. (or_left (is_integer u) false g, refl, integer_used u g)) (λ g. cc)
taken_by (enum k) u z h = or_cases _ (is_integer u) false h (λ g. (or_left (is_integer u) false g, refl, integer_used u g)) (λ g. cc)
taken_by (ptr t) u z h =
    or_cases _ (same_type (ptr t) u) (is_integer u && z) h
    (λ g. (or_right (is_integer u) (same_type (ptr t) u) g, refl, subst (λ y. is_used y ≡ true) (same_is (ptr t) u g) refl))
    (λ g. let i = (and_parts (is_integer u) z g).0 in (or_left (is_integer u) (same_type (ptr t) u) i, refl, integer_used u i))
taken_by _ u z h = cc

cast_converts : (c : Env) (t : CType) (v : TExpr) → (is_void t || is_taken c t v) ≡ true → (converts t (type_of v) ≡ true) × (is_used t ≡ true)
cast_converts c t v h =
    or_cases _ (is_void t) (is_taken c t v) h
    (λ g. (or_left (is_void t) _ g, or_right (is_scalar t) (is_void t) g))
    (λ g. let p = taken_by t (type_of v) _ g in (p.0, scalar_used t p.1))

to_type_is : (t : CType) (v : TExpr) → type_of (to_type t v) ≡ t
to_type_is t v = case_of (same_type t (type_of v)) refl
  where
    case_of : (b : Bool) → same_type t (type_of v) ≡ b → type_of (pick b v (e.convert t v)) ≡ t
    case_of true q = sym (same_is t (type_of v) q)
    case_of false q = refl

-- two integers converted to the type in which they meet
abbrev chosen : TExpr → TExpr → TExpr → TExpr
chosen u v w = e.choice (meeting (type_of v) (type_of w)) u (to_type (meeting (type_of v) (type_of w)) v) (to_type (meeting (type_of v) (type_of w)) w)

-- parts

module _ (n : ℕ) (ks : Declares) where
  -- a typed expression that is not yet used: it suits, and where its type is an array it is a place
  pub record IsPart (x : TExpr) : Type 0 where
    pub suits : Suits true (IsMeant n ks) AnyText x
    pub sane : IsSane (type_of x)
    pub placed : is_array (type_of x) ≡ true → is_place x ≡ true

  -- a value: a scalar, or void
  pub record IsValue (v : TExpr) : Type 0 where
    pub suits : Suits true (IsMeant n ks) AnyText v
    pub sane : IsSane (type_of v)
    pub is_used : is_used (type_of v) ≡ true

  pub value_part : (v : TExpr) → IsValue v → IsPart v
  value_part v h = record { suits = h.suits; sane = h.sane; placed = λ e. absurd (not_array e) }
    where
      not_array : is_array (type_of v) ≡ true → ⊥
      not_array e = let q = used_array (type_of v) h.is_used in cc

  used_as_suits : (t : CType) (x : TExpr) → type_of x ≡ t → IsPart x → Each IsValue (used_as t x)
  used_as_suits (num k) x q h = record { suits = h.suits; sane = h.sane; is_used = rw q refl }
  used_as_suits void x q h = record { suits = h.suits; sane = h.sane; is_used = rw q refl }
  used_as_suits (ptr t) x q h = record { suits = h.suits; sane = h.sane; is_used = rw q refl }
  used_as_suits (enum k) x q h = record { suits = h.suits; sane = h.sane; is_used = rw q refl }
  used_as_suits (struct k) x q h = tt
  used_as_suits (union k) x q h = tt
  used_as_suits (arr m t) x q h =
      let s = subst IsSane q h.sane in record {
        suits = (h.suits, h.placed (rw q refl), object_by t (and_parts (not (is_function t)) (elements_are_objects t) s.0).0);
        sane = element_sane m t s;
        is_used = refl;
      }
    where
      object_by : (t : CType) → not (is_function t) ≡ true → is_object_pointer (ptr t) ≡ true
      object_by (fun t) h = cc
      object_by (num k) h = refl
      object_by void h = refl
      object_by (ptr t) h = refl
      object_by (arr m t) h = refl
      object_by (struct k) h = refl
      object_by (union k) h = refl
      object_by (enum k) h = refl
  used_as_suits (fun t) x q h = record { suits = (h.suits, rw q refl, ap ptr (sym q)); sane = subst IsSane q h.sane; is_used = refl }

  pub used_suits : (x : TExpr) → IsPart x → Each IsValue (used x)
  used_suits x h = used_as_suits (type_of x) x refl h

  pub record IsScalar (v : TExpr) : Type 0 where
    pub value : IsValue v
    pub scalar : is_scalar (type_of v) ≡ true

  pub record IsInteger (v : TExpr) : Type 0 where
    pub value : IsValue v
    pub integer : is_integer (type_of v) ≡ true

  -- an integer of 32 bits
  pub record IsWide (v : TExpr) : Type 0 where
    pub value : IsValue v
    pub integer : is_integer (type_of v) ≡ true
    pub wide : is_wide (type_of v) ≡ true

  -- a scalar of type t
  pub record IsTaken (t : CType) (v : TExpr) : Type 0 where
    pub value : IsValue v
    pub is_type : type_of v ≡ t
    pub scalar : is_scalar t ≡ true

  to_type_value : (t : CType) (v : TExpr) → IsValue v → converts t (type_of v) ≡ true → IsSane t → is_used t ≡ true → IsValue (to_type t v)
  to_type_value t v h g s u = case_of (same_type t (type_of v))
    where
      case_of : (b : Bool) → IsValue (pick b v (e.convert t v))
      case_of true = h
      case_of false = record { suits = (h.suits, h.is_used, g); sane = s; is_used = u }

  widen_wide : (v : TExpr) → IsValue v → is_integer (type_of v) ≡ true → IsWide (widen v)
  widen_wide v h g =
      let t = wide (type_of v) in
      let i = widened_integer (type_of v) g in
      let q = to_type_is t v in record {
        value = to_type_value t v h (converts_integer t (type_of v) i g) (integer_sane t i) (integer_used t i);
        integer = subst (λ y. is_integer y ≡ true) (sym q) i;
        wide = subst (λ y. is_wide y ≡ true) (sym q) (wide_wide (type_of v) g);
      }

  pub scalar_suits : (m : ℕ) (x : TExpr) → IsPart x → Each IsScalar (scalar m x)
  scalar_suits m x h =
      onward_each IsValue IsScalar (used x) _ (used_suits x h) (λ v g. provided_each IsScalar m (is_scalar (type_of v)) (Is v) (λ q. record { value = g; scalar = q }))

  pub integer_suits : (m : ℕ) (x : TExpr) → IsPart x → Each IsWide (integer m x)
  integer_suits m x h =
      onward_each IsValue IsWide (used x) _ (used_suits x h) (λ v g. provided_each IsWide m (is_integer (type_of v)) (Is (widen v)) (λ q. widen_wide v g q))

  wide_integer_value : (v : TExpr) → IsWide v → IsInteger v
  wide_integer_value v h = record { value = h.value; integer = h.integer }

  -- two operands

  two_used : (F : TExpr → TExpr → Judged TExpr) (x y : TExpr) → IsPart x → IsPart y →
      ((v w : TExpr) → IsValue v → IsValue w → Each IsPart (F v w)) → Each IsPart (onward (used x) (λ v. onward (used y) (F v)))
  two_used F x y hx hy f = onward_each IsValue IsPart (used x) _ (used_suits x hx) (λ v g. onward_each IsValue IsPart (used y) (F v) (used_suits y hy) (λ w k. f v w g k))

  two_integers : (F : TExpr → TExpr → Judged TExpr) (m : ℕ) (x y : TExpr) → IsPart x → IsPart y →
      ((v w : TExpr) → IsWide v → IsWide w → Each IsPart (F v w)) → Each IsPart (onward (integer m x) (λ v. onward (integer m y) (F v)))
  two_integers F m x y hx hy f =
      onward_each IsWide IsPart (integer m x) _ (integer_suits m x hx) (λ v g. onward_each IsWide IsPart (integer m y) (F v) (integer_suits m y hy) (λ w k. f v w g k))

  binary_part : (t : CType) (op : TBinary) (v w : TExpr) → IsValue v → IsValue w → IsSane t → is_used t ≡ true → binary_suits t op (type_of v) (type_of w) ≡ true →
      IsPart (e.binary t op v w)
  binary_part t op v w h g s u b = value_part (e.binary t op v w) (record { suits = (h.suits, g.suits, b); sane = s; is_used = u })

  -- an integer converted to the type in which two of them meet
  met_integer : (a b : CType) (v : TExpr) → IsInteger v → IsInteger (to_type (meeting a b) v)
  met_integer a b v h =
      let t = meeting a b in
      let i = meeting_integer a b in record {
        value = to_type_value t v h.value (converts_integer t (type_of v) i h.integer) (integer_sane t i) (integer_used t i);
        integer = subst (λ y. is_integer y ≡ true) (sym (to_type_is t v)) i;
      }

  met_part : (op : TBinary) (v w : TExpr) → IsInteger v → IsInteger w → IsPart (r.met op v w)
  met_part op v w h g =
      let t = meeting (type_of v) (type_of w) in
      let i = meeting_integer (type_of v) (type_of w) in
      let h' = met_integer (type_of v) (type_of w) v h in
      let g' = met_integer (type_of v) (type_of w) w g in
      binary_part t op (to_type t v) (to_type t w) h'.value g'.value (integer_sane t i) (integer_used t i)
      (both_integers t op (type_of (to_type t v)) (type_of (to_type t w)) h'.integer g'.integer (meeting_wide (type_of v) (type_of w)))

  compared_part : (op : TBinary) (v w : TExpr) → IsInteger v → IsInteger w → IsPart (r.compared op v w)
  compared_part op v w h g =
      let t = meeting (type_of v) (type_of w) in
      let h' = met_integer (type_of v) (type_of w) v h in
      let g' = met_integer (type_of v) (type_of w) w g in
      binary_part (num Int) op (to_type t v) (to_type t w) h'.value g'.value (refl, refl, refl) refl
      (both_integers (num Int) op (type_of (to_type t v)) (type_of (to_type t w)) h'.integer g'.integer refl)

  widened_part : (F : TExpr → TExpr → TExpr) (v w : TExpr) → IsValue v → IsValue w → are_integers v w ≡ true →
      ((a b : TExpr) → IsInteger a → IsInteger b → IsPart (F a b)) → IsPart (F (widen v) (widen w))
  widened_part F v w h g q f =
      let p = and_parts (is_integer (type_of v)) (is_integer (type_of w)) q in
      f (widen v) (widen w) (wide_integer_value (widen v) (widen_wide v h p.0)) (wide_integer_value (widen w) (widen_wide w g p.1))

  pub arithmetic_suits : (op : TBinary) (x y : TExpr) → IsPart x → IsPart y → Each IsPart (r.arithmetic op x y)
  arithmetic_suits op x y hx hy = two_integers _ 12 x y hx hy (λ v w h g. met_part op v w (wide_integer_value v h) (wide_integer_value w g))

  pub shift_suits : (op : TBinary) (x y : TExpr) → IsPart x → IsPart y → Each IsPart (r.shift op x y)
  shift_suits op x y hx hy =
      two_integers _ 12 x y hx hy (λ v w h g.
      binary_part (type_of v) op v w h.value g.value h.value.sane h.value.is_used (both_integers (type_of v) op (type_of v) (type_of w) h.integer g.integer h.wide))

  moved_part : (c : Env) (op : TBinary) (v w : TExpr) → is_move op ≡ true → IsValue v → IsValue w → (is_object_pointer (type_of v) && is_integer (type_of w)) ≡ true →
      Each IsPart (r.pointer_and_integer c op v w)
  moved_part c op v w m h g q =
      let p = and_parts (is_object_pointer (type_of v)) (is_integer (type_of w)) q in
      let k = widen_wide w g p.1 in
      provided_each IsPart 3 (target_is_sized c (type_of v)) _ (λ z.
      binary_part (type_of v) op v (widen w) h k.value h.sane h.is_used (moved_suits op (type_of v) (type_of (widen w)) p.0 k.integer m))

  pub sum_suits : (c : Env) (x y : TExpr) → IsPart x → IsPart y → Each IsPart (r.sum c x y)
  sum_suits c x y hx hy =
      two_used _ x y hx hy (λ v w h g.
      pick_each IsPart (are_integers v w) _ _ (λ q. widened_part (r.met Add) v w h g q (met_part Add)) (λ q.
      pick_each IsPart (is_object_pointer (type_of v) && is_integer (type_of w)) _ _ (λ q. moved_part c Add v w refl h g q) (λ q.
      pick_each IsPart (is_integer (type_of v) && is_object_pointer (type_of w)) _ _ (λ q. added v w h g q) (λ q. tt))))
    where
      added : (v w : TExpr) → IsValue v → IsValue w → (is_integer (type_of v) && is_object_pointer (type_of w)) ≡ true →
          Each IsPart (provided 3 (target_is_sized c (type_of w)) (Is (e.binary (type_of w) Add (widen v) w)))
      added v w h g q =
          let p = and_parts (is_integer (type_of v)) (is_object_pointer (type_of w)) q in
          let k = widen_wide v h p.0 in
          provided_each IsPart 3 (target_is_sized c (type_of w)) _ (λ z.
          binary_part (type_of w) Add (widen v) w k.value g g.sane g.is_used (added_suits (type_of (widen v)) (type_of w) k.integer p.1))

  -- two pointers of one type
  alike_part : (op : TBinary) (v w : TExpr) → IsValue v → IsValue w → is_pointer (type_of v) ≡ true → same_type (type_of v) (type_of w) ≡ true →
      compares op (is_object_pointer (type_of v)) ≡ true → IsPart (e.binary (num Int) op v w)
  alike_part op v w h g p q k = binary_part (num Int) op v w h g (refl, refl, refl) refl (compared_suits op (type_of v) (type_of w) p q k)

  objects_part : (op : TBinary) (v w : TExpr) → compares op true ≡ true → IsValue v → IsValue w → (is_object_pointer (type_of v) && are_alike v w) ≡ true →
      IsPart (e.binary (num Int) op v w)
  objects_part op v w k h g q =
      let p = and_parts (is_object_pointer (type_of v)) (are_alike v w) q in
      let a = and_parts (is_pointer (type_of v)) (same_type (type_of v) (type_of w)) p.1 in
      alike_part op v w h g a.0 a.1 (subst (λ b. compares op b ≡ true) (sym p.0) k)

  pub difference_suits : (c : Env) (x y : TExpr) → IsPart x → IsPart y → Each IsPart (r.difference c x y)
  difference_suits c x y hx hy =
      two_used _ x y hx hy (λ v w h g.
      pick_each IsPart (are_integers v w) _ _ (λ q. widened_part (r.met Sub) v w h g q (met_part Sub)) (λ q.
      pick_each IsPart (is_object_pointer (type_of v) && is_integer (type_of w)) _ _ (λ q. moved_part c Sub v w refl h g q) (λ q.
      pick_each IsPart (is_object_pointer (type_of v) && are_alike v w) _ _ (λ q.
      provided_each IsPart 3 (target_is_sized c (type_of v)) _ (λ z. objects_part Sub v w refl h g q)) (λ q. tt))))

  pub order_suits : (op : TBinary) (x y : TExpr) → compares op true ≡ true → IsPart x → IsPart y → Each IsPart (r.order op x y)
  order_suits op x y k hx hy =
      two_used _ x y hx hy (λ v w h g.
      pick_each IsPart (are_integers v w) _ _ (λ q. widened_part (r.compared op) v w h g q (compared_part op)) (λ q.
      provided_each IsPart 14 (is_object_pointer (type_of v) && are_alike v w) _ (λ z. objects_part op v w k h g z)))

  -- a pointer and the constant 0, which becomes null of its type
  zero_value : (c : Env) (v w : TExpr) → IsValue v → IsValue w → is_with_zero c.tags v w ≡ true → (is_pointer (type_of v) ≡ true) × IsValue (to_type (type_of v) w)
  zero_value c v w h g q =
      let p = and_parts (is_pointer (type_of v)) _ q in
      let i = (and_parts (is_integer (type_of w)) _ p.1).0 in
      (p.0, to_type_value (type_of v) w g (converts_zero (type_of v) (type_of w) p.0 i) h.sane h.is_used)

  pub equality_suits : (c : Env) (op : TBinary) (x y : TExpr) → ((b : Bool) → compares op b ≡ true) → IsPart x → IsPart y → Each IsPart (r.equality c op x y)
  equality_suits c op x y k hx hy =
      two_used _ x y hx hy (λ v w h g.
      pick_each IsPart (are_integers v w) _ _ (λ q. widened_part (r.compared op) v w h g q (compared_part op)) (λ q.
      pick_each IsPart (are_alike v w) _ _ (λ q. alike v w h g q) (λ q.
      pick_each IsPart (is_with_zero c.tags v w) _ _ (λ q. right v w h g q) (λ q.
      pick_each IsPart (is_with_zero c.tags w v) _ _ (λ q. left v w h g q) (λ q. tt)))))
    where
      alike : (v w : TExpr) → IsValue v → IsValue w → are_alike v w ≡ true → IsPart (e.binary (num Int) op v w)
      alike v w h g q = let p = and_parts (is_pointer (type_of v)) (same_type (type_of v) (type_of w)) q in alike_part op v w h g p.0 p.1 (k (is_object_pointer (type_of v)))

      right : (v w : TExpr) → IsValue v → IsValue w → is_with_zero c.tags v w ≡ true → IsPart (e.binary (num Int) op v (to_type (type_of v) w))
      right v w h g q =
          let p = zero_value c v w h g q in
          alike_part op v (to_type (type_of v) w) h p.1 p.0 (subst (λ y. same_type (type_of v) y ≡ true) (sym (to_type_is (type_of v) w)) (same_self (type_of v))) (k (is_object_pointer (type_of v)))

      left : (v w : TExpr) → IsValue v → IsValue w → is_with_zero c.tags w v ≡ true → IsPart (e.binary (num Int) op (to_type (type_of w) v) w)
      left v w h g q =
          let p = zero_value c w v g h q in
          let a = to_type (type_of w) v in
          let s : type_of w ≡ type_of a = sym (to_type_is (type_of w) v) in
          alike_part op a w p.1 g (subst (λ y. is_pointer y ≡ true) s p.0) (subst (λ y. same_type y (type_of w) ≡ true) s (same_self (type_of w))) (k (is_object_pointer (type_of a)))

  pub two_tests_suit : (make : TExpr → TExpr → TExpr) (x y : TExpr) → ((v w : TExpr) → IsScalar v → IsScalar w → IsPart (make v w)) → IsPart x → IsPart y → Each IsPart (r.two_tests make x y)
  two_tests_suit make x y f hx hy =
      onward_each IsScalar IsPart (scalar 15 x) _ (scalar_suits 15 x hx) (λ v h. onward_each IsScalar IsPart (scalar 15 y) _ (scalar_suits 15 y hy) (λ w g. f v w h g))

  pub either_part : (v w : TExpr) → IsScalar v → IsScalar w → IsPart (e.either v w)
  either_part v w h g = value_part (e.either v w) (record { suits = (h.value.suits, g.value.suits, h.scalar, g.scalar); sane = (refl, refl, refl); is_used = refl })

  pub both_part : (v w : TExpr) → IsScalar v → IsScalar w → IsPart (e.both v w)
  both_part v w h g = value_part (e.both v w) (record { suits = (h.value.suits, g.value.suits, h.scalar, g.scalar); sane = (refl, refl, refl); is_used = refl })

  pub comma_suits : (x y : TExpr) → IsPart x → IsPart y → Each IsPart (r.comma x y)
  comma_suits x y hx hy =
      two_used _ x y hx hy (λ v w h g.
      value_part (e.comma (type_of w) v w) (record { suits = (h.suits, g.suits, h.is_used, g.is_used, refl); sane = g.sane; is_used = g.is_used }))

  choice_part : (t : CType) (u v w : TExpr) → IsScalar u → IsValue v → IsValue w → type_of v ≡ t → type_of w ≡ t → IsPart (e.choice t u v w)
  choice_part t u v w f h g p q =
      let k = subst (λ y. is_used y ≡ true) p h.is_used in
      value_part (e.choice t u v w) (record { suits = (f.value.suits, h.suits, g.suits, f.scalar, k, p, q); sane = subst IsSane p h.sane; is_used = k })

  chosen_part : (u : TExpr) → IsScalar u → (v w : TExpr) → IsInteger v → IsInteger w → IsPart (chosen u v w)
  chosen_part u f v w h g =
      let t = meeting (type_of v) (type_of w) in
      let h' = met_integer (type_of v) (type_of w) v h in
      let g' = met_integer (type_of v) (type_of w) w g in
      choice_part t u (to_type t v) (to_type t w) f h'.value g'.value (to_type_is t v) (to_type_is t w)

  pub choice_suits : (c : Env) (x y z : TExpr) → IsPart x → IsPart y → IsPart z → Each IsPart (r.choice c x y z)
  choice_suits c x y z hx hy hz =
      onward_each IsScalar IsPart (scalar 15 x) _ (scalar_suits 15 x hx) (λ u f.
      two_used _ y z hy hz (λ v w h g.
      pick_each IsPart (are_integers v w) _ _ (λ q. widened_part (chosen u) v w h g q (chosen_part u f)) (λ q.
      pick_each IsPart (are_alike v w || (is_void (type_of v) && is_void (type_of w))) _ _ (λ q. alike u v w f h g q) (λ q.
      pick_each IsPart (is_with_zero c.tags v w) _ _ (λ q. let p = zero_value c v w h g q in choice_part (type_of v) u v (to_type (type_of v) w) f h p.1 refl (to_type_is (type_of v) w)) (λ q.
      pick_each IsPart (is_with_zero c.tags w v) _ _ (λ q. let p = zero_value c w v g h q in choice_part (type_of w) u (to_type (type_of w) v) w f p.1 g (to_type_is (type_of w) v) refl) (λ q. tt))))))
    where
      alike : (u v w : TExpr) → IsScalar u → IsValue v → IsValue w → (are_alike v w || (is_void (type_of v) && is_void (type_of w))) ≡ true → IsPart (e.choice (type_of v) u v w)
      alike u v w f h g q =
          choice_part (type_of v) u v w f h g refl (or_cases _ (are_alike v w) (is_void (type_of v) && is_void (type_of w)) q
          (λ k. sym (same_is (type_of v) (type_of w) (and_parts (is_pointer (type_of v)) (same_type (type_of v) (type_of w)) k).1))
          (λ k. let p = and_parts (is_void (type_of v)) (is_void (type_of w)) k in void_is (type_of w) p.1 ∙ sym (void_is (type_of v) p.0)))

  -- one operand

  pub star_suits : (x : TExpr) → IsPart x → Each IsPart (r.star x)
  star_suits x hx =
      onward_each IsValue IsPart (used x) _ (used_suits x hx) (λ v h.
      provided_each IsPart 17 (is_pointer (type_of v)) _ (λ q. at v h (pointer_is (type_of v) q)))
    where
      at : (v : TExpr) → IsValue v → type_of v ≡ ptr (target (type_of v)) → IsPart (e.deref (target (type_of v)) v)
      at v h q =
          let d = target_declared (target (type_of v)) (subst IsSane q h.sane) in
          record { suits = (h.suits, q, d.1); sane = d.0; placed = λ k. array_placed (target (type_of v)) v k }

  -- a place is not void
  place_not_void : (x : TExpr) → Suits true (IsMeant n ks) AnyText x → is_place x ≡ true → is_void (type_of x) ≡ false
  place_not_void (e.name t q) h p = h.1
  place_not_void (e.text t k) h p = unused_not_void t h.1
  place_not_void (e.deref t a) h p = h.2
  place_not_void (e.index t a i) h p = h.5
  place_not_void (e.member t a m) h p = h.3
  place_not_void (e.arrow t a m) h p = h.3
  place_not_void _ h p = cc

  pub address_suits : (x : TExpr) → IsPart x → Each IsPart (r.address x)
  address_suits x hx =
      provided_each IsPart 17 (is_place x || is_function (type_of x)) _ (λ q.
      provided_each IsPart 5 (not (is_open (type_of x))) _ (λ z.
      let d = or_cases _ (is_place x) (is_function (type_of x)) q (place_not_void x hx.suits) (function_not_void (type_of x)) in
      value_part (e.address (ptr (type_of x)) x) (record {
        suits = (hx.suits, or_turn (is_place x) (is_function (type_of x)) q, refl);
        sane = pointer_sane (type_of x) (hx.sane, d);
        is_used = refl;
      })))

  pub negation_suits : (op : TUnary) (x : TExpr) → ((t : CType) → is_wide t ≡ true → unary_suits t op t ≡ true) → IsPart x → Each IsPart (r.negation op x)
  negation_suits op x k hx =
      onward_each IsWide IsPart (integer 12 x) _ (integer_suits 12 x hx) (λ v h.
      value_part (e.unary (type_of v) op v) (record { suits = (h.value.suits, k (type_of v) h.wide); sane = h.value.sane; is_used = h.value.is_used }))

  pub denial_suits : (x : TExpr) → IsPart x → Each IsPart (r.denial x)
  denial_suits x hx =
      onward_each IsScalar IsPart (scalar 15 x) _ (scalar_suits 15 x hx) (λ v h.
      value_part (e.unary (num Int) Not v) (record { suits = (h.value.suits, h.scalar); sane = (refl, refl, refl); is_used = refl }))

  pub step_suits : (c : Env) (op : TStep) (x : TExpr) → IsPart x → Each IsPart (r.step c op x)
  step_suits c op x hx =
      provided_each IsPart 21 (is_place x && (is_number (type_of x) || is_object_pointer (type_of x))) _ (λ q.
      provided_each IsPart 3 (target_is_sized c (type_of x)) _ (λ z.
      let p = and_parts (is_place x) (is_number (type_of x) || is_object_pointer (type_of x)) q in
      value_part (e.step (type_of x) op x) (record { suits = (hx.suits, p.0, refl, p.1); sane = hx.sane; is_used = stepped_used (type_of x) p.1 })))

  pub size_of_suits : (c : Env) (x : TExpr) → Each IsPart (r.size_of c x)
  size_of_suits c x =
      provided_each IsPart 5 (not (is_open (type_of x))) _ (λ q.
      provided_each IsPart 3 (is_sized (known c) (type_of x)) _ (λ z. value_part (e.size_of x) (record { suits = tt; sane = (refl, refl, refl); is_used = refl })))

  pub cast_suits : (c : Env) (t : CType) (x : TExpr) → IsSane t → IsPart x → Each IsPart (r.cast c t x)
  cast_suits c t x s hx =
      onward_each IsValue IsPart (used x) _ (used_suits x hx) (λ v h.
      provided_each IsPart 22 (is_void t || is_taken c t v) _ (λ q.
      let p = cast_converts c t v q in value_part (e.cast t v) (record { suits = (h.suits, h.is_used, p.0); sane = s; is_used = p.1 })))

  pub subscript_suits : (c : Env) (x y : TExpr) → IsPart x → IsPart y → Each IsPart (r.subscript c x y)
  subscript_suits c x y hx hy =
      two_used _ x y hx hy (λ v w h g.
      provided_each IsPart 18 (is_object_pointer (type_of v) && is_integer (type_of w)) _ (λ q.
      provided_each IsPart 3 (target_is_sized c (type_of v)) _ (λ z. at v w h g q)))
    where
      at : (v w : TExpr) → IsValue v → IsValue w → (is_object_pointer (type_of v) && is_integer (type_of w)) ≡ true → IsPart (e.index (target (type_of v)) v (widen w))
      at v w h g q =
          let p = and_parts (is_object_pointer (type_of v)) (is_integer (type_of w)) q in
          let k = widen_wide w g p.1 in
          let o = object_is (type_of v) p.0 in
          let d = target_declared (target (type_of v)) (subst IsSane o.0 h.sane) in
          record { suits = (h.suits, k.value.suits, o.0, o.1, k.integer, d.1); sane = d.0; placed = λ i. refl }

  -- members

  found_suits : (ms : List Member) (k m : ℕ) (x : Name) (make : ℕ → CType → TExpr) → SaneMembers k ms → ((i : ℕ) (t : CType) → is_function t ≡ false → IsDeclared t → IsPart (make i t)) →
      Each IsPart (r.with_member (r.member_from m ms x) make)
  found_suits [] k m x make h f = tt
  found_suits (y ∷ ys) k m x make h f = case_of (same_name x y.name) (found_suits ys k (suc m) x make h.3 f)
    where
      case_of : (b : Bool) → Each IsPart (r.with_member (r.member_from (suc m) ys x) make) → Each IsPart (r.with_member (pick b (Some (m, y.ty)) (r.member_from (suc m) ys x)) make)
      case_of true g = f m y.ty h.0 h.1
      case_of false g = g

  member_suits : (c : Env) (t : CType) (x : Name) (make : ℕ → CType → TExpr) → SaneTags 0 c.tags →
      ((k : ℕ) → t ≡ struct k → (i : ℕ) (u : CType) → is_function u ≡ false → IsDeclared u → IsPart (make i u)) → Each IsPart (r.member_of c t x make)
  member_suits c (struct k) x make h f =
      provided_each IsPart 3 (is_sized (known c) (struct k)) _ (λ q. found_suits (at_or no_tag c.tags k).members (0 + k) 0 x make (members_at 0 k c.tags h) (f k refl))
  member_suits c (num k) x make h f = tt
  member_suits c void x make h f = tt
  member_suits c (ptr t) x make h f = tt
  member_suits c (arr m t) x make h f = tt
  member_suits c (union k) x make h f = tt
  member_suits c (enum k) x make h f = tt
  member_suits c (fun t) x make h f = tt

  pub dot_suits : (c : Env) (x : TExpr) (y : Name) → SaneTags 0 c.tags → IsPart x → Each IsPart (r.dot c x y)
  dot_suits c x y h hx =
      provided_each IsPart 19 (is_place x) _ (λ p.
      member_suits c (type_of x) y (λ m t. e.member t x m) h (λ k q i u f s. record { suits = (hx.suits, p, f, s.1); sane = s.0; placed = λ a. refl }))

  pub arrow_suits : (c : Env) (x : TExpr) (y : Name) → SaneTags 0 c.tags → IsPart x → Each IsPart (r.arrow c x y)
  arrow_suits c x y h hx =
      onward_each IsValue IsPart (used x) _ (used_suits x hx) (λ v g.
      provided_each IsPart 19 (is_pointer (type_of v)) _ (λ p.
      member_suits c (target (type_of v)) y (λ m t. e.arrow t v m) h (λ k q i u f s.
      record { suits = (g.suits, to_structure (type_of v) k p q, f, s.1); sane = s.0; placed = λ a. refl })))

  -- assignments

  pub taken_suits : (m : ℕ) (c : Env) (t : CType) (w : TExpr) → IsSane t → IsValue w → Each (IsTaken t) (taken m c t w)
  taken_suits m c t w s h =
      provided_each (IsTaken t) m (is_taken c t w) _ (λ q.
      let p = taken_by t (type_of w) _ q in record { value = to_type_value t w h p.0 s (scalar_used t p.1); is_type = to_type_is t w; scalar = p.1 })

  pub value_for_suits : (m : ℕ) (c : Env) (t : CType) (x : TExpr) → IsSane t → IsPart x → Each (IsTaken t) (value_for m c t x)
  value_for_suits m c t x s hx = onward_each IsValue (IsTaken t) (used x) _ (used_suits x hx) (λ w h. taken_suits m c t w s h)

  copied_suits : (c : Env) (x y : TExpr) → is_place x ≡ true → is_structure (type_of x) ≡ true → IsPart x → IsPart y → Each IsPart (r.copied c x y)
  copied_suits c x y p k hx hy =
      provided_each IsPart 21 (is_place y && same_type (type_of x) (type_of y)) _ (λ q.
      provided_each IsPart 3 (is_sized (known c) (type_of x)) _ (λ z.
      value_part (e.assign void x y) (record {
        suits = (hx.suits, hy.suits, p, copies (type_of x) k (and_parts (is_place y) _ q).0);
        sane = (refl, refl, refl);
        is_used = refl;
      })))
    where
      copies : (t : CType) → is_structure t ≡ true → is_place y ≡ true → pick (is_structure t) (is_place y && true) (is_scalar t && (same_type t (type_of y) && same_type void t)) ≡ true
      copies t k q = rw (k, q) refl

  pub assign_suits : (c : Env) (x y : TExpr) → IsPart x → IsPart y → Each IsPart (r.assign c x y)
  assign_suits c x y hx hy =
      provided_each IsPart 21 (r.may_be_set x) _ (λ q.
      let p = and_parts (is_place x) (is_scalar (type_of x) || is_structure (type_of x)) q in
      pick_each IsPart (is_structure (type_of x)) _ _ (λ k. copied_suits c x y p.0 k hx hy) (λ k.
      onward_each IsValue IsPart (used y) _ (used_suits y hy) (λ w h.
      onward_each (IsTaken (type_of x)) IsPart (taken 21 c (type_of x) w) _ (taken_suits 21 c (type_of x) w hx.sane h) (λ v g. stored v p.0 k g))))
    where
      stores : (t u : CType) (b : Bool) → u ≡ t → is_structure t ≡ false → is_scalar t ≡ true → pick (is_structure t) b (is_scalar t && (same_type t u && same_type t t)) ≡ true
      stores t u b q k g = rw (q, k, g, same_self t) refl

      stored : (v : TExpr) → is_place x ≡ true → is_structure (type_of x) ≡ false → IsTaken (type_of x) v → IsPart (e.assign (type_of x) x v)
      stored v p k g = value_part (e.assign (type_of x) x v) (record {
        suits = (hx.suits, g.value.suits, p, stores (type_of x) (type_of v) (is_place v && is_void (type_of x)) g.is_type k g.scalar);
        sane = hx.sane;
        is_used = scalar_used (type_of x) g.scalar;
      })

  -- what becomes of a place of an integer type
  updated_part : (op : TBinary) (at : CType) (x w : TExpr) → IsPart x → (is_place x && is_integer (type_of x)) ≡ true → is_integer at ≡ true → is_wide at ≡ true → IsInteger w →
      IsPart (e.update (type_of x) op at x w)
  updated_part op at x w hx q i k h =
      let p = and_parts (is_place x) (is_integer (type_of x)) q in
      let t = type_of x in
      value_part (e.update t op at x w) (record {
        suits = (hx.suits, h.value.suits, p.0, integer_scalar t p.1, refl, converts_integer at t i p.1, both_integers at op at (type_of w) i h.integer k, converts_integer t at p.1 i);
        sane = hx.sane;
        is_used = integer_used t p.1;
      })

  pub update_suits : (op : TBinary) (x y : TExpr) → IsPart x → IsPart y → Each IsPart (r.update op x y)
  update_suits op x y hx hy =
      provided_each IsPart 21 (is_place x && is_integer (type_of x)) _ (λ q.
      onward_each IsWide IsPart (integer 21 y) _ (integer_suits 21 y hy) (λ w h.
      let a = wide (type_of x) in
      updated_part op (meeting a (type_of w)) x (to_type (meeting a (type_of w)) w) hx q (meeting_integer a (type_of w)) (meeting_wide a (type_of w)) (met_integer a (type_of w) w (wide_integer_value w h))))

  pub update_shift_suits : (op : TBinary) (x y : TExpr) → IsPart x → IsPart y → Each IsPart (r.update_shift op x y)
  update_shift_suits op x y hx hy =
      provided_each IsPart 21 (is_place x && is_integer (type_of x)) _ (λ q.
      onward_each IsWide IsPart (integer 21 y) _ (integer_suits 21 y hy) (λ w h.
      let i = (and_parts (is_place x) (is_integer (type_of x)) q).1 in
      updated_part op (wide (type_of x)) x w hx q (widened_integer (type_of x) i) (wide_wide (type_of x) i) (wide_integer_value w h)))

  pub update_sum_suits : (c : Env) (op : TBinary) (x y : TExpr) → is_move op ≡ true → IsPart x → IsPart y → Each IsPart (r.update_sum c op x y)
  update_sum_suits c op x y m hx hy =
      pick_each IsPart (is_place x && is_object_pointer (type_of x)) _ _ (λ q.
      onward_each IsWide IsPart (integer 21 y) _ (integer_suits 21 y hy) (λ w h.
      provided_each IsPart 3 (target_is_sized c (type_of x)) _ (λ z. moved w q h))) (λ q. update_suits op x y hx hy)
    where
      moved : (w : TExpr) → (is_place x && is_object_pointer (type_of x)) ≡ true → IsWide w → IsPart (e.update (type_of x) op (type_of x) x w)
      moved w q h =
          let p = and_parts (is_place x) (is_object_pointer (type_of x)) q in
          let t = type_of x in
          let k = object_scalar t p.1 in
          value_part (e.update t op t x w) (record {
            suits = (hx.suits, h.value.suits, p.0, k, refl, converts_self t k, moved_suits op t (type_of w) p.1 h.integer m, converts_self t k);
            sane = hx.sane;
            is_used = scalar_used t k;
          })

  -- calls and names

  -- what may be called
  pub record IsCallee (x : TExpr) : Type 0 where
    pub part : IsPart x
    pub gives : callee (type_of x) ≡ fun (r.result_of (type_of x))

  pub called_suits : (x : TExpr) → IsPart x → Each IsCallee (r.called x)
  called_suits x hx =
      pick_each IsCallee (is_function (type_of x)) _ _ (λ q. record { part = hx; gives = called_function (type_of x) q }) (λ q.
      onward_each IsValue IsCallee (used x) _ (used_suits x hx) (λ v h.
      provided_each IsCallee 20 (r.is_function_pointer (type_of v)) _ (λ p. record { part = value_part v h; gives = called_pointer (type_of v) p })))

  pub call_part : (f : TExpr) (es : TArgs) → IsCallee f → SuitArgs true (IsMeant n ks) AnyText es → IsPart (e.call (r.result_of (type_of f)) f es)
  call_part f es h g =
      let p = result_sane (type_of f) h.gives h.part.sane in
      record { suits = (refl, h.part.suits, g, h.gives); sane = p.0; placed = λ k. absurd (no_array p.1 k) }
    where
      no_array : {b : Bool} → b ≡ false → b ≡ true → ⊥
      no_array p q = cc

  name_part : (t : CType) (q : Ref) → IsSaneName n ks t q → IsPart (e.name t q)
  name_part t q h = record { suits = (h.0, h.1.1); sane = h.1.0; placed = λ k. array_variable n ks t q k h.0 }

  pub as_expr_suits : (o : Option Meaning) → OptionMeans (IsSaneName n ks) o → Each IsPart (r.as_expr o)
  as_expr_suits None h = tt
  as_expr_suits (Some (Alias t)) h = tt
  as_expr_suits (Some (Constant m)) h = name_part (num Int) (e.Const m) (refl, ((refl, refl, refl), refl))
  as_expr_suits (Some (Thing q t)) h = name_part t q h.1
  as_expr_suits (Some (Function s q t)) h = name_part t q h.1

  pub called_name_suits : (c : Env) (x : Name) (o : Option Meaning) → length c.bodies ≡ n → OptionMeans (IsSaneName n ks) o → Each IsPart (r.called_name c x o)
  called_name_suits c x None q h = name_part (fun (num Int)) (function_ref c false x) (function_meant n ks c false x (fun (num Int)) q refl, ((refl, refl, refl), refl))
  called_name_suits c x (Some m) q h = as_expr_suits (Some m) h

  -- by the words of operators

  pub binary_rule_suits : (c : Env) (op : BinaryOp) (x y : TExpr) → IsPart x → IsPart y → Each IsPart (r.binary c op x y)
  binary_rule_suits c bo.Either x y h g = two_tests_suit e.either x y either_part h g
  binary_rule_suits c bo.Both x y h g = two_tests_suit e.both x y both_part h g
  binary_rule_suits c bo.Or x y h g = arithmetic_suits BitOr x y h g
  binary_rule_suits c bo.Xor x y h g = arithmetic_suits BitXor x y h g
  binary_rule_suits c bo.And x y h g = arithmetic_suits BitAnd x y h g
  binary_rule_suits c bo.Eq x y h g = equality_suits c Eq x y (λ b. refl) h g
  binary_rule_suits c bo.Ne x y h g = equality_suits c Ne x y (λ b. refl) h g
  binary_rule_suits c bo.Lt x y h g = order_suits Lt x y refl h g
  binary_rule_suits c bo.Gt x y h g = order_suits Gt x y refl h g
  binary_rule_suits c bo.Le x y h g = order_suits Le x y refl h g
  binary_rule_suits c bo.Ge x y h g = order_suits Ge x y refl h g
  binary_rule_suits c bo.Shl x y h g = shift_suits Shl x y h g
  binary_rule_suits c bo.Shr x y h g = shift_suits Shr x y h g
  binary_rule_suits c bo.Add x y h g = sum_suits c x y h g
  binary_rule_suits c bo.Sub x y h g = difference_suits c x y h g
  binary_rule_suits c bo.Mul x y h g = arithmetic_suits Mul x y h g
  binary_rule_suits c bo.Div x y h g = arithmetic_suits Div x y h g
  binary_rule_suits c bo.Rem x y h g = arithmetic_suits Rem x y h g

  pub unary_rule_suits : (c : Env) (op : UnaryOp) (x : TExpr) → IsPart x → Each IsPart (r.unary c op x)
  unary_rule_suits c uo.Deref x h = star_suits x h
  unary_rule_suits c uo.Address x h = address_suits x h
  unary_rule_suits c uo.Neg x h = negation_suits Neg x (λ t k. and_from (is_wide t) (same_type t t) k (same_self t)) h
  unary_rule_suits c uo.Not x h = denial_suits x h
  unary_rule_suits c uo.Flip x h = negation_suits Flip x (λ t k. and_from (is_wide t) (same_type t t) k (same_self t)) h
  unary_rule_suits c uo.Inc x h = step_suits c PreInc x h
  unary_rule_suits c uo.Dec x h = step_suits c PreDec x h

  pub assignment_suits : (c : Env) (op : AssignOp) (x y : TExpr) → IsPart x → IsPart y → Each IsPart (r.assignment c op x y)
  assignment_suits c ao.Set x y h g = assign_suits c x y h g
  assignment_suits c ao.Add x y h g = update_sum_suits c Add x y refl h g
  assignment_suits c ao.Sub x y h g = update_sum_suits c Sub x y refl h g
  assignment_suits c ao.Mul x y h g = update_suits Mul x y h g
  assignment_suits c ao.Div x y h g = update_suits Div x y h g
  assignment_suits c ao.Rem x y h g = update_suits Rem x y h g
  assignment_suits c ao.And x y h g = update_suits BitAnd x y h g
  assignment_suits c ao.Or x y h g = update_suits BitOr x y h g
  assignment_suits c ao.Xor x y h g = update_suits BitXor x y h g
  assignment_suits c ao.Shl x y h g = update_shift_suits Shl x y h g
  assignment_suits c ao.Shr x y h g = update_shift_suits Shr x y h g
