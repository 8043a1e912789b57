-- Expressions that suit go well, where no place of type void is read.
use Rattle.std.proofs.Common.{◌≡◌, Bool, true, false, ◌&&◌, ◌||◌, refl, sym, subst, ◌∙◌}
use Rattle.std.proofs.lemmas.Bool.{and_parts, or_from, or_left}
use Rattle.c_type.specs.declared.Kind.TheVariants as kinds
use Rattle.c_type.specs.Types.{CType, num, void, ptr, arr, struct, union, enum, fun, target, same_type, is_integer, is_pointer}
use Rattle.c_tree.specs.declared.TBinary.TheVariants.{Add}
use Rattle.c_tree.specs.TExpr as e
use Rattle.c_tree.specs.TExpr.{TExpr, TArgs, type_of}
use Rattle.c_run.specs.Values.{Value, converted, is_true, truth}
use Rattle.c_tree.specs.Constant.{is_zero}
use Rattle.c_run.specs.State.{State, Out, Gave, bind, choose}
use Rattle.c_run.specs.Context.{Linked, Context, shared, text_object, offset}
use Rattle.c_run.specs.Pointers.{load, store, copy, as_pointer, beyond}
use Rattle.c_run.specs.Exprs as x
use Rattle.c_run.specs.Exprs.{Arg, Call, value, place, args, unary_op, operate, stepped, updated, as_place, place_of, value_of, is_member}
use Rattle.c_rule.specs.RuleTypes.{is_void, is_function}
use Rattle.c_rule.specs.RuleValues.{is_scalar, is_place}
use Rattle.c_rule.specs.RuleExprs.{is_structure}
use Rattle.c_run.proofs.Suited.{same_is}
use Rattle.c_sound.specs.HasType.{IsPlace, PointsTo, HasType, Holds}
use Rattle.c_sound.specs.Suits.{is_used, Suits, SuitArgs}
use Rattle.c_sound.specs.Program.{IsBound, HasText, HaveSizes}
use Rattle.c_sound.proofs.Goes.{Goes, goes_bind, goes_choose, is_valued, HoldsArg, HoldArgs, CallsGo, AllExprsGo}
use Rattle.c_sound.proofs.Types.{number_has, converts_has, pointer_is, like_has, shared_like, shared_scalar, shared_integer}
use Rattle.c_sound.proofs.Memory.{IsSpot, goes_as, load_goes, store_goes, copy_goes}
use Rattle.c_sound.proofs.Pointers.{place_spot, as_pointer_goes, beyond_goes}
use Rattle.c_sound.proofs.Operators.{operate_goes, operands_are_scalars, updated_goes, stepped_goes, pick_true, pick_false, object_is}
use Rattle.c_sound.proofs.Constants.{zero_integer}
use Rattle.c_sound.proofs.Evaluation.{function_same, structure_same, function_valued, valued_scalar, void_has, object_goes, name_goes, variable_goes, target_goes, unary_goes, unary_scalar, truth_goes, size_goes, function_pointer, address_has, object_has, element_goes, callee_valued, callee_has}
use Rattle.c_sound.proofs.TypeTests.{used_valued, scalar_valued, integer_valued, object_scalar}

-- No place of type void is read, which would end by rule 0. Suits alone doesn't say so.
abbrev mutual
  pub ReadsNoVoid : TExpr → Type 0
  ReadsNoVoid (e.name t r) = is_void t ≡ false
  ReadsNoVoid (e.int t n) = Unit {0}
  ReadsNoVoid (e.text t k) = Unit {0}
  ReadsNoVoid (e.unary t op a) = ReadsNoVoid a
  ReadsNoVoid (e.deref t a) = ReadsNoVoid a × (is_void t ≡ false)
  ReadsNoVoid (e.address t a) = ReadsNoVoid a
  ReadsNoVoid (e.step t op a) = ReadsNoVoid a
  ReadsNoVoid (e.size_of a) = Unit {0}
  ReadsNoVoid (e.size_of_type of) = Unit {0}
  ReadsNoVoid (e.cast t a) = ReadsNoVoid a
  ReadsNoVoid (e.convert t a) = ReadsNoVoid a
  ReadsNoVoid (e.decay t a) = ReadsNoVoid a
  ReadsNoVoid (e.designate t a) = ReadsNoVoid a
  ReadsNoVoid (e.binary t op a b) = ReadsNoVoid a × ReadsNoVoid b
  ReadsNoVoid (e.both a b) = ReadsNoVoid a × ReadsNoVoid b
  ReadsNoVoid (e.either a b) = ReadsNoVoid a × ReadsNoVoid b
  ReadsNoVoid (e.comma t a b) = ReadsNoVoid a × ReadsNoVoid b
  ReadsNoVoid (e.choice t d a b) = ReadsNoVoid d × ReadsNoVoid a × ReadsNoVoid b
  ReadsNoVoid (e.assign t a b) = ReadsNoVoid a × ReadsNoVoid b
  ReadsNoVoid (e.update t op at a b) = ReadsNoVoid a × ReadsNoVoid b
  ReadsNoVoid (e.index t a i) = ReadsNoVoid a × ReadsNoVoid i × (is_void t ≡ false)
  ReadsNoVoid (e.call t f es) = ReadsNoVoid f × ArgsReadNoVoid es
  ReadsNoVoid (e.member t a m) = ReadsNoVoid a × (is_void t ≡ false)
  ReadsNoVoid (e.arrow t a m) = ReadsNoVoid a × (is_void t ≡ false)

  pub ArgsReadNoVoid : TArgs → Type 0
  ArgsReadNoVoid e.no_args = Unit {0}
  ArgsReadNoVoid (e.more_args a es) = ReadsNoVoid a × ArgsReadNoVoid es

-- A place may lie past its object's size where a member is named, until its address is taken.
abbrev pub PlaceOf : TExpr → Value → Type 0
PlaceOf a p = IsSpot p × (is_member a ≡ false → IsPlace p)

abbrev ValueGoes : Bool → Context → Call → TExpr → State → Type 0
ValueGoes ch c go a s = Goes ch c.whole (HasType c.whole (type_of a)) (value c go a s)

abbrev PlaceGoes : Bool → Context → Call → TExpr → State → Type 0
PlaceGoes ch c go a s = Goes ch c.whole (PlaceOf a) (place c go a s)

pub goes_typed : (ch : Bool) (w : Linked) (u t : CType) (o : Out Value) → u ≡ t → Goes ch w (HasType w u) o → Goes ch w (HasType w t) o
goes_typed ch w u t o q h = subst (λ r. Goes ch w (HasType w r) o) q h

a_place : (a : TExpr) (p : Value) → IsPlace p → PlaceOf a p
a_place a p i = (place_spot p i, λ q. i)

goes_place : (ch : Bool) (w : Linked) (a : TExpr) (o : Out Value) → Goes ch w IsPlace o → Goes ch w (PlaceOf a) o
goes_place ch w a o h = goes_as ch w IsPlace (PlaceOf a) o (a_place a) h

converted_goes : (ch : Bool) (w : Linked) (t u : CType) (o : Out Value) → ((v : Value) → HasType w u v → HasType w t (converted t v)) → Goes ch w (HasType w u) o →
    Goes ch w (HasType w t) (bind o (λ v s1. Gave (converted t v) s1))
converted_goes ch w t u o f h = goes_bind ch w (HasType w u) (HasType w t) o _ h (λ v s1 hv h1. (f v hv, h1))

test_goes : (ch : Bool) (w : Linked) (u : CType) (o : Out Value) → Goes ch w (HasType w u) o → Goes ch w (HasType w (num kinds.Int)) (bind o (λ y s3. Gave (truth (is_true y)) s3))
test_goes ch w u o h = goes_bind ch w (HasType w u) (HasType w (num kinds.Int)) o _ h (λ y s1 hy h1. truth_goes ch w (is_true y) s1 h1)

-- the address of what is no function
place_address_goes : (ch : Bool) (c : Context) (t : CType) (a : TExpr) (o : Out Value) → is_function (type_of a) ≡ false → t ≡ ptr (type_of a) → Goes ch c.whole (PlaceOf a) o →
    Goes ch c.whole (HasType c.whole t) (bind o (λ p s2. choose (is_member a) s2 (as_pointer p) (Gave p)))
place_address_goes ch c t a o f q h =
    goes_bind ch c.whole (PlaceOf a) (HasType c.whole t) o _ h
    (λ p s1 hp h1. goes_choose ch c.whole (HasType c.whole t) (is_member a) s1 (as_pointer p) (Gave p)
    (λ m. goes_as ch c.whole IsPlace (HasType c.whole t) (as_pointer p s1) (λ y. address_has c.whole t (type_of a) y f q) (as_pointer_goes ch c.whole p s1 hp.0 h1))
    (λ m. (address_has c.whole t (type_of a) p f q (hp.1 m), h1)))

or_place : (f p : Bool) → (f || p) ≡ true → f ≡ false → p ≡ true
or_place true p h q = cc
or_place false p h q = h

member_goes : (ch : Bool) (c : Context) (t : CType) (d : _) (p : Value) (s : State) → is_scalar t ≡ true → IsSpot p → Holds c.whole s →
    Goes ch c.whole (HasType c.whole t) (bind (beyond d p s) (load c t))
member_goes ch c t d p s sc i h =
    goes_bind ch c.whole IsSpot (HasType c.whole t) (beyond d p s) (load c t) (beyond_goes ch c.whole d p s i h) (λ y s1 hy h1. load_goes ch c t y s1 sc hy h1)

beyond_place : (ch : Bool) (w : Linked) (a : TExpr) (d : _) (p : Value) (s : State) → is_member a ≡ true → IsSpot p → Holds w s → Goes ch w (PlaceOf a) (beyond d p s)
beyond_place ch w a d p s m i h =
    goes_as ch w IsSpot (PlaceOf a) (beyond d p s) (λ y hy. (hy, λ q. absurd (let k = sym m ∙ q in cc))) (beyond_goes ch w d p s i h)

is_place_deref : (t : CType) (a : TExpr) → is_place (e.deref t a) ≡ true → is_function t ≡ false
is_place_deref (num k) a h = refl
is_place_deref void a h = refl
is_place_deref (ptr t) a h = refl
is_place_deref (arr n t) a h = refl
is_place_deref (struct k) a h = refl
is_place_deref (union k) a h = refl
is_place_deref (enum k) a h = refl
is_place_deref (fun t) a h = cc

pointer_valued : (t u : CType) → u ≡ ptr t → is_valued u ≡ true
pointer_valued t u q = subst (λ r. is_valued r ≡ true) (sym q) refl

no_value : (t : CType) → is_used t ≡ false → is_function t ≡ false → is_valued t ≡ true → ⊥
no_value t u f v = let k = or_from (is_used t) (is_function t) u f in absurd (let e = sym v ∙ k in cc)

copied_goes : (ch : Bool) (c : Context) (t : CType) (a b : TExpr) (p : Value) (o : Out Value) → is_void t ≡ true → IsSpot p → Goes ch c.whole (PlaceOf b) o →
    Goes ch c.whole (HasType c.whole t) (bind o (copy c (type_of a) p))
copied_goes ch c t a b p o d i h =
    goes_bind ch c.whole (PlaceOf b) (HasType c.whole t) o (copy c (type_of a) p) h
    (λ y s1 hy h1. goes_as ch c.whole (λ u. Unit {0}) (HasType c.whole t) (copy c (type_of a) p y s1) (λ u hu. void_has c.whole t u d)
    (copy_goes ch c (type_of a) p y s1 i hy.0 h1))

stored_goes : (ch : Bool) (c : Context) (t u r : CType) (p : Value) (o : Out Value) → is_scalar u ≡ true → u ≡ r → t ≡ u → IsSpot p → Goes ch c.whole (HasType c.whole r) o →
    Goes ch c.whole (HasType c.whole t) (bind o (store c u p))
stored_goes ch c t u r p o sc same of i h =
    goes_bind ch c.whole (HasType c.whole r) (HasType c.whole t) o (store c u p) h
    (λ y s1 hy h1. goes_typed ch c.whole u t (store c u p y s1) (sym of)
    (store_goes ch c u p y s1 sc i (subst (λ x. HasType c.whole x y) (sym same) hy) h1))

argument_holds : (calls : Bool) (c : Context) (a : TExpr) (v : Value) → Suits calls (IsBound c) (HasText c) a → is_scalar (type_of a) ≡ true → HasType c.whole (type_of a) v →
    HoldsArg c.whole (record { ty = shared c.classes (type_of a); zero = is_zero c.tags a; val = v })
argument_holds calls c a v q sc h = (
  like_has c.whole (type_of a) (shared c.classes (type_of a)) v (shared_like c.classes (type_of a)) h,
  shared_scalar c.classes (type_of a) sc,
  λ e. shared_integer c.classes (type_of a) (zero_integer calls c c.tags a q e),
)

mutual
  pub value_goes : (ch calls : Bool) (c : Context) (go : Call) → (calls ≡ true → CallsGo ch c.whole go) → HaveSizes c.tags → (a : TExpr) (s : State) →
      Suits calls (IsBound c) (HasText c) a → ReadsNoVoid a → is_valued (type_of a) ≡ true → Holds c.whole s → ValueGoes ch c go a s
  value_goes ch calls c go k z (e.name t r) s q n v h = name_goes ch c t r s q.0 n v h
  value_goes ch calls c go k z (e.int t m) s q n v h = (number_has c.whole t m (or_left (is_integer t) (is_pointer t) q), h)
  value_goes ch calls c go k z (e.text t m) s q n v h = absurd (no_value t q.1 q.2 v)
  value_goes ch calls c go k z (e.unary t op a) s q n v h =
      goes_bind ch c.whole (HasType c.whole (type_of a)) (HasType c.whole t) (value c go a s) (unary_op op)
      (value_goes ch calls c go k z a s q.0 n (scalar_valued (type_of a) (unary_scalar t op (type_of a) q.1)) h)
      (λ y s1 hy h1. unary_goes ch c.whole t op (type_of a) y s1 q.1 hy h1)
  value_goes ch calls c go k z (e.deref t a) s q n v h =
      goes_bind ch c.whole (HasType c.whole (ptr t)) (HasType c.whole t) (value c go a s) (load c t)
      (goes_typed ch c.whole (type_of a) (ptr t) (value c go a s) q.1 (value_goes ch calls c go k z a s q.0 n.0 (pointer_valued t (type_of a) q.1) h))
      (λ p s1 hp h1. target_goes ch c t p s1 n.1 v hp h1)
  value_goes ch calls c go k z (e.address t a) s q n v h =
      goes_choose ch c.whole (HasType c.whole t) (x.is_function (type_of a)) s (value c go a)
      (λ s1. bind (place c go a s1) (λ p s2. choose (is_member a) s2 (as_pointer p) (Gave p)))
      (λ f. let g = sym (function_same (type_of a)) ∙ f in
      goes_as ch c.whole (HasType c.whole (type_of a)) (HasType c.whole t) (value c go a s) (λ y. function_pointer c.whole t (type_of a) y g q.2)
      (value_goes ch calls c go k z a s q.0 n (function_valued (type_of a) g) h))
      (λ f. let g = sym (function_same (type_of a)) ∙ f in
      place_address_goes ch c t a (place c go a s) g q.2
      (place_goes ch calls c go k z a s q.0 n (or_place (is_function (type_of a)) (is_place a) q.1 g) h))
  value_goes ch calls c go k z (e.step t op a) s q n v h =
      goes_bind ch c.whole (PlaceOf a) (HasType c.whole t) (place c go a s) (stepped c t op) (place_goes ch calls c go k z a s q.0 n q.1 h)
      (λ p s1 hp h1. stepped_goes ch c t op p s1 q.3 hp.0 h1)
  value_goes ch calls c go k z (e.size_of a) s q n v h = size_goes ch c.whole c.tags (type_of a) s z h
  value_goes ch calls c go k z (e.size_of_type of) s q n v h = size_goes ch c.whole c.tags of s z h
  value_goes ch calls c go k z (e.cast t a) s q n v h =
      converted_goes ch c.whole t (type_of a) (value c go a s) (λ y. converts_has c.whole t (type_of a) y q.1 q.2)
      (value_goes ch calls c go k z a s q.0 n (used_valued (type_of a) q.1) h)
  value_goes ch calls c go k z (e.convert t a) s q n v h =
      converted_goes ch c.whole t (type_of a) (value c go a s) (λ y. converts_has c.whole t (type_of a) y q.1 q.2)
      (value_goes ch calls c go k z a s q.0 n (used_valued (type_of a) q.1) h)
  value_goes ch calls c go k z (e.decay t a) s q n v h =
      goes_bind ch c.whole (PlaceOf a) (HasType c.whole t) (place c go a s) as_pointer (place_goes ch calls c go k z a s q.0 n q.1 h)
      (λ p s1 hp h1. goes_as ch c.whole IsPlace (HasType c.whole t) (as_pointer p s1) (λ y. object_has c.whole t y q.2) (as_pointer_goes ch c.whole p s1 hp.0 h1))
  value_goes ch calls c go k z (e.designate t a) s q n v h =
      goes_as ch c.whole (HasType c.whole (type_of a)) (HasType c.whole t) (value c go a s) (λ y. function_pointer c.whole t (type_of a) y q.1 q.2)
      (value_goes ch calls c go k z a s q.0 n (function_valued (type_of a) q.1) h)
  value_goes ch calls c go k z (e.binary t op a b) s q n v h =
      let sc = operands_are_scalars t op (type_of a) (type_of b) q.2 in
      goes_bind ch c.whole (HasType c.whole (type_of a)) (HasType c.whole t) (value c go a s) _
      (value_goes ch calls c go k z a s q.0 n.0 (scalar_valued (type_of a) sc.0) h)
      (λ y s1 hy h1. goes_bind ch c.whole (HasType c.whole (type_of b)) (HasType c.whole t) (value c go b s1) (operate c op (type_of a) (type_of b) y)
      (value_goes ch calls c go k z b s1 q.1 n.1 (scalar_valued (type_of b) sc.1) h1)
      (λ y2 s2 hy2 h2. operate_goes ch c t op (type_of a) (type_of b) y y2 s2 q.2 hy hy2 h2))
  value_goes ch calls c go k z (e.both a b) s q n v h =
      goes_bind ch c.whole (HasType c.whole (type_of a)) (HasType c.whole (num kinds.Int)) (value c go a s) _
      (value_goes ch calls c go k z a s q.0 n.0 (scalar_valued (type_of a) q.2) h)
      (λ y s1 hy h1. goes_choose ch c.whole (HasType c.whole (num kinds.Int)) (is_true y) s1 _ _
      (λ d. test_goes ch c.whole (type_of b) (value c go b s1) (value_goes ch calls c go k z b s1 q.1 n.1 (scalar_valued (type_of b) q.3) h1))
      (λ d. truth_goes ch c.whole false s1 h1))
  value_goes ch calls c go k z (e.either a b) s q n v h =
      goes_bind ch c.whole (HasType c.whole (type_of a)) (HasType c.whole (num kinds.Int)) (value c go a s) _
      (value_goes ch calls c go k z a s q.0 n.0 (scalar_valued (type_of a) q.2) h)
      (λ y s1 hy h1. goes_choose ch c.whole (HasType c.whole (num kinds.Int)) (is_true y) s1 _ _
      (λ d. truth_goes ch c.whole true s1 h1)
      (λ d. test_goes ch c.whole (type_of b) (value c go b s1) (value_goes ch calls c go k z b s1 q.1 n.1 (scalar_valued (type_of b) q.3) h1)))
  value_goes ch calls c go k z (e.comma t a b) s q n v h =
      goes_bind ch c.whole (HasType c.whole (type_of a)) (HasType c.whole t) (value c go a s) _
      (value_goes ch calls c go k z a s q.0 n.0 (used_valued (type_of a) q.2) h)
      (λ y s1 hy h1. goes_typed ch c.whole (type_of b) t (value c go b s1) q.4
      (value_goes ch calls c go k z b s1 q.1 n.1 (subst (λ u. is_valued u ≡ true) (sym q.4) v) h1))
  value_goes ch calls c go k z (e.choice t d a b) s q n v h =
      goes_bind ch c.whole (HasType c.whole (type_of d)) (HasType c.whole t) (value c go d s) _
      (value_goes ch calls c go k z d s q.0 n.0 (scalar_valued (type_of d) q.3) h)
      (λ y s1 hy h1. goes_choose ch c.whole (HasType c.whole t) (is_true y) s1 (value c go a) (value c go b)
      (λ w. goes_typed ch c.whole (type_of a) t (value c go a s1) q.5
      (value_goes ch calls c go k z a s1 q.1 n.1 (subst (λ u. is_valued u ≡ true) (sym q.5) v) h1))
      (λ w. goes_typed ch c.whole (type_of b) t (value c go b s1) q.6
      (value_goes ch calls c go k z b s1 q.2 n.2 (subst (λ u. is_valued u ≡ true) (sym q.6) v) h1)))
  value_goes ch calls c go k z (e.assign t a b) s q n v h =
      goes_bind ch c.whole (PlaceOf a) (HasType c.whole t) (place c go a s) _ (place_goes ch calls c go k z a s q.0 n.0 q.2 h)
      (λ p s1 hp h1. goes_choose ch c.whole (HasType c.whole t) (x.is_structure (type_of a)) s1
      (λ s2. bind (place c go b s2) (copy c (type_of a) p)) (λ s2. bind (value c go b s2) (store c (type_of a) p))
      (λ f. let g = sym (structure_same (type_of a)) ∙ f in
      let d = and_parts (is_place b) (is_void t) (pick_true (is_structure (type_of a)) _ _ g q.3) in
      copied_goes ch c t a b p (place c go b s1) d.1 hp.0 (place_goes ch calls c go k z b s1 q.1 n.1 d.0 h1))
      (λ f. let g = sym (structure_same (type_of a)) ∙ f in
      let d = and_parts (is_scalar (type_of a)) (same_type (type_of a) (type_of b) && same_type t (type_of a)) (pick_false (is_structure (type_of a)) _ _ g q.3) in
      let d2 = and_parts (same_type (type_of a) (type_of b)) (same_type t (type_of a)) d.1 in
      let same = same_is (type_of a) (type_of b) d2.0 in
      stored_goes ch c t (type_of a) (type_of b) p (value c go b s1) d.0 same (same_is t (type_of a) d2.1) hp.0
      (value_goes ch calls c go k z b s1 q.1 n.1 (scalar_valued (type_of b) (subst (λ u. is_scalar u ≡ true) same d.0)) h1)))
  value_goes ch calls c go k z (e.update t op at a b) s q n v h =
      goes_bind ch c.whole (PlaceOf a) (HasType c.whole t) (place c go a s) _ (place_goes ch calls c go k z a s q.0 n.0 q.2 h)
      (λ p s1 hp h1. goes_bind ch c.whole (HasType c.whole (type_of b)) (HasType c.whole t) (value c go b s1) (updated c t op at (type_of b) p)
      (value_goes ch calls c go k z b s1 q.1 n.1 (scalar_valued (type_of b) (operands_are_scalars at op at (type_of b) q.6).1) h1)
      (λ y s2 hy h2. updated_goes ch c t op at (type_of b) p y s2 q.3 q.5 q.6 q.7 hp.0 hy h2))
  value_goes ch calls c go k z (e.index t a i) s q n v h =
      goes_bind ch c.whole (HasType c.whole (type_of a)) (HasType c.whole t) (value c go a s) _
      (value_goes ch calls c go k z a s q.0 n.0 (pointer_valued t (type_of a) q.2) h)
      (λ y s1 hy h1. goes_bind ch c.whole (HasType c.whole (type_of i)) (HasType c.whole t) (value c go i s1) _
      (value_goes ch calls c go k z i s1 q.1 n.1 (integer_valued (type_of i) q.4) h1)
      (λ y2 s2 hy2 h2. goes_bind ch c.whole (PointsTo c.whole t) (HasType c.whole t) (operate c Add (type_of a) (type_of i) y y2 s2) (load c t)
      (element_goes ch c t (type_of a) (type_of i) y y2 s2 q.2 q.3 q.4 hy hy2 h2)
      (λ p s3 hp h3. target_goes ch c t p s3 n.2 v hp h3)))
  value_goes ch calls c go k z (e.call t f es) s q n v h =
      goes_bind ch c.whole (HasType c.whole (type_of f)) (HasType c.whole t) (value c go f s) _
      (value_goes ch calls c go k z f s q.1 n.0 (callee_valued t (type_of f) q.3) h)
      (λ g s1 hg h1. goes_bind ch c.whole (HoldArgs c.whole) (HasType c.whole t) (args c go es s1) (go g)
      (args_go ch calls c go k z es s1 q.2 n.1 h1)
      (λ vs s2 hvs h2. k q.0 t g vs s2 (callee_has c.whole t (type_of f) g q.3 hg) hvs h2))
  value_goes ch calls c go k z (e.member t a m) s q n v h =
      goes_bind ch c.whole (PlaceOf a) (HasType c.whole t) (place c go a s) _ (place_goes ch calls c go k z a s q.0 n.0 q.1 h)
      (λ p s1 hp h1. member_goes ch c t (offset c (type_of a) m) p s1 (valued_scalar t v n.1 q.2) hp.0 h1)
  value_goes ch calls c go k z (e.arrow t a m) s q n v h =
      goes_bind ch c.whole (HasType c.whole (type_of a)) (HasType c.whole t) (value c go a s) _
      (value_goes ch calls c go k z a s q.0 n.0 (scalar_valued (type_of a) (object_scalar (type_of a) q.1)) h)
      (λ p s1 hp h1. member_goes ch c t (offset c (target (type_of a)) m) p s1 (valued_scalar t v n.1 q.2) (place_spot p (object_is c.whole (type_of a) p q.1 hp)) h1)

  pub place_goes : (ch calls : Bool) (c : Context) (go : Call) → (calls ≡ true → CallsGo ch c.whole go) → HaveSizes c.tags → (a : TExpr) (s : State) →
      Suits calls (IsBound c) (HasText c) a → ReadsNoVoid a → is_place a ≡ true → Holds c.whole s → PlaceGoes ch c go a s
  place_goes ch calls c go k z (e.name t r) s q n v h = goes_place ch c.whole (e.name t r) (place_of c r s) (variable_goes ch c t r s q.0 v h)
  place_goes ch calls c go k z (e.text t m) s q n v h = goes_place ch c.whole (e.text t m) (as_place (text_object c m) s) (object_goes ch c.whole (text_object c m) s q.0 h)
  place_goes ch calls c go k z (e.deref t a) s q n v h =
      goes_as ch c.whole (HasType c.whole (ptr t)) (PlaceOf (e.deref t a)) (value c go a s)
      (λ p hp. a_place (e.deref t a) p (pointer_is c.whole t p (is_place_deref t a v) hp))
      (goes_typed ch c.whole (type_of a) (ptr t) (value c go a s) q.1 (value_goes ch calls c go k z a s q.0 n.0 (pointer_valued t (type_of a) q.1) h))
  place_goes ch calls c go k z (e.index t a i) s q n v h =
      goes_bind ch c.whole (HasType c.whole (type_of a)) (PlaceOf (e.index t a i)) (value c go a s) _
      (value_goes ch calls c go k z a s q.0 n.0 (pointer_valued t (type_of a) q.2) h)
      (λ y s1 hy h1. goes_bind ch c.whole (HasType c.whole (type_of i)) (PlaceOf (e.index t a i)) (value c go i s1) (operate c Add (type_of a) (type_of i) y)
      (value_goes ch calls c go k z i s1 q.1 n.1 (integer_valued (type_of i) q.4) h1)
      (λ y2 s2 hy2 h2. goes_as ch c.whole (PointsTo c.whole t) (PlaceOf (e.index t a i)) (operate c Add (type_of a) (type_of i) y y2 s2)
      (λ p hp. a_place (e.index t a i) p (pointer_is c.whole t p q.3 hp))
      (element_goes ch c t (type_of a) (type_of i) y y2 s2 q.2 q.3 q.4 hy hy2 h2)))
  place_goes ch calls c go k z (e.member t a m) s q n v h =
      goes_bind ch c.whole (PlaceOf a) (PlaceOf (e.member t a m)) (place c go a s) _ (place_goes ch calls c go k z a s q.0 n.0 q.1 h)
      (λ p s1 hp h1. beyond_place ch c.whole (e.member t a m) (offset c (type_of a) m) p s1 refl hp.0 h1)
  place_goes ch calls c go k z (e.arrow t a m) s q n v h =
      goes_bind ch c.whole (HasType c.whole (type_of a)) (PlaceOf (e.arrow t a m)) (value c go a s) _
      (value_goes ch calls c go k z a s q.0 n.0 (scalar_valued (type_of a) (object_scalar (type_of a) q.1)) h)
      (λ p s1 hp h1. beyond_place ch c.whole (e.arrow t a m) (offset c (target (type_of a)) m) p s1 refl (place_spot p (object_is c.whole (type_of a) p q.1 hp)) h1)
  place_goes ch calls c go k z _ s q n v h = absurd cc

  pub args_go : (ch calls : Bool) (c : Context) (go : Call) → (calls ≡ true → CallsGo ch c.whole go) → HaveSizes c.tags → (es : TArgs) (s : State) →
      SuitArgs calls (IsBound c) (HasText c) es → ArgsReadNoVoid es → Holds c.whole s → Goes ch c.whole (HoldArgs c.whole) (args c go es s)
  args_go ch calls c go k z e.no_args s q n h = (tt, h)
  args_go ch calls c go k z (e.more_args a es) s q n h =
      goes_bind ch c.whole (HasType c.whole (type_of a)) (HoldArgs c.whole) (value c go a s) _
      (value_goes ch calls c go k z a s q.0 n.0 (scalar_valued (type_of a) q.1) h)
      (λ v s1 hv h1. goes_bind ch c.whole (HoldArgs c.whole) (HoldArgs c.whole) (args c go es s1) _ (args_go ch calls c go k z es s1 q.2 n.1 h1)
      (λ vs s2 hvs h2. ((argument_holds calls c a v q.0 q.1 hv, hvs), h2)))

mutual
  reads_no_void : (calls : Bool) (c : Context) (a : TExpr) → Suits calls (IsBound c) (HasText c) a → ReadsNoVoid a
  reads_no_void calls c (e.name t r) q = q.1
  reads_no_void calls c (e.int t n) q = tt
  reads_no_void calls c (e.text t k) q = tt
  reads_no_void calls c (e.unary t op a) q = reads_no_void calls c a q.0
  reads_no_void calls c (e.deref t a) q = (reads_no_void calls c a q.0, q.2)
  reads_no_void calls c (e.address t a) q = reads_no_void calls c a q.0
  reads_no_void calls c (e.step t op a) q = reads_no_void calls c a q.0
  reads_no_void calls c (e.size_of a) q = tt
  reads_no_void calls c (e.size_of_type of) q = tt
  reads_no_void calls c (e.cast t a) q = reads_no_void calls c a q.0
  reads_no_void calls c (e.convert t a) q = reads_no_void calls c a q.0
  reads_no_void calls c (e.decay t a) q = reads_no_void calls c a q.0
  reads_no_void calls c (e.designate t a) q = reads_no_void calls c a q.0
  reads_no_void calls c (e.binary t op a b) q = (reads_no_void calls c a q.0, reads_no_void calls c b q.1)
  reads_no_void calls c (e.both a b) q = (reads_no_void calls c a q.0, reads_no_void calls c b q.1)
  reads_no_void calls c (e.either a b) q = (reads_no_void calls c a q.0, reads_no_void calls c b q.1)
  reads_no_void calls c (e.comma t a b) q = (reads_no_void calls c a q.0, reads_no_void calls c b q.1)
  reads_no_void calls c (e.choice t d a b) q = (reads_no_void calls c d q.0, reads_no_void calls c a q.1, reads_no_void calls c b q.2)
  reads_no_void calls c (e.assign t a b) q = (reads_no_void calls c a q.0, reads_no_void calls c b q.1)
  reads_no_void calls c (e.update t op at a b) q = (reads_no_void calls c a q.0, reads_no_void calls c b q.1)
  reads_no_void calls c (e.index t a i) q = (reads_no_void calls c a q.0, reads_no_void calls c i q.1, q.5)
  reads_no_void calls c (e.call t f es) q = (reads_no_void calls c f q.1, args_read_no_void calls c es q.2)
  reads_no_void calls c (e.member t a m) q = (reads_no_void calls c a q.0, q.3)
  reads_no_void calls c (e.arrow t a m) q = (reads_no_void calls c a q.0, q.3)

  args_read_no_void : (calls : Bool) (c : Context) (es : TArgs) → SuitArgs calls (IsBound c) (HasText c) es → ArgsReadNoVoid es
  args_read_no_void calls c e.no_args q = tt
  args_read_no_void calls c (e.more_args a es) q = (reads_no_void calls c a q.0, args_read_no_void calls c es q.2)

pub exprs_go : (ch : Bool) → AllExprsGo ch
exprs_go ch c calls go k z a s q v h = value_goes ch calls c go k z a s q (reads_no_void calls c a q) v h
