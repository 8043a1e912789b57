-- What each rule on expressions gives says what its parts say, one behind the other.
use Rattle.std.proofs.Common.{◌≡◌, ℕ, List, ◌++◌, Option, Some, None, Bool, true, false, not, refl, ◌∙◌, subst}
use Rattle.std.specs.Prelude.{◌&&◌, ◌||◌}
use Rattle.c_type.specs.Names.{Name, pick, at_or}
use Rattle.c_type.specs.Sizes.{no_tag}
use Rattle.c_type.specs.Types.{CType, num, void, ptr, arr, struct, union, enum, fun, same_type, is_integer, is_pointer, target}
use Rattle.c_tree.specs.TExpr as e
use Rattle.c_tree.specs.TExpr.{TExpr, type_of}
use Rattle.c_tree.specs.declared.TBinary.{TBinary}
use Rattle.c_tree.specs.declared.TBinary.TheVariants.{Mul, Div, Rem, Add, Sub, Shl, Shr, Lt, Gt, Le, Ge, Eq, Ne, BitAnd, BitXor, BitOr}
use Rattle.c_tree.specs.declared.TUnary.{TUnary}
use Rattle.c_tree.specs.declared.TUnary.TheVariants.{Neg, Flip}
use Rattle.c_tree.specs.declared.TStep.{TStep}
use Rattle.c_tree.specs.declared.TStep.TheVariants.{PreInc, PreDec}
use Rattle.c_tree.specs.declared.expr.AssignOp.TheVariants as ao
use Rattle.c_tree.specs.declared.expr.BinaryOp.TheVariants as bo
use Rattle.c_tree.specs.declared.expr.UnaryOp.TheVariants as uo
use Rattle.c_tree.specs.declared.expr.AssignOp.{AssignOp}
use Rattle.c_tree.specs.declared.expr.BinaryOp.{BinaryOp}
use Rattle.c_tree.specs.declared.expr.UnaryOp.{UnaryOp}
use Rattle.c_run.specs.Mentions.{Mention, in_expr}
use Rattle.c_rule.specs.RuleScope.{Judged, Is, onward, provided, Env, known, is_sized}
use Rattle.c_rule.specs.RuleTypes.{is_void, is_function}
use Rattle.c_rule.specs.RuleExprs as r
use Rattle.c_rule.specs.RuleExprs.{is_number, is_structure}
use Rattle.c_rule.specs.RuleValues.{target_is_sized, used, used_as, to_type, wide, widen, meeting, integer, scalar, is_scalar, is_object_pointer, is_place, is_open, is_taken, taken, value_for, are_alike, are_integers, is_with_zero}
use Rattle.c_rule.specs.RuleDecls.{first_value, is_known}
use Rattle.c_sound.proofs.Outcomes.{Each, onward_each, provided_each}

-- outcomes

-- what a rule gives says these
abbrev pub Says : List Mention → Judged TExpr → Type 0
Says ms j = Each (λ t. in_expr t ≡ ms) j

onward_says : (ms ns : List Mention) (j : Judged TExpr) (go : TExpr → Judged TExpr) → Says ms j → ((v : TExpr) → in_expr v ≡ ms → Says ns (go v)) → Says ns (onward j go)
onward_says ms ns j go h f = onward_each (λ t. in_expr t ≡ ms) (λ t. in_expr t ≡ ns) j go h f

provided_says : (ms : List Mention) (n : ℕ) (b : Bool) (j : Judged TExpr) → Says ms j → Says ms (provided n b j)
provided_says ms n b j h = provided_each (λ t. in_expr t ≡ ms) n b j (λ q. h)

pick_says : (ms : List Mention) (b : Bool) (j k : Judged TExpr) → Says ms j → Says ms k → Says ms (pick b j k)
pick_says ms true j k h g = h
pick_says ms false j k h g = g

two_say : (ms ns : List Mention) (j k : Judged TExpr) (go : TExpr → TExpr → Judged TExpr) → Says ms j → Says ns k →
    ((v w : TExpr) → in_expr v ≡ ms → in_expr w ≡ ns → Says (ms ++ ns) (go v w)) → Says (ms ++ ns) (onward j (λ v. onward k (go v)))
two_say ms ns j k go h g f = onward_says ms (ms ++ ns) j _ h (λ v p. onward_says ns (ms ++ ns) k (go v) g (λ w q. f v w p q))

-- two lists, one behind the other
behind : (ms ns ks ls : List Mention) → ms ≡ ks → ns ≡ ls → ms ++ ns ≡ ks ++ ls
behind ms ns ks ls p q = rw (p, q) refl

-- values

used_as_says : (t : CType) (x : TExpr) → Says (in_expr x) (used_as t x)
used_as_says (num k) x = refl
used_as_says void x = refl
used_as_says (ptr t) x = refl
used_as_says (arr m t) x = refl
used_as_says (struct k) x = tt
used_as_says (union k) x = tt
used_as_says (enum k) x = refl
used_as_says (fun t) x = refl

pub used_says : (x : TExpr) → Says (in_expr x) (used x)
used_says x = used_as_says (type_of x) x

pub to_type_says : (t : CType) (v : TExpr) → in_expr (to_type t v) ≡ in_expr v
to_type_says t v = case_of (same_type t (type_of v))
  where
    case_of : (b : Bool) → in_expr (pick b v (e.convert t v)) ≡ in_expr v
    case_of true = refl
    case_of false = refl

pub widen_says : (v : TExpr) → in_expr (widen v) ≡ in_expr v
widen_says v = to_type_says (wide (type_of v)) v

pub scalar_says : (n : ℕ) (x : TExpr) → Says (in_expr x) (scalar n x)
scalar_says n x = onward_says (in_expr x) (in_expr x) (used x) _ (used_says x) (λ v h. provided_says (in_expr x) n (is_scalar (type_of v)) (Is v) h)

pub integer_says : (n : ℕ) (x : TExpr) → Says (in_expr x) (integer n x)
integer_says n x =
    onward_says (in_expr x) (in_expr x) (used x) _ (used_says x) (λ v h. provided_says (in_expr x) n (is_integer (type_of v)) (Is (widen v)) (widen_says v ∙ h))

pub taken_says : (n : ℕ) (c : Env) (t : CType) (w : TExpr) → Says (in_expr w) (taken n c t w)
taken_says n c t w = provided_says (in_expr w) n (is_taken c t w) (Is (to_type t w)) (to_type_says t w)

-- what is taken of a value that says these
taken_of : (ms : List Mention) (n : ℕ) (c : Env) (t : CType) (w : TExpr) → in_expr w ≡ ms → Says ms (taken n c t w)
taken_of ms n c t w h = subst (λ ns. Says ns (taken n c t w)) h (taken_says n c t w)

pub value_says : (n : ℕ) (c : Env) (t : CType) (x : TExpr) → Says (in_expr x) (value_for n c t x)
value_says n c t x = onward_says (in_expr x) (in_expr x) (used x) (taken n c t) (used_says x) (λ w h. taken_of (in_expr x) n c t w h)

pub first_says : (c : Env) (t : CType) (x : TExpr) → Says (in_expr x) (first_value c t x)
first_says c t x =
    onward_says (in_expr x) (in_expr x) (used x) _ (used_says x) (λ w h. provided_says (in_expr x) 10 (is_known c.tags t w) _ (taken_of (in_expr x) 10 c t w h))

-- two operands

two_used : (go : TExpr → TExpr → Judged TExpr) (x y : TExpr) →
    ((v w : TExpr) → in_expr v ≡ in_expr x → in_expr w ≡ in_expr y → Says (in_expr x ++ in_expr y) (go v w)) → Says (in_expr x ++ in_expr y) (onward (used x) (λ v. onward (used y) (go v)))
two_used go x y f = two_say (in_expr x) (in_expr y) (used x) (used y) go (used_says x) (used_says y) f

two_integers : (go : TExpr → TExpr → Judged TExpr) (n : ℕ) (x y : TExpr) →
    ((v w : TExpr) → in_expr v ≡ in_expr x → in_expr w ≡ in_expr y → Says (in_expr x ++ in_expr y) (go v w)) →
    Says (in_expr x ++ in_expr y) (onward (integer n x) (λ v. onward (integer n y) (go v)))
two_integers go n x y f = two_say (in_expr x) (in_expr y) (integer n x) (integer n y) go (integer_says n x) (integer_says n y) f

met_says : (op : TBinary) (v w : TExpr) → in_expr (r.met op v w) ≡ in_expr v ++ in_expr w
met_says op v w = let t = meeting (type_of v) (type_of w) in behind _ _ _ _ (to_type_says t v) (to_type_says t w)

compared_says : (op : TBinary) (v w : TExpr) → in_expr (r.compared op v w) ≡ in_expr v ++ in_expr w
compared_says op v w = let t = meeting (type_of v) (type_of w) in behind _ _ _ _ (to_type_says t v) (to_type_says t w)

pub arithmetic_says : (op : TBinary) (x y : TExpr) → Says (in_expr x ++ in_expr y) (r.arithmetic op x y)
arithmetic_says op x y = two_integers _ 12 x y (λ v w p q. met_says op v w ∙ behind _ _ _ _ p q)

pub shift_says : (op : TBinary) (x y : TExpr) → Says (in_expr x ++ in_expr y) (r.shift op x y)
shift_says op x y = two_integers _ 12 x y (λ v w p q. behind _ _ _ _ p q)

moved_says : (c : Env) (op : TBinary) (v w : TExpr) → Says (in_expr v ++ in_expr w) (r.pointer_and_integer c op v w)
moved_says c op v w = provided_says (in_expr v ++ in_expr w) 3 (target_is_sized c (type_of v)) _ (behind _ _ _ _ refl (widen_says w))

pub sum_says : (c : Env) (x y : TExpr) → Says (in_expr x ++ in_expr y) (r.sum c x y)
sum_says c x y =
    two_used _ x y (λ v w p q.
    let ms = in_expr x ++ in_expr y in
    pick_says ms (are_integers v w) _ _ (met_says Add (widen v) (widen w) ∙ behind _ _ _ _ (widen_says v ∙ p) (widen_says w ∙ q))
    (pick_says ms (is_object_pointer (type_of v) && is_integer (type_of w)) _ _ (subst (λ ns. Says ns (r.pointer_and_integer c Add v w)) (behind _ _ _ _ p q) (moved_says c Add v w))
    (pick_says ms (is_integer (type_of v) && is_object_pointer (type_of w)) _ _ (provided_says ms 3 (target_is_sized c (type_of w)) _ (behind _ _ _ _ (widen_says v ∙ p) q)) tt)))

pub difference_says : (c : Env) (x y : TExpr) → Says (in_expr x ++ in_expr y) (r.difference c x y)
difference_says c x y =
    two_used _ x y (λ v w p q.
    let ms = in_expr x ++ in_expr y in
    pick_says ms (are_integers v w) _ _ (met_says Sub (widen v) (widen w) ∙ behind _ _ _ _ (widen_says v ∙ p) (widen_says w ∙ q))
    (pick_says ms (is_object_pointer (type_of v) && is_integer (type_of w)) _ _ (subst (λ ns. Says ns (r.pointer_and_integer c Sub v w)) (behind _ _ _ _ p q) (moved_says c Sub v w))
    (pick_says ms (is_object_pointer (type_of v) && are_alike v w) _ _ (provided_says ms 3 (target_is_sized c (type_of v)) _ (behind _ _ _ _ p q)) tt)))

pub order_says : (op : TBinary) (x y : TExpr) → Says (in_expr x ++ in_expr y) (r.order op x y)
order_says op x y =
    two_used _ x y (λ v w p q.
    let ms = in_expr x ++ in_expr y in
    pick_says ms (are_integers v w) _ _ (compared_says op (widen v) (widen w) ∙ behind _ _ _ _ (widen_says v ∙ p) (widen_says w ∙ q))
    (provided_says ms 14 (is_object_pointer (type_of v) && are_alike v w) _ (behind _ _ _ _ p q)))

pub equality_says : (c : Env) (op : TBinary) (x y : TExpr) → Says (in_expr x ++ in_expr y) (r.equality c op x y)
equality_says c op x y =
    two_used _ x y (λ v w p q.
    let ms = in_expr x ++ in_expr y in
    pick_says ms (are_integers v w) _ _ (compared_says op (widen v) (widen w) ∙ behind _ _ _ _ (widen_says v ∙ p) (widen_says w ∙ q))
    (pick_says ms (are_alike v w) _ _ (behind _ _ _ _ p q)
    (pick_says ms (is_with_zero c.tags v w) _ _ (behind _ _ _ _ p (to_type_says (type_of v) w ∙ q))
    (pick_says ms (is_with_zero c.tags w v) _ _ (behind _ _ _ _ (to_type_says (type_of w) v ∙ p) q) tt))))

pub two_tests_say : (make : TExpr → TExpr → TExpr) (x y : TExpr) → ((v w : TExpr) → in_expr (make v w) ≡ in_expr v ++ in_expr w) → Says (in_expr x ++ in_expr y) (r.two_tests make x y)
two_tests_say make x y f = two_say (in_expr x) (in_expr y) (scalar 15 x) (scalar 15 y) _ (scalar_says 15 x) (scalar_says 15 y) (λ v w p q. f v w ∙ behind _ _ _ _ p q)

pub comma_says : (x y : TExpr) → Says (in_expr x ++ in_expr y) (r.comma x y)
comma_says x y = two_used _ x y (λ v w p q. behind _ _ _ _ p q)

pub choice_says : (c : Env) (x y z : TExpr) → Says (in_expr x ++ (in_expr y ++ in_expr z)) (r.choice c x y z)
choice_says c x y z =
    onward_says (in_expr x) ms (scalar 15 x) _ (scalar_says 15 x) (λ u o.
    onward_says (in_expr y) ms (used y) _ (used_says y) (λ v p.
    onward_says (in_expr z) ms (used z) _ (used_says z) (λ w q.
    let t = meeting (type_of (widen v)) (type_of (widen w)) in
    pick_says ms (are_integers v w) _ _ (three u (to_type t (widen v)) (to_type t (widen w)) o (to_type_says t (widen v) ∙ (widen_says v ∙ p)) (to_type_says t (widen w) ∙ (widen_says w ∙ q)))
    (pick_says ms (are_alike v w || (is_void (type_of v) && is_void (type_of w))) _ _ (three u v w o p q)
    (pick_says ms (is_with_zero c.tags v w) _ _ (three u v (to_type (type_of v) w) o p (to_type_says (type_of v) w ∙ q))
    (pick_says ms (is_with_zero c.tags w v) _ _ (three u (to_type (type_of w) v) w o (to_type_says (type_of w) v ∙ p) q) tt))))))
  where
    ms : List Mention
    ms = in_expr x ++ (in_expr y ++ in_expr z)

    three : (u v w : TExpr) → in_expr u ≡ in_expr x → in_expr v ≡ in_expr y → in_expr w ≡ in_expr z →
        in_expr u ++ (in_expr v ++ in_expr w) ≡ in_expr x ++ (in_expr y ++ in_expr z)
    three u v w o p q = behind _ _ _ _ o (behind _ _ _ _ p q)

-- one operand

pub star_says : (x : TExpr) → Says (in_expr x) (r.star x)
star_says x = onward_says (in_expr x) (in_expr x) (used x) _ (used_says x) (λ v h. provided_says (in_expr x) 17 (is_pointer (type_of v)) _ h)

pub address_says : (x : TExpr) → Says (in_expr x) (r.address x)
address_says x = provided_says (in_expr x) 17 (is_place x || is_function (type_of x)) _ (provided_says (in_expr x) 5 (not (is_open (type_of x))) _ refl)

pub negation_says : (op : TUnary) (x : TExpr) → Says (in_expr x) (r.negation op x)
negation_says op x = onward_says (in_expr x) (in_expr x) (integer 12 x) _ (integer_says 12 x) (λ v h. h)

pub denial_says : (x : TExpr) → Says (in_expr x) (r.denial x)
denial_says x = onward_says (in_expr x) (in_expr x) (scalar 15 x) _ (scalar_says 15 x) (λ v h. h)

pub step_says : (c : Env) (op : TStep) (x : TExpr) → Says (in_expr x) (r.step c op x)
step_says c op x =
    provided_says (in_expr x) 21 (is_place x && (is_number (type_of x) || is_object_pointer (type_of x))) _ (provided_says (in_expr x) 3 (target_is_sized c (type_of x)) _ refl)

pub size_of_says : (c : Env) (x : TExpr) → Says (in_expr x) (r.size_of c x)
size_of_says c x = provided_says (in_expr x) 5 (not (is_open (type_of x))) _ (provided_says (in_expr x) 3 (is_sized (known c) (type_of x)) _ refl)

pub cast_says : (c : Env) (t : CType) (x : TExpr) → Says (in_expr x) (r.cast c t x)
cast_says c t x = onward_says (in_expr x) (in_expr x) (used x) _ (used_says x) (λ v h. provided_says (in_expr x) 22 (is_void t || is_taken c t v) _ h)

pub subscript_says : (c : Env) (x y : TExpr) → Says (in_expr x ++ in_expr y) (r.subscript c x y)
subscript_says c x y =
    two_used _ x y (λ v w p q.
    let ms = in_expr x ++ in_expr y in
    provided_says ms 18 (is_object_pointer (type_of v) && is_integer (type_of w)) _ (provided_says ms 3 (target_is_sized c (type_of v)) _ (behind _ _ _ _ p (widen_says w ∙ q))))

-- members

with_member_says : (ms : List Mention) (o : Option (ℕ × CType)) (make : ℕ → CType → TExpr) → ((m : ℕ) (u : CType) → in_expr (make m u) ≡ ms) → Says ms (r.with_member o make)
with_member_says ms None make f = tt
with_member_says ms (Some p) make f = f p.0 p.1

member_says : (ms : List Mention) (c : Env) (t : CType) (x : Name) (make : ℕ → CType → TExpr) → ((m : ℕ) (u : CType) → in_expr (make m u) ≡ ms) → Says ms (r.member_of c t x make)
member_says ms c (struct k) x make f =
    provided_says ms 3 (is_sized (known c) (struct k)) _ (with_member_says ms (r.member_from 0 (at_or no_tag c.tags k).members x) make f)
member_says ms c (num k) x make f = tt
member_says ms c void x make f = tt
member_says ms c (ptr t) x make f = tt
member_says ms c (arr m t) x make f = tt
member_says ms c (union k) x make f = tt
member_says ms c (enum k) x make f = tt
member_says ms c (fun t) x make f = tt

pub dot_says : (c : Env) (x : TExpr) (y : Name) → Says (in_expr x) (r.dot c x y)
dot_says c x y = provided_says (in_expr x) 19 (is_place x) _ (member_says (in_expr x) c (type_of x) y (λ m t. e.member t x m) (λ m t. refl))

pub arrow_says : (c : Env) (x : TExpr) (y : Name) → Says (in_expr x) (r.arrow c x y)
arrow_says c x y =
    onward_says (in_expr x) (in_expr x) (used x) _ (used_says x) (λ v h.
    provided_says (in_expr x) 19 (is_pointer (type_of v)) _ (member_says (in_expr x) c (target (type_of v)) y (λ m t. e.arrow t v m) (λ m t. h)))

-- assignments

copied_says : (c : Env) (x y : TExpr) → Says (in_expr x ++ in_expr y) (r.copied c x y)
copied_says c x y =
    let ms = in_expr x ++ in_expr y in
    provided_says ms 21 (is_place y && same_type (type_of x) (type_of y)) _ (provided_says ms 3 (is_sized (known c) (type_of x)) _ refl)

pub assign_says : (c : Env) (x y : TExpr) → Says (in_expr x ++ in_expr y) (r.assign c x y)
assign_says c x y =
    let ms = in_expr x ++ in_expr y in
    provided_says ms 21 (r.may_be_set x) _ (pick_says ms (is_structure (type_of x)) _ _ (copied_says c x y)
    (onward_says (in_expr y) ms (used y) _ (used_says y) (λ w h.
    onward_says (in_expr y) ms (taken 21 c (type_of x) w) _ (taken_of (in_expr y) 21 c (type_of x) w h) (λ v g. behind _ _ _ _ refl g))))

pub update_says : (op : TBinary) (x y : TExpr) → Says (in_expr x ++ in_expr y) (r.update op x y)
update_says op x y =
    let ms = in_expr x ++ in_expr y in
    provided_says ms 21 (is_place x && is_integer (type_of x)) _
    (onward_says (in_expr y) ms (integer 21 y) _ (integer_says 21 y) (λ w h. behind _ _ _ _ refl (to_type_says (meeting (wide (type_of x)) (type_of w)) w ∙ h)))

pub update_shift_says : (op : TBinary) (x y : TExpr) → Says (in_expr x ++ in_expr y) (r.update_shift op x y)
update_shift_says op x y =
    let ms = in_expr x ++ in_expr y in
    provided_says ms 21 (is_place x && is_integer (type_of x)) _ (onward_says (in_expr y) ms (integer 21 y) _ (integer_says 21 y) (λ w h. behind _ _ _ _ refl h))

pub update_sum_says : (c : Env) (op : TBinary) (x y : TExpr) → Says (in_expr x ++ in_expr y) (r.update_sum c op x y)
update_sum_says c op x y =
    let ms = in_expr x ++ in_expr y in
    pick_says ms (is_place x && is_object_pointer (type_of x)) _ _
    (onward_says (in_expr y) ms (integer 21 y) _ (integer_says 21 y) (λ w h. provided_says ms 3 (target_is_sized c (type_of x)) _ (behind _ _ _ _ refl h))) (update_says op x y)

-- calls

pub called_says : (x : TExpr) → Says (in_expr x) (r.called x)
called_says x =
    pick_says (in_expr x) (is_function (type_of x)) _ _ refl
    (onward_says (in_expr x) (in_expr x) (used x) _ (used_says x) (λ v h. provided_says (in_expr x) 20 (r.is_function_pointer (type_of v)) _ h))

-- by the words of operators

pub binary_says : (c : Env) (op : BinaryOp) (x y : TExpr) → Says (in_expr x ++ in_expr y) (r.binary c op x y)
binary_says c bo.Either x y = two_tests_say e.either x y (λ v w. refl)
binary_says c bo.Both x y = two_tests_say e.both x y (λ v w. refl)
binary_says c bo.Or x y = arithmetic_says BitOr x y
binary_says c bo.Xor x y = arithmetic_says BitXor x y
binary_says c bo.And x y = arithmetic_says BitAnd x y
binary_says c bo.Eq x y = equality_says c Eq x y
binary_says c bo.Ne x y = equality_says c Ne x y
binary_says c bo.Lt x y = order_says Lt x y
binary_says c bo.Gt x y = order_says Gt x y
binary_says c bo.Le x y = order_says Le x y
binary_says c bo.Ge x y = order_says Ge x y
binary_says c bo.Shl x y = shift_says Shl x y
binary_says c bo.Shr x y = shift_says Shr x y
binary_says c bo.Add x y = sum_says c x y
binary_says c bo.Sub x y = difference_says c x y
binary_says c bo.Mul x y = arithmetic_says Mul x y
binary_says c bo.Div x y = arithmetic_says Div x y
binary_says c bo.Rem x y = arithmetic_says Rem x y

pub unary_says : (c : Env) (op : UnaryOp) (x : TExpr) → Says (in_expr x) (r.unary c op x)
unary_says c uo.Deref x = star_says x
unary_says c uo.Address x = address_says x
unary_says c uo.Neg x = negation_says Neg x
unary_says c uo.Not x = denial_says x
unary_says c uo.Flip x = negation_says Flip x
unary_says c uo.Inc x = step_says c PreInc x
unary_says c uo.Dec x = step_says c PreDec x

pub assignment_says : (c : Env) (op : AssignOp) (x y : TExpr) → Says (in_expr x ++ in_expr y) (r.assignment c op x y)
assignment_says c ao.Set x y = assign_says c x y
assignment_says c ao.Add x y = update_sum_says c Add x y
assignment_says c ao.Sub x y = update_sum_says c Sub x y
assignment_says c ao.Mul x y = update_says Mul x y
assignment_says c ao.Div x y = update_says Div x y
assignment_says c ao.Rem x y = update_says Rem x y
assignment_says c ao.And x y = update_says BitAnd x y
assignment_says c ao.Or x y = update_says BitOr x y
assignment_says c ao.Xor x y = update_says BitXor x y
assignment_says c ao.Shl x y = update_shift_says Shl x y
assignment_says c ao.Shr x y = update_shift_says Shr x y
