-- The rules on expressions, operator by operator. Operands are typed expressions that are not yet used as values.
use Rattle.std.specs.Prelude.{ℕ, suc, List, [], ◌∷◌, Option, Some, None, Bool, true, false, not, ◌&&◌, ◌||◌, nat_le}
use Rattle.c_type.specs.Names.{Name, pick, same_name, at_or}
use Rattle.c_type.specs.declared.Kind.{Kind}
use Rattle.c_type.specs.declared.Kind.TheVariants.{Int, UInt, Long, ULong}
use Rattle.c_type.specs.Types.{CType, num, void, ptr, struct, union, fun, Member, same_type, is_integer, is_pointer, target}
use Rattle.c_type.specs.Sizes.{no_tag}
use Rattle.c_tree.specs.declared.expr.AssignOp.TheVariants as ao
use Rattle.c_tree.specs.declared.expr.BinaryOp.TheVariants as bo
use Rattle.c_tree.specs.declared.expr.UnaryOp.TheVariants as uo
use Rattle.c_tree.specs.declared.expr.StepOp.TheVariants as so
use Rattle.c_tree.specs.declared.expr.AssignOp.{AssignOp}
use Rattle.c_tree.specs.declared.expr.BinaryOp.{BinaryOp}
use Rattle.c_tree.specs.declared.expr.UnaryOp.{UnaryOp}
use Rattle.c_tree.specs.declared.expr.StepOp.{StepOp}
use Rattle.c_tree.specs.TExpr as e
use Rattle.c_tree.specs.declared.typed_expr.TStep.TheVariants as tst
use Rattle.c_tree.specs.declared.typed_expr.TBinary.TheVariants as tb
use Rattle.c_tree.specs.declared.typed_expr.TUnary.TheVariants as tu
use Rattle.c_tree.specs.TExpr.{TExpr, type_of}
use Rattle.c_tree.specs.declared.typed_expr.TUnary.{TUnary}
use Rattle.c_tree.specs.declared.typed_expr.TBinary.{TBinary}
use Rattle.c_tree.specs.declared.typed_expr.TStep.{TStep}
use Rattle.c_rule.specs.RuleScope.{Judged, Is, Fails, onward, provided, Env, Meaning, Alias, Constant, Thing, Function, function_ref, known, is_sized}
use Rattle.c_rule.specs.RuleTypes.{is_void, is_function}
use Rattle.c_rule.specs.RuleValues.{used, to_type, wide, widen, meeting, integer, scalar, is_object_pointer, target_is_sized, is_place, is_open, are_alike, are_integers, is_with_zero, is_taken, taken, is_scalar}

-- names

-- what a name in an expression is, by rule 2
abbrev pub as_expr : Option Meaning → Judged TExpr
as_expr None = Fails 2
as_expr (Some (Alias t)) = Fails 2
as_expr (Some (Constant n)) = Is (e.name (num Int) (e.Const n))
as_expr (Some (Thing r t)) = Is (e.name t r)
as_expr (Some (Function s r t)) = Is (e.name t r)

-- the name of a called function; one that is not declared is an external function that returns int
abbrev pub called_name : Env → Name → Option Meaning → Judged TExpr
called_name c x None = Is (e.name (fun (num Int)) (function_ref c false x))
called_name c x (Some m) = as_expr (Some m)

-- numbers

abbrev pub kind_of_int : ℕ → Bool → Kind
kind_of_int n true = pick (nat_le n 2147483647) Long ULong
kind_of_int n false = pick (nat_le n 2147483647) Int UInt

-- two operands

-- both converted to the type in which they meet, which is the type of the operation
abbrev pub met : TBinary → TExpr → TExpr → TExpr
met op v w = e.binary (meeting (type_of v) (type_of w)) op (to_type (meeting (type_of v) (type_of w)) v) (to_type (meeting (type_of v) (type_of w)) w)

-- rule 12: `* / % & | ^` take integers
abbrev pub arithmetic : TBinary → TExpr → TExpr → Judged TExpr
arithmetic op x y = onward (integer 12 x) (λ v. onward (integer 12 y) (λ w. Is (met op v w)))

-- rule 12: a shift takes integers and has the type of its left operand
abbrev pub shift : TBinary → TExpr → TExpr → Judged TExpr
shift op x y = onward (integer 12 x) (λ v. onward (integer 12 y) (λ w. Is (e.binary (type_of v) op v w)))

-- a pointer moved by an integer needs the size of its target
abbrev pub pointer_and_integer : Env → TBinary → TExpr → TExpr → Judged TExpr
pointer_and_integer c op v w = provided 3 (target_is_sized c (type_of v)) (Is (e.binary (type_of v) op v (widen w)))

-- rule 13: `+` takes two integers, or a pointer to an object and an integer in either order
abbrev pub sum : Env → TExpr → TExpr → Judged TExpr
sum c x y =
    onward (used x) (λ v. onward (used y) (λ w.
    pick (are_integers v w) (Is (met tb.Add (widen v) (widen w)))
    (pick (is_object_pointer (type_of v) && is_integer (type_of w)) (pointer_and_integer c tb.Add v w)
    (pick (is_integer (type_of v) && is_object_pointer (type_of w)) (provided 3 (target_is_sized c (type_of w)) (Is (e.binary (type_of w) tb.Add (widen v) w)))
    (Fails 13)))))

-- rule 13: `-` takes two integers, a pointer to an object and an integer, or two such pointers of one type, which gives int
abbrev pub difference : Env → TExpr → TExpr → Judged TExpr
difference c x y =
    onward (used x) (λ v. onward (used y) (λ w.
    pick (are_integers v w) (Is (met tb.Sub (widen v) (widen w)))
    (pick (is_object_pointer (type_of v) && is_integer (type_of w)) (pointer_and_integer c tb.Sub v w)
    (pick (is_object_pointer (type_of v) && are_alike v w) (provided 3 (target_is_sized c (type_of v)) (Is (e.binary (num Int) tb.Sub v w)))
    (Fails 13)))))

-- two widened integers meet, and a comparison is int
abbrev pub compared : TBinary → TExpr → TExpr → TExpr
compared op v w = e.binary (num Int) op (to_type (meeting (type_of v) (type_of w)) v) (to_type (meeting (type_of v) (type_of w)) w)

-- rule 14: an order takes two integers, or two pointers to objects of one type
abbrev pub order : TBinary → TExpr → TExpr → Judged TExpr
order op x y =
    onward (used x) (λ v. onward (used y) (λ w.
    pick (are_integers v w) (Is (compared op (widen v) (widen w))) (provided 14 (is_object_pointer (type_of v) && are_alike v w) (Is (e.binary (num Int) op v w)))))

-- rule 14: `==` and `!=` take two integers, two pointers of one type, or a pointer and the constant 0
abbrev pub equality : Env → TBinary → TExpr → TExpr → Judged TExpr
equality c op x y =
    onward (used x) (λ v. onward (used y) (λ w.
    pick (are_integers v w) (Is (compared op (widen v) (widen w)))
    (pick (are_alike v w) (Is (e.binary (num Int) op v w))
    (pick (is_with_zero c.tags v w) (Is (e.binary (num Int) op v (to_type (type_of v) w)))
    (pick (is_with_zero c.tags w v) (Is (e.binary (num Int) op (to_type (type_of w) v) w))
    (Fails 14))))))

-- rule 15: `&&` and `||` take scalars
abbrev pub two_tests : (TExpr → TExpr → TExpr) → TExpr → TExpr → Judged TExpr
two_tests make x y = onward (scalar 15 x) (λ v. onward (scalar 15 y) (λ w. Is (make v w)))

-- a binary operator, by its rule
abbrev pub binary : Env → BinaryOp → TExpr → TExpr → Judged TExpr
binary c bo.Either x y = two_tests e.either x y
binary c bo.Both x y = two_tests e.both x y
binary c bo.Or x y = arithmetic tb.BitOr x y
binary c bo.Xor x y = arithmetic tb.BitXor x y
binary c bo.And x y = arithmetic tb.BitAnd x y
binary c bo.Eq x y = equality c tb.Eq x y
binary c bo.Ne x y = equality c tb.Ne x y
binary c bo.Lt x y = order tb.Lt x y
binary c bo.Gt x y = order tb.Gt x y
binary c bo.Le x y = order tb.Le x y
binary c bo.Ge x y = order tb.Ge x y
binary c bo.Shl x y = shift tb.Shl x y
binary c bo.Shr x y = shift tb.Shr x y
binary c bo.Add x y = sum c x y
binary c bo.Sub x y = difference c x y
binary c bo.Mul x y = arithmetic tb.Mul x y
binary c bo.Div x y = arithmetic tb.Div x y
binary c bo.Rem x y = arithmetic tb.Rem x y

-- rule 21: a structure stands before no comma and behind none
abbrev pub comma : TExpr → TExpr → Judged TExpr
comma x y = onward (used x) (λ v. onward (used y) (λ w. Is (e.comma (type_of w) v w)))

-- rule 16: two integers, two pointers of one type, a pointer and the constant 0, or both void; rule 15 on the test
abbrev pub choice : Env → TExpr → TExpr → TExpr → Judged TExpr
choice c x y z =
    onward (scalar 15 x) (λ u. onward (used y) (λ v. onward (used z) (λ w.
    pick (are_integers v w) (Is (chosen u (widen v) (widen w)))
    (pick (are_alike v w || (is_void (type_of v) && is_void (type_of w))) (Is (e.choice (type_of v) u v w))
    (pick (is_with_zero c.tags v w) (Is (e.choice (type_of v) u v (to_type (type_of v) w)))
    (pick (is_with_zero c.tags w v) (Is (e.choice (type_of w) u (to_type (type_of w) v) w))
    (Fails 16)))))))
  where
    chosen : TExpr → TExpr → TExpr → TExpr
    chosen u v w = e.choice (meeting (type_of v) (type_of w)) u (to_type (meeting (type_of v) (type_of w)) v) (to_type (meeting (type_of v) (type_of w)) w)

-- one operand

-- rule 17: `*` takes a pointer to an object or a function
abbrev pub star : TExpr → Judged TExpr
star x = onward (used x) (λ v. provided 17 (is_pointer (type_of v)) (Is (e.deref (target (type_of v)) v)))

-- rule 17: `&` takes a place or a function; rule 5: not an array whose dimension is missing
abbrev pub address : TExpr → Judged TExpr
address x = provided 17 (is_place x || is_function (type_of x)) (provided 5 (not (is_open (type_of x))) (Is (e.address (ptr (type_of x)) x)))

-- rule 12: `-` and `~` take an integer
abbrev pub negation : TUnary → TExpr → Judged TExpr
negation op x = onward (integer 12 x) (λ v. Is (e.unary (type_of v) op v))

-- rule 15: `!` takes a scalar
abbrev pub denial : TExpr → Judged TExpr
denial x = onward (scalar 15 x) (λ v. Is (e.unary (num Int) tu.Not v))

abbrev pub is_number : CType → Bool
is_number (num k) = true
is_number _ = false

-- rule 21: `++` and `--` take a place of an integer type but no enumeration, or of a pointer to an object
abbrev pub step : Env → TStep → TExpr → Judged TExpr
step c op x =
    provided 21 (is_place x && (is_number (type_of x) || is_object_pointer (type_of x))) (provided 3 (target_is_sized c (type_of x)) (Is (e.step (type_of x) op x)))

-- a unary operator, by its rule
abbrev pub unary : Env → UnaryOp → TExpr → Judged TExpr
unary c uo.Deref x = star x
unary c uo.Address x = address x
unary c uo.Neg x = negation tu.Neg x
unary c uo.Not x = denial x
unary c uo.Flip x = negation tu.Flip x
unary c uo.Inc x = step c tst.PreInc x
unary c uo.Dec x = step c tst.PreDec x

abbrev pub post_op : StepOp → TStep
post_op so.Inc = tst.PostInc
post_op so.Dec = tst.PostDec

-- rule 5 and rule 3: the size that `sizeof` gives is known
abbrev pub size_of : Env → TExpr → Judged TExpr
size_of c x = provided 5 (not (is_open (type_of x))) (provided 3 (is_sized (known c) (type_of x)) (Is (e.size_of x)))

-- Rule 22: from an integer to an integer type, from the constant 0 to a pointer type, from a pointer to its own type, or
-- from anything to void.
abbrev pub cast : Env → CType → TExpr → Judged TExpr
cast c t x = onward (used x) (λ v. provided 22 (is_void t || is_taken c t v) (Is (e.cast t v)))

-- rule 18: `[ ]` takes a pointer to an object on the left and an integer inside
abbrev pub subscript : Env → TExpr → TExpr → Judged TExpr
subscript c x y =
    onward (used x) (λ v. onward (used y) (λ w.
    provided 18 (is_object_pointer (type_of v) && is_integer (type_of w)) (provided 3 (target_is_sized c (type_of v)) (Is (e.index (target (type_of v)) v (widen w))))))

-- members

abbrev pub member_from : ℕ → List Member → Name → Option (ℕ × CType)
member_from m [] x = None
member_from m (y ∷ ys) x = pick (same_name x y.name) (Some (m, y.ty)) (member_from (suc m) ys x)

abbrev pub with_member : Option (ℕ × CType) → (ℕ → CType → TExpr) → Judged TExpr
with_member None make = Fails 19
with_member (Some p) make = Is (make p.0 p.1)

-- a member of a structure that is closed
abbrev pub member_of : Env → CType → Name → (ℕ → CType → TExpr) → Judged TExpr
member_of c (struct k) x make = provided 3 (is_sized (known c) (struct k)) (with_member (member_from 0 (at_or no_tag c.tags k).members x) make)
member_of c _ x make = Fails 19

-- rule 19: `.` takes a structure's place and a member of that name
abbrev pub dot : Env → TExpr → Name → Judged TExpr
dot c x y = provided 19 (is_place x) (member_of c (type_of x) y (λ m t. e.member t x m))

-- rule 19: `->` takes a pointer to a structure and a member of that name
abbrev pub arrow : Env → TExpr → Name → Judged TExpr
arrow c x y = onward (used x) (λ v. provided 19 (is_pointer (type_of v)) (member_of c (target (type_of v)) y (λ m t. e.arrow t v m)))

-- assignments

abbrev pub is_structure : CType → Bool
is_structure (struct k) = true
is_structure (union k) = true
is_structure _ = false

-- rule 21: the left side is a place and neither array nor function
abbrev pub may_be_set : TExpr → Bool
may_be_set x = is_place x && (is_scalar (type_of x) || is_structure (type_of x))

-- rule 21: a structure takes a place of the same type, and the assignment is void
abbrev pub copied : Env → TExpr → TExpr → Judged TExpr
copied c x y = provided 21 (is_place y && same_type (type_of x) (type_of y)) (provided 3 (is_sized (known c) (type_of x)) (Is (e.assign void x y)))

-- rule 21: integers take integers, a pointer the same type or the constant 0
abbrev pub assign : Env → TExpr → TExpr → Judged TExpr
assign c x y =
    provided 21 (may_be_set x) (pick (is_structure (type_of x)) (copied c x y) (onward (used y) (λ w. onward (taken 21 c (type_of x) w) (λ v. Is (e.assign (type_of x) x v)))))

-- rule 21: a compound assignment takes integers; its operator works in the type in which they meet
abbrev pub update : TBinary → TExpr → TExpr → Judged TExpr
update op x y =
    provided 21 (is_place x && is_integer (type_of x)) (onward (integer 21 y)
    (λ w. Is (e.update (type_of x) op (meeting (wide (type_of x)) (type_of w)) x (to_type (meeting (wide (type_of x)) (type_of w)) w))))

-- a shift works in the type of the widened left side
abbrev pub update_shift : TBinary → TExpr → TExpr → Judged TExpr
update_shift op x y = provided 21 (is_place x && is_integer (type_of x)) (onward (integer 21 y) (λ w. Is (e.update (type_of x) op (wide (type_of x)) x w)))

-- rule 21: `+=` and `-=` also take a pointer to an object and an integer
abbrev pub update_sum : Env → TBinary → TExpr → TExpr → Judged TExpr
update_sum c op x y =
    pick (is_place x && is_object_pointer (type_of x))
    (onward (integer 21 y) (λ w. provided 3 (target_is_sized c (type_of x)) (Is (e.update (type_of x) op (type_of x) x w))))
    (update op x y)

-- an assignment, by its operator
abbrev pub assignment : Env → AssignOp → TExpr → TExpr → Judged TExpr
assignment c ao.Set x y = assign c x y
assignment c ao.Add x y = update_sum c tb.Add x y
assignment c ao.Sub x y = update_sum c tb.Sub x y
assignment c ao.Mul x y = update tb.Mul x y
assignment c ao.Div x y = update tb.Div x y
assignment c ao.Rem x y = update tb.Rem x y
assignment c ao.And x y = update tb.BitAnd x y
assignment c ao.Or x y = update tb.BitOr x y
assignment c ao.Xor x y = update tb.BitXor x y
assignment c ao.Shl x y = update_shift tb.Shl x y
assignment c ao.Shr x y = update_shift tb.Shr x y

-- calls

abbrev pub is_function_pointer : CType → Bool
is_function_pointer (ptr (fun t)) = true
is_function_pointer _ = false

-- rule 20: a call takes a function or a pointer to one
abbrev pub called : TExpr → Judged TExpr
called x = pick (is_function (type_of x)) (Is x) (onward (used x) (λ v. provided 20 (is_function_pointer (type_of v)) (Is v)))

-- what a call of a function, or of a pointer to one, gives
abbrev pub result_of : CType → CType
result_of (fun t) = t
result_of t = target (target t)
