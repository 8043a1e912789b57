-- Evaluation of expressions.
-- It states docs/LANGUAGE.md, section Evaluation.
use Rattle.std.specs.Prelude.{ℕ, List, [], ◌∷◌, Option, Some, None, Bool, true, false, not}
use Rattle.c_type.specs.declared.Kind.TheVariants as kinds
use Rattle.c_type.specs.Types.{CType, num, struct, union, fun, is_pointer, signed_type, target}
use Rattle.c_type.specs.Sizes.{size}
use Rattle.c_tree.specs.TExpr.{Ref, Func, Outer, Const, TExpr, TArgs, name, int, text, unary, deref, address, step, size_of, size_of_type, cast, convert, decay, designate, binary, both, either, comma, choice, assign, update, index, call, member, arrow, no_args, more_args, type_of}
use Rattle.c_tree.specs.declared.typed_expr.TUnary.{TUnary}
use Rattle.c_tree.specs.declared.typed_expr.TUnary.TheVariants.{Not}
use Rattle.c_tree.specs.declared.typed_expr.TBinary.{TBinary}
use Rattle.c_tree.specs.declared.typed_expr.TBinary.TheVariants.{Add, Sub}
use Rattle.c_tree.specs.declared.typed_expr.TStep.{TStep}
use Rattle.c_tree.specs.declared.typed_expr.TStep.TheVariants.{PreInc, PreDec, PostInc, PostDec}
use Rattle.c_run.specs.Values.{Object, Target, Value, Num, To, Fn, converted, is_true, truth, Fault}
use Rattle.c_tree.specs.Arith.{one_number, two_numbers, may_trap}
use Rattle.c_tree.specs.Constant.{is_zero}
use Rattle.c_run.specs.State.{State, Out, Gave, Halt, bind, choose, current}
use Rattle.c_run.specs.Context.{Context, shared, object_of, text_object, own, outer, offset}
use Rattle.c_run.specs.Pointers.{leaves, load, store, copy, add_to, as_pointer, beyond, two_pointers}

-- an argument: its type, whether it is the constant 0, its value
pub record Arg : Type 0 where
  pub ty : CType
  pub zero : Bool
  pub val : Value

-- what a call does
abbrev pub Call : Type 0
Call = Value → List Arg → State → Out Value

-- the operators of one operand; a pointer has `!` alone
abbrev pub unary_op : TUnary → Value → State → Out Value
unary_op op (Num x) s = Gave (Num (one_number op x)) s
unary_op Not v s = Gave (truth (not (is_true v))) s
unary_op _ v s = leaves 0 s

-- the operators of two numbers, with signal 8
abbrev pub numbers : TBinary → Bool → Value → Value → State → Out Value
numbers op signed (Num x) (Num y) s = choose (may_trap op signed x y) s (Halt (Fault 8)) (λ s1. Gave (Num (two_numbers op signed x y)) s1)
numbers op signed _ _ s = leaves 0 s

-- the size of what a pointer points to
abbrev pub element : Context → CType → ℕ
element c t = size c.tags (target t)

-- a pointer on the left and an integer on the right: `+` and `-`
abbrev pub pointer_first : Context → TBinary → CType → CType → Value → Value → State → Out Value
pointer_first c Add ta tb x y s = add_to (element c ta) (signed_type tb) false x y s
pointer_first c Sub ta tb x y s = add_to (element c ta) (signed_type tb) true x y s
pointer_first c _ ta tb x y s = leaves 0 s

-- an integer on the left and a pointer on the right: `+`
abbrev pub pointer_second : Context → TBinary → CType → CType → Value → Value → State → Out Value
pointer_second c Add ta tb x y s = add_to (element c tb) (signed_type ta) false y x s
pointer_second c _ ta tb x y s = leaves 0 s

-- an operator of levels 6 to 13 on values of two types
abbrev pub operate : Context → TBinary → CType → CType → Value → Value → State → Out Value
operate c op ta tb x y s =
    choose (is_pointer ta) s
    (λ s1. choose (is_pointer tb) s1 (two_pointers (element c ta) op x y) (pointer_first c op ta tb x y))
    (λ s1. choose (is_pointer tb) s1 (pointer_second c op ta tb x y) (numbers op (signed_type ta) x y))

-- `++` adds, `--` takes off
abbrev pub step_op : TStep → TBinary
step_op PreInc = Add
step_op PreDec = Sub
step_op PostInc = Add
step_op PostDec = Sub

-- before the operand the new value is given, behind it the old one
abbrev pub new_or_old : TStep → Value → Value → Value
new_or_old PreInc new old = new
new_or_old PreDec new old = new
new_or_old PostInc new old = old
new_or_old PostDec new old = old

-- whether a type is a function
abbrev pub is_function : CType → Bool
is_function (fun t) = true
is_function _ = false

-- whether a type is a structure, which an assignment copies
abbrev pub is_structure : CType → Bool
is_structure (struct k) = true
is_structure (union k) = true
is_structure _ = false

-- whether an expression names a member, whose address counts as pointer arithmetic
abbrev pub is_member : TExpr → Bool
is_member (member t e m) = true
is_member (arrow t e m) = true
is_member _ = false

-- the place of an object that is there, at its beginning
abbrev pub as_place : Option Object → State → Out Value
as_place None s = leaves 0 s
as_place (Some o) s = Gave (To o 0) s

-- a pointer to a function that is there
abbrev pub as_function : Option Target → State → Out Value
as_function None s = leaves 0 s
as_function (Some f) s = Gave (Fn f) s

-- the place that a name stands for
abbrev pub place_of : Context → Ref → State → Out Value
place_of c r s = as_place (object_of c (current s.chain) r) s

-- the value that a name stands for
abbrev pub value_of : Context → CType → Ref → State → Out Value
value_of c t (Const n) s = Gave (converted t (Num n)) s
value_of c t (Func k) s = as_function (own c k) s
value_of c t (Outer x) s = as_function (outer c x) s
value_of c t r s = bind (place_of c r s) (load c t)

-- a compound assignment: the old value taken as the type of the operation, and its result as the type of the place
abbrev pub updated : Context → CType → TBinary → CType → CType → Value → Value → State → Out Value
updated c t op at tb p y s =
    bind (load c t p s) (λ x s1. bind (operate c op at tb (converted at x) y s1) (λ z s2. store c t p (converted t z) s2))

-- `++` and `--`: 1 is added or taken off in the type of the place
abbrev pub stepped : Context → CType → TStep → Value → State → Out Value
stepped c t op p s =
    bind (load c t p s) (λ x s1. bind (operate c (step_op op) t (num kinds.Int) x (Num 1) s1)
    (λ z s2. bind (store c t p (converted t z) s2) (λ v s3. Gave (new_or_old op v x) s3)))

-- The value of an expression, the place of one that names an object, arguments from the left. A place is a pointer.
abbrev mutual
  pub value : Context → Call → TExpr → State → Out Value
  value c go (name t r) s = value_of c t r s
  value c go (int t n) s = Gave (converted t (Num n)) s
  value c go (text t k) s = leaves 0 s
  value c go (unary t op e) s = bind (value c go e s) (unary_op op)
  value c go (deref t e) s = bind (value c go e s) (load c t)
  value c go (address t e) s =
      choose (is_function (type_of e)) s (value c go e)
      (λ s1. bind (place c go e s1) (λ p s2. choose (is_member e) s2 (as_pointer p) (Gave p)))
  value c go (step t op e) s = bind (place c go e s) (stepped c t op)
  value c go (size_of e) s = Gave (Num (size c.tags (type_of e))) s
  value c go (size_of_type of) s = Gave (Num (size c.tags of)) s
  value c go (cast t e) s = bind (value c go e s) (λ v s1. Gave (converted t v) s1)
  value c go (convert t e) s = bind (value c go e s) (λ v s1. Gave (converted t v) s1)
  value c go (decay t e) s = bind (place c go e s) as_pointer
  value c go (designate t e) s = value c go e s
  value c go (binary t op a b) s = bind (value c go a s) (λ x s1. bind (value c go b s1) (operate c op (type_of a) (type_of b) x))
  value c go (both a b) s =
      bind (value c go a s) (λ x s1. choose (is_true x) s1 (λ s2. bind (value c go b s2) (λ y s3. Gave (truth (is_true y)) s3)) (Gave (Num 0)))
  value c go (either a b) s =
      bind (value c go a s) (λ x s1. choose (is_true x) s1 (Gave (Num 1)) (λ s2. bind (value c go b s2) (λ y s3. Gave (truth (is_true y)) s3)))
  value c go (comma t a b) s = bind (value c go a s) (λ x s1. value c go b s1)
  value c go (choice t e a b) s = bind (value c go e s) (λ x s1. choose (is_true x) s1 (value c go a) (value c go b))
  value c go (assign t a b) s =
      bind (place c go a s) (λ p s1. choose (is_structure (type_of a)) s1
      (λ s2. bind (place c go b s2) (copy c (type_of a) p))
      (λ s2. bind (value c go b s2) (store c (type_of a) p)))
  value c go (update t op at a b) s = bind (place c go a s) (λ p s1. bind (value c go b s1) (updated c t op at (type_of b) p))
  value c go (index t a i) s =
      bind (value c go a s) (λ x s1. bind (value c go i s1) (λ y s2. bind (operate c Add (type_of a) (type_of i) x y s2) (load c t)))
  value c go (call t f es) s = bind (value c go f s) (λ g s1. bind (args c go es s1) (go g))
  value c go (member t e m) s = bind (place c go e s) (λ p s1. bind (beyond (offset c (type_of e) m) p s1) (load c t))
  value c go (arrow t e m) s = bind (value c go e s) (λ p s1. bind (beyond (offset c (target (type_of e)) m) p s1) (load c t))

  pub place : Context → Call → TExpr → State → Out Value
  place c go (name t r) s = place_of c r s
  place c go (text t k) s = as_place (text_object c k) s
  place c go (deref t e) s = value c go e s
  place c go (index t a i) s =
      bind (value c go a s) (λ x s1. bind (value c go i s1) (operate c Add (type_of a) (type_of i) x))
  place c go (member t e m) s = bind (place c go e s) (beyond (offset c (type_of e) m))
  place c go (arrow t e m) s = bind (value c go e s) (beyond (offset c (target (type_of e)) m))
  place c go _ s = leaves 0 s

  pub args : Context → Call → TArgs → State → Out (List Arg)
  args c go no_args s = Gave [] s
  args c go (more_args e es) s =
      bind (value c go e s) (λ v s1. bind (args c go es s1) (λ vs s2. Gave (record { ty = shared c.classes (type_of e); zero = is_zero c.tags e; val = v } ∷ vs) s2))
