-- The rules on values: use, widening, conversion, what a place takes.
use Rattle.std.specs.Prelude.{ℕ, List, Bool, true, false, ◌&&◌, ◌||◌, nat_eq}
use Rattle.c_type.specs.Names.{pick}
use Rattle.c_type.specs.Kinds.{widened, meet}
use Rattle.c_type.specs.declared.Kind.TheVariants.{Int}
use Rattle.c_type.specs.Types.{CType, num, ptr, arr, struct, union, enum, fun, Tag, same_type, is_integer, is_pointer}
use Rattle.c_tree.specs.TExpr.{TExpr, Ref, Local, Param, Static, Ext, name, text, deref, index, member, arrow, convert, decay, designate, type_of}
use Rattle.c_tree.specs.Constant.{is_zero}
use Rattle.c_rule.specs.RuleScope.{Judged, Is, Fails, onward, provided, Env, known, is_sized}

-- an expression of that type used as a value: an array and a function become pointers; a structure has no value, by rule 21
abbrev pub used_as : CType → TExpr → Judged TExpr
used_as (arr n t) e = Is (decay (ptr t) e)
used_as (fun t) e = Is (designate (ptr (fun t)) e)
used_as (struct k) e = Fails 21
used_as (union k) e = Fails 21
used_as t e = Is e

abbrev pub used : TExpr → Judged TExpr
used e = used_as (type_of e) e

-- a conversion is a node where the type changes
abbrev pub to_type : CType → TExpr → TExpr
to_type t e = pick (same_type t (type_of e)) e (convert t e)

-- the type to which an operand widens
abbrev pub wide : CType → CType
wide (num k) = num (widened k)
wide (enum k) = num Int
wide t = t

abbrev pub widen : TExpr → TExpr
widen e = to_type (wide (type_of e)) e

-- the type in which two operands meet
abbrev pub meeting : CType → CType → CType
meeting (num a) (num b) = num (meet a b)
meeting _ _ = num Int

-- a widened integer operand, by the rule of its operator
abbrev pub integer : (rule : ℕ) → TExpr → Judged TExpr
integer n e = onward (used e) (λ v. provided n (is_integer (type_of v)) (Is (widen v)))

abbrev pub is_scalar : CType → Bool
is_scalar t = is_integer t || is_pointer t

-- a scalar, by the rule of what takes it
abbrev pub scalar : (rule : ℕ) → TExpr → Judged TExpr
scalar n e = onward (used e) (λ v. provided n (is_scalar (type_of v)) (Is v))

abbrev pub is_object_pointer : CType → Bool
is_object_pointer (ptr (fun t)) = false
is_object_pointer (ptr t) = true
is_object_pointer _ = false

-- rule 3: what moves a pointer needs the size of what it points to
abbrev pub target_is_sized : Env → CType → Bool
target_is_sized c (ptr t) = is_sized (known c) t
target_is_sized c _ = true

abbrev pub is_variable : Ref → Bool
is_variable (Local i) = true
is_variable (Param i) = true
is_variable (Static k) = true
is_variable (Ext x) = true
is_variable _ = false

-- an expression that names an object
abbrev pub is_place : TExpr → Bool
is_place (name t r) = is_variable r
is_place (text t k) = true
is_place (deref (fun t) e) = false
is_place (deref t e) = true
is_place (index t a i) = true
is_place (member t e m) = true
is_place (arrow t e m) = true
is_place _ = false

-- an array whose dimension is missing as yet
abbrev pub is_open : CType → Bool
is_open (arr n t) = nat_eq n 0
is_open _ = false

-- two values that are pointers of one type
abbrev pub are_alike : TExpr → TExpr → Bool
are_alike v w = is_pointer (type_of v) && same_type (type_of v) (type_of w)

abbrev pub are_integers : TExpr → TExpr → Bool
are_integers v w = is_integer (type_of v) && is_integer (type_of w)

-- a pointer and the constant 0
abbrev pub is_with_zero : List Tag → TExpr → TExpr → Bool
is_with_zero ts v w = is_pointer (type_of v) && (is_integer (type_of w) && is_zero ts w)

-- an integer for an integer; the same type or the constant 0 for a pointer
abbrev pub is_taken : Env → CType → TExpr → Bool
is_taken c t w =
    (is_integer t && is_integer (type_of w)) || (is_pointer t && (same_type t (type_of w) || (is_integer (type_of w) && is_zero c.tags w)))

-- rule 21: what a place of type t takes, or what takes it as by that rule
abbrev pub taken : (rule : ℕ) → Env → CType → TExpr → Judged TExpr
taken n c t w = provided n (is_taken c t w) (Is (to_type t w))

-- an expression as the value of a place of that type, by the rule of what takes it
abbrev pub value_for : (rule : ℕ) → Env → CType → TExpr → Judged TExpr
value_for n c t x = onward (used x) (taken n c t)
