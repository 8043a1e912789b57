-- Which typed trees suit: the types of the parts are those that each operator takes.
-- A name suits its type by R, and text k is there by T. `calls` says whether a call may stand in the expression.
use Rattle.std.specs.Prelude.{◌≡◌, ℕ, List, [], ◌∷◌, Option, Some, None, Bool, true, false, nat_eq, ◌&&◌, ◌||◌}
use Rattle.c_type.specs.Names.{pick}
use Rattle.c_type.specs.Kinds.{kind_size}
use Rattle.c_type.specs.Types.{CType, num, ptr, fun, Tag, same_type, is_integer, is_pointer}
use Rattle.c_tree.specs.TExpr as e
use Rattle.c_tree.specs.TExpr.{Ref, TExpr, TArgs, type_of}
use Rattle.c_tree.specs.declared.TUnary.{TUnary}
use Rattle.c_tree.specs.declared.TUnary.TheVariants.{Neg, Flip, Not}
use Rattle.c_tree.specs.declared.TBinary.{TBinary}
use Rattle.c_tree.specs.declared.TBinary.TheVariants.{Add, Sub, Lt, Gt, Le, Ge, Eq, Ne}
use Rattle.c_tree.specs.TStmt as st
use Rattle.c_tree.specs.TStmt.{Init, Inits, Local, TStmt, TStmts, TItems, locals}
use Rattle.c_tree.specs.TUnit.{Func}
use Rattle.c_rule.specs.RuleTypes.{is_void, is_function}
use Rattle.c_rule.specs.RuleValues.{is_scalar, is_object_pointer, is_place}
use Rattle.c_rule.specs.RuleExprs.{is_number, is_structure}
use Rattle.c_rule.specs.RuleDecls.{part_types}

-- an integer type of 32 bits, in which operators work
abbrev pub is_wide : CType → Bool
is_wide (num k) = nat_eq (kind_size k) 4
is_wide _ = false

-- a scalar, or void, where a value isn't asked for
abbrev pub is_used : CType → Bool
is_used t = is_scalar t || is_void t

-- a value of type u may be converted to t: anything to void, an integer to an integer type or to a pointer, which is null
-- then, a pointer to its own type
abbrev pub converts : CType → CType → Bool
converts t u = is_void t || ((is_integer t && is_integer u) || (is_pointer t && (is_integer u || same_type t u)))

-- an operator of one operand of type u that gives t
abbrev pub unary_suits : CType → TUnary → CType → Bool
unary_suits t Neg u = is_wide t && same_type t u
unary_suits t Flip u = is_wide t && same_type t u
unary_suits t Not u = is_wide t && is_scalar u

-- what compares two pointers of one type, which point to objects or not
abbrev pub compares : TBinary → (objects : Bool) → Bool
compares Eq objects = true
compares Ne objects = true
compares Lt objects = objects
compares Gt objects = objects
compares Le objects = objects
compares Ge objects = objects
compares Sub objects = objects
compares _ objects = false

abbrev pub is_add : TBinary → Bool
is_add Add = true
is_add _ = false

-- what moves a pointer
abbrev pub is_move : TBinary → Bool
is_move Add = true
is_move Sub = true
is_move _ = false

-- an operator of operands of the types a and b that gives t
abbrev pub binary_suits : CType → TBinary → CType → CType → Bool
binary_suits t op a b =
    pick (is_pointer a)
    (pick (is_pointer b) (same_type a b && (compares op (is_object_pointer a) && is_wide t)) (is_object_pointer a && (is_integer b && (is_move op && same_type t a))))
    (pick (is_pointer b) (is_integer a && (is_object_pointer b && (is_add op && same_type t b))) (is_integer a && (is_integer b && is_wide t)))

-- what is called: a function, or what a pointer points to
abbrev pub callee : CType → CType
callee (ptr t) = t
callee t = t

-- an assignment of what has type b to a place of type a
abbrev pub assign_suits : CType → TExpr → TExpr → Bool
assign_suits t a b =
    pick (is_structure (type_of a)) (is_place b && is_void t)
    (is_scalar (type_of a) && (same_type (type_of a) (type_of b) && same_type t (type_of a)))

abbrev mutual
  pub Suits : (calls : Bool) → (R : CType → Ref → Type 0) → (T : ℕ → Type 0) → TExpr → Type 0
  Suits calls R T (e.name t r) = R t r × (is_void t ≡ false)
  Suits calls R T (e.int t n) = is_integer t ≡ true
  Suits calls R T (e.text t k) = T k × (is_used t ≡ false) × (is_function t ≡ false)
  Suits calls R T (e.unary t op a) = Suits calls R T a × (unary_suits t op (type_of a) ≡ true)
  Suits calls R T (e.deref t a) = Suits calls R T a × (type_of a ≡ ptr t) × (is_void t ≡ false)
  Suits calls R T (e.address t a) = Suits calls R T a × ((is_function (type_of a) || is_place a) ≡ true) × (t ≡ ptr (type_of a))
  Suits calls R T (e.step t op a) = Suits calls R T a × (is_place a ≡ true) × (type_of a ≡ t) × ((is_number t || is_object_pointer t) ≡ true)
  Suits calls R T (e.size_of a) = Unit {0}
  Suits calls R T (e.size_of_type of) = Unit {0}
  Suits calls R T (e.cast t a) = Suits calls R T a × (is_used (type_of a) ≡ true) × (converts t (type_of a) ≡ true)
  Suits calls R T (e.convert t a) = Suits calls R T a × (is_used (type_of a) ≡ true) × (converts t (type_of a) ≡ true)
  Suits calls R T (e.decay t a) = Suits calls R T a × (is_place a ≡ true) × (is_object_pointer t ≡ true)
  Suits calls R T (e.designate t a) = Suits calls R T a × (is_function (type_of a) ≡ true) × (t ≡ ptr (type_of a))
  Suits calls R T (e.binary t op a b) = Suits calls R T a × Suits calls R T b × (binary_suits t op (type_of a) (type_of b) ≡ true)
  Suits calls R T (e.both a b) = Suits calls R T a × Suits calls R T b × (is_scalar (type_of a) ≡ true) × (is_scalar (type_of b) ≡ true)
  Suits calls R T (e.either a b) = Suits calls R T a × Suits calls R T b × (is_scalar (type_of a) ≡ true) × (is_scalar (type_of b) ≡ true)
  Suits calls R T (e.comma t a b) = Suits calls R T a × Suits calls R T b × (is_used (type_of a) ≡ true) × (is_used t ≡ true) × (type_of b ≡ t)
  Suits calls R T (e.choice t c a b) =
      Suits calls R T c × Suits calls R T a × Suits calls R T b × (is_scalar (type_of c) ≡ true) × (is_used t ≡ true) × (type_of a ≡ t) × (type_of b ≡ t)
  Suits calls R T (e.assign t a b) = Suits calls R T a × Suits calls R T b × (is_place a ≡ true) × (assign_suits t a b ≡ true)
  Suits calls R T (e.update t op at a b) =
      Suits calls R T a × Suits calls R T b × (is_place a ≡ true) × (is_scalar t ≡ true) × (type_of a ≡ t) × (converts at t ≡ true) ×
      (binary_suits at op at (type_of b) ≡ true) × (converts t at ≡ true)
  Suits calls R T (e.index t a i) =
      Suits calls R T a × Suits calls R T i × (type_of a ≡ ptr t) × (is_function t ≡ false) × (is_integer (type_of i) ≡ true) × (is_void t ≡ false)
  Suits calls R T (e.call t f es) = (calls ≡ true) × Suits calls R T f × SuitArgs calls R T es × (callee (type_of f) ≡ fun t)
  Suits calls R T (e.member t a m) = Suits calls R T a × (is_place a ≡ true) × (is_function t ≡ false) × (is_void t ≡ false)
  Suits calls R T (e.arrow t a m) = Suits calls R T a × (is_object_pointer (type_of a) ≡ true) × (is_function t ≡ false) × (is_void t ≡ false)

  pub SuitArgs : (calls : Bool) → (R : CType → Ref → Type 0) → (T : ℕ → Type 0) → TArgs → Type 0
  SuitArgs calls R T e.no_args = Unit {0}
  SuitArgs calls R T (e.more_args a es) = Suits calls R T a × (is_scalar (type_of a) ≡ true) × SuitArgs calls R T es

-- an expression of a function
abbrev pub SuitsHere : (R : CType → Ref → Type 0) → (T : ℕ → Type 0) → (CType → Bool) → TExpr → Type 0
SuitsHere R T allowed a = Suits true R T a × (allowed (type_of a) ≡ true)

-- one that may be left out
abbrev pub SuitsOption : (R : CType → Ref → Type 0) → (T : ℕ → Type 0) → (CType → Bool) → Option TExpr → Type 0
SuitsOption R T allowed None = Unit {0}
SuitsOption R T allowed (Some a) = SuitsHere R T allowed a

-- the scalar of type u as a scalar of type t
abbrev pub is_taken_as : CType → CType → Bool
is_taken_as t u = is_scalar t && same_type u t

-- a declarator of a block; what a static begins as is asked where its object stands
abbrev pub SuitsLocal : (R : CType → Ref → Type 0) → (T : ℕ → Type 0) → Local → Type 0
SuitsLocal R T (st.auto d i) = Unit {0}
SuitsLocal R T (st.auto_init d i k l a) = SuitsHere R T (is_taken_as d.ty) a
SuitsLocal R T (st.static_ d k i) = Unit {0}
SuitsLocal R T (st.extern_ d) = Unit {0}
SuitsLocal R T (st.function d s) = Unit {0}

abbrev pub SuitLocals : (R : CType → Ref → Type 0) → (T : ℕ → Type 0) → List Local → Type 0
SuitLocals R T [] = Unit {0}
SuitLocals R T (x ∷ xs) = SuitsLocal R T x × SuitLocals R T xs

-- statements of a function that gives r
abbrev mutual
  pub SuitsStmt : (R : CType → Ref → Type 0) → (T : ℕ → Type 0) → (r : CType) → TStmt → Type 0
  SuitsStmt R T r (st.expr k l a) = SuitsHere R T is_used a
  SuitsStmt R T r (st.empty k l) = Unit {0}
  SuitsStmt R T r (st.if_only k l a s) = SuitsHere R T is_scalar a × SuitsStmt R T r s
  SuitsStmt R T r (st.if_else k l a s q) = SuitsHere R T is_scalar a × SuitsStmt R T r s × SuitsStmt R T r q
  SuitsStmt R T r (st.while_ k l a s) = SuitsHere R T is_scalar a × SuitsStmt R T r s
  SuitsStmt R T r (st.do_ k l s a) = SuitsHere R T is_scalar a × SuitsStmt R T r s
  SuitsStmt R T r (st.for_ k l a b c s) = SuitsOption R T is_used a × SuitsOption R T is_scalar b × SuitsOption R T is_used c × SuitsStmt R T r s
  SuitsStmt R T r (st.switch k l a is) = SuitsHere R T is_integer a × SuitItems R T r is
  SuitsStmt R T r (st.break_ k l) = Unit {0}
  SuitsStmt R T r (st.continue_ k l) = Unit {0}
  SuitsStmt R T r (st.return_ k l a) = SuitsOption R T (is_taken_as r) a
  SuitsStmt R T r (st.block line ds ss close_line) = SuitLocals R T (locals ds) × SuitStmts R T r ss

  pub SuitStmts : (R : CType → Ref → Type 0) → (T : ℕ → Type 0) → (r : CType) → TStmts → Type 0
  SuitStmts R T r st.no_stmts = Unit {0}
  SuitStmts R T r (st.more_stmts s ss) = SuitsStmt R T r s × SuitStmts R T r ss

  pub SuitItems : (R : CType → Ref → Type 0) → (T : ℕ → Type 0) → (r : CType) → TItems → Type 0
  SuitItems R T r st.no_items = Unit {0}
  SuitItems R T r (st.case_ a n is) = SuitItems R T r is
  SuitItems R T r (st.default_ is) = SuitItems R T r is
  SuitItems R T r (st.more_items s is) = SuitsStmt R T r s × SuitItems R T r is

-- a function, which gives no function
abbrev pub SuitsFunc : (R : CType → Ref → Type 0) → (T : ℕ → Type 0) → Func → Type 0
SuitsFunc R T f = (is_function f.result ≡ false) × SuitLocals R T (locals f.locals) × SuitStmts R T f.result f.stmts

-- What an object of static life begins as: a scalar without a call, bytes, a list of at most as many parts as there are.
abbrev mutual
  pub SuitsInit : (R : CType → Ref → Type 0) → (T : ℕ → Type 0) → List Tag → CType → Init → Type 0
  SuitsInit R T ts t (st.single a) = Suits false R T a × (is_taken_as t (type_of a) ≡ true)
  SuitsInit R T ts t (st.bytes bs) = Unit {0}
  SuitsInit R T ts t (st.group is) = SuitInits R T ts (part_types ts t) is

  pub SuitInits : (R : CType → Ref → Type 0) → (T : ℕ → Type 0) → List Tag → List CType → Inits → Type 0
  SuitInits R T ts us st.no_inits = Unit {0}
  SuitInits R T ts [] (st.more_inits i is) = ⊥
  SuitInits R T ts (u ∷ us) (st.more_inits i is) = SuitsInit R T ts u i × SuitInits R T ts us is

abbrev pub SuitsBegin : (R : CType → Ref → Type 0) → (T : ℕ → Type 0) → List Tag → CType → Option Init → Type 0
SuitsBegin R T ts t None = Unit {0}
SuitsBegin R T ts t (Some i) = SuitsInit R T ts t i
