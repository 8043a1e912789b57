-- Typed expressions.
-- It states docs/LANGUAGE.md, section Evaluation.
pub use Rattle.c_tree.specs.declared.typed_expr.TUnary.{TUnary}
pub use Rattle.c_tree.specs.declared.typed_expr.TUnary.TheVariants.{Neg, Flip, Not}
pub use Rattle.c_tree.specs.declared.typed_expr.TBinary.{TBinary}
pub use Rattle.c_tree.specs.declared.typed_expr.TBinary.TheVariants.{Mul, Div, Rem, Add, Sub, Shl, Shr, Lt, Gt, Le, Ge, Eq, Ne, BitAnd, BitXor, BitOr}
pub use Rattle.c_tree.specs.declared.typed_expr.TStep.{TStep}
pub use Rattle.c_tree.specs.declared.typed_expr.TStep.TheVariants.{PreInc, PreDec, PostInc, PostDec}
use Rattle.std.specs.Prelude.{ℕ}
use Rattle.c_type.specs.Names.{Name}
use Rattle.c_type.specs.declared.Kind.TheVariants.{Int, UInt}
use Rattle.c_type.specs.Types.{CType, num}

-- What a name is bound to. A constant has the 32 bits of its value.
pub data Ref : Type 0 where
  Local : (i : ℕ) → Ref
  Param : (i : ℕ) → Ref
  Static : (k : ℕ) → Ref
  Ext : (x : Name) → Ref
  Func : (k : ℕ) → Ref
  Outer : (x : Name) → Ref
  Const : (n : ℕ) → Ref

-- One constructor a production, its type first. `convert`, `decay` and `designate` are the conversions that no text shows:
-- of a scalar to a type, of an array to a pointer to its first element, of a function to a pointer to it.
-- `int` is a number or a character. `text k` is text k of the unit. A member is its number in its structure.
mutual
  pub data TExpr : Type 0 where
    name : (t : CType) (r : Ref) → TExpr
    int : (t : CType) (n : ℕ) → TExpr
    text : (t : CType) (k : ℕ) → TExpr
    unary : (t : CType) (op : TUnary) (e : TExpr) → TExpr
    deref : (t : CType) (e : TExpr) → TExpr
    address : (t : CType) (e : TExpr) → TExpr
    step : (t : CType) (op : TStep) (e : TExpr) → TExpr
    size_of : (e : TExpr) → TExpr
    size_of_type : (of : CType) → TExpr
    cast : (t : CType) (e : TExpr) → TExpr
    convert : (t : CType) (e : TExpr) → TExpr
    decay : (t : CType) (e : TExpr) → TExpr
    designate : (t : CType) (e : TExpr) → TExpr
    binary : (t : CType) (op : TBinary) (a b : TExpr) → TExpr
    both : (a b : TExpr) → TExpr
    either : (a b : TExpr) → TExpr
    comma : (t : CType) (a b : TExpr) → TExpr
    choice : (t : CType) (e a b : TExpr) → TExpr
    assign : (t : CType) (a b : TExpr) → TExpr
    update : (t : CType) (op : TBinary) (at : CType) (a b : TExpr) → TExpr
    index : (t : CType) (a i : TExpr) → TExpr
    call : (t : CType) (f : TExpr) (es : TArgs) → TExpr
    member : (t : CType) (e : TExpr) (m : ℕ) → TExpr
    arrow : (t : CType) (e : TExpr) (m : ℕ) → TExpr

  pub data TArgs : Type 0 where
    no_args : TArgs
    more_args : (e : TExpr) (es : TArgs) → TArgs

-- the type of an expression
abbrev pub type_of : TExpr → CType
type_of (name t r) = t
type_of (int t n) = t
type_of (text t k) = t
type_of (unary t op e) = t
type_of (deref t e) = t
type_of (address t e) = t
type_of (step t op e) = t
type_of (size_of e) = num UInt
type_of (size_of_type of) = num UInt
type_of (cast t e) = t
type_of (convert t e) = t
type_of (decay t e) = t
type_of (designate t e) = t
type_of (binary t op a b) = t
type_of (both a b) = num Int
type_of (either a b) = num Int
type_of (comma t a b) = t
type_of (choice t e a b) = t
type_of (assign t a b) = t
type_of (update t op at a b) = t
type_of (index t a i) = t
type_of (call t f es) = t
type_of (member t e m) = t
type_of (arrow t e m) = t
