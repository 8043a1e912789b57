-- Expressions as plain data, one constructor for each production. Each node begins with the line of its first token.
pub use Rattle.c_type.specs.declared.Kind.{Kind}
pub use Rattle.c_type.specs.declared.TagKind.{TagKind}
pub use Rattle.c_tree.specs.declared.expr.AssignOp.{AssignOp}
pub use Rattle.c_tree.specs.declared.expr.BinaryOp.{BinaryOp}
pub use Rattle.c_tree.specs.declared.expr.UnaryOp.{UnaryOp}
pub use Rattle.c_tree.specs.declared.expr.StepOp.{StepOp}
use Rattle.std.specs.Prelude.{ℕ, ◌+◌, max, List, [], ◌∷◌, Bool, Option, Some, None}
use Rattle.c_type.specs.Names.{Name}

-- a tag without a body
pub record TagRef : Type 0 where
  pub line : ℕ
  pub kind : TagKind
  pub name : Name

-- a type as it is named without a tag's body
pub data TypeSpec : Type 0 where
  num : (k : Kind) → TypeSpec
  void : TypeSpec
  tag : (t : TagRef) → TypeSpec
  named : (x : Name) → TypeSpec

-- the type in a cast or behind `sizeof`
pub record TypeName : Type 0 where
  pub line : ℕ
  pub types : TypeSpec
  pub stars : ℕ

mutual
  pub data Expr : Type 0 where
    comma : (l : ℕ) (a b : Expr) → Expr
    assign : (l : ℕ) (op : AssignOp) (a b : Expr) → Expr
    choice : (l : ℕ) (a b c : Expr) → Expr
    binary : (l : ℕ) (op : BinaryOp) (a b : Expr) → Expr
    unary : (l : ℕ) (op : UnaryOp) (e : Expr) → Expr
    size_of : (l : ℕ) (e : Expr) → Expr
    size_of_type : (l : ℕ) (y : TypeName) → Expr
    cast : (l : ℕ) (y : TypeName) (e : Expr) → Expr
    index : (l : ℕ) (a i : Expr) → Expr
    call : (l : ℕ) (f : Expr) (es : Exprs) → Expr
    member : (l : ℕ) (e : Expr) (x : Name) → Expr
    arrow : (l : ℕ) (e : Expr) (x : Name) → Expr
    post : (l : ℕ) (op : StepOp) (e : Expr) → Expr
    name : (l : ℕ) (x : Name) → Expr
    int : (l n : ℕ) (long : Bool) → Expr
    chr : (l n : ℕ) → Expr
    text : (l : ℕ) (bytes : List ℕ) → Expr

  pub data Exprs : Type 0 where
    no_exprs : Exprs
    more_exprs : (e : Expr) (es : Exprs) → Exprs

-- the line of the first token
abbrev pub expr_line : Expr → ℕ
expr_line (comma l a b) = l
expr_line (assign l op a b) = l
expr_line (choice l a b c) = l
expr_line (binary l op a b) = l
expr_line (unary l op e) = l
expr_line (size_of l e) = l
expr_line (size_of_type l y) = l
expr_line (cast l y e) = l
expr_line (index l a i) = l
expr_line (call l f es) = l
expr_line (member l e x) = l
expr_line (arrow l e x) = l
expr_line (post l op e) = l
expr_line (name l x) = l
expr_line (int l n long) = l
expr_line (chr l n) = l
expr_line (text l bytes) = l

-- the greatest depth in a list
abbrev pub deepest : {A : Type 0} → (A → ℕ) → List A → ℕ
deepest depth [] = 0
deepest depth (x ∷ xs) = max (depth x) (deepest depth xs)

-- the depth of a part that may be missing
abbrev pub optional : {A : Type 0} → (A → ℕ) → Option A → ℕ
optional depth None = 0
optional depth (Some x) = depth x

-- A type's words are no trees, but a tag is one.
abbrev pub type_depth : TypeSpec → ℕ
type_depth (num k) = 0
type_depth void = 0
type_depth (tag t) = 1
type_depth (named x) = 0

-- The depth of a tree is 1 for a leaf and otherwise 1 more than its deepest part.
abbrev mutual
  pub expr_depth : Expr → ℕ
  expr_depth (comma l a b) = 1 + max (expr_depth a) (expr_depth b)
  expr_depth (assign l op a b) = 1 + max (expr_depth a) (expr_depth b)
  expr_depth (choice l a b c) = 1 + max (expr_depth a) (max (expr_depth b) (expr_depth c))
  expr_depth (binary l op a b) = 1 + max (expr_depth a) (expr_depth b)
  expr_depth (unary l op e) = 1 + expr_depth e
  expr_depth (size_of l e) = 1 + expr_depth e
  expr_depth (size_of_type l y) = 2 + type_depth y.types
  expr_depth (cast l y e) = 1 + max (1 + type_depth y.types) (expr_depth e)
  expr_depth (index l a i) = 1 + max (expr_depth a) (expr_depth i)
  expr_depth (call l f es) = 1 + max (expr_depth f) (exprs_depth es)
  expr_depth (member l e x) = 1 + expr_depth e
  expr_depth (arrow l e x) = 1 + expr_depth e
  expr_depth (post l op e) = 1 + expr_depth e
  expr_depth (name l x) = 1
  expr_depth (int l n long) = 1
  expr_depth (chr l n) = 1
  expr_depth (text l bytes) = 1

  pub exprs_depth : Exprs → ℕ
  exprs_depth no_exprs = 0
  exprs_depth (more_exprs e es) = max (expr_depth e) (exprs_depth es)
