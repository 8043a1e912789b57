-- Typed declarations in blocks, and typed statements.
-- It states docs/LANGUAGE.md, section Evaluation.
use Rattle.std.specs.Prelude.{ℕ, List, Bool, Option}
use Rattle.std.specs.List.{flat_map}
use Rattle.c_type.specs.Names.{Name}
use Rattle.c_type.specs.Types.{CType}
use Rattle.c_tree.specs.TExpr.{TExpr}

-- a declarator with the constant expressions of its dimensions in textual order
pub record Declr : Type 0 where
  pub name : Name
  pub ty : CType
  pub dims : List TExpr

-- an initialiser; `bytes` are those of a text that fills an array of char
mutual
  pub data Init : Type 0 where
    single : (e : TExpr) → Init
    bytes : (bs : List ℕ) → Init
    group : (is : Inits) → Init

  pub data Inits : Type 0 where
    no_inits : Inits
    more_inits : (i : Init) (is : Inits) → Inits

-- A declarator of a block: automatic object i of its function, without and with an initialiser; static k of the unit;
-- an external object; a function, which may be static. k and l of an initialised one are the number and line of its start.
pub data Local : Type 0 where
  auto : (d : Declr) (i : ℕ) → Local
  auto_init : (d : Declr) (i k l : ℕ) (e : TExpr) → Local
  static_ : (d : Declr) (k : ℕ) (init : Option Init) → Local
  extern_ : (d : Declr) → Local
  function : (d : Declr) (is_static : Bool) → Local

-- a declaration of a block
pub record LocalDecl : Type 0 where
  pub items : List Local

-- the declarators of a block in textual order
abbrev pub locals : List LocalDecl → List Local
locals ds = flat_map (λ d. d.items) ds

-- A statement that is a start has the start's number k in its file, and its line l. A `for` has the starts k, k + 1 and k + 2:
-- first part, test and step. A block has the lines of its braces.
mutual
  pub data TStmt : Type 0 where
    expr : (k l : ℕ) (e : TExpr) → TStmt
    empty : (k l : ℕ) → TStmt
    if_only : (k l : ℕ) (e : TExpr) (a : TStmt) → TStmt
    if_else : (k l : ℕ) (e : TExpr) (a b : TStmt) → TStmt
    while_ : (k l : ℕ) (e : TExpr) (body : TStmt) → TStmt
    do_ : (k l : ℕ) (body : TStmt) (e : TExpr) → TStmt
    for_ : (k l : ℕ) (e1 e2 e3 : Option TExpr) (body : TStmt) → TStmt
    switch : (k l : ℕ) (e : TExpr) (is : TItems) → TStmt
    break_ : (k l : ℕ) → TStmt
    continue_ : (k l : ℕ) → TStmt
    return_ : (k l : ℕ) (e : Option TExpr) → TStmt
    block : (line : ℕ) (ds : List LocalDecl) (ss : TStmts) (close_line : ℕ) → TStmt

  pub data TStmts : Type 0 where
    no_stmts : TStmts
    more_stmts : (s : TStmt) (ss : TStmts) → TStmts

  -- the parts of a switch; n is a case's value in the widened type
  pub data TItems : Type 0 where
    no_items : TItems
    case_ : (e : TExpr) (n : ℕ) (is : TItems) → TItems
    default_ : (is : TItems) → TItems
    more_items : (s : TStmt) (is : TItems) → TItems
