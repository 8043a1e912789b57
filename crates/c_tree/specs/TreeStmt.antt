-- Statements as plain data, one constructor for each production. Each node begins with the line of its first token.
use Rattle.std.specs.Prelude.{ℕ, ◌+◌, max, List, Option}
use Rattle.c_tree.specs.TreeExpr.{Expr, expr_depth, deepest, optional}
use Rattle.c_tree.specs.TreeDecl.{LocalDecl, local_depth}

-- A `do` has the line m of its `while`, and a block the line m of its closing brace.
mutual
  pub data Stmt : Type 0 where
    expr : (l : ℕ) (e : Expr) → Stmt
    empty : (l : ℕ) → Stmt
    if_only : (l : ℕ) (e : Expr) (s : Stmt) → Stmt
    if_else : (l : ℕ) (e : Expr) (s r : Stmt) → Stmt
    while : (l : ℕ) (e : Expr) (s : Stmt) → Stmt
    do_while : (l : ℕ) (s : Stmt) (m : ℕ) (e : Expr) → Stmt
    for : (l : ℕ) (e1 e2 e3 : Option Expr) (s : Stmt) → Stmt
    switch : (l : ℕ) (e : Expr) (is : SwItems) → Stmt
    break : (l : ℕ) → Stmt
    continue : (l : ℕ) → Stmt
    return : (l : ℕ) (e : Option Expr) → Stmt
    block : (l : ℕ) (ds : List LocalDecl) (ss : Stmts) (m : ℕ) → Stmt

  pub data Stmts : Type 0 where
    no_stmts : Stmts
    more_stmts : (s : Stmt) (ss : Stmts) → Stmts

  pub data SwItem : Type 0 where
    case : (l : ℕ) (e : Expr) → SwItem
    default : (l : ℕ) → SwItem
    stmt : (s : Stmt) → SwItem

  pub data SwItems : Type 0 where
    no_items : SwItems
    more_items : (i : SwItem) (is : SwItems) → SwItems

-- the block of a function
pub record Block : Type 0 where
  pub line : ℕ
  pub decls : List LocalDecl
  pub stmts : Stmts
  pub close_line : ℕ

abbrev mutual
  pub stmt_depth : Stmt → ℕ
  stmt_depth (expr l e) = 1 + expr_depth e
  stmt_depth (empty l) = 1
  stmt_depth (if_only l e s) = 1 + max (expr_depth e) (stmt_depth s)
  stmt_depth (if_else l e s r) = 1 + max (expr_depth e) (max (stmt_depth s) (stmt_depth r))
  stmt_depth (while l e s) = 1 + max (expr_depth e) (stmt_depth s)
  stmt_depth (do_while l s m e) = 1 + max (stmt_depth s) (expr_depth e)
  stmt_depth (for l e1 e2 e3 s) = 1 + max (optional expr_depth e1) (max (optional expr_depth e2) (max (optional expr_depth e3) (stmt_depth s)))
  stmt_depth (switch l e is) = 1 + max (expr_depth e) (items_depth is)
  stmt_depth (break l) = 1
  stmt_depth (continue l) = 1
  stmt_depth (return l e) = 1 + optional expr_depth e
  stmt_depth (block l ds ss m) = 1 + max (deepest local_depth ds) (stmts_depth ss)

  pub stmts_depth : Stmts → ℕ
  stmts_depth no_stmts = 0
  stmts_depth (more_stmts s ss) = max (stmt_depth s) (stmts_depth ss)

  pub item_depth : SwItem → ℕ
  item_depth (case l e) = 1 + expr_depth e
  item_depth (default l) = 1
  item_depth (stmt s) = 1 + stmt_depth s

  pub items_depth : SwItems → ℕ
  items_depth no_items = 0
  items_depth (more_items i is) = max (item_depth i) (items_depth is)

abbrev pub block_depth : Block → ℕ
block_depth b = 1 + max (deepest local_depth b.decls) (stmts_depth b.stmts)
