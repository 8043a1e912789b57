-- The trees of the variants that hold a `Vec` of trees, from the lists of their parts.
use Rattle.std.proofs.Common.{◌≡◌, ℕ, Option, refl, ap, map, ◌∙◌, Vec, Box, Global}
use mathlib.Core.Former.{Count}
use Rattle.c_tree.specs.declared.expr.Expr as x
use Rattle.c_tree.specs.declared.expr.Expr.{Expr, Call}
use Rattle.c_tree.specs.declared.decl.Init as i
use Rattle.c_tree.specs.declared.decl.Init.{Init, Group}
use Rattle.c_tree.specs.declared.decl.TagDef as g
use Rattle.c_tree.specs.declared.decl.TagDef.{TagDef, Struct}
use Rattle.c_tree.specs.declared.decl.Mem.{Mem}
use Rattle.c_tree.specs.declared.stmt.Stmt as s
use Rattle.c_tree.specs.declared.stmt.Stmt.{Stmt}
use Rattle.c_tree.specs.declared.stmt.SwItem.{SwItem}
use Rattle.c_tree.specs.declared.stmt.Block.{Block}
use Rattle.c_type.specs.Names.{Name}
use Rattle.c_tree.specs.TreeExpr as t
use Rattle.c_tree.specs.TreeDecl as td
use Rattle.c_tree.specs.TreeStmt as ts
use Rattle.c_tree.specs.TreeOf.{expr_of, exprs_of, exprs_from, init_of, inits_of, inits_from, declr_of, types_of, def_of, mems_of, mems_from, local_of, stmt_of, stmts_of, stmts_from, sw_item_of, sw_items_of, sw_items_from}

exprs_are : (n : _) (row : x.TheBlock.Row_of-Expr n) → exprs_of row ≡ exprs_from (x.items-the_row-Expr n row)
exprs_are n x.TheBlock.end_of-Expr = refl
exprs_are n (x.TheBlock.more_of-Expr e es) = ap (t.more_exprs (expr_of e)) (exprs_are _ es)

abbrev exprs_in : Expr → (n : Count) × x.TheBlock.Row_of-Expr n
exprs_in (x.TheBlock.Call' _ _ _ _ row) = (_, row)
exprs_in _ = (_, x.TheBlock.end_of-Expr)

pub expr_of-Call : (l : ℕ) (f : Box Expr Global) (es : Vec Expr Global) → expr_of (Call l f es) ≡ t.call l (expr_of f.value) (exprs_from es.items)
expr_of-Call l f es =
    let row = exprs_in (Call l f es) in
    ap (t.call l (expr_of f.value)) (exprs_are row.0 row.1 ∙ ap exprs_from (x.items_hidden-the_row-Expr-0 es))

inits_are : (n : _) (row : i.TheBlock.Row_of-Init n) → inits_of row ≡ inits_from (i.items-the_row-Init n row)
inits_are n i.TheBlock.end_of-Init = refl
inits_are n (i.TheBlock.more_of-Init e es) = ap (td.more_inits (init_of e)) (inits_are _ es)

abbrev inits_in : Init → (n : Count) × i.TheBlock.Row_of-Init n
inits_in (i.TheBlock.Group' _ _ row) = (_, row)
inits_in _ = (_, i.TheBlock.end_of-Init)

pub init_of-Group : (l : ℕ) (is : Vec Init Global) → init_of (Group l is) ≡ td.group l (inits_from is.items)
init_of-Group l is =
    let row = inits_in (Group l is) in
    ap (td.group l) (inits_are row.0 row.1 ∙ ap inits_from (i.items_hidden-the_row-Init-0 is))

mems_are : (n : _) (row : g.TheBlock.Row_of-Mem n) → mems_of row ≡ mems_from (g.items-the_row-Mem n row)
mems_are n g.TheBlock.end_of-Mem = refl
mems_are n (g.TheBlock.more_of-Mem l y ds ms) = ap (td.more_mems (td.mem l (types_of y) (map declr_of ds.items))) (mems_are _ ms)

abbrev mems_in : TagDef → (n : Count) × g.TheBlock.Row_of-Mem n
mems_in (g.TheBlock.Struct' _ _ _ row) = (_, row)
mems_in (g.TheBlock.Union' _ _ _ row) = (_, row)
mems_in _ = (_, g.TheBlock.end_of-Mem)

pub def_of-Struct : (l : ℕ) (n : Option Name) (ms : Vec Mem Global) → def_of (Struct l n ms) ≡ td.struct l n (mems_from ms.items)
def_of-Struct l n ms =
    let row = mems_in (Struct l n ms) in
    ap (td.struct l n) (mems_are row.0 row.1 ∙ ap mems_from (g.items_hidden-the_row-Mem-0 ms))

stmts_are : (n : _) (row : s.TheBlock.Row_of-Stmt n) → stmts_of row ≡ stmts_from (s.items-the_row-Stmt n row)
stmts_are n s.TheBlock.end_of-Stmt = refl
stmts_are n (s.TheBlock.more_of-Stmt e es) = ap (ts.more_stmts (stmt_of e)) (stmts_are _ es)

abbrev stmts_in : Stmt → (n : Count) × s.TheBlock.Row_of-Stmt n
stmts_in (s.TheBlock.Block' _ _ _ row _) = (_, row)
stmts_in _ = (_, s.TheBlock.end_of-Stmt)

pub stmt_of-Block : (b : Block) → stmt_of (s.Block b) ≡ ts.block b.line (map local_of b.decls.items) (stmts_from b.stmts.items) b.close_line
stmt_of-Block b =
    let row = stmts_in (s.Block b) in
    ap (λ y. ts.block b.line (map local_of b.decls.items) y b.close_line) (stmts_are row.0 row.1 ∙ ap stmts_from (s.items_hidden-the_row-Stmt-1 b.stmts))

sw_items_are : (n : _) (row : s.TheBlock.Row_of-SwItem n) → sw_items_of row ≡ sw_items_from (s.items-the_row-SwItem n row)
sw_items_are n s.TheBlock.end_of-SwItem = refl
sw_items_are n (s.TheBlock.more_of-SwItem e es) = ap (ts.more_items (sw_item_of e)) (sw_items_are _ es)

abbrev sw_items_in : Stmt → (n : Count) × s.TheBlock.Row_of-SwItem n
sw_items_in (s.TheBlock.Switch' _ _ _ row) = (_, row)
sw_items_in _ = (_, s.TheBlock.end_of-SwItem)

pub stmt_of-Switch : (l : ℕ) (e : Expr) (is : Vec SwItem Global) → stmt_of (s.Switch l e is) ≡ ts.switch l (expr_of e) (sw_items_from is.items)
stmt_of-Switch l e is =
    let row = sw_items_in (s.Switch l e is) in
    ap (ts.switch l (expr_of e)) (sw_items_are row.0 row.1 ∙ ap sw_items_from (s.items_hidden-the_row-SwItem-0 is))
