-- Each statement is at least one deep, and a `switch` and a block are one deeper than their deepest parts.
use Rattle.std.proofs.Common.{◌≡◌, ℕ, ◌-◌, ◌≤◌, Bool, true, false, nat_lt, arith, ap, sym, ◌∙◌, Vec, Global}
use Rattle.c_tree.specs.declared.expr.Expr.{Expr}
use Rattle.c_tree.specs.declared.stmt.Stmt as s
use Rattle.c_tree.specs.declared.stmt.Stmt.{Stmt}
use Rattle.c_tree.specs.declared.stmt.SwItem.{SwItem}
use Rattle.c_tree.specs.declared.stmt.Block.{Block}
use Rattle.c_tree.specs.TreeExpr.{expr_depth}
use Rattle.c_tree.specs.TreeStmt as t
use Rattle.c_tree.specs.TreeStmt.{stmt_depth, item_depth, items_depth, block_depth}
use Rattle.c_tree.specs.TreeOf.{expr_of, stmt_of, sw_items_from, block_of}
use Rattle.c_tree.proofs.Of.{stmt_of-Block, stmt_of-Switch}
use Rattle.c_decl.proofs.Depths.{none_exceeds, other_exceeds}
use Rattle.c_parse.proofs.StmtAgain.{stmt_deep}

item_deep : (i : t.SwItem) → 1 ≤ item_depth i
item_deep (t.case l e) = omega arith
item_deep (t.default l) = omega arith
item_deep (t.stmt q) = omega arith

pub stmt_exceeds_none : (most : ℕ) (q : t.Stmt) → most ≡ 0 → true ≡ nat_lt most (stmt_depth q)
stmt_exceeds_none most q is = none_exceeds most (stmt_depth q) is (stmt_deep q)

pub item_exceeds_none : (most : ℕ) (i : t.SwItem) → most ≡ 0 → true ≡ nat_lt most (item_depth i)
item_exceeds_none most i is = none_exceeds most (item_depth i) is (item_deep i)

pub switch_exceeds : (most l : ℕ) (e : Expr) (is : Vec SwItem Global) (q : Stmt) (o : Bool) → q ≡ s.Switch l e is → 1 ≤ most → nat_lt (most - 1) (expr_depth (expr_of e)) ≡ false
    → o ≡ nat_lt (most - 1) (items_depth (sw_items_from is.items)) → o ≡ nat_lt most (stmt_depth (stmt_of q))
switch_exceeds most l e is q o same some low other =
    other ∙ other_exceeds most (expr_depth (expr_of e)) (items_depth (sw_items_from is.items)) some low ∙ ap (λ y. nat_lt most (stmt_depth y)) (sym (stmt_of-Switch l e is) ∙ ap stmt_of (sym same))

pub block_stmt_exceeds : (most : ℕ) (b : Block) (q : Stmt) (o : Bool) → q ≡ s.Block b → o ≡ nat_lt most (block_depth (block_of b)) → o ≡ nat_lt most (stmt_depth (stmt_of q))
block_stmt_exceeds most b q o same is = is ∙ ap (λ y. nat_lt most (stmt_depth y)) (sym (stmt_of-Block b) ∙ ap stmt_of (sym same))
