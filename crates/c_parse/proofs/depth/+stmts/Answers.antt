use Rattle.std.proofs.Common.{arith, sym}
use Rattle.c_tree.specs.TreeOf.{stmt_of, sw_item_of}
use Rattle.c_parse.proofs.Depths.{stmt_exceeds_none, item_exceeds_none, switch_exceeds, block_stmt_exceeds}
use Rattle.c_parse.proofs.depth.+stmts.Goals as goal

pub stmt_exceeds-returns-then-most-eq0 : goal.stmt_exceeds-returns-then-most-eq0
stmt_exceeds-returns-then-most-eq0 t c = stmt_exceeds_none c.args.most (stmt_of c.args.stmt.now) c.if-most-eq0.true

pub stmt_exceeds-returns-else-expr_exceeds-4 : goal.stmt_exceeds-returns-else-expr_exceeds-4
stmt_exceeds-returns-else-expr_exceeds-4 t c =
    switch_exceeds c.args.most c.in-Switch.field-0 c.in-Switch.e c.in-Switch.parts c.args.stmt.now c.sw_items_exceed.result c.in-Switch.is (omega arith) (sym c.if-expr_exceeds-4.ensures)
    (rw c.deref-else-expr_exceeds-4.ensures.value at c.sw_items_exceed.ensures)

pub stmt_exceeds-returns-in-Block : goal.stmt_exceeds-returns-in-Block
stmt_exceeds-returns-in-Block t c = block_stmt_exceeds c.args.most c.in-Block.block c.args.stmt.now c.block_exceeds.result c.in-Block.is c.block_exceeds.ensures

pub sw_item_exceeds-returns-then-most-eq0 : goal.sw_item_exceeds-returns-then-most-eq0
sw_item_exceeds-returns-then-most-eq0 t c = item_exceeds_none c.args.most (sw_item_of c.args.part.now) c.if-most-eq0.true
