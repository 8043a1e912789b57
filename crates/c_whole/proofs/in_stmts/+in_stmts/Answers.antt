use Rattle.std.proofs.lemmas.Result.{on_ok_weaker}
use Rattle.c_whole.proofs.Rows.{switch_adds, block_adds}
use Rattle.c_whole.proofs.in_stmts.+in_stmts.Goals as goal

pub in_stmt-returns-in_ok-in_expr-in-Switch : goal.in_stmt-returns-in_ok-in_expr-in-Switch
in_stmt-returns-in_ok-in_expr-in-Switch t c =
    record { added = on_ok_weaker c.in_items.result (switch_adds _ _ _ _ _ _ _ _ _ c.in-Switch.is c.deref-in-Switch.ensures.value c.in_ok-in_expr-in-Switch.ensures.added) c.in_items.ensures.added }

pub in_stmt-returns-in_ok-in_locals-in-Block : goal.in_stmt-returns-in_ok-in_locals-in-Block
in_stmt-returns-in_ok-in_locals-in-Block t c =
    record { added = on_ok_weaker c.in_stmts.result (block_adds _ _ _ _ _ _ _ c.in-Block.is c.deref-in-Block.ensures.value c.deref-in-Block-2.ensures.value c.in_ok-in_locals-in-Block.ensures.added) c.in_stmts.ensures.added }
