use Rattle.c_tree.proofs.StartLines.{switch_adds, block_adds}
use Rattle.c_tree.proofs.start_lines.+add_starts.Goals as goal

pub add_stmt-returns-in_ok-add_items-in-Switch : goal.add_stmt-returns-in_ok-add_items-in-Switch
add_stmt-returns-in_ok-add_items-in-Switch t c =
    record { added = switch_adds _ _ _ _ _ _ _ _ _ c.in-Switch.is c.deref-in-Switch.ensures.value c.in_ok-push-in-Switch.ensures.items c.in_ok-add_items-in-Switch.ensures.added }

pub add_stmt-returns-in_ok-add_stmts-in-Block : goal.add_stmt-returns-in_ok-add_stmts-in-Block
add_stmt-returns-in_ok-add_stmts-in-Block t c =
    record { added = block_adds _ _ _ _ _ _ _ c.in-Block.is c.deref-in-Block.ensures.value c.deref-in-Block-2.ensures.value c.in_ok-add_decls-in-Block.ensures.added c.in_ok-add_stmts-in-Block.ensures.added }
