use Rattle.std.proofs.Common.{◌≡◌, ◌+◌, ◌-◌, ◌*◌, length}
use Rattle.c_tree.specs.TreeStmt as t
use Rattle.c_tree.specs.TreeOf.{stmt_of, sw_item_of}
use Rattle.c_decl.specs.Answers.{rest}
use Rattle.c_parse.specs.Words as w
use Rattle.c_parse.proofs.Pushed.{with_front}
use Rattle.c_parse.proofs.statements.+stmts.Given as goal

abbrev pub decreases-stmt : goal.decreases-stmt
decreases-stmt l = 4 * l.depth

abbrev pub decreases-if_stmt : goal.decreases-if_stmt
decreases-if_stmt l = 4 * l.depth + 2

abbrev pub decreases-else_stmt : goal.decreases-else_stmt
decreases-else_stmt l = 4 * l.depth + 1

abbrev pub decreases-while_stmt : goal.decreases-while_stmt
decreases-while_stmt l = 4 * l.depth + 1

abbrev pub decreases-do_stmt : goal.decreases-do_stmt
decreases-do_stmt l = 4 * l.depth + 1

abbrev pub decreases-for_stmt : goal.decreases-for_stmt
decreases-for_stmt l = 4 * l.depth + 1

abbrev pub decreases-item : goal.decreases-item
decreases-item l = 4 * l.depth + 1

abbrev pub decreases-stmts : goal.decreases-stmts
decreases-stmts l = 4 * l.depth + 1

abbrev pub decreases-items : goal.decreases-items
decreases-items l = 4 * l.depth + 2

abbrev pub decreases-block : goal.decreases-block
decreases-block l = 4 * l.depth + 2

abbrev pub decreases-switch_stmt : goal.decreases-switch_stmt
decreases-switch_stmt l = 4 * l.depth + 3

abbrev pub decreases-block_stmt : goal.decreases-block_stmt
decreases-block_stmt l = 4 * l.depth + 3

abbrev pub invariant-items-loop-turn : goal.invariant-items-loop-turn
invariant-items-loop-turn l =
    with_front sw_item_of t.more_items l.list.items (w.items l.r l.depth (length (rest l.r l.at) + 1 - l._turn) (rest l.r l.next)) ≡ w.items l.r l.depth (length (rest l.r l.at) + 1) (rest l.r l.at)

abbrev pub invariant-stmts-loop-turn : goal.invariant-stmts-loop-turn
invariant-stmts-loop-turn l =
    with_front stmt_of t.more_stmts l.list.items (w.stmts l.r l.depth (length (rest l.r l.at) + 1 - l._turn) (rest l.r l.next)) ≡ w.stmts l.r l.depth (length (rest l.r l.at) + 1) (rest l.r l.at)
