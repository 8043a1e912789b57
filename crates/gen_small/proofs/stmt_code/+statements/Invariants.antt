-- What was added and what is left is the whole. A part of a statement has fewer nodes.
use Rattle.std.proofs.Common.{◌≡◌, ◌≤◌, ◌*◌, ◌++◌, drop}
use Rattle.c_tree.specs.TypedOf.{stmt_of, stmts_from}
use Rattle.gen_small.specs.Code.{stmts_code}
use Rattle.gen_small.specs.Forms.{IsFormStmts}
use Rattle.gen_small.specs.Listed.{int_site}
use Rattle.gen_small.proofs.StmtParts.{stmt_nodes, stmts_nodes}
use Rattle.gen_small.proofs.stmt_code.+statements.Given as goal

abbrev pub invariant-push_stmts-loop-stmt : goal.invariant-push_stmts-loop-stmt
invariant-push_stmts-loop-stmt l =
    (l.code.frame ≡ l.initial.code.frame)
    × (stmts_nodes (stmts_from (drop l.stmt-index l.stmts)) ≤ stmts_nodes (stmts_from l.stmts))
    × IsFormStmts l.initial.code.frame.objects (stmts_from (drop l.stmt-index l.stmts))
    × (l.code.items ++ stmts_code (int_site l.initial.code.frame) (stmts_from (drop l.stmt-index l.stmts)) ≡
    l.initial.code.items ++ stmts_code (int_site l.initial.code.frame) (stmts_from l.stmts))

abbrev pub decreases-push_stmts : goal.decreases-push_stmts
decreases-push_stmts l = 2 * stmts_nodes (stmts_from l.stmts.now)

abbrev pub decreases-push_stmt : goal.decreases-push_stmt
decreases-push_stmt l = 2 * stmt_nodes (stmt_of l.stmt.now)
