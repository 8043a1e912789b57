-- What was typed and what is left is the whole.
use Rattle.std.proofs.Common.{◌≡◌, ◌+◌, ◌*◌, drop}
use Rattle.c_tree.specs.TreeOf.{stmt_of, stmts_from, block_of}
use Rattle.c_tree.specs.TreeStmt.{stmt_depth, stmts_depth, block_depth}
use Rattle.small_form.specs.SmallForm.{stmts_in, stmts_starts}
use Rattle.small_form.proofs.SmallTrees.{with_front}
use Rattle.small_form.proofs.typed_main.+stmts.Given as goal

abbrev pub decreases-stmt : goal.decreases-stmt
decreases-stmt l = 3 * stmt_depth (stmt_of l.one.now) + 2

abbrev pub decreases-block : goal.decreases-block
decreases-block l = 3 * block_depth (block_of l.inner.now) + 1

abbrev pub decreases-stmts : goal.decreases-stmts
decreases-stmts l = 3 * stmts_depth (stmts_from l.list.now) + 3

abbrev pub invariant-stmts-loop-one : goal.invariant-stmts-loop-one
invariant-stmts-loop-one l = record {
  counted : l.next + stmts_starts (stmts_from (drop l.one-index l.list)) ≡ l.initial.next + stmts_starts (stmts_from l.list);
  typed : with_front l.typed.items (stmts_in l.variables l.next (stmts_from (drop l.one-index l.list))) ≡ stmts_in l.variables l.initial.next (stmts_from l.list);
}
