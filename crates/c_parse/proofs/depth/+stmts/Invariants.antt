use Rattle.std.proofs.Common.{◌≡◌, drop, nat_lt}
use Rattle.c_tree.specs.TreeStmt.{stmts_depth, items_depth}
use Rattle.c_tree.specs.TreeOf.{stmts_from, sw_items_from}
use Rattle.c_parse.proofs.depth.+stmts.Given as goal

abbrev pub invariant-stmts_exceed-loop-stmt : goal.invariant-stmts_exceed-loop-stmt
invariant-stmts_exceed-loop-stmt l = nat_lt l.most (stmts_depth (stmts_from l.stmts)) ≡ nat_lt l.most (stmts_depth (stmts_from (drop l.stmt-index l.stmts)))

abbrev pub invariant-sw_items_exceed-loop-part : goal.invariant-sw_items_exceed-loop-part
invariant-sw_items_exceed-loop-part l = nat_lt l.most (items_depth (sw_items_from l.parts)) ≡ nat_lt l.most (items_depth (sw_items_from (drop l.part-index l.parts)))
