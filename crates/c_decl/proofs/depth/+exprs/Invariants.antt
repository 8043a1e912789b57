use Rattle.std.proofs.Common.{◌≡◌, drop, nat_lt}
use Rattle.c_tree.specs.TreeExpr.{exprs_depth}
use Rattle.c_tree.specs.TreeOf.{exprs_from}
use Rattle.c_decl.proofs.depth.+exprs.Given as goal

abbrev pub invariant-exprs_exceed-loop-expr : goal.invariant-exprs_exceed-loop-expr
invariant-exprs_exceed-loop-expr l = nat_lt l.most (exprs_depth (exprs_from l.exprs)) ≡ nat_lt l.most (exprs_depth (exprs_from (drop l.expr-index l.exprs)))
