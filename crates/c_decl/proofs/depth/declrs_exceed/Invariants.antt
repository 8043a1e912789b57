use Rattle.std.proofs.Common.{◌≡◌, drop, nat_lt, map}
use Rattle.c_tree.specs.TreeExpr.{deepest}
use Rattle.c_tree.specs.TreeDecl.{declr_depth}
use Rattle.c_tree.specs.TreeOf.{declr_of}
use Rattle.c_decl.proofs.depth.declrs_exceed.Given as goal

abbrev pub invariant-loop-declr : goal.invariant-loop-declr
invariant-loop-declr l = nat_lt l.most (deepest declr_depth (map declr_of l.declrs)) ≡ nat_lt l.most (deepest declr_depth (map declr_of (drop l.declr-index l.declrs)))
