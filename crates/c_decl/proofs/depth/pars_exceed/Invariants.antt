use Rattle.std.proofs.Common.{◌≡◌, drop, nat_lt, map}
use Rattle.c_tree.specs.TreeExpr.{deepest}
use Rattle.c_tree.specs.TreeDecl.{par_depth}
use Rattle.c_tree.specs.TreeOf.{par_of}
use Rattle.c_decl.proofs.depth.pars_exceed.Given as goal

abbrev pub invariant-loop-par : goal.invariant-loop-par
invariant-loop-par l = nat_lt l.most (deepest par_depth (map par_of l.pars)) ≡ nat_lt l.most (deepest par_depth (map par_of (drop l.par-index l.pars)))
