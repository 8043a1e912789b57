use Rattle.std.proofs.Common.{◌≡◌, drop, nat_lt}
use Rattle.c_tree.specs.TreeDecl.{inits_depth}
use Rattle.c_tree.specs.TreeOf.{inits_from}
use Rattle.c_decl.proofs.depth.+inits.Given as goal

abbrev pub invariant-inits_exceed-loop-init : goal.invariant-inits_exceed-loop-init
invariant-inits_exceed-loop-init l = nat_lt l.most (inits_depth (inits_from l.inits)) ≡ nat_lt l.most (inits_depth (inits_from (drop l.init-index l.inits)))
