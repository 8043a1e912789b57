use Rattle.std.proofs.Common.{◌≡◌, drop, nat_lt, map}
use Rattle.c_tree.specs.TreeExpr.{deepest}
use Rattle.c_tree.specs.TreeDecl.{en_depth}
use Rattle.c_tree.specs.TreeOf.{en_of}
use Rattle.c_decl.proofs.depth.ens_exceed.Given as goal

abbrev pub invariant-loop-en : goal.invariant-loop-en
invariant-loop-en l = nat_lt l.most (deepest en_depth (map en_of l.ens)) ≡ nat_lt l.most (deepest en_depth (map en_of (drop l.en-index l.ens)))
