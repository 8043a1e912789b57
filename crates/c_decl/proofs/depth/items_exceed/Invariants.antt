use Rattle.std.proofs.Common.{◌≡◌, drop, nat_lt, map}
use Rattle.c_tree.specs.TreeExpr.{deepest}
use Rattle.c_tree.specs.TreeDecl.{item_depth}
use Rattle.c_tree.specs.TreeOf.{item_of}
use Rattle.c_decl.proofs.depth.items_exceed.Given as goal

abbrev pub invariant-loop-item : goal.invariant-loop-item
invariant-loop-item l = nat_lt l.most (deepest item_depth (map item_of l.items)) ≡ nat_lt l.most (deepest item_depth (map item_of (drop l.item-index l.items)))
