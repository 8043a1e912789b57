use Rattle.std.proofs.Common.{◌≡◌, drop, nat_lt, map}
use Rattle.c_tree.specs.TreeExpr.{deepest}
use Rattle.c_tree.specs.TreeDecl.{local_depth}
use Rattle.c_tree.specs.TreeOf.{local_of}
use Rattle.c_parse.proofs.depth.locals_exceed.Given as goal

abbrev pub invariant-loop-decl : goal.invariant-loop-decl
invariant-loop-decl l = nat_lt l.most (deepest local_depth (map local_of l.decls)) ≡ nat_lt l.most (deepest local_depth (map local_of (drop l.decl-index l.decls)))
