use Rattle.std.proofs.Common.{◌≡◌, ◌++◌, drop, map}
use Rattle.c_tree.specs.TreeOf.{declr_of}
use Rattle.c_tree.specs.TreeDecl.{declared}
use Rattle.c_expr.specs.Typedefs.{names_of}
use Rattle.c_decl.proofs.places.add_declared.Given as goal

abbrev pub invariant-loop-declr : goal.invariant-loop-declr
invariant-loop-declr l = names_of l.defs ++ map declared (map declr_of (drop l.declr-index l.declrs)) ≡ names_of l.initial.defs ++ map declared (map declr_of l.declrs)
