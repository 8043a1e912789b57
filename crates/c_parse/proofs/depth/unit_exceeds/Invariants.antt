use Rattle.std.proofs.Common.{◌≡◌, ◌-◌, drop, nat_lt, map}
use Rattle.c_tree.specs.TreeExpr.{deepest}
use Rattle.c_tree.specs.TreeUnit.{ext_depth}
use Rattle.c_tree.specs.TreeOf.{ext_of}
use Rattle.c_parse.proofs.depth.unit_exceeds.Given as goal

abbrev pub invariant-loop-ext : goal.invariant-loop-ext
invariant-loop-ext l = nat_lt (l.most - 1) (deepest ext_depth (map ext_of l.unit.exts.items)) ≡ nat_lt (l.most - 1) (deepest ext_depth (map ext_of (drop l.ext-index l.unit.exts.items)))
