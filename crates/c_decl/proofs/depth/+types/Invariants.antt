use Rattle.std.proofs.Common.{◌≡◌, drop, nat_lt}
use Rattle.c_tree.specs.TreeDecl.{mems_depth}
use Rattle.c_tree.specs.TreeOf.{mems_from}
use Rattle.c_decl.proofs.depth.+types.Given as goal

abbrev pub invariant-mems_exceed-loop-mem : goal.invariant-mems_exceed-loop-mem
invariant-mems_exceed-loop-mem l = nat_lt l.most (mems_depth (mems_from l.mems)) ≡ nat_lt l.most (mems_depth (mems_from (drop l.mem-index l.mems)))
