-- What was added and what is left is the whole.
use Rattle.std.proofs.Common.{◌≡◌, ◌++◌, map, drop}
use Rattle.c_tree.specs.TypedOf.{declr_of}
use Rattle.c_limit.specs.Names as s
use Rattle.c_limit.specs.Of.{all_named_of}
use Rattle.c_limit.proofs.names.add_declrs.Given as goal

abbrev pub invariant-loop-declr : goal.invariant-loop-declr
invariant-loop-declr l = all_named_of l.out.items ++ map s.of_declr (map declr_of (drop l.declr-index l.declrs)) ≡ all_named_of l.initial.out.items ++ map s.of_declr (map declr_of l.declrs)
