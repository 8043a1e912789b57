-- What was added and what is left is the whole.
use Rattle.std.proofs.Common.{◌≡◌, ◌++◌, map, drop}
use Rattle.std.specs.List.{flat_map}
use Rattle.c_join.specs.JoinSaid as s
use Rattle.c_tree.specs.TypedOf.{declr_of}
use Rattle.c_whole.specs.Events.{events_of}
use Rattle.c_whole.proofs.in_exprs.in_declrs.Given as goal

abbrev pub invariant-loop-declr : goal.invariant-loop-declr
invariant-loop-declr l =
    events_of l.out.items ++ flat_map s.in_declr (map declr_of (drop l.declr-index l.declrs)) ≡
    events_of l.initial.out.items ++ flat_map s.in_declr (map declr_of l.declrs)
