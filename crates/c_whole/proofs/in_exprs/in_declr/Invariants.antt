-- What was added and what is left is the whole.
use Rattle.std.proofs.Common.{◌≡◌, ◌++◌, map, drop}
use Rattle.std.specs.List.{flat_map}
use Rattle.c_join.specs.JoinSaid as s
use Rattle.c_tree.specs.TypedOf.{expr_of}
use Rattle.c_whole.specs.Events.{events_of}
use Rattle.c_whole.proofs.in_exprs.in_declr.Given as goal

abbrev pub invariant-loop-dim : goal.invariant-loop-dim
invariant-loop-dim l =
    events_of l.out.items ++ flat_map s.in_expr (map expr_of (drop l.dim-index l.declr.dims.items)) ≡
    events_of l.initial.out.items ++ flat_map s.in_expr (map expr_of l.declr.dims.items)
