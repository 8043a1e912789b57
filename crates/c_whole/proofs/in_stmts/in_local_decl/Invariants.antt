-- What was added and what is left is the whole.
use Rattle.std.proofs.Common.{◌≡◌, ◌++◌, map, drop}
use Rattle.std.specs.List.{flat_map}
use Rattle.c_join.specs.JoinSaid as s
use Rattle.c_tree.specs.TypedOf.{local_of}
use Rattle.c_whole.specs.Events.{events_of}
use Rattle.c_whole.proofs.in_stmts.in_local_decl.Given as goal

abbrev pub invariant-loop-local : goal.invariant-loop-local
invariant-loop-local l =
    events_of l.out.items ++ flat_map s.in_local (map local_of (drop l.local-index l.decl.items.items)) ≡
    events_of l.initial.out.items ++ flat_map s.in_local (map local_of l.decl.items.items)
