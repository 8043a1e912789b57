-- What was added and what is left is the whole.
use Rattle.std.proofs.Common.{◌≡◌, ◌++◌, map, drop}
use Rattle.std.specs.List.{flat_map}
use Rattle.c_join.specs.JoinSaid as s
use Rattle.c_tree.specs.TypedOf.{enumerator_of}
use Rattle.c_whole.specs.Events.{events_of}
use Rattle.c_whole.proofs.in_units.in_enumerators.Given as goal

abbrev pub invariant-loop-enumerator : goal.invariant-loop-enumerator
invariant-loop-enumerator l =
    events_of l.out.items ++ flat_map s.in_enumerator (map enumerator_of (drop l.enumerator-index l.enumerators)) ≡
    events_of l.initial.out.items ++ flat_map s.in_enumerator (map enumerator_of l.enumerators)
