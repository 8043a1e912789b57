-- What was added and what is left is the whole.
use Rattle.std.proofs.Common.{◌≡◌, ◌++◌, map, drop}
use Rattle.std.specs.List.{flat_map}
use Rattle.c_join.specs.JoinSaid as s
use Rattle.c_tree.specs.TypedOf.{ext_of}
use Rattle.c_whole.specs.Events.{events_of}
use Rattle.c_whole.proofs.in_units.events.Given as goal

abbrev pub invariant-loop-ext : goal.invariant-loop-ext
invariant-loop-ext l = events_of l.out.items ++ flat_map s.in_ext (map ext_of (drop l.ext-index l.unit.exts.items)) ≡ flat_map s.in_ext (map ext_of l.unit.exts.items)
