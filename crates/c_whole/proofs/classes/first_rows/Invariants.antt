-- What was added and what is left is the whole.
use Rattle.std.proofs.Common.{◌≡◌, ◌++◌, map, drop}
use Rattle.c_tree.specs.TypedOf.{unit_of}
use Rattle.c_whole.specs.Classes as spec
use Rattle.c_whole.specs.Classes.{rows_of, leader_in, other_in, named_in}
use Rattle.c_whole.proofs.classes.first_rows.Given as goal

abbrev pub invariant-loop-unit : goal.invariant-loop-unit
invariant-loop-unit l =
    rows_of l.out.items ++ spec.first_rows (named_in l.names) l.next (map unit_of (drop l.unit-index l.units)) ≡
    spec.first_rows (named_in l.names) l.initial.next (map unit_of l.units)
