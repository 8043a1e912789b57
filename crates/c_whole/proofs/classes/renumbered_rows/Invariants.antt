-- What was added and what is left is the whole.
use Rattle.std.proofs.Common.{◌≡◌, ◌++◌, map, drop}
use Rattle.c_tree.specs.TypedOf.{unit_of}
use Rattle.c_whole.specs.Types.{classes_of}
use Rattle.c_whole.specs.Classes as spec
use Rattle.c_whole.specs.Classes.{rows_of, leader_in, other_in, named_in}
use Rattle.c_whole.proofs.classes.renumbered_rows.Given as goal

abbrev pub invariant-loop-unit : goal.invariant-loop-unit
invariant-loop-unit l =
    rows_of l.out.items ++ spec.renumbered_rows (map unit_of l.units) (classes_of l.classes) (leader_in l.leaders) (other_in l.others) l.unit (map (λ r. r.items) (drop l.unit l.classes.list.now)) ≡
    spec.renumbered_rows (map unit_of l.units) (classes_of l.classes) (leader_in l.leaders) (other_in l.others) 0 (classes_of l.classes)
