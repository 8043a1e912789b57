-- What was added and what is left is the whole.
use Rattle.std.proofs.Common.{◌≡◌, ◌++◌, map, drop}
use Rattle.c_tree.specs.TypedOf.{unit_of}
use Rattle.c_whole.specs.Types.{classes_of}
use Rattle.c_whole.specs.Classes as spec
use Rattle.c_whole.specs.Classes.{rows_of, leader_in, other_in, named_in}
use Rattle.c_whole.proofs.classes.renumbered_row.Given as goal

abbrev pub invariant-loop-tag : goal.invariant-loop-tag
invariant-loop-tag l =
    l.out.items ++ spec.renumbered_row (map unit_of l.units) (classes_of l.classes) (leader_in l.leaders) (other_in l.others) l.unit l.tag (drop l.tag l.row) ≡
    spec.renumbered_row (map unit_of l.units) (classes_of l.classes) (leader_in l.leaders) (other_in l.others) l.unit 0 l.row
