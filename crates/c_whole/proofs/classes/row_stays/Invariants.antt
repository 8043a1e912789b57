-- What is left decides.
use Rattle.std.proofs.Common.{◌≡◌, map, drop}
use Rattle.c_tree.specs.TypedOf.{unit_of}
use Rattle.c_whole.specs.Types.{classes_of}
use Rattle.c_whole.specs.Classes as spec
use Rattle.c_whole.specs.Classes.{leader_in}
use Rattle.c_whole.proofs.classes.row_stays.Given as goal

abbrev pub invariant-loop-tag : goal.invariant-loop-tag
invariant-loop-tag l =
    spec.row_stays (map unit_of l.units) (classes_of l.classes) (leader_in l.leaders) l.unit l.tag (drop l.tag l.row) ≡
    spec.row_stays (map unit_of l.units) (classes_of l.classes) (leader_in l.leaders) l.unit 0 l.row
