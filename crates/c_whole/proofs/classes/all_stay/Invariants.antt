-- What is left decides.
use Rattle.std.proofs.Common.{◌≡◌, map, drop}
use Rattle.c_tree.specs.TypedOf.{unit_of}
use Rattle.c_whole.specs.Types.{classes_of}
use Rattle.c_whole.specs.Classes as spec
use Rattle.c_whole.specs.Classes.{leader_in}
use Rattle.c_whole.proofs.classes.all_stay.Given as goal

abbrev pub invariant-loop-unit : goal.invariant-loop-unit
invariant-loop-unit l =
    spec.rows_stay (map unit_of l.units) (classes_of l.classes) (leader_in l.leaders) l.unit (map (λ r. r.items) (drop l.unit l.classes.list.now)) ≡
    spec.rows_stay (map unit_of l.units) (classes_of l.classes) (leader_in l.leaders) 0 (classes_of l.classes)
