-- The parts agree where the whole types do.
use Rattle.std.proofs.Common.{◌≡◌}
use Rattle.c_type.specs.Of.{type_of}
use Rattle.c_join.specs.JoinTypes.{agree_by}
use Rattle.c_whole.specs.Types.{by_classes, depth}
use Rattle.c_whole.proofs.types.Between.agree.Given as goal

abbrev pub invariant-loop-x : goal.invariant-loop-x
invariant-loop-x l =
    agree_by (by_classes l.self) (type_of l.a) (type_of l.b) ≡ agree_by (by_classes l.self) (type_of l.initial.a) (type_of l.initial.b)

abbrev pub decreases-loop-x : goal.decreases-loop-x
decreases-loop-x l = depth (type_of l.a)
