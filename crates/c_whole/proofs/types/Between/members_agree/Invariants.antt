-- The members that are left agree where all do.
use Rattle.std.proofs.Common.{◌≡◌, drop}
use Rattle.c_type.specs.Of.{members_of}
use Rattle.c_join.specs.JoinTypes as s
use Rattle.c_whole.specs.Types.{by_classes}
use Rattle.c_whole.proofs.types.Between.members_agree.Given as goal

abbrev pub invariant-loop-i : goal.invariant-loop-i
invariant-loop-i l =
    s.members_agree (by_classes l.self) (members_of (drop l.i l.a)) (members_of (drop l.i l.b)) ≡ s.members_agree (by_classes l.self) (members_of l.a) (members_of l.b)
