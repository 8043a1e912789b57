-- The arguments that are left decide.
use Rattle.std.proofs.Common.{◌≡◌, map, drop}
use Rattle.c_type.specs.Of.{tag_of}
use Rattle.c_tree.specs.TypedOf.{var_of}
use Rattle.c_join.specs.JoinTypes.{agree_by}
use Rattle.c_join.specs.JoinChecks as s
use Rattle.c_whole.specs.Events.{args_from}
use Rattle.c_whole.specs.Types.{by_classes}
use Rattle.c_whole.proofs.types.Between.fit_told.Given as goal

abbrev pub invariant-loop-i : goal.invariant-loop-i
invariant-loop-i l =
    s.fit (agree_by (by_classes l.self)) (map tag_of l.tags) (map (λ v. v.ty) (map var_of (drop l.i l.params))) (args_from (drop l.i l.args)) ≡
    s.fit (agree_by (by_classes l.self)) (map tag_of l.tags) (map (λ v. v.ty) (map var_of l.params)) (args_from l.args)
