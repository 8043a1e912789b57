-- What was added and what is left is the whole.
use Rattle.std.proofs.Common.{◌≡◌, ◌++◌, map, drop}
use Rattle.std.specs.List.{flat_map}
use Rattle.c_join.specs.JoinSaid as s
use Rattle.c_tree.specs.TypedOf.{par_of}
use Rattle.c_whole.specs.Events.{events_of}
use Rattle.c_whole.proofs.in_units.in_pars.Given as goal

abbrev pub invariant-loop-par : goal.invariant-loop-par
invariant-loop-par l =
    events_of l.out.items ++ flat_map s.in_pars (map par_of (drop l.par-index l.pars)) ≡
    events_of l.initial.out.items ++ flat_map s.in_pars (map par_of l.pars)
