-- What was added and what is left is the whole.
use Rattle.std.proofs.Common.{◌≡◌, ◌++◌, drop}
use Rattle.c_join.specs.JoinSaid as s
use Rattle.c_whole.specs.Events.{events_of, mems_from}
use Rattle.c_whole.proofs.in_units.+in_specs.Given as goal

abbrev pub invariant-in_mems-loop-mem : goal.invariant-in_mems-loop-mem
invariant-in_mems-loop-mem l =
    events_of l.out.items ++ s.in_mems (mems_from (drop l.mem-index l.mems)) ≡ events_of l.initial.out.items ++ s.in_mems (mems_from l.mems)
