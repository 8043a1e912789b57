-- What was added and what is left is the whole.
use Rattle.std.proofs.Common.{◌≡◌, ◌++◌, drop}
use Rattle.c_join.specs.JoinSaid as s
use Rattle.c_whole.specs.Events.{events_of, args_from}
use Rattle.c_whole.proofs.in_exprs.+in_exprs.Given as goal

abbrev pub invariant-in_args-loop-arg : goal.invariant-in_args-loop-arg
invariant-in_args-loop-arg l =
    events_of l.out.items ++ s.in_args (args_from (drop l.arg-index l.args)) ≡ events_of l.initial.out.items ++ s.in_args (args_from l.args)
