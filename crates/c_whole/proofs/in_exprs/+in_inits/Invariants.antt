-- What was added and what is left is the whole.
use Rattle.std.proofs.Common.{◌≡◌, ◌++◌, drop}
use Rattle.c_join.specs.JoinSaid as s
use Rattle.c_whole.specs.Events.{events_of, inits_from}
use Rattle.c_whole.proofs.in_exprs.+in_inits.Given as goal

abbrev pub invariant-in_inits-loop-init : goal.invariant-in_inits-loop-init
invariant-in_inits-loop-init l =
    events_of l.out.items ++ s.in_inits (inits_from (drop l.init-index l.inits)) ≡ events_of l.initial.out.items ++ s.in_inits (inits_from l.inits)
