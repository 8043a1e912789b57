-- What was added and what is left is the whole.
use Rattle.std.proofs.Common.{◌≡◌, ◌++◌, map, drop}
use Rattle.c_join.specs.JoinSaid as s
use Rattle.c_whole.specs.Events.{events_of}
use Rattle.c_whole.specs.Facts.{facts_of, bodies_of, lacks}
use Rattle.c_whole.proofs.facts.add_said.Given as goal

abbrev pub invariant-loop-event : goal.invariant-loop-event
invariant-loop-event l =
    facts_of l.out.items ++ map (s.fact l.number (bodies_of l.functions.bodies.items) (lacks l.functions)) (events_of (drop l.event-index l.events)) ≡
    facts_of l.initial.out.items ++ map (s.fact l.number (bodies_of l.functions.bodies.items) (lacks l.functions)) (events_of l.events)
