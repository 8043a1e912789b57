-- A name was found or is among what is left exactly where it is in the whole.
use Rattle.std.proofs.Common.{◌≡◌, ◌||◌, ℕ, List, drop}
use Rattle.std.specs.List.{list_any}
use Rattle.c_join.specs.JoinSaid as s
use Rattle.c_whole.specs.Events.{events_of, has_name}
use Rattle.c_whole.proofs.facts.defined.Given as goal

abbrev pub invariant-loop-event : goal.invariant-loop-event
invariant-loop-event l =
    (x : List ℕ) → (has_name l.names.keys x || list_any (s.defines_static x) (events_of (drop l.event-index l.events))) ≡ list_any (s.defines_static x) (events_of l.events)
