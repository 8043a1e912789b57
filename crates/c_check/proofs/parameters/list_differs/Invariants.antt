-- The names before the next one were taken.
use Rattle.std.proofs.Common.{◌≡◌, take, map}
use Rattle.c_check.proofs.parameters.list_differs.Given as goal

abbrev pub invariant-loop-name : goal.invariant-loop-name
invariant-loop-name l = map (λ n. n.now) l.names.items ≡ take l.name-index l.list
