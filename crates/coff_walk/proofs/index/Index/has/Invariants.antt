use Rattle.std.proofs.Common.{◌-◌, ◌≡◌}
use Rattle.coff_walk.specs.Walk.{symbols_after, is_index}
use Rattle.coff_walk.proofs.index.Index.has.Given as goal

abbrev pub invariant-loop-at : goal.invariant-loop-at
invariant-loop-at l = is_index l.n (symbols_after l.self l.at) ≡ is_index l.n (symbols_after l.self 0)

abbrev pub decreases-loop-at : goal.decreases-loop-at
decreases-loop-at l = l.n - l.at
