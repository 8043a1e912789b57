use Rattle.std.proofs.Common.{◌-◌, ◌≡◌}
use Rattle.coff_walk.specs.Walk.{symbols_after, eos_of}
use Rattle.coff_walk.proofs.table.Table.eos_of_tag.Given as goal

abbrev pub invariant-loop-e : goal.invariant-loop-e
invariant-loop-e l = eos_of (symbols_after l.self l.n) ≡ eos_of (symbols_after l.self l.from)

abbrev pub decreases-loop-e : goal.decreases-loop-e
decreases-loop-e l = l.self.count - l.n
