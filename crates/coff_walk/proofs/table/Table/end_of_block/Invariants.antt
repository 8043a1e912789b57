use Rattle.std.proofs.Common.{◌-◌}
use Rattle.coff_walk.proofs.Closing.{InBlock}
use Rattle.coff_walk.proofs.table.Table.end_of_block.Given as goal

abbrev pub invariant-loop-e : goal.invariant-loop-e
invariant-loop-e l = InBlock l.self l.from l.n l.inner

abbrev pub decreases-loop-e : goal.decreases-loop-e
decreases-loop-e l = l.self.count - l.n
