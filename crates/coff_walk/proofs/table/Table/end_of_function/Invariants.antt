use Rattle.std.proofs.Common.{◌-◌, ◌≡◌}
use Rattle.coff_rec.specs.Nesting.{function_end}
use Rattle.coff_walk.specs.Walk.{nested_after}
use Rattle.coff_walk.proofs.table.Table.end_of_function.Given as goal

abbrev pub invariant-loop-e : goal.invariant-loop-e
invariant-loop-e l = function_end l.own (nested_after l.self l.n) ≡ function_end l.own (nested_after l.self l.own)

abbrev pub decreases-loop-e : goal.decreases-loop-e
decreases-loop-e l = l.self.count - l.n
