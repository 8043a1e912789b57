use Rattle.std.proofs.Common.{◌-◌, ◌≡◌}
use Rattle.coff_rec.specs.Nesting.{body_end}
use Rattle.coff_walk.specs.Walk.{nested_after}
use Rattle.coff_walk.proofs.table.Table.end_of_body.Given as goal

abbrev pub invariant-loop-e : goal.invariant-loop-e
invariant-loop-e l = body_end (nested_after l.self l.n) ≡ body_end (nested_after l.self l.from)

abbrev pub decreases-loop-e : goal.decreases-loop-e
decreases-loop-e l = l.self.count - l.n
