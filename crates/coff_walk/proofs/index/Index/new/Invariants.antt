use Rattle.std.proofs.Common.{◌-◌, ℕ, ◌<◌, length, get_or}
use Rattle.coff_walk.specs.Walk.{IsReached}
use Rattle.coff_walk.proofs.index.Index.new.Given as goal

abbrev pub invariant-loop-n : goal.invariant-loop-n
invariant-loop-n l = record {
  here : IsReached l.table l.n;
  marked : (k : ℕ) → k < length l.marks.items → IsReached l.table (get_or l.marks.items k 0);
}

abbrev pub decreases-loop-n : goal.decreases-loop-n
decreases-loop-n l = l.table.count - l.n
