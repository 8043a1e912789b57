-- What was counted and what is left are the whole.
use Rattle.std.proofs.Common.{◌≡◌, ◌+◌, ◌<◌, ◌^◌, drop}
use Rattle.std.specs.Prelude.{sum}
use Rattle.c_limit.specs.Temporaries.{counted}
use Rattle.c_limit.proofs.texts.total.Given as goal

abbrev pub invariant-loop-count : goal.invariant-loop-count
invariant-loop-count l = (counted (l.total + sum (drop l.count-index l.counts)) ≡ counted (sum l.counts)) × (l.total < 2 ^ 64)
