-- What was counted and what is left are the whole.
use Rattle.std.proofs.Common.{◌≡◌, ◌+◌, ◌<◌, ◌^◌, map, drop}
use Rattle.std.specs.Prelude.{sum}
use Rattle.c_tree.specs.TypedOf.{program_of}
use Rattle.c_limit.specs.Limits.{start_count}
use Rattle.c_limit.specs.Temporaries.{counted}
use Rattle.c_limit.proofs.texts.all_starts.Given as goal

abbrev pub invariant-loop-file : goal.invariant-loop-file
invariant-loop-file l = (counted (l.count + sum (map start_count (drop l.file (program_of l.p).units))) ≡ counted (sum (map start_count (program_of l.p).units))) × (l.count < 2 ^ 64)
