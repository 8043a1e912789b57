-- What was counted and what is left are the whole.
use Rattle.std.proofs.Common.{◌≡◌, max, drop}
use Rattle.c_limit.specs.Limits.{greatest_of}
use Rattle.c_limit.proofs.texts.greatest.Given as goal

abbrev pub invariant-loop-line : goal.invariant-loop-line
invariant-loop-line l = max l.most (greatest_of (drop l.line-index l.lines)) ≡ greatest_of l.lines
