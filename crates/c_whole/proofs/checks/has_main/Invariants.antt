-- What is left decides.
use Rattle.std.proofs.Common.{◌≡◌, drop}
use Rattle.c_join.specs.JoinChecks as s
use Rattle.c_whole.specs.Facts.{facts_of}
use Rattle.c_whole.proofs.checks.has_main.Given as goal

abbrev pub invariant-loop-fact : goal.invariant-loop-fact
invariant-loop-fact l = s.has_main (facts_of (drop l.fact-index l.facts)) ≡ s.has_main (facts_of l.facts)
