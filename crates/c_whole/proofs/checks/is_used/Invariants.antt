-- What is left decides.
use Rattle.std.proofs.Common.{◌≡◌, drop}
use Rattle.std.specs.List.{list_any}
use Rattle.c_join.specs.JoinChecks as s
use Rattle.c_whole.specs.Facts.{facts_of}
use Rattle.c_whole.proofs.checks.is_used.Given as goal

abbrev pub invariant-loop-fact : goal.invariant-loop-fact
invariant-loop-fact l = list_any (λ f. s.is_use f.says) (facts_of (drop l.fact-index l.facts)) ≡ list_any (λ f. s.is_use f.says) (facts_of l.facts)
