-- What is left decides.
use Rattle.std.proofs.Common.{◌≡◌, drop}
use Rattle.std.specs.List.{list_any, filter_map}
use Rattle.c_join.specs.JoinChecks as s
use Rattle.c_whole.specs.Facts.{facts_of}
use Rattle.c_whole.proofs.args.defined_has_params.Given as goal

abbrev pub invariant-loop-fact : goal.invariant-loop-fact
invariant-loop-fact l = list_any s.has_params (filter_map s.params_in (facts_of (drop l.fact-index l.facts))) ≡ list_any s.has_params (filter_map s.params_in (facts_of l.facts))
