-- What is left decides.
use Rattle.std.proofs.Common.{◌≡◌, map, drop}
use Rattle.std.specs.List.{list_any, filter_map}
use Rattle.c_tree.specs.TypedOf.{unit_of}
use Rattle.c_join.specs.JoinChecks as s
use Rattle.c_whole.specs.Facts.{facts_of}
use Rattle.c_whole.specs.Types.{classes_of}
use Rattle.c_whole.proofs.args.Whole.defined_misfit.Given as goal

abbrev pub invariant-loop-fact : goal.invariant-loop-fact
invariant-loop-fact l =
    list_any (λ d. list_any (s.misfits (map unit_of l.self.units.now) (s.same_class (classes_of l.self.classes)) d) (facts_of l.facts)) (filter_map s.params_in (facts_of (drop l.fact-index l.facts))) ≡
    list_any (λ d. list_any (s.misfits (map unit_of l.self.units.now) (s.same_class (classes_of l.self.classes)) d) (facts_of l.facts)) (filter_map s.params_in (facts_of l.facts))
