-- What is left decides.
use Rattle.std.proofs.Common.{◌≡◌, map, drop}
use Rattle.std.specs.List.{list_any}
use Rattle.c_tree.specs.TypedOf.{unit_of}
use Rattle.c_join.specs.JoinChecks as s
use Rattle.c_whole.specs.Facts.{facts_of}
use Rattle.c_whole.specs.Types.{classes_of}
use Rattle.c_whole.specs.Given.{params_of}
use Rattle.c_whole.proofs.args.Whole.calls_misfit.Given as goal

abbrev pub invariant-loop-fact : goal.invariant-loop-fact
invariant-loop-fact l =
    list_any (s.misfits (map unit_of l.self.units.now) (s.same_class (classes_of l.self.classes)) (params_of l.definition)) (facts_of (drop l.fact-index l.facts)) ≡
    list_any (s.misfits (map unit_of l.self.units.now) (s.same_class (classes_of l.self.classes)) (params_of l.definition)) (facts_of l.facts)
