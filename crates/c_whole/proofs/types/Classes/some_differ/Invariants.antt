-- The type that is kept stands for those that were met.
use Rattle.std.proofs.Common.{◌≡◌, ◌++◌, drop}
use Rattle.std.specs.List.{filter_map}
use Rattle.c_join.specs.JoinChecks as s
use Rattle.c_whole.specs.Facts.{facts_of}
use Rattle.c_whole.specs.Types.{classes_of}
use Rattle.c_whole.specs.Given.{first_of}
use Rattle.c_whole.proofs.types.Classes.some_differ.Given as goal

abbrev pub invariant-loop-fact : goal.invariant-loop-fact
invariant-loop-fact l =
    s.some_differ (s.same_class (classes_of l.self)) (first_of l.kept ++ filter_map s.type_in (facts_of (drop l.fact-index l.facts))) ≡
    s.some_differ (s.same_class (classes_of l.self)) (first_of l.first ++ filter_map s.type_in (facts_of l.facts))
