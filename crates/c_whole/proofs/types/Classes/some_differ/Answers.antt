use Rattle.std.proofs.Common.{sym, ap, ◌∙◌, ◌+◌, ◌++◌, drop, arith}
use Rattle.std.specs.List.{filter_map}
use Rattle.std.specs.Option.{option_map}
use Rattle.c_join.specs.JoinChecks as s
use Rattle.c_whole.specs.Facts.{fact_of, facts_of}
use Rattle.c_whole.specs.Types.{classes_of}
use Rattle.c_whole.specs.Given.{in_unit, first_of}
use Rattle.c_whole.proofs.AnyFact.{from_here}
use Rattle.c_whole.proofs.Differ.{fact_kept, fact_differs}
use Rattle.c_whole.proofs.SameClass.{equates}
use Rattle.c_whole.proofs.types.Classes.some_differ.Goals as goal

pub returns-in-None : goal.returns-in-None
returns-in-None c =
    let r = s.same_class (classes_of c.args.self.now) in
    sym (ap (λ fs. s.some_differ r (first_of c.loop-fact.kept ++ filter_map s.type_in fs)) (from_here c.args.facts.now c.loop-fact.fact-index c.fact-item.result (omega arith) c.fact-item.is) ∙
    fact_differs r (equates (classes_of c.args.self.now)) (option_map in_unit c.loop-fact.kept) (fact_of c.fact-item.result) (facts_of (drop (c.loop-fact.fact-index + 1) c.args.facts.now)) (sym c.in-None.ensures)) ∙
    c.loop-fact.invariant

pub loop-fact-preserved : goal.loop-fact-preserved
loop-fact-preserved c =
    let r = s.same_class (classes_of c.args.self.now) in
    sym (ap (λ fs. s.some_differ r (first_of c.loop-fact.kept ++ filter_map s.type_in fs)) (from_here c.args.facts.now c.loop-fact.fact-index c.fact-item.result (omega arith) c.fact-item.is) ∙
    fact_kept r (equates (classes_of c.args.self.now)) (option_map in_unit c.loop-fact.kept) (option_map in_unit c.in-Some.next) (fact_of c.fact-item.result) (facts_of (drop (c.loop-fact.fact-index + 1) c.args.facts.now)) (sym c.in-Some.ensures)) ∙
    c.loop-fact.invariant
