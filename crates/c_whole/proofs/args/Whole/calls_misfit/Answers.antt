use Rattle.std.proofs.Common.{sym, map, ◌∙◌, arith}
use Rattle.c_tree.specs.TypedOf.{unit_of}
use Rattle.c_join.specs.JoinChecks as s
use Rattle.c_whole.specs.Types.{classes_of}
use Rattle.c_whole.specs.Given.{params_of}
use Rattle.c_whole.proofs.AnyFact.{any_hit, any_miss}
use Rattle.c_whole.proofs.args.Whole.calls_misfit.Goals as goal

pub returns-then-misfits : goal.returns-then-misfits
returns-then-misfits c =
    sym (any_hit (s.misfits (map unit_of c.args.self.now.units.now) (s.same_class (classes_of c.args.self.now.classes)) (params_of c.args.definition))
    c.args.facts.now c.loop-fact.fact-index c.fact-item.result (omega arith) c.fact-item.is (sym c.if-misfits.ensures)) ∙ c.loop-fact.invariant

pub loop-fact-preserved : goal.loop-fact-preserved
loop-fact-preserved c =
    sym (any_miss (s.misfits (map unit_of c.args.self.now.units.now) (s.same_class (classes_of c.args.self.now.classes)) (params_of c.args.definition))
    c.args.facts.now c.loop-fact.fact-index c.fact-item.result (omega arith) c.fact-item.is (sym c.if-misfits.ensures)) ∙ c.loop-fact.invariant
