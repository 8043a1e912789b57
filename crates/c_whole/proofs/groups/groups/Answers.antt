use Rattle.std.proofs.Common.{ap, ◌∙◌, ◌+◌, arith, drop}
use Rattle.std.specs.List.{fold}
use Rattle.c_whole.specs.Facts.{facts_of}
use Rattle.c_whole.specs.Groups.{placed}
use Rattle.c_whole.proofs.FoldStep.{fold_step}
use Rattle.c_whole.proofs.groups.groups.Goals as goal

pub loop-fact-preserved : goal.loop-fact-preserved
loop-fact-preserved c = record {
  whole = ap (λ gs. fold placed gs (facts_of (drop (c.loop-fact.fact-index + 1) c.args.facts.now))) c.in_ok-add.ensures.placed ∙ fold_step c.args.facts.now c.loop-fact.fact-index c.fact-item.result _ (omega arith) c.fact-item.is ∙ c.loop-fact.invariant.whole;
  names = c.in_ok-add.ensures.names;
}
