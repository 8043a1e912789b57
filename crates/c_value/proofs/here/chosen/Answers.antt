-- Of where it stands the rule asks for the closed tags alone.
use Rattle.std.proofs.Common.{subst}
use Rattle.c_rule.specs.RuleExprs as r
use Rattle.c_operator.specs.Boxed.{boxed}
use Rattle.c_scope.specs.Closed.{closed}
use Rattle.c_scope.specs.Says.{Says}
use Rattle.c_value.proofs.here.chosen.Goals as goal

pub returns : goal.returns
returns c = subst (λ ts. Says boxed (r.choice (closed ts) (boxed c.args.test) (boxed c.args.a) (boxed c.args.b)) c.choice.result) c.tags.ensures.value c.choice.ensures
