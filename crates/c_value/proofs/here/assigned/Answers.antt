-- Of where it stands the rule asks for the closed tags alone.
use Rattle.std.proofs.Common.{subst}
use Rattle.c_rule.specs.RuleExprs as r
use Rattle.c_operator.specs.Boxed.{boxed}
use Rattle.c_scope.specs.Closed.{closed}
use Rattle.c_scope.specs.Says.{Says}
use Rattle.c_value.proofs.here.assigned.Goals as goal

pub returns : goal.returns
returns c = subst (λ ts. Says boxed (r.assignment (closed ts) c.args.op (boxed c.args.place) (boxed c.args.value)) c.assignment.result) c.tags.ensures.value c.assignment.ensures
