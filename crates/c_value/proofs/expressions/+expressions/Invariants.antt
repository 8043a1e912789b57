-- What is judged of the arguments that were passed, and the texts that were met in them.
use Rattle.std.proofs.Common.{◌≡◌, drop}
use Rattle.c_tree.specs.TreeOf.{exprs_from}
use Rattle.c_rule.specs.RuleScope.{met}
use Rattle.c_rule.specs.RuleTexts.{texts_in_all}
use Rattle.c_scope.specs.EnvOf.{env_of}
use Rattle.c_rule.specs.Judging.{judged_args}
use Rattle.c_value.proofs.Outcomes.{rest_of}
use Rattle.c_value.proofs.expressions.+expressions.Given as goal

abbrev pub invariant-call-loop-arg : goal.invariant-call-loop-arg
invariant-call-loop-arg l =
    record {
      judged : judged_args (env_of l.initial.c) (exprs_from l.args) ≡ rest_of l.values.items (judged_args (env_of l.c) (exprs_from (drop l.arg-index l.args)));
      texts : met (texts_in_all (exprs_from (drop l.arg-index l.args))) (env_of l.c) ≡ met (texts_in_all (exprs_from l.args)) (env_of l.initial.c);
    }
