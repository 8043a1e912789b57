-- The node of a call, whose arguments stand in a `Vec`.
use Rattle.std.proofs.Common.{◌≡◌, ap, ◌∙◌}
use Rattle.std.proofs.lemmas.Result.{IfOk-weaker}
use Rattle.c_tree.specs.declared.typed_expr.TExpr.{Call}
use Rattle.c_tree.specs.TExpr as e
use Rattle.c_tree.specs.TypedOf.{expr_of}
use Rattle.c_rule.specs.RuleExprs as r
use Rattle.c_value.specs.Arguments.{args_from}
use Rattle.c_operator.specs.Boxed.{boxed}
use Rattle.c_value.proofs.Outcomes.{expr_of-Call}
use Rattle.c_value.proofs.expressions.called_with.Goals as goal

pub returns : goal.returns
returns c =
    IfOk-weaker c.node.result (λ x. boxed x ≡ expr_of (Call c.result_of-ty.result c.args.to c.args.values))
    (λ x. boxed x ≡ e.call (r.result_of (e.type_of (boxed c.args.to))) (boxed c.args.to) (args_from c.args.values.items))
    (λ x p. p ∙ expr_of-Call c.result_of-ty.result c.args.to c.args.values
    ∙ ap (λ y. e.call y (boxed c.args.to) (args_from c.args.values.items)) (c.result_of-ty.ensures ∙ ap r.result_of (c.in_ok-type_of.ensures ∙ ap (λ z. e.type_of (expr_of z)) c.deref.ensures)))
    c.node.ensures
