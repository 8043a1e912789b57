-- The outcome of each production by those of its parts, as the code comes to them.
use Rattle.std.proofs.Common.{◌≡◌, [], ◌∷◌, ◌++◌, OnOk, refl, sym, ap, ◌∙◌, subst}
use Rattle.std.proofs.lemmas.Result.{on_ok_weaker}
use Rattle.c_type.specs.Of.{type_of}
use Rattle.c_tree.specs.declared.expr.Expr as source
use Rattle.c_tree.specs.TreeExpr as t
use Rattle.c_tree.specs.TreeOf as u
use Rattle.c_rule.specs.RuleExprs as r
use Rattle.c_rule.specs.RuleScope.{Is, met, past, meaning_of}
use Rattle.c_rule.specs.RuleTexts.{texts_in_all}
use Rattle.c_tree.proofs.Of.{expr_of-Call}
use Rattle.c_scope.specs.declared.error.TypeErr.TheVariants.{Memory}
use Rattle.c_scope.specs.EnvOf.{env_of}
use Rattle.c_rule.specs.Judging.{judged_args}
use Rattle.c_scope.specs.Says.{Refused, Says}
use Rattle.c_operator.specs.Boxed.{boxed}
use Rattle.c_value.specs.Arguments.{args_from, name_in, judged_call}
use Rattle.c_value.proofs.Arms.{rules_comma, rules_assign, rules_binary, rules_index, rules_unary, rules_size_of, rules_member, rules_arrow, rules_post, one_judged, one_refused, one_past, two_judged, two_first, two_second, two_past, leaf_judged, leaf_past, cast_judged, cast_untyped, cast_refused, cast_past, choice_judged, choice_first, choice_second, choice_third, choice_past}
use Rattle.c_value.proofs.Calls.{with_args, named_judged, named_refused, named_past, other_judged, other_refused, other_past}
use Rattle.c_value.proofs.Outcomes.{onward_refused, err_judged, err_past, rest_of, rest_none, args_passed, texts_passed, arg_refused, scalar_refused, args_end, texts_end, call_says, call_refused}
use Rattle.c_value.proofs.expressions.+expressions.Goals as goal

pub expr-returns-in_err-expr-in-Comma : goal.expr-returns-in_err-expr-in-Comma
expr-returns-in_err-expr-in-Comma m c =
    record {
      judged = err_judged boxed _ c.from_residual.result c.in_err-expr-in-Comma.field-0.0 c.from_residual.ensures.1 (two_first (t.comma c.in-Comma.line) (λ q. r.comma) (rules_comma c.in-Comma.line) (env_of c.args.c.now) c.args.e.now c.deref.result.now c.in-Comma.b.value c.in-Comma.a.value c.in-Comma.b.value (ap u.expr_of c.in-Comma.is) c.deref.ensures refl c.in_err-expr-in-Comma.field-0.0 c.in_err-expr-in-Comma.ensures.judged);
      past = err_past c.from_residual.result c.in_err-expr-in-Comma.field-0.0 _ c.from_residual.ensures.1;
    }

pub expr-returns-in_err-expr-in-Comma-2 : goal.expr-returns-in_err-expr-in-Comma-2
expr-returns-in_err-expr-in-Comma-2 m c =
    record {
      judged = err_judged boxed _ c.from_residual-in_err-expr-in-Comma-2.result c.in_err-expr-in-Comma-2.field-0.0 c.from_residual-in_err-expr-in-Comma-2.ensures.1 (two_second (t.comma c.in-Comma.line) (λ q. r.comma) (rules_comma c.in-Comma.line) (env_of c.args.c.now) c.args.e.now c.deref.result.now c.deref-in-Comma.result.now c.in-Comma.a.value c.in-Comma.b.value (ap u.expr_of c.in-Comma.is) c.deref.ensures c.deref-in-Comma.ensures (env_of c.expr.new.c) (boxed c.in_ok-expr-in-Comma.field-0) c.in_err-expr-in-Comma-2.field-0.0 c.in_ok-expr-in-Comma.ensures.judged c.in_ok-expr-in-Comma.ensures.past c.in_err-expr-in-Comma-2.ensures.judged);
      past = err_past c.from_residual-in_err-expr-in-Comma-2.result c.in_err-expr-in-Comma-2.field-0.0 _ c.from_residual-in_err-expr-in-Comma-2.ensures.1;
    }

pub expr-returns-in_ok-expr-in-Comma-2 : goal.expr-returns-in_ok-expr-in-Comma-2
expr-returns-in_ok-expr-in-Comma-2 m c =
    record {
      judged = two_judged (t.comma c.in-Comma.line) (λ q. r.comma) (rules_comma c.in-Comma.line) (env_of c.args.c.now) c.args.e.now c.deref.result.now c.deref-in-Comma.result.now c.in-Comma.a.value c.in-Comma.b.value (ap u.expr_of c.in-Comma.is) c.deref.ensures c.deref-in-Comma.ensures (env_of c.expr.new.c) (env_of c.expr-in-Comma.new.c) (boxed c.in_ok-expr-in-Comma.field-0) (boxed c.in_ok-expr-in-Comma-2.field-0) c.comma.result c.in_ok-expr-in-Comma.ensures.judged c.in_ok-expr-in-Comma.ensures.past c.in_ok-expr-in-Comma-2.ensures.judged c.in_ok-expr-in-Comma-2.ensures.past c.comma.ensures;
      past = two_past (t.comma c.in-Comma.line) (λ q. r.comma) (rules_comma c.in-Comma.line) (env_of c.args.c.now) c.args.e.now c.deref.result.now c.deref-in-Comma.result.now c.in-Comma.a.value c.in-Comma.b.value (ap u.expr_of c.in-Comma.is) c.deref.ensures c.deref-in-Comma.ensures (λ p q. refl) (env_of c.expr.new.c) (env_of c.expr-in-Comma.new.c) c.comma.result c.in_ok-expr-in-Comma.ensures.past c.in_ok-expr-in-Comma-2.ensures.past;
    }

pub expr-returns-in_err-expr-in-Assign : goal.expr-returns-in_err-expr-in-Assign
expr-returns-in_err-expr-in-Assign m c =
    record {
      judged = err_judged boxed _ c.from_residual-in_err-expr-in-Assign.result c.in_err-expr-in-Assign.field-0.0 c.from_residual-in_err-expr-in-Assign.ensures.1 (two_first (t.assign c.in-Assign.line c.in-Assign.op) (λ q. r.assignment q c.in-Assign.op) (rules_assign c.in-Assign.line c.in-Assign.op) (env_of c.args.c.now) c.args.e.now c.deref-in-Assign.result.now c.in-Assign.b.value c.in-Assign.a.value c.in-Assign.b.value (ap u.expr_of c.in-Assign.is) c.deref-in-Assign.ensures refl c.in_err-expr-in-Assign.field-0.0 c.in_err-expr-in-Assign.ensures.judged);
      past = err_past c.from_residual-in_err-expr-in-Assign.result c.in_err-expr-in-Assign.field-0.0 _ c.from_residual-in_err-expr-in-Assign.ensures.1;
    }

pub expr-returns-in_err-expr-in-Assign-2 : goal.expr-returns-in_err-expr-in-Assign-2
expr-returns-in_err-expr-in-Assign-2 m c =
    record {
      judged = err_judged boxed _ c.from_residual-in_err-expr-in-Assign-2.result c.in_err-expr-in-Assign-2.field-0.0 c.from_residual-in_err-expr-in-Assign-2.ensures.1 (two_second (t.assign c.in-Assign.line c.in-Assign.op) (λ q. r.assignment q c.in-Assign.op) (rules_assign c.in-Assign.line c.in-Assign.op) (env_of c.args.c.now) c.args.e.now c.deref-in-Assign.result.now c.deref-in-Assign-2.result.now c.in-Assign.a.value c.in-Assign.b.value (ap u.expr_of c.in-Assign.is) c.deref-in-Assign.ensures c.deref-in-Assign-2.ensures (env_of c.expr-in-Assign.new.c) (boxed c.in_ok-expr-in-Assign.field-0) c.in_err-expr-in-Assign-2.field-0.0 c.in_ok-expr-in-Assign.ensures.judged c.in_ok-expr-in-Assign.ensures.past c.in_err-expr-in-Assign-2.ensures.judged);
      past = err_past c.from_residual-in_err-expr-in-Assign-2.result c.in_err-expr-in-Assign-2.field-0.0 _ c.from_residual-in_err-expr-in-Assign-2.ensures.1;
    }

pub expr-returns-in_ok-expr-in-Assign-2 : goal.expr-returns-in_ok-expr-in-Assign-2
expr-returns-in_ok-expr-in-Assign-2 m c =
    record {
      judged = two_judged (t.assign c.in-Assign.line c.in-Assign.op) (λ q. r.assignment q c.in-Assign.op) (rules_assign c.in-Assign.line c.in-Assign.op) (env_of c.args.c.now) c.args.e.now c.deref-in-Assign.result.now c.deref-in-Assign-2.result.now c.in-Assign.a.value c.in-Assign.b.value (ap u.expr_of c.in-Assign.is) c.deref-in-Assign.ensures c.deref-in-Assign-2.ensures (env_of c.expr-in-Assign.new.c) (env_of c.expr-in-Assign-2.new.c) (boxed c.in_ok-expr-in-Assign.field-0) (boxed c.in_ok-expr-in-Assign-2.field-0) c.assigned.result c.in_ok-expr-in-Assign.ensures.judged c.in_ok-expr-in-Assign.ensures.past c.in_ok-expr-in-Assign-2.ensures.judged c.in_ok-expr-in-Assign-2.ensures.past c.assigned.ensures;
      past = two_past (t.assign c.in-Assign.line c.in-Assign.op) (λ q. r.assignment q c.in-Assign.op) (rules_assign c.in-Assign.line c.in-Assign.op) (env_of c.args.c.now) c.args.e.now c.deref-in-Assign.result.now c.deref-in-Assign-2.result.now c.in-Assign.a.value c.in-Assign.b.value (ap u.expr_of c.in-Assign.is) c.deref-in-Assign.ensures c.deref-in-Assign-2.ensures (λ p q. refl) (env_of c.expr-in-Assign.new.c) (env_of c.expr-in-Assign-2.new.c) c.assigned.result c.in_ok-expr-in-Assign.ensures.past c.in_ok-expr-in-Assign-2.ensures.past;
    }

pub expr-returns-in_err-expr-in-Choice : goal.expr-returns-in_err-expr-in-Choice
expr-returns-in_err-expr-in-Choice m c =
    record {
      judged = err_judged boxed _ c.from_residual-in_err-expr-in-Choice.result c.in_err-expr-in-Choice.field-0.0 c.from_residual-in_err-expr-in-Choice.ensures.1 (choice_first c.in-Choice.line (env_of c.args.c.now) c.args.e.now c.deref-in-Choice.result.now c.in-Choice.a.value c.in-Choice.b.value c.in-Choice.test.value c.in-Choice.a.value c.in-Choice.b.value (ap u.expr_of c.in-Choice.is) c.deref-in-Choice.ensures refl refl c.in_err-expr-in-Choice.field-0.0 c.in_err-expr-in-Choice.ensures.judged);
      past = err_past c.from_residual-in_err-expr-in-Choice.result c.in_err-expr-in-Choice.field-0.0 _ c.from_residual-in_err-expr-in-Choice.ensures.1;
    }

pub expr-returns-in_err-expr-in-Choice-2 : goal.expr-returns-in_err-expr-in-Choice-2
expr-returns-in_err-expr-in-Choice-2 m c =
    record {
      judged = err_judged boxed _ c.from_residual-in_err-expr-in-Choice-2.result c.in_err-expr-in-Choice-2.field-0.0 c.from_residual-in_err-expr-in-Choice-2.ensures.1 (choice_second c.in-Choice.line (env_of c.args.c.now) c.args.e.now c.deref-in-Choice.result.now c.deref-in-Choice-2.result.now c.in-Choice.b.value c.in-Choice.test.value c.in-Choice.a.value c.in-Choice.b.value (ap u.expr_of c.in-Choice.is) c.deref-in-Choice.ensures c.deref-in-Choice-2.ensures refl (env_of c.expr-in-Choice.new.c) (boxed c.in_ok-expr-in-Choice.field-0) c.in_err-expr-in-Choice-2.field-0.0 c.in_ok-expr-in-Choice.ensures.judged c.in_ok-expr-in-Choice.ensures.past c.in_err-expr-in-Choice-2.ensures.judged);
      past = err_past c.from_residual-in_err-expr-in-Choice-2.result c.in_err-expr-in-Choice-2.field-0.0 _ c.from_residual-in_err-expr-in-Choice-2.ensures.1;
    }

pub expr-returns-in_err-expr-in-Choice-3 : goal.expr-returns-in_err-expr-in-Choice-3
expr-returns-in_err-expr-in-Choice-3 m c =
    record {
      judged = err_judged boxed _ c.from_residual-in_err-expr-in-Choice-3.result c.in_err-expr-in-Choice-3.field-0.0 c.from_residual-in_err-expr-in-Choice-3.ensures.1 (choice_third c.in-Choice.line (env_of c.args.c.now) c.args.e.now c.deref-in-Choice.result.now c.deref-in-Choice-2.result.now c.deref-in-Choice-3.result.now c.in-Choice.test.value c.in-Choice.a.value c.in-Choice.b.value (ap u.expr_of c.in-Choice.is) c.deref-in-Choice.ensures c.deref-in-Choice-2.ensures c.deref-in-Choice-3.ensures (env_of c.expr-in-Choice.new.c) (env_of c.expr-in-Choice-2.new.c) (boxed c.in_ok-expr-in-Choice.field-0) (boxed c.in_ok-expr-in-Choice-2.field-0) c.in_err-expr-in-Choice-3.field-0.0 c.in_ok-expr-in-Choice.ensures.judged c.in_ok-expr-in-Choice.ensures.past c.in_ok-expr-in-Choice-2.ensures.judged c.in_ok-expr-in-Choice-2.ensures.past c.in_err-expr-in-Choice-3.ensures.judged);
      past = err_past c.from_residual-in_err-expr-in-Choice-3.result c.in_err-expr-in-Choice-3.field-0.0 _ c.from_residual-in_err-expr-in-Choice-3.ensures.1;
    }

pub expr-returns-in_ok-expr-in-Choice-3 : goal.expr-returns-in_ok-expr-in-Choice-3
expr-returns-in_ok-expr-in-Choice-3 m c =
    record {
      judged = choice_judged c.in-Choice.line (env_of c.args.c.now) c.args.e.now c.deref-in-Choice.result.now c.deref-in-Choice-2.result.now c.deref-in-Choice-3.result.now c.in-Choice.test.value c.in-Choice.a.value c.in-Choice.b.value (ap u.expr_of c.in-Choice.is) c.deref-in-Choice.ensures c.deref-in-Choice-2.ensures c.deref-in-Choice-3.ensures (env_of c.expr-in-Choice.new.c) (env_of c.expr-in-Choice-2.new.c) (env_of c.expr-in-Choice-3.new.c) (boxed c.in_ok-expr-in-Choice.field-0) (boxed c.in_ok-expr-in-Choice-2.field-0) (boxed c.in_ok-expr-in-Choice-3.field-0) c.chosen.result c.in_ok-expr-in-Choice.ensures.judged c.in_ok-expr-in-Choice.ensures.past c.in_ok-expr-in-Choice-2.ensures.judged c.in_ok-expr-in-Choice-2.ensures.past c.in_ok-expr-in-Choice-3.ensures.judged c.in_ok-expr-in-Choice-3.ensures.past c.chosen.ensures;
      past = choice_past c.in-Choice.line (env_of c.args.c.now) c.args.e.now c.deref-in-Choice.result.now c.deref-in-Choice-2.result.now c.deref-in-Choice-3.result.now c.in-Choice.test.value c.in-Choice.a.value c.in-Choice.b.value (ap u.expr_of c.in-Choice.is) c.deref-in-Choice.ensures c.deref-in-Choice-2.ensures c.deref-in-Choice-3.ensures (env_of c.expr-in-Choice.new.c) (env_of c.expr-in-Choice-2.new.c) (env_of c.expr-in-Choice-3.new.c) c.chosen.result c.in_ok-expr-in-Choice.ensures.past c.in_ok-expr-in-Choice-2.ensures.past c.in_ok-expr-in-Choice-3.ensures.past;
    }

pub expr-returns-in_err-expr-in-Binary : goal.expr-returns-in_err-expr-in-Binary
expr-returns-in_err-expr-in-Binary m c =
    record {
      judged = err_judged boxed _ c.from_residual-in_err-expr-in-Binary.result c.in_err-expr-in-Binary.field-0.0 c.from_residual-in_err-expr-in-Binary.ensures.1 (two_first (t.binary c.in-Binary.line c.in-Binary.op) (λ q. r.binary q c.in-Binary.op) (rules_binary c.in-Binary.line c.in-Binary.op) (env_of c.args.c.now) c.args.e.now c.deref-in-Binary.result.now c.in-Binary.b.value c.in-Binary.a.value c.in-Binary.b.value (ap u.expr_of c.in-Binary.is) c.deref-in-Binary.ensures refl c.in_err-expr-in-Binary.field-0.0 c.in_err-expr-in-Binary.ensures.judged);
      past = err_past c.from_residual-in_err-expr-in-Binary.result c.in_err-expr-in-Binary.field-0.0 _ c.from_residual-in_err-expr-in-Binary.ensures.1;
    }

pub expr-returns-in_err-expr-in-Binary-2 : goal.expr-returns-in_err-expr-in-Binary-2
expr-returns-in_err-expr-in-Binary-2 m c =
    record {
      judged = err_judged boxed _ c.from_residual-in_err-expr-in-Binary-2.result c.in_err-expr-in-Binary-2.field-0.0 c.from_residual-in_err-expr-in-Binary-2.ensures.1 (two_second (t.binary c.in-Binary.line c.in-Binary.op) (λ q. r.binary q c.in-Binary.op) (rules_binary c.in-Binary.line c.in-Binary.op) (env_of c.args.c.now) c.args.e.now c.deref-in-Binary.result.now c.deref-in-Binary-2.result.now c.in-Binary.a.value c.in-Binary.b.value (ap u.expr_of c.in-Binary.is) c.deref-in-Binary.ensures c.deref-in-Binary-2.ensures (env_of c.expr-in-Binary.new.c) (boxed c.in_ok-expr-in-Binary.field-0) c.in_err-expr-in-Binary-2.field-0.0 c.in_ok-expr-in-Binary.ensures.judged c.in_ok-expr-in-Binary.ensures.past c.in_err-expr-in-Binary-2.ensures.judged);
      past = err_past c.from_residual-in_err-expr-in-Binary-2.result c.in_err-expr-in-Binary-2.field-0.0 _ c.from_residual-in_err-expr-in-Binary-2.ensures.1;
    }

pub expr-returns-in_ok-expr-in-Binary-2 : goal.expr-returns-in_ok-expr-in-Binary-2
expr-returns-in_ok-expr-in-Binary-2 m c =
    record {
      judged = two_judged (t.binary c.in-Binary.line c.in-Binary.op) (λ q. r.binary q c.in-Binary.op) (rules_binary c.in-Binary.line c.in-Binary.op) (env_of c.args.c.now) c.args.e.now c.deref-in-Binary.result.now c.deref-in-Binary-2.result.now c.in-Binary.a.value c.in-Binary.b.value (ap u.expr_of c.in-Binary.is) c.deref-in-Binary.ensures c.deref-in-Binary-2.ensures (env_of c.expr-in-Binary.new.c) (env_of c.expr-in-Binary-2.new.c) (boxed c.in_ok-expr-in-Binary.field-0) (boxed c.in_ok-expr-in-Binary-2.field-0) c.of_two.result c.in_ok-expr-in-Binary.ensures.judged c.in_ok-expr-in-Binary.ensures.past c.in_ok-expr-in-Binary-2.ensures.judged c.in_ok-expr-in-Binary-2.ensures.past c.of_two.ensures;
      past = two_past (t.binary c.in-Binary.line c.in-Binary.op) (λ q. r.binary q c.in-Binary.op) (rules_binary c.in-Binary.line c.in-Binary.op) (env_of c.args.c.now) c.args.e.now c.deref-in-Binary.result.now c.deref-in-Binary-2.result.now c.in-Binary.a.value c.in-Binary.b.value (ap u.expr_of c.in-Binary.is) c.deref-in-Binary.ensures c.deref-in-Binary-2.ensures (λ p q. refl) (env_of c.expr-in-Binary.new.c) (env_of c.expr-in-Binary-2.new.c) c.of_two.result c.in_ok-expr-in-Binary.ensures.past c.in_ok-expr-in-Binary-2.ensures.past;
    }

pub expr-returns-in_err-expr-in-Unary : goal.expr-returns-in_err-expr-in-Unary
expr-returns-in_err-expr-in-Unary m c =
    record {
      judged = err_judged boxed _ c.from_residual-in_err-expr-in-Unary.result c.in_err-expr-in-Unary.field-0.0 c.from_residual-in_err-expr-in-Unary.ensures.1 (one_refused (t.unary c.in-Unary.line c.in-Unary.op) (λ q. r.unary q c.in-Unary.op) (rules_unary c.in-Unary.line c.in-Unary.op) (env_of c.args.c.now) c.args.e.now c.deref-in-Unary.result.now c.in-Unary.a.value (ap u.expr_of c.in-Unary.is) c.deref-in-Unary.ensures c.in_err-expr-in-Unary.field-0.0 c.in_err-expr-in-Unary.ensures.judged);
      past = err_past c.from_residual-in_err-expr-in-Unary.result c.in_err-expr-in-Unary.field-0.0 _ c.from_residual-in_err-expr-in-Unary.ensures.1;
    }

pub expr-returns-in_ok-expr-in-Unary : goal.expr-returns-in_ok-expr-in-Unary
expr-returns-in_ok-expr-in-Unary m c =
    record {
      judged = one_judged (t.unary c.in-Unary.line c.in-Unary.op) (λ q. r.unary q c.in-Unary.op) (rules_unary c.in-Unary.line c.in-Unary.op) (env_of c.args.c.now) c.args.e.now c.deref-in-Unary.result.now c.in-Unary.a.value (ap u.expr_of c.in-Unary.is) c.deref-in-Unary.ensures (env_of c.expr-in-Unary.new.c) (boxed c.in_ok-expr-in-Unary.field-0) c.of_one.result c.in_ok-expr-in-Unary.ensures.judged c.in_ok-expr-in-Unary.ensures.past c.of_one.ensures;
      past = one_past (t.unary c.in-Unary.line c.in-Unary.op) (λ q. r.unary q c.in-Unary.op) (rules_unary c.in-Unary.line c.in-Unary.op) (env_of c.args.c.now) c.args.e.now c.deref-in-Unary.result.now c.in-Unary.a.value (ap u.expr_of c.in-Unary.is) c.deref-in-Unary.ensures (λ p. refl) (env_of c.expr-in-Unary.new.c) c.of_one.result c.in_ok-expr-in-Unary.ensures.past;
    }

pub expr-returns-in_err-expr-in-SizeOf : goal.expr-returns-in_err-expr-in-SizeOf
expr-returns-in_err-expr-in-SizeOf m c =
    record {
      judged = err_judged boxed _ c.from_residual-in_err-expr-in-SizeOf.result c.in_err-expr-in-SizeOf.field-0.0 c.from_residual-in_err-expr-in-SizeOf.ensures.1 (one_refused (t.size_of c.in-SizeOf.line) r.size_of (rules_size_of c.in-SizeOf.line) (env_of c.args.c.now) c.args.e.now c.deref-in-SizeOf.result.now c.in-SizeOf.a.value (ap u.expr_of c.in-SizeOf.is) c.deref-in-SizeOf.ensures c.in_err-expr-in-SizeOf.field-0.0 c.in_err-expr-in-SizeOf.ensures.judged);
      past = err_past c.from_residual-in_err-expr-in-SizeOf.result c.in_err-expr-in-SizeOf.field-0.0 _ c.from_residual-in_err-expr-in-SizeOf.ensures.1;
    }

pub expr-returns-in_ok-expr-in-SizeOf : goal.expr-returns-in_ok-expr-in-SizeOf
expr-returns-in_ok-expr-in-SizeOf m c =
    record {
      judged = one_judged (t.size_of c.in-SizeOf.line) r.size_of (rules_size_of c.in-SizeOf.line) (env_of c.args.c.now) c.args.e.now c.deref-in-SizeOf.result.now c.in-SizeOf.a.value (ap u.expr_of c.in-SizeOf.is) c.deref-in-SizeOf.ensures (env_of c.expr-in-SizeOf.new.c) (boxed c.in_ok-expr-in-SizeOf.field-0) c.sized.result c.in_ok-expr-in-SizeOf.ensures.judged c.in_ok-expr-in-SizeOf.ensures.past c.sized.ensures;
      past = one_past (t.size_of c.in-SizeOf.line) r.size_of (rules_size_of c.in-SizeOf.line) (env_of c.args.c.now) c.args.e.now c.deref-in-SizeOf.result.now c.in-SizeOf.a.value (ap u.expr_of c.in-SizeOf.is) c.deref-in-SizeOf.ensures (λ p. refl) (env_of c.expr-in-SizeOf.new.c) c.sized.result c.in_ok-expr-in-SizeOf.ensures.past;
    }

pub expr-returns-in-SizeOfType : goal.expr-returns-in-SizeOfType
expr-returns-in-SizeOfType m c =
    record {
      judged = leaf_judged (env_of c.args.c.now) c.args.e.now (t.size_of_type c.in-SizeOfType.field-0 (u.type_name_of c.in-SizeOfType.types)) c.sized_by.result (ap u.expr_of c.in-SizeOfType.is) c.sized_by.ensures;
      past = leaf_past (env_of c.args.c.now) c.args.e.now (t.size_of_type c.in-SizeOfType.field-0 (u.type_name_of c.in-SizeOfType.types)) c.sized_by.result (ap u.expr_of c.in-SizeOfType.is) refl;
    }

pub expr-returns-in_err-ty-in-Cast : goal.expr-returns-in_err-ty-in-Cast
expr-returns-in_err-ty-in-Cast m c =
    record {
      judged = err_judged boxed _ c.from_residual-in_err-ty-in-Cast.result c.in_err-ty-in-Cast.field-0.0 c.from_residual-in_err-ty-in-Cast.ensures.1 (cast_untyped c.in-Cast.line (u.type_name_of c.in-Cast.types) (env_of c.args.c.now) c.args.e.now c.in-Cast.a.value c.in-Cast.a.value (ap u.expr_of c.in-Cast.is) refl c.in_err-ty-in-Cast.field-0.0 c.in_err-ty-in-Cast.ensures.judged);
      past = err_past c.from_residual-in_err-ty-in-Cast.result c.in_err-ty-in-Cast.field-0.0 _ c.from_residual-in_err-ty-in-Cast.ensures.1;
    }

pub expr-returns-in_err-expr-in-Cast : goal.expr-returns-in_err-expr-in-Cast
expr-returns-in_err-expr-in-Cast m c =
    record {
      judged = err_judged boxed _ c.from_residual-in_err-expr-in-Cast.result c.in_err-expr-in-Cast.field-0.0 c.from_residual-in_err-expr-in-Cast.ensures.1 (cast_refused c.in-Cast.line (u.type_name_of c.in-Cast.types) (env_of c.args.c.now) c.args.e.now c.deref-in-Cast.result.now c.in-Cast.a.value (ap u.expr_of c.in-Cast.is) c.deref-in-Cast.ensures (type_of c.in_ok-ty-in-Cast.ty) c.in_err-expr-in-Cast.field-0.0 c.in_ok-ty-in-Cast.ensures.judged c.in_err-expr-in-Cast.ensures.judged);
      past = err_past c.from_residual-in_err-expr-in-Cast.result c.in_err-expr-in-Cast.field-0.0 _ c.from_residual-in_err-expr-in-Cast.ensures.1;
    }

pub expr-returns-in_ok-expr-in-Cast : goal.expr-returns-in_ok-expr-in-Cast
expr-returns-in_ok-expr-in-Cast m c =
    record {
      judged = cast_judged c.in-Cast.line (u.type_name_of c.in-Cast.types) (env_of c.args.c.now) c.args.e.now c.deref-in-Cast.result.now c.in-Cast.a.value (ap u.expr_of c.in-Cast.is) c.deref-in-Cast.ensures (env_of c.expr-in-Cast.new.c) (type_of c.in_ok-ty-in-Cast.ty) (boxed c.in_ok-expr-in-Cast.field-0) c.cast_to.result c.in_ok-ty-in-Cast.ensures.judged c.in_ok-expr-in-Cast.ensures.judged c.in_ok-expr-in-Cast.ensures.past c.cast_to.ensures;
      past = cast_past c.in-Cast.line (u.type_name_of c.in-Cast.types) (env_of c.args.c.now) c.args.e.now c.deref-in-Cast.result.now c.in-Cast.a.value (ap u.expr_of c.in-Cast.is) c.deref-in-Cast.ensures (env_of c.expr-in-Cast.new.c) c.cast_to.result c.in_ok-expr-in-Cast.ensures.past;
    }

pub expr-returns-in_err-expr-in-Index : goal.expr-returns-in_err-expr-in-Index
expr-returns-in_err-expr-in-Index m c =
    record {
      judged = err_judged boxed _ c.from_residual-in_err-expr-in-Index.result c.in_err-expr-in-Index.field-0.0 c.from_residual-in_err-expr-in-Index.ensures.1 (two_first (t.index c.in-Index.line) r.subscript (rules_index c.in-Index.line) (env_of c.args.c.now) c.args.e.now c.deref-in-Index.result.now c.in-Index.i.value c.in-Index.a.value c.in-Index.i.value (ap u.expr_of c.in-Index.is) c.deref-in-Index.ensures refl c.in_err-expr-in-Index.field-0.0 c.in_err-expr-in-Index.ensures.judged);
      past = err_past c.from_residual-in_err-expr-in-Index.result c.in_err-expr-in-Index.field-0.0 _ c.from_residual-in_err-expr-in-Index.ensures.1;
    }

pub expr-returns-in_err-expr-in-Index-2 : goal.expr-returns-in_err-expr-in-Index-2
expr-returns-in_err-expr-in-Index-2 m c =
    record {
      judged = err_judged boxed _ c.from_residual-in_err-expr-in-Index-2.result c.in_err-expr-in-Index-2.field-0.0 c.from_residual-in_err-expr-in-Index-2.ensures.1 (two_second (t.index c.in-Index.line) r.subscript (rules_index c.in-Index.line) (env_of c.args.c.now) c.args.e.now c.deref-in-Index.result.now c.deref-in-Index-2.result.now c.in-Index.a.value c.in-Index.i.value (ap u.expr_of c.in-Index.is) c.deref-in-Index.ensures c.deref-in-Index-2.ensures (env_of c.expr-in-Index.new.c) (boxed c.in_ok-expr-in-Index.field-0) c.in_err-expr-in-Index-2.field-0.0 c.in_ok-expr-in-Index.ensures.judged c.in_ok-expr-in-Index.ensures.past c.in_err-expr-in-Index-2.ensures.judged);
      past = err_past c.from_residual-in_err-expr-in-Index-2.result c.in_err-expr-in-Index-2.field-0.0 _ c.from_residual-in_err-expr-in-Index-2.ensures.1;
    }

pub expr-returns-in_ok-expr-in-Index-2 : goal.expr-returns-in_ok-expr-in-Index-2
expr-returns-in_ok-expr-in-Index-2 m c =
    record {
      judged = two_judged (t.index c.in-Index.line) r.subscript (rules_index c.in-Index.line) (env_of c.args.c.now) c.args.e.now c.deref-in-Index.result.now c.deref-in-Index-2.result.now c.in-Index.a.value c.in-Index.i.value (ap u.expr_of c.in-Index.is) c.deref-in-Index.ensures c.deref-in-Index-2.ensures (env_of c.expr-in-Index.new.c) (env_of c.expr-in-Index-2.new.c) (boxed c.in_ok-expr-in-Index.field-0) (boxed c.in_ok-expr-in-Index-2.field-0) c.indexed.result c.in_ok-expr-in-Index.ensures.judged c.in_ok-expr-in-Index.ensures.past c.in_ok-expr-in-Index-2.ensures.judged c.in_ok-expr-in-Index-2.ensures.past c.indexed.ensures;
      past = two_past (t.index c.in-Index.line) r.subscript (rules_index c.in-Index.line) (env_of c.args.c.now) c.args.e.now c.deref-in-Index.result.now c.deref-in-Index-2.result.now c.in-Index.a.value c.in-Index.i.value (ap u.expr_of c.in-Index.is) c.deref-in-Index.ensures c.deref-in-Index-2.ensures (λ p q. refl) (env_of c.expr-in-Index.new.c) (env_of c.expr-in-Index-2.new.c) c.indexed.result c.in_ok-expr-in-Index.ensures.past c.in_ok-expr-in-Index-2.ensures.past;
    }

pub expr-returns-in_err-to-in-Some : goal.expr-returns-in_err-to-in-Some
expr-returns-in_err-to-in-Some m c =
    record {
      judged = err_judged boxed _ c.from_residual-in_err-to-in-Some.result c.in_err-to-in-Some.field-0.0 c.from_residual-in_err-to-in-Some.ensures.1 (named_refused c.in-Call.line (env_of c.args.c.now) c.args.e.now c.deref-in-Call.result.now c.in-Call.f.value (u.exprs_from c.in-Call.args.items) (ap u.expr_of c.in-Call.is ∙ expr_of-Call c.in-Call.line c.in-Call.f c.in-Call.args) c.deref-in-Call.ensures c.in-Some.at c.in-Some.name.now c.in-Some.ensures c.in_err-to-in-Some.field-0.0 (subst (λ x. Refused (r.called_name (env_of c.args.c.now) x (meaning_of (env_of c.args.c.now) x)) c.in_err-to-in-Some.field-0.0) c.as_slice.ensures.bytes c.in_err-to-in-Some.ensures));
      past = err_past c.from_residual-in_err-to-in-Some.result c.in_err-to-in-Some.field-0.0 _ c.from_residual-in_err-to-in-Some.ensures.1;
    }

pub expr-returns-in_ok-to-in-Some : goal.expr-returns-in_ok-to-in-Some
expr-returns-in_ok-to-in-Some m c =
    record {
      judged = named_judged c.in-Call.line (env_of c.args.c.now) c.args.e.now c.deref-in-Call.result.now c.in-Call.f.value (u.exprs_from c.in-Call.args.items) (ap u.expr_of c.in-Call.is ∙ expr_of-Call c.in-Call.line c.in-Call.f c.in-Call.args) c.deref-in-Call.ensures c.in-Some.at c.in-Some.name.now c.in-Some.ensures (boxed c.in_ok-to-in-Some.to) c.call.result (subst (λ x. r.called_name (env_of c.args.c.now) x (meaning_of (env_of c.args.c.now) x) ≡ Is (boxed c.in_ok-to-in-Some.to)) c.as_slice.ensures.bytes c.in_ok-to-in-Some.ensures) (subst (λ as_. Says boxed (judged_call (env_of c.args.c.now) (boxed c.in_ok-to-in-Some.to) (u.exprs_from as_)) c.call.result) c.deref-in-Some.ensures.value c.call.ensures.judged);
      past = named_past c.in-Call.line (env_of c.args.c.now) c.args.e.now c.deref-in-Call.result.now c.in-Call.f.value (u.exprs_from c.in-Call.args.items) (ap u.expr_of c.in-Call.is ∙ expr_of-Call c.in-Call.line c.in-Call.f c.in-Call.args) c.deref-in-Call.ensures c.in-Some.at c.in-Some.name.now c.in-Some.ensures (env_of c.call.new.c) c.call.result (subst (λ as_. OnOk c.call.result (env_of c.call.new.c ≡ met (texts_in_all (u.exprs_from as_)) (env_of c.args.c.now))) c.deref-in-Some.ensures.value c.call.ensures.past);
    }

pub expr-returns-in_err-to-in-None : goal.expr-returns-in_err-to-in-None
expr-returns-in_err-to-in-None m c =
    record {
      judged = err_judged boxed _ c.from_residual-in_err-to-in-None.result c.in_err-to-in-None.field-0.0 c.from_residual-in_err-to-in-None.ensures.1 (other_refused c.in-Call.line (env_of c.args.c.now) c.args.e.now c.deref-in-None.result.now c.in-Call.f.value (u.exprs_from c.in-Call.args.items) (ap u.expr_of c.in-Call.is ∙ expr_of-Call c.in-Call.line c.in-Call.f c.in-Call.args) c.deref-in-None.ensures (c.in-None.ensures ∙ ap (λ z. name_in (u.expr_of z)) (c.deref-in-Call.ensures ∙ sym c.deref-in-None.ensures)) c.in_err-to-in-None.field-0.0 c.in_err-to-in-None.ensures.judged);
      past = err_past c.from_residual-in_err-to-in-None.result c.in_err-to-in-None.field-0.0 _ c.from_residual-in_err-to-in-None.ensures.1;
    }

pub expr-returns-in_ok-to-in-None : goal.expr-returns-in_ok-to-in-None
expr-returns-in_ok-to-in-None m c =
    record {
      judged = other_judged c.in-Call.line (env_of c.args.c.now) c.args.e.now c.deref-in-None.result.now c.in-Call.f.value (u.exprs_from c.in-Call.args.items) (ap u.expr_of c.in-Call.is ∙ expr_of-Call c.in-Call.line c.in-Call.f c.in-Call.args) c.deref-in-None.ensures (c.in-None.ensures ∙ ap (λ z. name_in (u.expr_of z)) (c.deref-in-Call.ensures ∙ sym c.deref-in-None.ensures)) (env_of c.expr-in-None.new.c) (boxed c.in_ok-to-in-None.to) c.call-in-None.result c.in_ok-to-in-None.ensures.judged c.in_ok-to-in-None.ensures.past (subst (λ as_. Says boxed (judged_call (env_of c.expr-in-None.new.c) (boxed c.in_ok-to-in-None.to) (u.exprs_from as_)) c.call-in-None.result) c.deref-in-None-2.ensures.value c.call-in-None.ensures.judged);
      past = other_past c.in-Call.line (env_of c.args.c.now) c.args.e.now c.deref-in-None.result.now c.in-Call.f.value (u.exprs_from c.in-Call.args.items) (ap u.expr_of c.in-Call.is ∙ expr_of-Call c.in-Call.line c.in-Call.f c.in-Call.args) c.deref-in-None.ensures (env_of c.expr-in-None.new.c) (env_of c.call-in-None.new.c) c.call-in-None.result c.in_ok-to-in-None.ensures.past (subst (λ as_. OnOk c.call-in-None.result (env_of c.call-in-None.new.c ≡ met (texts_in_all (u.exprs_from as_)) (env_of c.expr-in-None.new.c))) c.deref-in-None-2.ensures.value c.call-in-None.ensures.past);
    }

pub expr-returns-in_err-expr-in-Member : goal.expr-returns-in_err-expr-in-Member
expr-returns-in_err-expr-in-Member m c =
    record {
      judged = err_judged boxed _ c.from_residual-in_err-expr-in-Member.result c.in_err-expr-in-Member.field-0.0 c.from_residual-in_err-expr-in-Member.ensures.1 (one_refused (λ p. t.member c.in-Member.line p c.in-Member.name) (λ q x. r.dot q x c.in-Member.name) (rules_member c.in-Member.line c.in-Member.name) (env_of c.args.c.now) c.args.e.now c.deref-in-Member.result.now c.in-Member.a.value (ap u.expr_of c.in-Member.is) c.deref-in-Member.ensures c.in_err-expr-in-Member.field-0.0 c.in_err-expr-in-Member.ensures.judged);
      past = err_past c.from_residual-in_err-expr-in-Member.result c.in_err-expr-in-Member.field-0.0 _ c.from_residual-in_err-expr-in-Member.ensures.1;
    }

pub expr-returns-in_ok-expr-in-Member : goal.expr-returns-in_ok-expr-in-Member
expr-returns-in_ok-expr-in-Member m c =
    record {
      judged = one_judged (λ p. t.member c.in-Member.line p c.in-Member.name) (λ q x. r.dot q x c.in-Member.name) (rules_member c.in-Member.line c.in-Member.name) (env_of c.args.c.now) c.args.e.now c.deref-in-Member.result.now c.in-Member.a.value (ap u.expr_of c.in-Member.is) c.deref-in-Member.ensures (env_of c.expr-in-Member.new.c) (boxed c.in_ok-expr-in-Member.field-0) c.member.result c.in_ok-expr-in-Member.ensures.judged c.in_ok-expr-in-Member.ensures.past c.member.ensures;
      past = one_past (λ p. t.member c.in-Member.line p c.in-Member.name) (λ q x. r.dot q x c.in-Member.name) (rules_member c.in-Member.line c.in-Member.name) (env_of c.args.c.now) c.args.e.now c.deref-in-Member.result.now c.in-Member.a.value (ap u.expr_of c.in-Member.is) c.deref-in-Member.ensures (λ p. refl) (env_of c.expr-in-Member.new.c) c.member.result c.in_ok-expr-in-Member.ensures.past;
    }

pub expr-returns-in_err-expr-in-Arrow : goal.expr-returns-in_err-expr-in-Arrow
expr-returns-in_err-expr-in-Arrow m c =
    record {
      judged = err_judged boxed _ c.from_residual-in_err-expr-in-Arrow.result c.in_err-expr-in-Arrow.field-0.0 c.from_residual-in_err-expr-in-Arrow.ensures.1 (one_refused (λ p. t.arrow c.in-Arrow.line p c.in-Arrow.name) (λ q x. r.arrow q x c.in-Arrow.name) (rules_arrow c.in-Arrow.line c.in-Arrow.name) (env_of c.args.c.now) c.args.e.now c.deref-in-Arrow.result.now c.in-Arrow.a.value (ap u.expr_of c.in-Arrow.is) c.deref-in-Arrow.ensures c.in_err-expr-in-Arrow.field-0.0 c.in_err-expr-in-Arrow.ensures.judged);
      past = err_past c.from_residual-in_err-expr-in-Arrow.result c.in_err-expr-in-Arrow.field-0.0 _ c.from_residual-in_err-expr-in-Arrow.ensures.1;
    }

pub expr-returns-in_ok-expr-in-Arrow : goal.expr-returns-in_ok-expr-in-Arrow
expr-returns-in_ok-expr-in-Arrow m c =
    record {
      judged = one_judged (λ p. t.arrow c.in-Arrow.line p c.in-Arrow.name) (λ q x. r.arrow q x c.in-Arrow.name) (rules_arrow c.in-Arrow.line c.in-Arrow.name) (env_of c.args.c.now) c.args.e.now c.deref-in-Arrow.result.now c.in-Arrow.a.value (ap u.expr_of c.in-Arrow.is) c.deref-in-Arrow.ensures (env_of c.expr-in-Arrow.new.c) (boxed c.in_ok-expr-in-Arrow.field-0) c.member_behind.result c.in_ok-expr-in-Arrow.ensures.judged c.in_ok-expr-in-Arrow.ensures.past c.member_behind.ensures;
      past = one_past (λ p. t.arrow c.in-Arrow.line p c.in-Arrow.name) (λ q x. r.arrow q x c.in-Arrow.name) (rules_arrow c.in-Arrow.line c.in-Arrow.name) (env_of c.args.c.now) c.args.e.now c.deref-in-Arrow.result.now c.in-Arrow.a.value (ap u.expr_of c.in-Arrow.is) c.deref-in-Arrow.ensures (λ p. refl) (env_of c.expr-in-Arrow.new.c) c.member_behind.result c.in_ok-expr-in-Arrow.ensures.past;
    }

pub expr-returns-in_err-expr-in-Post : goal.expr-returns-in_err-expr-in-Post
expr-returns-in_err-expr-in-Post m c =
    record {
      judged = err_judged boxed _ c.from_residual-in_err-expr-in-Post.result c.in_err-expr-in-Post.field-0.0 c.from_residual-in_err-expr-in-Post.ensures.1 (one_refused (t.post c.in-Post.line c.in-Post.op) (λ q. r.step q (r.post_op c.in-Post.op)) (rules_post c.in-Post.line c.in-Post.op) (env_of c.args.c.now) c.args.e.now c.deref-in-Post.result.now c.in-Post.a.value (ap u.expr_of c.in-Post.is) c.deref-in-Post.ensures c.in_err-expr-in-Post.field-0.0 c.in_err-expr-in-Post.ensures.judged);
      past = err_past c.from_residual-in_err-expr-in-Post.result c.in_err-expr-in-Post.field-0.0 _ c.from_residual-in_err-expr-in-Post.ensures.1;
    }

pub expr-returns-in_ok-expr-in-Post : goal.expr-returns-in_ok-expr-in-Post
expr-returns-in_ok-expr-in-Post m c =
    record {
      judged = one_judged (t.post c.in-Post.line c.in-Post.op) (λ q. r.step q (r.post_op c.in-Post.op)) (rules_post c.in-Post.line c.in-Post.op) (env_of c.args.c.now) c.args.e.now c.deref-in-Post.result.now c.in-Post.a.value (ap u.expr_of c.in-Post.is) c.deref-in-Post.ensures (env_of c.expr-in-Post.new.c) (boxed c.in_ok-expr-in-Post.field-0) c.stepped.result c.in_ok-expr-in-Post.ensures.judged c.in_ok-expr-in-Post.ensures.past c.stepped.ensures;
      past = one_past (t.post c.in-Post.line c.in-Post.op) (λ q. r.step q (r.post_op c.in-Post.op)) (rules_post c.in-Post.line c.in-Post.op) (env_of c.args.c.now) c.args.e.now c.deref-in-Post.result.now c.in-Post.a.value (ap u.expr_of c.in-Post.is) c.deref-in-Post.ensures (λ p. refl) (env_of c.expr-in-Post.new.c) c.stepped.result c.in_ok-expr-in-Post.ensures.past;
    }

pub expr-returns-in-Name : goal.expr-returns-in-Name
expr-returns-in-Name m c =
    record {
      judged = leaf_judged (env_of c.args.c.now) c.args.e.now (t.name c.in-Name.line c.in-Name.name) c.named.result (ap u.expr_of c.in-Name.is) (subst (λ x. Says boxed (r.as_expr (meaning_of (env_of c.args.c.now) x)) c.named.result) c.as_slice-in-Name.ensures.bytes c.named.ensures);
      past = leaf_past (env_of c.args.c.now) c.args.e.now (t.name c.in-Name.line c.in-Name.name) c.named.result (ap u.expr_of c.in-Name.is) refl;
    }

pub expr-returns-in-Int : goal.expr-returns-in-Int
expr-returns-in-Int m c =
    record {
      judged = leaf_judged (env_of c.args.c.now) c.args.e.now (t.int c.in-Int.field-0 c.in-Int.value c.in-Int.long) c.number.result (ap u.expr_of c.in-Int.is) c.number.ensures;
      past = leaf_past (env_of c.args.c.now) c.args.e.now (t.int c.in-Int.field-0 c.in-Int.value c.in-Int.long) c.number.result (ap u.expr_of c.in-Int.is) refl;
    }

pub expr-returns-in-Chr : goal.expr-returns-in-Chr
expr-returns-in-Chr m c =
    record {
      judged = leaf_judged (env_of c.args.c.now) c.args.e.now (t.chr c.in-Chr.field-0 c.in-Chr.byte) c.character.result (ap u.expr_of c.in-Chr.is) c.character.ensures;
      past = leaf_past (env_of c.args.c.now) c.args.e.now (t.chr c.in-Chr.field-0 c.in-Chr.byte) c.character.result (ap u.expr_of c.in-Chr.is) refl;
    }

pub expr-returns-in-Text : goal.expr-returns-in-Text
expr-returns-in-Text m c =
    record {
      judged = leaf_judged (env_of c.args.c.now) c.args.e.now (t.text c.in-Text.field-0 c.in-Text.bytes) c.text.result (ap u.expr_of c.in-Text.is) c.text.ensures.judged;
      past = on_ok_weaker c.text.result (λ (k : env_of c.text.new.c ≡ past (u.expr_of (source.Text c.in-Text.field-0 c.in-Text.bytes)) (env_of c.args.c.now)). k ∙ ap (λ p. past p (env_of c.args.c.now)) (sym (ap u.expr_of c.in-Text.is))) c.text.ensures.past;
    }

pub call-returns-in_err-to : goal.call-returns-in_err-to
call-returns-in_err-to m c =
    record {
      judged = err_judged boxed _ c.from_residual.result c.in_err-to.field-0.0 c.from_residual.ensures.1 (onward_refused (r.called (boxed c.args.to)) (with_args (env_of c.args.c.now) (u.exprs_from c.args.args.now)) c.in_err-to.field-0.0 c.in_err-to.ensures);
      past = err_past c.from_residual.result c.in_err-to.field-0.0 _ c.from_residual.ensures.1;
    }

pub call-loop-arg-init : goal.call-loop-arg-init
call-loop-arg-init m c =
    record {
      judged = rest_none (judged_args (env_of c.args.c.now) (u.exprs_from c.args.args.now)) ∙ ap (λ xs. rest_of xs (judged_args (env_of c.args.c.now) (u.exprs_from c.args.args.now))) (sym c.new-values.ensures.items);
      texts = refl;
    }

pub call-returns-in_err-arg : goal.call-returns-in_err-arg
call-returns-in_err-arg m c =
    record {
      judged = err_judged boxed _ c.from_residual-in_err-arg.result c.in_err-arg.field-0.0 c.from_residual-in_err-arg.ensures.1 (call_refused (env_of c.args.c.now) (boxed c.args.to) (boxed c.in_ok-to.to) (u.exprs_from c.args.args.now) c.in_err-arg.field-0.0 c.in_ok-to.ensures (arg_refused c.args.args.now c.loop-arg.arg-index c.arg-item.result c.loop-arg-test.true c.arg-item.is (judged_args (env_of c.args.c.now) (u.exprs_from c.args.args.now)) (env_of c.loop-arg.c) c.loop-arg.values.items c.in_err-arg.field-0.0 c.loop-arg.invariant.judged c.in_err-arg.ensures.judged));
      past = err_past c.from_residual-in_err-arg.result c.in_err-arg.field-0.0 _ c.from_residual-in_err-arg.ensures.1;
    }

pub call-returns-in_err-value : goal.call-returns-in_err-value
call-returns-in_err-value m c =
    record {
      judged = err_judged boxed _ c.from_residual-in_err-value.result c.in_err-value.field-0.0 c.from_residual-in_err-value.ensures.1 (call_refused (env_of c.args.c.now) (boxed c.args.to) (boxed c.in_ok-to.to) (u.exprs_from c.args.args.now) c.in_err-value.field-0.0 c.in_ok-to.ensures (scalar_refused c.args.args.now c.loop-arg.arg-index c.arg-item.result c.loop-arg-test.true c.arg-item.is (judged_args (env_of c.args.c.now) (u.exprs_from c.args.args.now)) (env_of c.loop-arg.c) c.loop-arg.values.items (boxed c.in_ok-arg.arg) c.in_err-value.field-0.0 c.loop-arg.invariant.judged c.in_ok-arg.ensures.judged c.in_err-value.ensures));
      past = err_past c.from_residual-in_err-value.result c.in_err-value.field-0.0 _ c.from_residual-in_err-value.ensures.1;
    }

pub call-returns-in_err-push : goal.call-returns-in_err-push
call-returns-in_err-push m c =
    record {
      judged = err_judged boxed _ c.from_residual-in_err-push.result Memory c.from_residual-in_err-push.ensures.1 tt;
      past = err_past c.from_residual-in_err-push.result Memory _ c.from_residual-in_err-push.ensures.1;
    }

pub call-loop-arg-preserved : goal.call-loop-arg-preserved
call-loop-arg-preserved m c =
    record {
      judged = args_passed c.args.args.now c.loop-arg.arg-index c.arg-item.result c.loop-arg-test.true c.arg-item.is (judged_args (env_of c.args.c.now) (u.exprs_from c.args.args.now)) (env_of c.loop-arg.c) (env_of c.expr.new.c) c.loop-arg.values.items c.push.new.self.items (boxed c.in_ok-arg.arg) c.in_ok-value.value.value c.loop-arg.invariant.judged c.in_ok-arg.ensures.judged c.in_ok-value.ensures c.in_ok-arg.ensures.past (c.in_ok-push.ensures.items ∙ ap (λ z. c.loop-arg.values.items ++ z ∷ []) c.into_inner.ensures);
      texts = texts_passed c.args.args.now c.loop-arg.arg-index c.arg-item.result c.loop-arg-test.true c.arg-item.is (env_of c.loop-arg.c) (env_of c.expr.new.c) (met (texts_in_all (u.exprs_from c.args.args.now)) (env_of c.args.c.now)) c.loop-arg.invariant.texts c.in_ok-arg.ensures.past;
    }

pub call-returns-in_err-called_with : goal.call-returns-in_err-called_with
call-returns-in_err-called_with m c =
    record {
      judged = err_judged boxed _ c.from_residual-in_err-called_with.result Memory c.from_residual-in_err-called_with.ensures.1 tt;
      past = err_past c.from_residual-in_err-called_with.result Memory _ c.from_residual-in_err-called_with.ensures.1;
    }

pub call-returns : goal.call-returns
call-returns m c =
    record {
      judged = call_says (env_of c.args.c.now) (boxed c.args.to) (boxed c.in_ok-to.to) (u.exprs_from c.args.args.now) (args_from c.loop-arg.values.items) c.in_ok-to.ensures (args_end (judged_args (env_of c.args.c.now) (u.exprs_from c.args.args.now)) (env_of c.loop-arg.c) c.args.args.now c.loop-arg.arg-index c.loop-arg.values.items c.loop-arg-test.false c.loop-arg.invariant.judged) ∙ ap Is (sym c.in_ok-called_with.ensures);
      past = texts_end (env_of c.loop-arg.c) (met (texts_in_all (u.exprs_from c.args.args.now)) (env_of c.args.c.now)) c.args.args.now c.loop-arg.arg-index c.loop-arg-test.false c.loop-arg.invariant.texts;
    }
