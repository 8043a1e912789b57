use Rattle.std.proofs.Common.{◌++◌, ap, ◌∙◌}
use Rattle.std.proofs.lemmas.Result.{on_ok_weaker}
use Rattle.c_whole.specs.Events.{events_of}
use Rattle.c_whole.proofs.Rows.{call_adds}
use Rattle.c_whole.proofs.in_exprs.+in_exprs.Goals as goal

pub in_expr-returns-in_ok-add-in-Call : goal.in_expr-returns-in_ok-add-in-Call
in_expr-returns-in_ok-add-in-Call t c =
    record {
      added =
          on_ok_weaker c.in_args.result
          (call_adds _ _ _ _ _ _ _ _ _ _ _ _ c.in-Call.is c.deref-in-Call.ensures c.deref-in-Call-2.ensures c.deref-in-Call-3.ensures.value c.deref-in-Call-4.ensures.value
          c.in_ok-in_expr-in-Call.ensures.added (c.in_ok-add-in-Call.ensures.added ∙ ap (λ y. events_of c.in_expr-in-Call.new.out.items ++ y) c.of_call.ensures))
          c.in_args.ensures.added;
    }
