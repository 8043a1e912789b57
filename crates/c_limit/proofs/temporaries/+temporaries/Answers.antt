use Rattle.std.proofs.Common.{sym, ◌∙◌, ap}
use Rattle.c_tree.specs.TypedOf.{expr_of}
use Rattle.c_limit.specs.Temporaries as s
use Rattle.c_limit.specs.Temporaries.{counted}
use Rattle.c_limit.proofs.Needed.{called_by_name, called_through}
use Rattle.c_limit.proofs.temporaries.+temporaries.Goals as goal

pub temporaries-returns-then-is_by_name : goal.temporaries-returns-then-is_by_name
temporaries-returns-then-is_by_name t c =
    called_by_name _ _ _ _ c.deref-in-Call-2.result.now c.deref-in-Call.result.now _ c.in-Call.is c.deref-in-Call-2.ensures c.deref-in-Call.ensures.value
    (sym c.is_by_name.ensures ∙ c.if-is_by_name.true) c.in_args-of_args.ensures

pub temporaries-returns-else-is_by_name : goal.temporaries-returns-else-is_by_name
temporaries-returns-else-is_by_name t c =
    called_through _ _ _ _ c.deref-in-Call-2.result.now c.deref-in-Call.result.now c.temporaries-else-is_by_name.result _ c.saturating_add.result _ c.in-Call.is c.deref-in-Call-2.ensures
    c.deref-in-Call.ensures.value (sym c.is_by_name.ensures ∙ c.if-is_by_name.false)
    (c.temporaries-else-is_by_name.ensures ∙ ap (λ y. counted (s.temporaries (expr_of y))) (c.deref-else-is_by_name.ensures ∙ sym c.deref-in-Call-2.ensures))
    c.in_args-of_args.ensures c.saturating_add.ensures c.max-else-is_by_name.ensures
