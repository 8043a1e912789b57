use Rattle.small_form.proofs.SmallTrees.{action_call}
use Rattle.small_form.proofs.typed_main.action.Goals as goal

pub returns-in-Call : goal.returns-in-Call
returns-in-Call c =
    rw (action_call c.args.variables.now c.args.e.now c.in-Call.field-0 c.in-Call.f c.in-Call.es c.deref-in-Call.result.now c.deref-in-Call-2.result.now c.in-Call.is c.deref-in-Call.ensures c.deref-in-Call-2.ensures.value) c.put.ensures
