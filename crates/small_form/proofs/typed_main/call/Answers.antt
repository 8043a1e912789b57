use Rattle.std.proofs.Common.{◌∙◌, ap, ◌++◌, ◌∷◌, []}
use Rattle.c_tree.specs.TypedOf as o
use Rattle.small_form.proofs.SmallTrees.{call_typed}
use Rattle.small_form.proofs.typed_main.call.Goals as goal

pub returns : goal.returns
returns c = call_typed c.int.result c.in_ok-new.field-0 c.args.argument c.push.new.self c.in_ok-function.function c.int.ensures (ap o.expr_of c.in_ok-new.ensures.ok) c.in_ok-function.ensures (c.in_ok-push.ensures.items ∙ ap (λ l. l ++ c.args.argument ∷ []) c.new-arguments.ensures.items)
