use Rattle.small_form.proofs.SmallTrees.{no_argument}
use Rattle.small_form.proofs.typed_main.argument.Goals as goal

pub returns-then-es-ne1 : goal.returns-then-es-ne1
returns-then-es-ne1 c = no_argument c.args.variables.now c.args.es.now c.if-es-ne1.true
