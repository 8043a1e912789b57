use Rattle.c_tree.specs.TreeOf.{unit_of}
use Rattle.small_form.proofs.SmallUnit.{made_typed}
use Rattle.small_form.proofs.typed_main.small_main.Goals as goal

pub returns-clause-belongs : goal.returns-clause-belongs
returns-clause-belongs c = made_typed (unit_of c.args.unit.now) c.only_main.result c.only_main.ensures.typed
