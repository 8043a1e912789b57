use Rattle.std.proofs.Common.{is_some, ap, ◌∙◌}
use Rattle.c_check.specs.ListOf.{names_of}
use Rattle.c_check.proofs.Placed.{listed}
use Rattle.c_check.proofs.name_list.NameList.has.Goals as goal

pub returns : goal.returns
returns c = record { value = c.is_some.ensures ∙ ap is_some c.place.ensures.value ∙ listed c.args.name.now (names_of c.args.self.now) }
