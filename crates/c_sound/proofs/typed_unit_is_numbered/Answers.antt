use Rattle.c_sound.proofs.UnitParts.{typed_is_numbered}
use Rattle.c_sound.proofs.typed_unit_is_numbered.Goals as goal

pub returns : goal.returns
returns c = record { law = typed_is_numbered }
