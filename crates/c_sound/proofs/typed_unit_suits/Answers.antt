use Rattle.c_sound.proofs.Units.{typed_suits}
use Rattle.c_sound.proofs.typed_unit_suits.Goals as goal

-- src/lib.rt:9:1
pub returns : goal.returns
returns c = record { law = typed_suits }
