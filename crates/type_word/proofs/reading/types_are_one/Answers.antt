-- The law is shown in proofs/Whole.
use Rattle.type_word.proofs.Whole.{types_are_one}
use Rattle.type_word.proofs.reading.types_are_one.Goals as goal

pub returns : goal.returns
returns c = record { law = types_are_one }
