-- The law is shown in proofs.Peeled.
use Rattle.type_word.proofs.Peeled.{outer_is_outermost}
use Rattle.type_word.proofs.outermost.outer_is_outermost.Goals as goal

pub returns : goal.returns
returns c = record { law = outer_is_outermost }
