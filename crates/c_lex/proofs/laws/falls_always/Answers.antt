use Rattle.c_lex.proofs.Once.{falls_always}
use Rattle.c_lex.proofs.laws.falls_always.Goals as goal

pub returns : goal.returns
returns c = record { law = falls_always }
