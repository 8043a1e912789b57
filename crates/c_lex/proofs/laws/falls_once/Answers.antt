use Rattle.c_lex.proofs.Once.{falls_once}
use Rattle.c_lex.proofs.laws.falls_once.Goals as goal

pub returns : goal.returns
returns c = record { law = falls_once }
