use Rattle.c_lex.proofs.Once.{falls_or_bad}
use Rattle.c_lex.proofs.laws.falls_or_bad.Goals as goal

pub returns : goal.returns
returns c = record { law = falls_or_bad }
