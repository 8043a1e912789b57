use Rattle.c_lex.proofs.Once.{bad_once}
use Rattle.c_lex.proofs.laws.bad_once.Goals as goal

pub returns : goal.returns
returns c = record { law = bad_once }
