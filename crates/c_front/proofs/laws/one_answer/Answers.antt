use Rattle.c_front.proofs.Causes.{one_answer}
use Rattle.c_front.proofs.laws.one_answer.Goals as goal

pub returns : goal.returns
returns c = record { law = one_answer }
