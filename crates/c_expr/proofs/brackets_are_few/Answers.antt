use Rattle.c_expr.proofs.Shallow.{few}
use Rattle.c_expr.proofs.brackets_are_few.Goals as goal

pub returns : goal.returns
returns c = record { law = few }
