use Rattle.c_expr.proofs.Joined as joined
use Rattle.c_expr.proofs.what_is_spelled_is_read.Goals as goal

pub returns : goal.returns
returns c = record { law = joined.is_read }
