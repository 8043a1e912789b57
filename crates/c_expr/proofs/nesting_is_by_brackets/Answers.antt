use Rattle.c_expr.proofs.Walk.{nest_few}
use Rattle.c_expr.proofs.nesting_is_by_brackets.Goals as goal

pub returns : goal.returns
returns c = record { law = nest_few }
