use Rattle.c_expr.proofs.reader.expr.Goals as goal

pub returns-clause-none : goal.returns-clause-none
returns-clause-none c = rw c.deref.ensures.value at c.expr_in.ensures.none
