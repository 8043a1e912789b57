use Rattle.std.proofs.Common.{arith, sym}
use Rattle.c_tree.specs.TreeOf.{expr_of}
use Rattle.c_decl.proofs.Depths.{expr_exceeds_none, call_exceeds}
use Rattle.c_decl.proofs.depth.+exprs.Goals as goal

pub expr_exceeds-returns-then-most-eq0 : goal.expr_exceeds-returns-then-most-eq0
expr_exceeds-returns-then-most-eq0 t c = expr_exceeds_none c.args.most (expr_of c.args.expr.now) c.if-most-eq0.true

pub expr_exceeds-returns-else-expr_exceeds-7 : goal.expr_exceeds-returns-else-expr_exceeds-7
expr_exceeds-returns-else-expr_exceeds-7 t c =
    let low = rw c.deref-in-Call.ensures at c.if-expr_exceeds-7.ensures in
    let args = rw c.deref-else-expr_exceeds-7.ensures.value at c.exprs_exceed.ensures in
    call_exceeds c.args.most c.in-Call.field-0 c.in-Call.f c.in-Call.args c.args.expr.now c.exprs_exceed.result c.in-Call.is (omega arith) (sym low) args
