-- The laws, from the lemmas on written expressions.
use Rattle.std.proofs.Common.{sym, ◌∙◌}
use Rattle.c_expr.specs.Laws.{IsOneReading, IsSpelled, IsRead}
use Rattle.c_expr.proofs.ExprTakes.{expr_takes}
use Rattle.c_expr.proofs.ExprAgain as g

pub one_reading : IsOneReading
one_reading defs l e d ts x y s u ends also =
    let both = g.one_reading defs l s.written u.written x y s.levelled.1 u.levelled.1 s.levelled.0 u.levelled.0 ends also (sym s.tokens ∙ u.tokens) in
    (sym s.plain_is ∙ both.0 ∙ u.plain_is, both.1)

pub is_spelled : IsSpelled
is_spelled defs most n l ts x positive bound is = let h = expr_takes defs most n positive l ts x bound is in (h.0, h.1)

pub is_read : IsRead
is_read defs most n l e after ok small low ends = g.expr_again defs most n e l after ok.1 small low ok.0 ends
