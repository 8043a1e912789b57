use Rattle.std.proofs.Common.{nat_lt, sym, ◌∙◌}
use Rattle.c_expr.specs.Shown.{left}
use Rattle.c_expr.proofs.Walk.{walk_ends, walk_over, found_enough}
use Rattle.c_expr.proofs.brackets.brackets.Goals as goal

pub returns-in_default-clause-enough : goal.returns-in_default-clause-enough
returns-in_default-clause-enough c = λ defs e behind at is.
    found_enough defs c.args.level c.loop-token.nesting.most (left c.args.rest) behind e at is (sym c.loop-token.invariant.same
    ∙ walk_ends (nat_lt 1 c.args.level) c.args.rest.tokens.now c.loop-token.token-index c.token-item.result c.loop-token.nesting c.sort_at.result c.loop-token-test.true c.token-item.is c.sort_at.ensures c.in_default.ensures.next)

pub returns-clause-enough : goal.returns-clause-enough
returns-clause-enough c = λ defs e behind at is.
    found_enough defs c.args.level c.loop-token.nesting.most (left c.args.rest) behind e at is (sym c.loop-token.invariant.same
    ∙ walk_over (nat_lt 1 c.args.level) c.args.rest.tokens.now c.loop-token.token-index c.loop-token.nesting c.loop-token-test.false)
