use Rattle.std.proofs.Common.{◌≡◌, ◌+◌, ◌≤◌, length}
use Rattle.c_expr.specs.Shown.{left}
use Rattle.c_expr.specs.Types.{stars_at}
use Rattle.c_expr.proofs.Told.{with_stars}
use Rattle.c_expr.proofs.typename.stars.Given as goal

abbrev pub decreases-loop-after : goal.decreases-loop-after
decreases-loop-after l = length l.ahead.tokens.now

abbrev pub invariant-loop-after : goal.invariant-loop-after
invariant-loop-after l = record {
  few : l.count + length l.ahead.tokens.now ≤ length l.rest.tokens.now;
  same : with_stars l.count (stars_at (left l.ahead)) ≡ stars_at (left l.rest);
}
