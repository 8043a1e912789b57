use Rattle.std.proofs.Common.{◌+◌, ◌*◌}
use Rattle.c_expr.proofs.reader.+parts.Given as goal

abbrev pub decreases-Reader::expr_at : goal.decreases-Reader::expr_at
decreases-Reader::expr_at l = 2 * l.nested

abbrev pub decreases-closure : goal.decreases-closure
decreases-closure l = 2 * l.within + 1
