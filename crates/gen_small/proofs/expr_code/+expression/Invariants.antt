-- A part of an expression has fewer nodes.
use Rattle.std.proofs.Common.{◌+◌, ◌*◌}
use Rattle.c_tree.specs.TypedOf.{expr_of}
use Rattle.gen_small.proofs.Parts.{nodes}
use Rattle.gen_small.proofs.expr_code.+expression.Given as goal

abbrev pub decreases-push_expr : goal.decreases-push_expr
decreases-push_expr l = 2 * nodes (expr_of l.expr.now)

abbrev pub decreases-push_right : goal.decreases-push_right
decreases-push_right l = 2 * nodes (expr_of l.right.now) + 1
