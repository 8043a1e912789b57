-- The greatest so far and that of what is left are the greatest of all.
use Rattle.std.proofs.Common.{◌≡◌, max, drop, map}
use Rattle.c_tree.specs.TypedOf.{expr_of}
use Rattle.c_limit.specs.Temporaries as s
use Rattle.c_limit.proofs.temporaries.in_exprs.Given as goal

abbrev pub invariant-loop-expr : goal.invariant-loop-expr
invariant-loop-expr l = max l.most (s.counted (s.of_list (map expr_of (drop l.expr-index l.exprs)))) ≡ s.counted (s.of_list (map expr_of l.exprs))
