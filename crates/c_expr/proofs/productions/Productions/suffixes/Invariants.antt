use Rattle.std.proofs.Common.{ℕ, List, ◌≡◌, ◌+◌, ◌-◌}
use Rattle.c_lex.specs.Tokens as k
use Rattle.c_tree.specs.TreeExpr as t
use Rattle.c_tree.specs.TreeOf.{expr_of}
use Rattle.c_expr.specs.Front.{Read}
use Rattle.c_expr.specs.Reading as r
use Rattle.c_expr.specs.Parts.{AreReadBy, names}
use Rattle.c_expr.specs.Shown.{left}
use Rattle.c_expr.specs.declared.nodes.TheConstants.{MAX_DEPTH}
use Rattle.c_expr.proofs.productions.Productions.suffixes.Given as goal

abbrev pub invariant-loop-turn : goal.invariant-loop-turn
invariant-loop-turn g l =
    (inner : ℕ → List k.Token → Read t.Expr) → AreReadBy (goal.F-post g l.self.part) inner
    → r.suffixes (names l.self.reader) MAX_DEPTH inner (MAX_DEPTH + 1 - l._turn) l.line (expr_of l.found.tree) (left l.found.rest)
    ≡ r.suffixes (names l.self.reader) MAX_DEPTH inner (MAX_DEPTH + 1) l.line (expr_of l.fn.first.tree) (left l.fn.first.rest)
