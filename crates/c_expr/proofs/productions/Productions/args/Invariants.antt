use Rattle.std.proofs.Common.{ℕ, List, ◌≡◌, ◌-◌, length}
use Rattle.c_lex.specs.Tokens as k
use Rattle.c_tree.specs.TreeExpr as t
use Rattle.c_tree.specs.TreeOf.{exprs_from}
use Rattle.c_expr.specs.Front.{Read}
use Rattle.c_expr.specs.Reading as r
use Rattle.c_expr.specs.Parts.{AreReadBy, names}
use Rattle.c_expr.specs.Shown.{left}
use Rattle.c_expr.specs.declared.nodes.TheConstants.{MAX_DEPTH}
use Rattle.c_expr.proofs.Turns.{with_front}
use Rattle.c_expr.proofs.productions.Productions.args.Given as goal

abbrev pub invariant-loop-turn : goal.invariant-loop-turn
invariant-loop-turn g l =
    (inner : ℕ → List k.Token → Read t.Expr) → AreReadBy (goal.F-post g l.self.part) inner
    → with_front (exprs_from l.found.trees.items) (r.args_from (names l.self.reader) MAX_DEPTH inner (length l.rest.tokens.now - l._turn) (left l.found.rest))
    ≡ r.args_from (names l.self.reader) MAX_DEPTH inner (length l.rest.tokens.now) (left l.rest)
