-- Expressions as the readers of declarations and statements read them.
use Rattle.std.specs.Prelude.{ℕ, List, length, Some, None}
use Rattle.c_type.specs.Names.{Name, pick}
use Rattle.c_lex.specs.Tokens.{Token}
use Rattle.c_tree.specs.TreeExpr.{Expr}
use Rattle.c_grammar.specs.Reads.{most, may_follow}
use Rattle.c_expr.specs.Front.{Read, ◌>>=◌}
use Rattle.c_expr.specs.Reading as r

-- what is read, where a mark follows that may end an expression of the level
abbrev pub ended : ℕ → Expr × List Token → Read Expr
ended l x = pick (may_follow l x.1) (Some x) None

-- Each part and each pair of brackets has a token of its own, so that the number of the tokens bounds how deep they stand.
unfoldable pub expression : List Name → ℕ → List Token → Read Expr
expression defs l ts = r.expr defs most (length ts) l ts >>= ended l
