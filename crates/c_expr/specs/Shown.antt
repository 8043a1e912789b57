-- What the code reads, as the lists and trees on which reading is defined.
use Rattle.std.specs.Prelude.{List, map}
use Rattle.c_lex.specs.Tokens as k
use Rattle.c_tree.specs.TreeExpr.{Expr, Exprs}
use Rattle.c_tree.specs.TreeOf.{expr_of, exprs_from}
use Rattle.c_lex.specs.Shown.{token_of}
use Rattle.c_expr.specs.declared.rest.Rest.{Rest}
use Rattle.c_expr.specs.declared.rest.Found.{Found}
use Rattle.c_expr.specs.declared.rest.FoundArgs.{FoundArgs}

-- the tokens that are left
abbrev pub left : Rest → List k.Token
left x = map token_of x.tokens.now

-- an expression and the tokens behind it
abbrev pub shown : Found → Expr × List k.Token
shown x = (expr_of x.tree, left x.rest)

-- arguments and the tokens behind them
abbrev pub shown_args : FoundArgs → Exprs × List k.Token
shown_args x = (exprs_from x.trees.items, left x.rest)
