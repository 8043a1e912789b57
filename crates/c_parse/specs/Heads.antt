-- What stands in the brackets of a `for`.
use Rattle.std.specs.Prelude.{List, Option, Some}
use Rattle.c_lex.specs.Tokens.{Token}
use Rattle.c_grammar.specs.Words.{open_round, close_round, semicolon}
use Rattle.c_tree.specs.TreeExpr.{Expr}
use Rattle.c_tree.specs.TreeOf.{expr_of, part_of}
use Rattle.c_expr.specs.Front.{Read, ◌>>=◌, eat}
use Rattle.c_decl.specs.declared.reader.Reader.{Reader}
use Rattle.c_parse.specs.declared.nodes.ForHead.{ForHead}
use Rattle.c_parse.specs.Words as w

abbrev pub Three : Type 0
Three = Option Expr × Option Expr × Option Expr

abbrev pub head_of : ForHead → Three
head_of h = (part_of expr_of h.first, part_of expr_of h.test, part_of expr_of h.step)

abbrev pub for_head_at : Reader → List Token → Read Three
for_head_at r ts =
    eat open_round ts >>= λ a. w.maybe r semicolon a >>= λ d. w.maybe r semicolon d.1 >>= λ e. w.maybe r close_round e.1 >>= λ g. Some ((d.0, e.0, g.0), g.1)
