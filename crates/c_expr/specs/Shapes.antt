-- The trees that operators make of their operands.
use Rattle.std.specs.Prelude.{ℕ}
use Rattle.c_type.specs.Names.{Name}
use Rattle.c_tree.specs.TreeExpr.{Expr, Exprs}
use Rattle.c_tree.specs.TreeExpr as t
use Rattle.c_expr.specs.declared.nodes.Infix.{Infix}
use Rattle.c_expr.specs.declared.nodes.Infix.TheVariants.{Comma, Assign, Binary, Index}
use Rattle.c_expr.specs.declared.nodes.Affix.{Affix}
use Rattle.c_expr.specs.declared.nodes.Affix.TheVariants.{Unary, SizeOf, Post, Select}
use Rattle.c_expr.specs.declared.nodes.Selector.{Selector}
use Rattle.c_expr.specs.declared.nodes.Selector.TheVariants.{Dot, Arrow}

-- the operator between two operands
abbrev pub infix_node : Infix → ℕ → Expr → Expr → Expr
infix_node Comma line a b = t.comma line a b
infix_node (Assign op) line a b = t.assign line op a b
infix_node (Binary op) line a b = t.binary line op a b
infix_node Index line a b = t.index line a b

-- the member that the name selects
abbrev pub selected_node : Selector → ℕ → Expr → Name → Expr
selected_node Dot line e name = t.member line e name
selected_node Arrow line e name = t.arrow line e name

-- the operator at one operand
abbrev pub affix_node : Affix → ℕ → Expr → Expr
affix_node (Unary op) line e = t.unary line op e
affix_node SizeOf line e = t.size_of line e
affix_node (Post op) line e = t.post line op e
affix_node (Select selector name) line e = selected_node selector line e name

-- the arguments with one more behind them
abbrev pub with_one : Exprs → Expr → Exprs
with_one t.no_exprs e = t.more_exprs e t.no_exprs
with_one (t.more_exprs d ds) e = t.more_exprs d (with_one ds e)
