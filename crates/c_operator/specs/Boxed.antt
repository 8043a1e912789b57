-- The typed expression that a box of the code stands for.
use Rattle.std.specs.Prelude.{Box, Option, Some, None}
use Rattle.std.specs.Global.{Global}
use Rattle.c_tree.specs.declared.typed_expr.TExpr as node
use Rattle.c_tree.specs.TExpr.{TExpr}
use Rattle.c_tree.specs.TypedOf.{expr_of}

abbrev pub boxed : Box node.TExpr Global → TExpr
boxed b = expr_of b.value

-- one that may be left out
abbrev pub boxed_option : Option (Box node.TExpr Global) → Option TExpr
boxed_option None = None
boxed_option (Some b) = Some (boxed b)
