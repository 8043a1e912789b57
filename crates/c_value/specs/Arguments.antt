-- A call by its parts, and the arguments of a list.
use Rattle.std.specs.Prelude.{ℕ, List, [], ◌∷◌, Option, Some, None}
use Rattle.c_type.specs.Names.{Name}
use Rattle.c_tree.specs.declared.typed_expr.TExpr.{TExpr}
use Rattle.c_tree.specs.TExpr as e
use Rattle.c_tree.specs.TreeExpr.{Expr, Exprs, name}
use Rattle.c_tree.specs.TypedOf.{expr_of}
use Rattle.c_rule.specs.RuleScope.{Judged, Is, onward, Env}
use Rattle.c_rule.specs.RuleExprs as r
use Rattle.c_rule.specs.Judging.{judged_args}

-- a name with its line
abbrev pub name_in : Expr → Option (ℕ × Name)
name_in (name l x) = Some (l, x)
name_in _ = None

-- a call of a typed expression
abbrev pub judged_call : Env → e.TExpr → Exprs → Judged e.TExpr
judged_call c f es = onward (r.called f) (λ x. onward (judged_args c es) (λ ys. Is (e.call (r.result_of (e.type_of x)) x ys)))

-- arguments before those that are given
abbrev pub before : List TExpr → e.TArgs → e.TArgs
before [] es = es
before (x ∷ xs) es = e.more_args (expr_of x) (before xs es)

-- the arguments of a list
abbrev pub args_from : List TExpr → e.TArgs
args_from [] = e.no_args
args_from (x ∷ xs) = e.more_args (expr_of x) (args_from xs)
