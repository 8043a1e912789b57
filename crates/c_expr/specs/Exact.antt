-- An expression at the front of tokens, which ends there.
use Rattle.std.specs.Prelude.{◌≡◌, ℕ, ◌≤◌, List, true}
use Rattle.c_type.specs.Names.{Name}
use Rattle.c_lex.specs.Tokens.{Token}
use Rattle.c_tree.specs.TreeExpr.{Expr, expr_depth}
use Rattle.c_grammar.specs.Reads.{Spells, most, may_follow}

-- The tokens begin with a spelling of the expression, which is not too deep, and then others come at which it may end.
pub record IsFront (defs : List Name) (l : ℕ) (e : Expr) (ts after : List Token) : Type 0 where
  pub spells : Spells defs l e ts after
  pub low : expr_depth e ≤ most
  pub follows : may_follow l after ≡ true
