-- How many brackets are open at once in an expression.
use Rattle.std.specs.Prelude.{ℕ, ◌+◌, max}
use Rattle.c_grammar.specs.WrittenExpr.{Written, Args, Others}
use Rattle.c_grammar.specs.WrittenExpr as w

-- the greatest number of its brackets that are open at once
abbrev mutual
  pub brackets : Written → ℕ
  brackets (w.comma a l b) = max (brackets a) (brackets b)
  brackets (w.assign a l op b) = max (brackets a) (brackets b)
  brackets (w.choice a l b m c) = max (brackets a) (max (brackets b) (brackets c))
  brackets (w.binary a l op b) = max (brackets a) (brackets b)
  brackets (w.unary l op e) = brackets e
  brackets (w.size_of l e) = brackets e
  brackets (w.size_of_type l m y n) = 1
  brackets (w.cast l y m e) = max 1 (brackets e)
  brackets (w.index a l i m) = max (brackets a) (1 + brackets i)
  brackets (w.call f l es m) = max (brackets f) (1 + arg_brackets es)
  brackets (w.member e l m x) = brackets e
  brackets (w.arrow e l m x) = brackets e
  brackets (w.post e l op) = brackets e
  brackets (w.name l x) = 0
  brackets (w.int l n long) = 0
  brackets (w.chr l n) = 0
  brackets (w.text l bytes) = 0
  brackets (w.bracket l e m) = 1 + brackets e

  pub arg_brackets : Args → ℕ
  arg_brackets w.no_args = 0
  arg_brackets (w.more_args e es) = max (brackets e) (other_brackets es)

  pub other_brackets : Others → ℕ
  other_brackets w.no_others = 0
  other_brackets (w.more_others l e es) = max (brackets e) (other_brackets es)
