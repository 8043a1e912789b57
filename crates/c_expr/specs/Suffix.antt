-- What stands behind an expression as its suffix.
use Rattle.std.specs.Prelude.{ℕ, List, Option, Some, None}
use Rattle.c_type.specs.Names.{Name}
use Rattle.c_lex.specs.Tokens.{Token}
use Rattle.c_grammar.specs.Words.{step_of, open_round, open_square, close_square, dot_mark, arrow_mark}
use Rattle.c_tree.specs.declared.expr.StepOp.{StepOp}
use Rattle.c_tree.specs.TreeExpr.{Expr}
use Rattle.c_tree.specs.TreeExpr as t
use Rattle.c_expr.specs.declared.suffix.Suffix.{Suffix}
use Rattle.c_expr.specs.declared.suffix.Suffix.TheVariants.{Call, Index, Select, Step}
use Rattle.c_expr.specs.declared.nodes.Selector.TheVariants.{Dot, Arrow}
use Rattle.c_expr.specs.Front.{Read, eat, name_at, front_mark}
use Rattle.c_expr.specs.Reading as r
use Rattle.c_expr.specs.Shown.{left}

-- a suffix with the tokens behind its first one
pub data Begun : Type 0 where
  call : (after : List Token) → Begun
  index : (after : List Token) → Begun
  member : (after : List Token) → Begun
  arrow : (after : List Token) → Begun
  step : (op : StepOp) (after : List Token) → Begun

-- what the code reads
abbrev pub begun_of : Suffix → Begun
begun_of (Call x) = call (left x)
begun_of (Index x) = index (left x)
begun_of (Select Dot x) = member (left x)
begun_of (Select Arrow x) = arrow (left x)
begun_of (Step op x) = step op (left x)

-- the first of the suffixes that is there
abbrev pub begun_by : Option (List Token) → Option (List Token) → Option (List Token) → Option (List Token) → Read StepOp → Option Begun
begun_by (Some after) _ _ _ _ = Some (call after)
begun_by None (Some after) _ _ _ = Some (index after)
begun_by None None (Some after) _ _ = Some (member after)
begun_by None None None (Some after) _ = Some (arrow after)
begun_by None None None None (Some p) = Some (step p.0 p.1)
begun_by None None None None None = None

-- the suffix that begins at the front
abbrev pub suffix_at : List Token → Option Begun
suffix_at ts = begun_by (eat open_round ts) (eat open_square ts) (eat dot_mark ts) (eat arrow_mark ts) (front_mark step_of ts)

module _ (defs : List Name) (most : ℕ) (inner : ℕ → List Token → Read Expr) where
  -- the expression with the suffix, where the line is that of its first token
  abbrev pub suffixed : ℕ → Expr → Begun → Read Expr
  suffixed l e (call after) = r.called defs most inner l e (r.args defs most inner after)
  suffixed l e (index after) = r.indexed defs most inner l e (r.enclosed defs most inner close_square after)
  suffixed l e (member after) = r.selected defs most inner (t.member l) e (name_at defs after)
  suffixed l e (arrow after) = r.selected defs most inner (t.arrow l) e (name_at defs after)
  suffixed l e (step op after) = Some (t.post l op e, after)
