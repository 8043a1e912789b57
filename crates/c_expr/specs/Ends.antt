-- Where an expression ends, and how deep parts and brackets of one stand in one another.
use Rattle.std.specs.Prelude.{◌≡◌, ℕ, ◌+◌, max, List, None}
use Rattle.c_lex.specs.Tokens.{Token}
use Rattle.c_grammar.specs.Words.{step_of, open_round, open_square, dot_mark, arrow_mark}
use Rattle.c_grammar.specs.WrittenExpr.{Written, Args, Others}
use Rattle.c_grammar.specs.WrittenExpr as w
use Rattle.c_expr.specs.Front.{eat, front_mark}
use Rattle.c_expr.specs.Reading.{operator_at, assigned_at, choice_at, comma_at}

-- No expression of the level that stands before these tokens goes on into them.
pub record Ends (l : ℕ) (ts : List Token) : Type 0 where
  pub no_call : eat open_round ts ≡ None
  pub no_index : eat open_square ts ≡ None
  pub no_member : eat dot_mark ts ≡ None
  pub no_arrow : eat arrow_mark ts ≡ None
  pub no_step : front_mark step_of ts ≡ None
  pub no_operator : operator_at l ts ≡ None
  pub no_assign : assigned_at l ts ≡ None
  pub no_choice : choice_at l ts ≡ None
  pub no_comma : comma_at l ts ≡ None

-- how deep parts and brackets stand in one another
abbrev mutual
  pub nest : Written → ℕ
  nest (w.comma a l b) = 1 + max (nest a) (nest b)
  nest (w.assign a l op b) = 1 + max (nest a) (nest b)
  nest (w.choice a l b m c) = 1 + max (nest a) (max (nest b) (nest c))
  nest (w.binary a l op b) = 1 + max (nest a) (nest b)
  nest (w.unary l op e) = 1 + nest e
  nest (w.size_of l e) = 1 + nest e
  nest (w.size_of_type l m y n) = 1
  nest (w.cast l y m e) = 1 + nest e
  nest (w.index a l i m) = 1 + max (nest a) (nest i)
  nest (w.call f l es m) = 1 + max (nest f) (nests es)
  nest (w.member e l m x) = 1 + nest e
  nest (w.arrow e l m x) = 1 + nest e
  nest (w.post e l op) = 1 + nest e
  nest (w.name l x) = 1
  nest (w.int l n long) = 1
  nest (w.chr l n) = 1
  nest (w.text l bytes) = 1
  nest (w.bracket l e m) = 1 + nest e

  pub nests : Args → ℕ
  nests w.no_args = 0
  nests (w.more_args e es) = max (nest e) (nest_others es)

  pub nest_others : Others → ℕ
  nest_others w.no_others = 0
  nest_others (w.more_others l e es) = max (nest e) (nest_others es)
