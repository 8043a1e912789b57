-- From tokens to an expression.
use Rattle.std.specs.Prelude.{ℕ, zero, suc, max, List, [], ◌∷◌, length, nat_lt, nat_eq, Option, Some, None}
use Rattle.c_type.specs.Names.{Name, pick}
use Rattle.c_lex.specs.Tokens.{Tok, Token}
use Rattle.c_lex.specs.Tokens as k
use Rattle.c_grammar.specs.Words.{binary_of, binary_level, assign_of, unary_of, step_of, sizeof_word, open_round, close_round, open_square, close_square, dot_mark, arrow_mark, comma_mark, colon, question}
use Rattle.c_tree.specs.TreeExpr.{TypeName, Expr, Exprs, expr_depth}
use Rattle.c_tree.specs.declared.expr.BinaryOp.{BinaryOp}
use Rattle.c_tree.specs.declared.expr.AssignOp.{AssignOp}
use Rattle.c_tree.specs.declared.expr.UnaryOp.{UnaryOp}
use Rattle.c_tree.specs.declared.expr.StepOp.{StepOp}
use Rattle.c_tree.specs.TreeExpr as t
use Rattle.c_grammar.specs.WrittenType.{is_typedef}
use Rattle.c_expr.specs.Front.{Read, ◌>>=◌, eat, eat_word, line_at, name_at, grown, front_mark}
use Rattle.c_expr.specs.Typename.{typed, type_bracket}

-- the operator, where it is of the level or above
abbrev pub at_least : ℕ → Option BinaryOp → Option BinaryOp
at_least l None = None
at_least l (Some op) = pick (nat_lt (binary_level op) l) None (Some op)

abbrev pub binary_from : ℕ → ℕ → Option BinaryOp
binary_from l m = at_least l (binary_of m)

abbrev pub operator_at : ℕ → List Token → Read BinaryOp
operator_at l ts = front_mark (binary_from l) ts

abbrev pub assigned_at : ℕ → List Token → Read AssignOp
assigned_at l ts = pick (nat_lt 2 l) None (front_mark assign_of ts)

abbrev pub choice_at : ℕ → List Token → Option (List Token)
choice_at l ts = pick (nat_lt 3 l) None (eat question ts)

abbrev pub comma_at : ℕ → List Token → Option (List Token)
comma_at l ts = pick (nat_lt 1 l) None (eat comma_mark ts)

-- `defs` are the typedef names, `most` is the greatest depth of a tree, and `inner` reads a part of the level.
module _ (defs : List Name) (most : ℕ) (inner : ℕ → List Token → Read Expr) where
  -- a part, and the closing mark
  unfoldable pub enclosed : ℕ → List Token → Read Expr
  enclosed m ts = inner 1 ts >>= λ x. eat m x.1 >>= λ after. Some (x.0, after)

  abbrev pub bracketed : Option (List Token) → Read Expr
  bracketed None = None
  bracketed (Some ts) = enclosed close_round ts

  abbrev pub primary_by : ℕ → List Token → Tok → Read Expr
  primary_by l ts (k.name x) = pick (is_typedef defs x) None (Some (t.name l x, ts))
  primary_by l ts (k.int n long) = Some (t.int l n long, ts)
  primary_by l ts (k.chr n) = Some (t.chr l n, ts)
  primary_by l ts (k.text bytes) = Some (t.text l bytes, ts)
  primary_by l ts (k.word w) = None
  primary_by l ts (k.mark m) = bracketed (pick (nat_eq m open_round) (Some ts) None)

  unfoldable pub primary : List Token → Read Expr
  primary [] = None
  primary (x ∷ ts) = primary_by x.line ts x.kind

  abbrev pub args_next : (List Token → Read Exprs) → Expr → List Token → Option (List Token) → Read Exprs
  args_next others e ts (Some after) = others after >>= λ x. Some (t.more_exprs e x.0, x.1)
  args_next others e ts None = eat close_round ts >>= λ after. Some (t.more_exprs e t.no_exprs, after)

  -- an argument, and those that follow
  unfoldable pub args_from : ℕ → List Token → Read Exprs
  args_from zero ts = None
  args_from (suc k) ts = inner 2 ts >>= λ x. args_next (args_from k) x.0 x.1 (eat comma_mark x.1)

  abbrev pub args_by : List Token → Option (List Token) → Read Exprs
  args_by ts (Some after) = Some (t.no_exprs, after)
  args_by ts None = args_from (length ts) ts

  -- behind the opening bracket of a call
  unfoldable pub args : List Token → Read Exprs
  args ts = args_by ts (eat close_round ts)

  abbrev pub grow : Read Expr → Read Expr
  grow x = x >>= λ y. grown expr_depth most y.0 y.1

  abbrev pub again : (Expr → List Token → Read Expr) → Read Expr → Read Expr
  again more x = grow x >>= λ z. more z.0 z.1

  abbrev pub called : ℕ → Expr → Read Exprs → Read Expr
  called l e x = x >>= λ y. Some (t.call l e y.0, y.1)

  abbrev pub indexed : ℕ → Expr → Read Expr → Read Expr
  indexed l e x = x >>= λ y. Some (t.index l e y.0, y.1)

  abbrev pub selected : (Expr → Name → Expr) → Expr → Read Name → Read Expr
  selected make e x = x >>= λ y. Some (make e y.0, y.1)

  -- one suffix: None where there is none
  abbrev pub suffix_by : (Expr → List Token → Read Expr) → ℕ → Expr → List Token → Option (List Token) → Option (List Token) → Option (List Token) → Option (List Token) → Read StepOp → Read Expr
  suffix_by more l e ts (Some after) _ _ _ _ = again more (called l e (args after))
  suffix_by more l e ts None (Some after) _ _ _ = again more (indexed l e (enclosed close_square after))
  suffix_by more l e ts None None (Some after) _ _ = again more (selected (t.member l) e (name_at defs after))
  suffix_by more l e ts None None None (Some after) _ = again more (selected (t.arrow l) e (name_at defs after))
  suffix_by more l e ts None None None None (Some p) = again more (Some (t.post l p.0 e, p.1))
  suffix_by more l e ts None None None None None = Some (e, ts)

  unfoldable pub suffixes : ℕ → ℕ → Expr → List Token → Read Expr
  suffixes zero l e ts = None
  suffixes (suc k) l e ts = suffix_by (suffixes k l) l e ts (eat open_round ts) (eat open_square ts) (eat dot_mark ts) (eat arrow_mark ts) (front_mark step_of ts)

  unfoldable pub postfix : List Token → Read Expr
  postfix ts = primary ts >>= λ x. suffixes (suc most) (line_at ts) x.0 x.1

  abbrev pub sized_by : ℕ → List Token → Option (List Token) → Read Expr
  sized_by l ts (Some after) = grow (typed defs after >>= λ y. Some (t.size_of_type l y.0, y.1))
  sized_by l ts None = grow (inner 14 ts >>= λ x. Some (t.size_of l x.0, x.1))

  abbrev pub cast_by : ℕ → Read TypeName → Read Expr
  cast_by l y = grow (y >>= λ y. inner 14 y.1 >>= λ x. Some (t.cast l y.0 x.0, x.1))

  abbrev pub prefixed_by : ℕ → List Token → Read UnaryOp → Option (List Token) → Option (List Token) → Read Expr
  prefixed_by l ts (Some p) _ _ = grow (inner 14 p.1 >>= λ x. Some (t.unary l p.0 x.0, x.1))
  prefixed_by l ts None (Some after) _ = sized_by l after (type_bracket defs after)
  prefixed_by l ts None None (Some after) = cast_by l (typed defs after)
  prefixed_by l ts None None None = postfix ts

  unfoldable pub prefixed : List Token → Read Expr
  prefixed ts = prefixed_by (line_at ts) ts (front_mark unary_of ts) (eat_word sizeof_word ts) (type_bracket defs ts)

  abbrev pub climb_by : (Expr → List Token → Read Expr) → ℕ → Expr → List Token → Read BinaryOp → Read Expr
  climb_by more l e ts None = Some (e, ts)
  climb_by more l e ts (Some p) = again more (inner (suc (binary_level p.0)) p.1 >>= λ x. Some (t.binary l p.0 e x.0, x.1))

  unfoldable pub climb : ℕ → ℕ → ℕ → Expr → List Token → Read Expr
  climb zero line l e ts = None
  climb (suc k) line l e ts = climb_by (climb k line l) line e ts (operator_at l ts)

  abbrev pub choice_by : ℕ → Expr → List Token → Option (List Token) → Read Expr
  choice_by line e ts None = Some (e, ts)
  choice_by line e ts (Some after) = grow (enclosed colon after >>= λ x. inner 3 x.1 >>= λ y. Some (t.choice line e x.0 y.0, y.1))

  abbrev pub rest_by : ℕ → ℕ → ℕ → Expr → List Token → Read AssignOp → Read Expr
  rest_by k line l e ts (Some p) = grow (inner 2 p.1 >>= λ x. Some (t.assign line p.0 e x.0, x.1))
  rest_by k line l e ts None = climb k line (max l 4) e ts >>= λ x. choice_by line x.0 x.1 (choice_at l x.1)

  unfoldable pub rest : ℕ → ℕ → ℕ → Expr → List Token → Read Expr
  rest k line l e ts = rest_by k line l e ts (assigned_at l ts)

  unfoldable pub item : ℕ → List Token → Read Expr
  item l ts = prefixed ts >>= λ x. rest (suc most) (line_at ts) l x.0 x.1

  abbrev pub commas_by : (Expr → List Token → Read Expr) → ℕ → Expr → List Token → Option (List Token) → Read Expr
  commas_by more line e ts None = Some (e, ts)
  commas_by more line e ts (Some after) = again more (inner 2 after >>= λ x. Some (t.comma line e x.0, x.1))

  unfoldable pub commas : ℕ → ℕ → ℕ → Expr → List Token → Read Expr
  commas zero line l e ts = None
  commas (suc k) line l e ts = commas_by (commas k line l) line e ts (comma_at l ts)

  unfoldable pub level : ℕ → List Token → Read Expr
  level l ts = item (max l 2) ts >>= λ x. commas (suc most) (line_at ts) l x.0 x.1

-- The second number bounds how deep expressions and brackets stand in one another.
unfoldable pub expr : List Name → ℕ → ℕ → ℕ → List Token → Read Expr
expr defs most zero l ts = None
expr defs most (suc n) l ts = level defs most (expr defs most n) l ts
