-- The small form without the count of its instructions, the numbers of its starts, and the weight of its trees.
use Rattle.std.specs.Prelude.{ℕ, suc, ◌≡◌, ◌+◌, ◌<◌, ◌≤◌, List, [], ◌∷◌, Some}
use Rattle.c_tree.specs.TExpr.{Local, TExpr, name, convert, binary, assign, call, no_args, more_args}
use Rattle.c_tree.specs.TStmt.{TStmt, TStmts, expr, while_, return_, block, no_stmts, more_stmts}
use Rattle.c_tree.specs.Starts.{Start}
use Rattle.gen_small.specs.Code.{temps}
use Rattle.gen_small.specs.Small.{IsSmall}

-- each variable is one of the n objects of its function
abbrev pub AreThere : ℕ → TExpr → Type 0
AreThere n (name t (Local i)) = i < n
AreThere n (convert t e) = AreThere n e
AreThere n (binary t op a b) = AreThere n a × AreThere n b
AreThere n (assign t a b) = AreThere n a × AreThere n b
AreThere n (call t f (more_args e no_args)) = AreThere n e
AreThere n _ = Unit {0}

-- an expression of the small form in a function of n objects, with room for its temporaries
pub record IsForm (n : ℕ) (e : TExpr) : Type 0 where
  pub small : IsSmall e
  pub there : AreThere n e
  pub few : temps e ≤ 64

-- statements of the small form in a function of n objects
abbrev mutual
  pub IsFormStmt : ℕ → TStmt → Type 0
  IsFormStmt n (expr k l e) = IsForm n e
  IsFormStmt n (while_ k l e body) = IsForm n e × IsFormStmt n body
  IsFormStmt n (return_ k l (Some e)) = IsForm n e
  IsFormStmt n (block line [] ss close_line) = IsFormStmts n ss
  IsFormStmt n _ = ⊥

  pub IsFormStmts : ℕ → TStmts → Type 0
  IsFormStmts n no_stmts = Unit {0}
  IsFormStmts n (more_stmts s ss) = IsFormStmt n s × IsFormStmts n ss

-- each start has the number of its place in textual order, the first one k
abbrev pub IsNumbered : ℕ → List Start → Type 0
IsNumbered k [] = Unit {0}
IsNumbered k (s ∷ ss) = (s.index ≡ k) × IsNumbered (suc k) ss

-- The weight of an expression: a name, a number, an operator, an assignment and a call count 1 each, which a text spells by a
-- token each. A conversion, which no text shows, counts nothing.
abbrev pub weight : TExpr → ℕ
weight (convert t e) = weight e
weight (binary t op a b) = suc (weight a + weight b)
weight (assign t a b) = suc (weight a + weight b)
weight (call t f (more_args e no_args)) = suc (weight f + weight e)
weight _ = 1

-- the weight of statements: each but a block counts 1, besides its expression
abbrev mutual
  pub stmt_weight : TStmt → ℕ
  stmt_weight (expr k l e) = suc (weight e)
  stmt_weight (while_ k l e body) = suc (weight e + stmt_weight body)
  stmt_weight (return_ k l (Some e)) = suc (weight e)
  stmt_weight (block line ds ss close_line) = stmts_weight ss
  stmt_weight _ = 1

  pub stmts_weight : TStmts → ℕ
  stmts_weight no_stmts = 0
  stmts_weight (more_stmts s ss) = stmt_weight s + stmts_weight ss
