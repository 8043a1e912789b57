-- The declarators and expressions between the braces of a function, in textual order.
-- It states docs/LANGUAGE.md, section Limits.
use Rattle.std.specs.Prelude.{List, [], ◌∷◌, ◌++◌, map, Option, Some, None}
use Rattle.c_tree.specs.TExpr.{TExpr}
use Rattle.c_tree.specs.TStmt as st
use Rattle.c_tree.specs.TStmt.{Local, TStmt, TStmts, TItems, locals}
use Rattle.c_tree.specs.TUnit.{Func}

-- a declarator of a block with its dimensions and initialiser, or an expression of a statement or case
pub data Part : Type 0 where
  Declares : (d : Local) → Part
  Evaluates : (e : TExpr) → Part

-- an expression that may be left out
abbrev pub parts_option : Option TExpr → List Part
parts_option None = []
parts_option (Some e) = Evaluates e ∷ []

abbrev mutual
  pub parts_stmt : TStmt → List Part
  parts_stmt (st.expr k l e) = Evaluates e ∷ []
  parts_stmt (st.empty k l) = []
  parts_stmt (st.if_only k l e a) = Evaluates e ∷ parts_stmt a
  parts_stmt (st.if_else k l e a b) = Evaluates e ∷ (parts_stmt a ++ parts_stmt b)
  parts_stmt (st.while_ k l e a) = Evaluates e ∷ parts_stmt a
  parts_stmt (st.do_ k l a e) = parts_stmt a ++ Evaluates e ∷ []
  parts_stmt (st.for_ k l a b c s) = parts_option a ++ (parts_option b ++ (parts_option c ++ parts_stmt s))
  parts_stmt (st.switch k l e is) = Evaluates e ∷ parts_items is
  parts_stmt (st.break_ k l) = []
  parts_stmt (st.continue_ k l) = []
  parts_stmt (st.return_ k l e) = parts_option e
  parts_stmt (st.block line ds ss close_line) = map Declares (locals ds) ++ parts_stmts ss

  pub parts_stmts : TStmts → List Part
  parts_stmts st.no_stmts = []
  parts_stmts (st.more_stmts s ss) = parts_stmt s ++ parts_stmts ss

  pub parts_items : TItems → List Part
  parts_items st.no_items = []
  parts_items (st.case_ e n is) = Evaluates e ∷ parts_items is
  parts_items (st.default_ is) = parts_items is
  parts_items (st.more_items s is) = parts_stmt s ++ parts_items is

-- the parts of a function's body
abbrev pub parts : Func → List Part
parts f = map Declares (locals f.locals) ++ parts_stmts f.stmts

-- the declarator that a part is
abbrev pub local_in : Part → Option Local
local_in (Declares d) = Some d
local_in (Evaluates e) = None
