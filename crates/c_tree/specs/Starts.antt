-- Starts: the starts of each function with their numbers and lines, in textual order.
-- It states docs/LANGUAGE.md, section Starts and turns.
use Rattle.std.specs.Prelude.{ℕ, ◌+◌, List, [], ◌∷◌, ◌++◌, Option, Some, None, nat_eq, map}
use Rattle.std.specs.List.{flat_map}
use Rattle.c_type.specs.Names.{pick}
use Rattle.c_tree.specs.TStmt.{TStmt, expr, empty, if_only, if_else, while_, do_, for_, switch, break_, continue_, return_, block, TStmts, no_stmts, more_stmts, TItems, no_items, case_, default_, more_items, Local, auto, auto_init, static_, extern_, function, locals}
use Rattle.c_tree.specs.TUnit.{TypedUnit, Func, funcs_of}

-- a start: its number in its file and its line
pub record Start : Type 0 where
  pub index : ℕ
  pub line : ℕ

-- start k of line l
abbrev pub at : ℕ → ℕ → Start
at k l = record { index = k; line = l }

-- an initialised automatic declarator is a start
abbrev pub starts_local : Local → List Start
starts_local (auto d i) = []
starts_local (auto_init d i k l e) = at k l ∷ []
starts_local (static_ d k i) = []
starts_local (extern_ d) = []
starts_local (function d s) = []

-- A block, a case and a default have no start of their own, and a `while` or `do` has none besides its test.
abbrev mutual
  pub starts_stmt : TStmt → List Start
  starts_stmt (expr k l e) = at k l ∷ []
  starts_stmt (empty k l) = at k l ∷ []
  starts_stmt (if_only k l e a) = at k l ∷ starts_stmt a
  starts_stmt (if_else k l e a b) = at k l ∷ (starts_stmt a ++ starts_stmt b)
  starts_stmt (while_ k l e body) = at k l ∷ starts_stmt body
  starts_stmt (do_ k l body e) = starts_stmt body ++ at k l ∷ []
  starts_stmt (for_ k l e1 e2 e3 body) = at k l ∷ (at (k + 1) l ∷ (at (k + 2) l ∷ starts_stmt body))
  starts_stmt (switch k l e is) = at k l ∷ starts_items is
  starts_stmt (break_ k l) = at k l ∷ []
  starts_stmt (continue_ k l) = at k l ∷ []
  starts_stmt (return_ k l e) = at k l ∷ []
  starts_stmt (block line ds ss close_line) = flat_map starts_local (locals ds) ++ starts_stmts ss

  pub starts_stmts : TStmts → List Start
  starts_stmts no_stmts = []
  starts_stmts (more_stmts s ss) = starts_stmt s ++ starts_stmts ss

  pub starts_items : TItems → List Start
  starts_items no_items = []
  starts_items (case_ e n is) = starts_items is
  starts_items (default_ is) = starts_items is
  starts_items (more_items s is) = starts_stmt s ++ starts_items is

-- the opening brace, the body, the closing brace
abbrev pub starts_func : Func → List Start
starts_func f = at f.open_ f.line ∷ (flat_map starts_local (locals f.locals) ++ (starts_stmts f.stmts ++ at f.close f.close_line ∷ []))

-- the starts of a file
abbrev pub starts : TypedUnit → List Start
starts u = flat_map starts_func (funcs_of u.exts)

-- the lines of starts
abbrev pub lines : List Start → List ℕ
lines ss = map (λ s. s.line) ss

-- First(file, line): the least start of a line
abbrev pub first_in : List Start → ℕ → Option ℕ
first_in [] l = None
first_in (s ∷ ss) l = pick (nat_eq s.line l) (Some s.index) (first_in ss l)

-- the line of the start with that number
abbrev pub line_in : List Start → ℕ → Option ℕ
line_in [] k = None
line_in (s ∷ ss) k = pick (nat_eq s.index k) (Some s.line) (line_in ss k)
