-- Edges and starts of a file, in textual order. Code and debug groups are numbered by this list.
-- It states docs/LANGUAGE.md, section Starts and turns.
use Rattle.std.specs.Prelude.{ℕ, suc, ◌+◌, List, [], ◌∷◌, ◌++◌, map, Option, Some, None}
use Rattle.std.specs.List.{flat_map}
use Rattle.c_tree.specs.TStmt.{TStmt, expr, empty, if_only, if_else, while_, do_, for_, switch, break_, continue_, return_, block, TStmts, no_stmts, more_stmts, TItems, no_items, case_, default_, more_items, locals}
use Rattle.c_tree.specs.TUnit.{TypedUnit, Func, funcs_of}
use Rattle.c_tree.specs.Starts.{Start, at, starts_local}

-- What an edge is: the first or last of the file, of body k of the file, of an inner block with the line of its brace; or a
-- start.
pub data Edge : Type 0 where
  FileOpens : Edge
  FileCloses : Edge
  BodyOpens : (k : ℕ) → Edge
  BodyCloses : (k : ℕ) → Edge
  BlockOpens : (line : ℕ) → Edge
  BlockCloses : (line : ℕ) → Edge
  Begins : (s : Start) → Edge

-- starts alone
abbrev pub edges_at : List Start → List Edge
edges_at ss = map Begins ss

-- Each inner block has two edges, whatever it declares. The order of starts is that of *Starts*.
abbrev mutual
  pub edges_stmt : TStmt → List Edge
  edges_stmt (expr k l e) = Begins (at k l) ∷ []
  edges_stmt (empty k l) = Begins (at k l) ∷ []
  edges_stmt (if_only k l e a) = Begins (at k l) ∷ edges_stmt a
  edges_stmt (if_else k l e a b) = Begins (at k l) ∷ (edges_stmt a ++ edges_stmt b)
  edges_stmt (while_ k l e body) = Begins (at k l) ∷ edges_stmt body
  edges_stmt (do_ k l body e) = edges_stmt body ++ Begins (at k l) ∷ []
  edges_stmt (for_ k l e1 e2 e3 body) = Begins (at k l) ∷ (Begins (at (k + 1) l) ∷ (Begins (at (k + 2) l) ∷ edges_stmt body))
  edges_stmt (switch k l e is) = Begins (at k l) ∷ edges_items is
  edges_stmt (break_ k l) = Begins (at k l) ∷ []
  edges_stmt (continue_ k l) = Begins (at k l) ∷ []
  edges_stmt (return_ k l e) = Begins (at k l) ∷ []
  edges_stmt (block line ds ss close_line) = BlockOpens line ∷ (edges_at (flat_map starts_local (locals ds)) ++ (edges_stmts ss ++ BlockCloses close_line ∷ []))

  pub edges_stmts : TStmts → List Edge
  edges_stmts no_stmts = []
  edges_stmts (more_stmts s ss) = edges_stmt s ++ edges_stmts ss

  pub edges_items : TItems → List Edge
  edges_items no_items = []
  edges_items (case_ e n is) = edges_items is
  edges_items (default_ is) = edges_items is
  edges_items (more_items s is) = edges_stmt s ++ edges_items is

-- body k of the file; its outermost block has no edge of its own
abbrev pub edges_func : ℕ → Func → List Edge
edges_func k f =
    BodyOpens k ∷ (Begins (at f.open_ f.line) ∷ (edges_at (flat_map starts_local (locals f.locals)) ++ (edges_stmts f.stmts ++
    (Begins (at f.close f.close_line) ∷ (BodyCloses k ∷ [])))))

-- bodies in order, the first of which has the number k
abbrev pub edges_from : ℕ → List Func → List Edge
edges_from k [] = []
edges_from k (f ∷ fs) = edges_func k f ++ edges_from (suc k) fs

-- the edges of a file, with its starts
abbrev pub edges : TypedUnit → List Edge
edges u = FileOpens ∷ (edges_from 0 (funcs_of u.exts) ++ FileCloses ∷ [])

-- the start that an edge is
abbrev pub start_of : Edge → Option Start
start_of FileOpens = None
start_of FileCloses = None
start_of (BodyOpens k) = None
start_of (BodyCloses k) = None
start_of (BlockOpens l) = None
start_of (BlockCloses l) = None
start_of (Begins s) = Some s
