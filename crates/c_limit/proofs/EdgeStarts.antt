-- The starts among the edges of a file are its starts.
use Rattle.std.proofs.Common.{append-nil, ◌≡◌, ℕ, suc, ◌+◌, List, [], ◌∷◌, ◌++◌, refl, ap, ◌∙◌}
use Rattle.std.specs.List.{flat_map, filter_map}
use Rattle.std.proofs.lemmas.List.Elements.{filter_map-append}
use Rattle.c_tree.specs.TStmt.{TStmt, expr, empty, if_only, if_else, while_, do_, for_, switch, break_, continue_, return_, block, TStmts, no_stmts, more_stmts, TItems, no_items, case_, default_, more_items, locals}
use Rattle.c_tree.specs.TUnit.{Func, funcs_of}
use Rattle.c_tree.specs.Starts.{Start, at, starts_local, starts_stmt, starts_stmts, starts_items, starts_func}
use Rattle.c_limit.specs.Edges.{Edge, FileCloses, BodyCloses, BlockCloses, Begins, edges_at, edges_stmt, edges_stmts, edges_items, edges_func, edges_from, start_of}
use Rattle.c_limit.specs.Laws.{EdgesHaveStarts}

-- the starts among edges
abbrev among : List Edge → List Start
among xs = filter_map start_of xs

among-append : (xs ys : List Edge) → among (xs ++ ys) ≡ among xs ++ among ys
among-append xs ys = filter_map-append start_of xs ys

among-at : (ss : List Start) → among (edges_at ss) ≡ ss
among-at [] = refl
among-at (s ∷ ss) = ap (λ x. s ∷ x) (among-at ss)

-- two parts, one behind the other
two : (xs ys : List Edge) (a b : List Start) → among xs ≡ a → among ys ≡ b → among (xs ++ ys) ≡ a ++ b
two xs ys a b e f = among-append xs ys ∙ (ap (λ x. x ++ among ys) e ∙ ap (λ x. a ++ x) f)

mutual
  in_stmt : (s : TStmt) → among (edges_stmt s) ≡ starts_stmt s
  in_stmt (expr k l e) = refl
  in_stmt (empty k l) = refl
  in_stmt (if_only k l e a) = ap (λ x. at k l ∷ x) (in_stmt a)
  in_stmt (if_else k l e a b) = ap (λ x. at k l ∷ x) (two (edges_stmt a) (edges_stmt b) (starts_stmt a) (starts_stmt b) (in_stmt a) (in_stmt b))
  in_stmt (while_ k l e a) = ap (λ x. at k l ∷ x) (in_stmt a)
  in_stmt (do_ k l a e) = two (edges_stmt a) (Begins (at k l) ∷ []) (starts_stmt a) (at k l ∷ []) (in_stmt a) refl
  in_stmt (for_ k l e1 e2 e3 a) = ap (λ x. at k l ∷ (at (k + 1) l ∷ (at (k + 2) l ∷ x))) (in_stmt a)
  in_stmt (switch k l e is) = ap (λ x. at k l ∷ x) (in_items is)
  in_stmt (break_ k l) = refl
  in_stmt (continue_ k l) = refl
  in_stmt (return_ k l e) = refl
  in_stmt (block line ds ss close_line) =
      two (edges_at (flat_map starts_local (locals ds))) (edges_stmts ss ++ BlockCloses close_line ∷ []) (flat_map starts_local (locals ds)) (starts_stmts ss)
      (among-at (flat_map starts_local (locals ds)))
      (among-append (edges_stmts ss) (BlockCloses close_line ∷ []) ∙ (append-nil (among (edges_stmts ss)) ∙ in_stmts ss))

  in_stmts : (ss : TStmts) → among (edges_stmts ss) ≡ starts_stmts ss
  in_stmts no_stmts = refl
  in_stmts (more_stmts s ss) = two (edges_stmt s) (edges_stmts ss) (starts_stmt s) (starts_stmts ss) (in_stmt s) (in_stmts ss)

  in_items : (is : TItems) → among (edges_items is) ≡ starts_items is
  in_items no_items = refl
  in_items (case_ e n is) = in_items is
  in_items (default_ is) = in_items is
  in_items (more_items s is) = two (edges_stmt s) (edges_items is) (starts_stmt s) (starts_items is) (in_stmt s) (in_items is)

in_func : (k : ℕ) (f : Func) → among (edges_func k f) ≡ starts_func f
in_func k f =
    ap (λ x. at f.open_ f.line ∷ x)
    (two (edges_at (flat_map starts_local (locals f.locals))) (edges_stmts f.stmts ++ (Begins (at f.close f.close_line) ∷ (BodyCloses k ∷ [])))
    (flat_map starts_local (locals f.locals)) (starts_stmts f.stmts ++ at f.close f.close_line ∷ [])
    (among-at (flat_map starts_local (locals f.locals)))
    (two (edges_stmts f.stmts) (Begins (at f.close f.close_line) ∷ (BodyCloses k ∷ [])) (starts_stmts f.stmts) (at f.close f.close_line ∷ []) (in_stmts f.stmts) refl))

in_bodies : (k : ℕ) (fs : List Func) → among (edges_from k fs) ≡ flat_map starts_func fs
in_bodies k [] = refl
in_bodies k (f ∷ fs) = two (edges_func k f) (edges_from (suc k) fs) (starts_func f) (flat_map starts_func fs) (in_func k f) (in_bodies (suc k) fs)

pub edges_have_starts : EdgesHaveStarts
edges_have_starts x =
    among-append (edges_from 0 (funcs_of x.exts)) (FileCloses ∷ []) ∙ (append-nil (among (edges_from 0 (funcs_of x.exts))) ∙ in_bodies 0 (funcs_of x.exts))
