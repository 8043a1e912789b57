-- The automatic objects of a body are those of its parts.
use Rattle.std.proofs.Common.{◌≡◌, ◌+◌, List, [], ◌∷◌, ◌++◌, map, refl, sym, ap, ◌∙◌, arith, Option, Some, None, zero-add, add-zero}
use Rattle.std.specs.List.{flat_map}
use Rattle.c_tree.specs.TExpr.{TExpr}
use Rattle.c_tree.specs.TStmt as st
use Rattle.c_tree.specs.TStmt.{TStmt, TStmts, TItems, locals}
use Rattle.c_tree.specs.TUnit.{Func}
use Rattle.c_tree.specs.Bodies.{Auto, autos, autos_local, autos_stmt, autos_stmts, autos_items}
use Rattle.c_run.specs.Context.{Context}
use Rattle.c_run.specs.Calls.{rounded}
use Rattle.c_limit.specs.Parts.{Part, Declares, Evaluates, parts_option, parts_stmt, parts_stmts, parts_items, parts}
use Rattle.c_limit.specs.Limits.{local_bytes, auto_bytes}
use Rattle.c_limit.specs.Laws.{FrameIsOfParts}

module _ (c : Context) where
  bytes-append : (xs ys : List Part) → local_bytes c.tags (xs ++ ys) ≡ local_bytes c.tags xs + local_bytes c.tags ys
  bytes-append [] ys = sym (zero-add (local_bytes c.tags ys))
  bytes-append (x ∷ xs) ys = let h : local_bytes c.tags (xs ++ ys) ≡ local_bytes c.tags xs + local_bytes c.tags ys = bytes-append xs ys in omega arith

  rounded-append : (xs ys : List Auto) → rounded c (xs ++ ys) ≡ rounded c xs + rounded c ys
  rounded-append [] ys = sym (zero-add (rounded c ys))
  rounded-append (x ∷ xs) ys = let h : rounded c (xs ++ ys) ≡ rounded c xs + rounded c ys = rounded-append xs ys in omega arith

  two : (xs ys : List Part) (a b : List Auto) → local_bytes c.tags xs ≡ rounded c a → local_bytes c.tags ys ≡ rounded c b → local_bytes c.tags (xs ++ ys) ≡ rounded c (a ++ b)
  two xs ys a b e f = bytes-append xs ys ∙ (ap (λ n. n + local_bytes c.tags ys) e ∙ (ap (λ n. rounded c a + n) f ∙ sym (rounded-append a b)))

  -- expressions make no objects
  behind : (xs ys : List Part) (b : List Auto) → local_bytes c.tags xs ≡ 0 → local_bytes c.tags ys ≡ rounded c b → local_bytes c.tags (xs ++ ys) ≡ rounded c b
  behind xs ys b e f = two xs ys [] b e f

  none : (o : Option TExpr) → local_bytes c.tags (parts_option o) ≡ 0
  none None = refl
  none (Some e) = refl

  of_local : (d : st.Local) → auto_bytes c.tags d ≡ rounded c (autos_local d)
  of_local (st.auto d i) = omega arith
  of_local (st.auto_init d i k l e) = omega arith
  of_local (st.static_ d k i) = refl
  of_local (st.extern_ d) = refl
  of_local (st.function d s) = refl

  of_locals : (ds : List st.Local) → local_bytes c.tags (map Declares ds) ≡ rounded c (flat_map autos_local ds)
  of_locals [] = refl
  of_locals (d ∷ ds) = ap (λ n. n + local_bytes c.tags (map Declares ds)) (of_local d) ∙ (ap (λ n. rounded c (autos_local d) + n) (of_locals ds) ∙ sym (rounded-append (autos_local d) (flat_map autos_local ds)))

  mutual
    in_stmt : (s : TStmt) → local_bytes c.tags (parts_stmt s) ≡ rounded c (autos_stmt s)
    in_stmt (st.expr k l e) = refl
    in_stmt (st.empty k l) = refl
    in_stmt (st.if_only k l e a) = behind (Evaluates e ∷ []) (parts_stmt a) (autos_stmt a) refl (in_stmt a)
    in_stmt (st.if_else k l e a b) =
        behind (Evaluates e ∷ []) (parts_stmt a ++ parts_stmt b) (autos_stmt a ++ autos_stmt b) refl (two (parts_stmt a) (parts_stmt b) (autos_stmt a) (autos_stmt b) (in_stmt a) (in_stmt b))
    in_stmt (st.while_ k l e a) = behind (Evaluates e ∷ []) (parts_stmt a) (autos_stmt a) refl (in_stmt a)
    in_stmt (st.do_ k l a e) = bytes-append (parts_stmt a) (Evaluates e ∷ []) ∙ (add-zero (local_bytes c.tags (parts_stmt a)) ∙ in_stmt a)
    in_stmt (st.for_ k l e1 e2 e3 a) =
        behind (parts_option e1) (parts_option e2 ++ (parts_option e3 ++ parts_stmt a)) (autos_stmt a) (none e1)
        (behind (parts_option e2) (parts_option e3 ++ parts_stmt a) (autos_stmt a) (none e2) (behind (parts_option e3) (parts_stmt a) (autos_stmt a) (none e3) (in_stmt a)))
    in_stmt (st.switch k l e is) = behind (Evaluates e ∷ []) (parts_items is) (autos_items is) refl (in_items is)
    in_stmt (st.break_ k l) = refl
    in_stmt (st.continue_ k l) = refl
    in_stmt (st.return_ k l e) = none e
    in_stmt (st.block line ds ss close_line) =
        two (map Declares (locals ds)) (parts_stmts ss) (flat_map autos_local (locals ds)) (autos_stmts ss) (of_locals (locals ds)) (in_stmts ss)

    in_stmts : (ss : TStmts) → local_bytes c.tags (parts_stmts ss) ≡ rounded c (autos_stmts ss)
    in_stmts st.no_stmts = refl
    in_stmts (st.more_stmts s ss) = two (parts_stmt s) (parts_stmts ss) (autos_stmt s) (autos_stmts ss) (in_stmt s) (in_stmts ss)

    in_items : (is : TItems) → local_bytes c.tags (parts_items is) ≡ rounded c (autos_items is)
    in_items st.no_items = refl
    in_items (st.case_ e n is) = behind (Evaluates e ∷ []) (parts_items is) (autos_items is) refl (in_items is)
    in_items (st.default_ is) = in_items is
    in_items (st.more_items s is) = two (parts_stmt s) (parts_items is) (autos_stmt s) (autos_items is) (in_stmt s) (in_items is)

  pub in_func : (f : Func) → local_bytes c.tags (parts f) ≡ rounded c (autos f)
  in_func f = two (map Declares (locals f.locals)) (parts_stmts f.stmts) (flat_map autos_local (locals f.locals)) (autos_stmts f.stmts) (of_locals (locals f.locals)) (in_stmts f.stmts)

pub frame_is_of_parts : FrameIsOfParts
frame_is_of_parts c f = ap (λ n. n + 256) (in_func c f)
