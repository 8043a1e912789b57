-- The function bodies of a whole program, and their automatic objects.
-- It states docs/LANGUAGE.md, section Objects and places.
use Rattle.std.specs.Prelude.{ℕ, zero, suc, List, [], ◌∷◌, ◌++◌, Option, Some, None, nat_eq, ◌&&◌, not, map}
use Rattle.std.specs.List.{flat_map}
use Rattle.c_type.specs.Names.{Name, same_name, pick}
use Rattle.c_type.specs.Types.{CType}
use Rattle.c_tree.specs.TStmt as st
use Rattle.c_tree.specs.TStmt.{TStmt, TStmts, TItems, Local, locals}
use Rattle.c_tree.specs.TUnit.{Func, TypedUnit, Program, funcs_of}

-- a function body with its unit
pub record BodyAt : Type 0 where
  pub unit : ℕ
  pub func : Func

-- the bodies of units, the first of which has the number u
abbrev pub bodies_from : ℕ → List TypedUnit → List BodyAt
bodies_from u [] = []
bodies_from u (t ∷ ts) = map (λ f. record { unit = u; func = f }) (funcs_of t.exts) ++ bodies_from (suc u) ts

-- the function bodies, file by file
abbrev pub bodies : Program → List BodyAt
bodies p = bodies_from 0 p.units

-- the number of body k of a unit
abbrev pub body_in : ℕ → List BodyAt → (unit k : ℕ) → Option ℕ
body_in n [] u k = None
body_in n (b ∷ bs) u zero = pick (nat_eq b.unit u) (Some n) (body_in (suc n) bs u zero)
body_in n (b ∷ bs) u (suc k) = body_in (suc n) bs u (pick (nat_eq b.unit u) k (suc k))

-- the number of an external function
abbrev pub body_named : ℕ → List BodyAt → Name → Option ℕ
body_named n [] x = None
body_named n (b ∷ bs) x = pick (not b.func.is_static && same_name b.func.name x) (Some n) (body_named (suc n) bs x)

-- an automatic object: its number in its function and its type
pub record Auto : Type 0 where
  pub number : ℕ
  pub ty : CType

-- the automatic object that a declarator makes
abbrev pub autos_local : Local → List Auto
autos_local (st.auto d i) = record { number = i; ty = d.ty } ∷ []
autos_local (st.auto_init d i k l e) = record { number = i; ty = d.ty } ∷ []
autos_local (st.static_ d k i) = []
autos_local (st.extern_ d) = []
autos_local (st.function d s) = []

abbrev mutual
  pub autos_stmt : TStmt → List Auto
  autos_stmt (st.expr k l e) = []
  autos_stmt (st.empty k l) = []
  autos_stmt (st.if_only k l e a) = autos_stmt a
  autos_stmt (st.if_else k l e a b) = autos_stmt a ++ autos_stmt b
  autos_stmt (st.while_ k l e a) = autos_stmt a
  autos_stmt (st.do_ k l a e) = autos_stmt a
  autos_stmt (st.for_ k l e1 e2 e3 a) = autos_stmt a
  autos_stmt (st.switch k l e is) = autos_items is
  autos_stmt (st.break_ k l) = []
  autos_stmt (st.continue_ k l) = []
  autos_stmt (st.return_ k l e) = []
  autos_stmt (st.block line ds ss close_line) = flat_map autos_local (locals ds) ++ autos_stmts ss

  pub autos_stmts : TStmts → List Auto
  autos_stmts st.no_stmts = []
  autos_stmts (st.more_stmts s ss) = autos_stmt s ++ autos_stmts ss

  pub autos_items : TItems → List Auto
  autos_items st.no_items = []
  autos_items (st.case_ e n is) = autos_items is
  autos_items (st.default_ is) = autos_items is
  autos_items (st.more_items s is) = autos_stmt s ++ autos_items is

-- the automatic objects of a function, in textual order
abbrev pub autos : Func → List Auto
autos f = flat_map autos_local (locals f.locals) ++ autos_stmts f.stmts
