-- What is gathered of a unit in textual order, by what its names, texts, calls and declarations each give.
use Rattle.std.specs.Prelude.{ℕ, List, [], ◌++◌, Bool, Option, Some, None}
use Rattle.std.specs.List.{flat_map}
use Rattle.c_type.specs.Names.{Name}
use Rattle.c_type.specs.Types.{CType}
use Rattle.c_tree.specs.TExpr as e
use Rattle.c_tree.specs.TExpr.{TExpr, TArgs, Ref}
use Rattle.c_tree.specs.TStmt as st
use Rattle.c_tree.specs.TStmt.{Declr, Init, Inits, TStmt, TStmts, TItems, locals}
use Rattle.c_tree.specs.TUnit as u
use Rattle.c_tree.specs.TUnit.{Bound, Enumerator, Spec, Mems, Item, ParDecl, Func, TExt}

-- what each part gives by itself: a name in an expression, a string text, a call; in a block a static object, a declaration under
-- `extern`, and one of a function; a declarator at file level; a function body
pub record Gathered (A : Type 0) : Type 0 where
  pub name : CType → Ref → List A
  pub text : ℕ → List A
  pub call : TExpr → TArgs → List A
  pub block_static : ℕ → CType → Option Init → List A
  pub block_extern : Name → CType → List A
  pub block_function : Bool → Name → CType → List A
  pub file_item : Bound → Name → CType → Option Init → List A
  pub body : Func → List A

-- the operand of `sizeof` counts too
abbrev mutual
  pub in_expr : {A : Type 0} → Gathered A → TExpr → List A
  in_expr g (e.name t r) = g.name t r
  in_expr g (e.int t n) = []
  in_expr g (e.text t k) = g.text k
  in_expr g (e.unary t op a) = in_expr g a
  in_expr g (e.deref t a) = in_expr g a
  in_expr g (e.address t a) = in_expr g a
  in_expr g (e.step t op a) = in_expr g a
  in_expr g (e.size_of a) = in_expr g a
  in_expr g (e.size_of_type of) = []
  in_expr g (e.cast t a) = in_expr g a
  in_expr g (e.convert t a) = in_expr g a
  in_expr g (e.decay t a) = in_expr g a
  in_expr g (e.designate t a) = in_expr g a
  in_expr g (e.binary t op a b) = in_expr g a ++ in_expr g b
  in_expr g (e.both a b) = in_expr g a ++ in_expr g b
  in_expr g (e.either a b) = in_expr g a ++ in_expr g b
  in_expr g (e.comma t a b) = in_expr g a ++ in_expr g b
  in_expr g (e.choice t c a b) = in_expr g c ++ (in_expr g a ++ in_expr g b)
  in_expr g (e.assign t a b) = in_expr g a ++ in_expr g b
  in_expr g (e.update t op at a b) = in_expr g a ++ in_expr g b
  in_expr g (e.index t a i) = in_expr g a ++ in_expr g i
  in_expr g (e.call t f es) = in_expr g f ++ (g.call f es ++ in_args g es)
  in_expr g (e.member t a m) = in_expr g a
  in_expr g (e.arrow t a m) = in_expr g a

  pub in_args : {A : Type 0} → Gathered A → TArgs → List A
  in_args g e.no_args = []
  in_args g (e.more_args a es) = in_expr g a ++ in_args g es

-- what an expression says that may be left out
abbrev pub in_option : {A : Type 0} → Gathered A → Option TExpr → List A
in_option g None = []
in_option g (Some a) = in_expr g a

-- what a declarator's dimensions say
abbrev pub in_declr : {A : Type 0} → Gathered A → Declr → List A
in_declr g d = flat_map (in_expr g) d.dims

abbrev mutual
  pub in_init : {A : Type 0} → Gathered A → Init → List A
  in_init g (st.single a) = in_expr g a
  in_init g (st.bytes bs) = []
  in_init g (st.group is) = in_inits g is

  pub in_inits : {A : Type 0} → Gathered A → Inits → List A
  in_inits g st.no_inits = []
  in_inits g (st.more_inits i is) = in_init g i ++ in_inits g is

-- what an initialiser says that may be left out
abbrev pub in_begin : {A : Type 0} → Gathered A → Option Init → List A
in_begin g None = []
in_begin g (Some i) = in_init g i

-- what a declarator of a block says
abbrev pub in_local : {A : Type 0} → Gathered A → st.Local → List A
in_local g (st.auto d i) = in_declr g d
in_local g (st.auto_init d i k l a) = in_declr g d ++ in_expr g a
in_local g (st.static_ d k i) = g.block_static k d.ty i ++ (in_declr g d ++ in_begin g i)
in_local g (st.extern_ d) = g.block_extern d.name d.ty ++ in_declr g d
in_local g (st.function d s) = g.block_function s d.name d.ty ++ in_declr g d

abbrev mutual
  pub in_stmt : {A : Type 0} → Gathered A → TStmt → List A
  in_stmt g (st.expr k l a) = in_expr g a
  in_stmt g (st.empty k l) = []
  in_stmt g (st.if_only k l a s) = in_expr g a ++ in_stmt g s
  in_stmt g (st.if_else k l a s t) = in_expr g a ++ (in_stmt g s ++ in_stmt g t)
  in_stmt g (st.while_ k l a s) = in_expr g a ++ in_stmt g s
  in_stmt g (st.do_ k l s a) = in_stmt g s ++ in_expr g a
  in_stmt g (st.for_ k l a b c s) = in_option g a ++ (in_option g b ++ (in_option g c ++ in_stmt g s))
  in_stmt g (st.switch k l a is) = in_expr g a ++ in_items g is
  in_stmt g (st.break_ k l) = []
  in_stmt g (st.continue_ k l) = []
  in_stmt g (st.return_ k l a) = in_option g a
  in_stmt g (st.block line ds ss close_line) = flat_map (in_local g) (locals ds) ++ in_stmts g ss

  pub in_stmts : {A : Type 0} → Gathered A → TStmts → List A
  in_stmts g st.no_stmts = []
  in_stmts g (st.more_stmts s ss) = in_stmt g s ++ in_stmts g ss

  pub in_items : {A : Type 0} → Gathered A → TItems → List A
  in_items g st.no_items = []
  in_items g (st.case_ a n is) = in_expr g a ++ in_items g is
  in_items g (st.default_ is) = in_items g is
  in_items g (st.more_items s is) = in_stmt g s ++ in_items g is

-- what an enumerator's expression says
abbrev pub in_enumerator : {A : Type 0} → Gathered A → Enumerator → List A
in_enumerator g x = in_option g x.expr

abbrev mutual
  pub in_spec : {A : Type 0} → Gathered A → Spec → List A
  in_spec g (u.plain t) = []
  in_spec g (u.struct_body k ms) = in_mems g ms
  in_spec g (u.enum_body k es) = flat_map (in_enumerator g) es

  pub in_mems : {A : Type 0} → Gathered A → Mems → List A
  in_mems g u.no_mems = []
  in_mems g (u.more_mems s ds ms) = in_spec g s ++ (flat_map (in_declr g) ds ++ in_mems g ms)

-- what a declarator at file level says
abbrev pub in_item : {A : Type 0} → Gathered A → Item → List A
in_item g x = g.file_item x.bound x.declr.name x.declr.ty x.init ++ (in_declr g x.declr ++ in_begin g x.init)

-- what declarations of parameters say
abbrev pub in_pars : {A : Type 0} → Gathered A → ParDecl → List A
in_pars g p = in_spec g p.spec ++ flat_map (in_declr g) p.declrs

-- what a function says: itself, its parameters, its body
abbrev pub in_func : {A : Type 0} → Gathered A → Func → List A
in_func g f = g.body f ++ (flat_map (in_pars g) f.declared ++ (flat_map (in_local g) (locals f.locals) ++ in_stmts g f.stmts))

-- what a part of a unit says
abbrev pub in_ext : {A : Type 0} → Gathered A → TExt → List A
in_ext g (u.typedef s ds) = in_spec g s ++ flat_map (in_declr g) ds
in_ext g (u.tag_only s) = in_spec g s
in_ext g (u.object s is) = in_spec g s ++ flat_map (in_item g) is
in_ext g (u.func s f) = in_spec g s ++ in_func g f

-- what a unit says
abbrev pub in_exts : {A : Type 0} → Gathered A → List TExt → List A
in_exts g xs = flat_map (in_ext g) xs
