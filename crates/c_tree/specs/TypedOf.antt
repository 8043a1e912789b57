-- The typed trees that values of the code stand for.
-- It states docs/LANGUAGE.md, section Evaluation.
use Rattle.std.specs.Prelude.{ℕ, List, [], ◌∷◌, Option, Some, None, ℤ, pos, negsuc, ◌-◌, map}
use Rattle.c_type.specs.Of.{type_of, tags_of}
use Rattle.c_tree.specs.declared.typed_expr.Ref as r
use Rattle.c_tree.specs.declared.typed_expr.TExpr as x
use Rattle.c_tree.specs.declared.typed_expr.TExpr.{TExpr}
use Rattle.c_tree.specs.declared.typed_stmt.TDeclr.{TDeclr}
use Rattle.c_tree.specs.declared.typed_stmt.TInit as ti
use Rattle.c_tree.specs.declared.typed_stmt.TInit.{TInit}
use Rattle.c_tree.specs.declared.typed_stmt.TLocal.{TLocal}
use Rattle.c_tree.specs.declared.typed_stmt.TLocal.TheVariants as tl
use Rattle.c_tree.specs.declared.typed_stmt.TLocalDecl.{TLocalDecl}
use Rattle.c_tree.specs.declared.typed_stmt.TStmt as ts
use Rattle.c_tree.specs.declared.typed_stmt.TStmt.{TStmt}
use Rattle.c_tree.specs.declared.typed_stmt.TSwItem.{TSwItem}
use Rattle.c_tree.specs.declared.typed_unit.TSpec as sp
use Rattle.c_tree.specs.declared.typed_unit.TSpec.{TSpec}
use Rattle.c_tree.specs.declared.typed_unit.TEnumerator.{TEnumerator}
use Rattle.c_tree.specs.declared.typed_unit.TItem.{TItem}
use Rattle.c_tree.specs.declared.typed_unit.TParDecl.{TParDecl}
use Rattle.c_tree.specs.declared.typed_unit.TParam.{TParam}
use Rattle.c_tree.specs.declared.typed_unit.TFunc.{TFunc}
use Rattle.c_tree.specs.declared.typed_unit.TExt.{TExt}
use Rattle.c_tree.specs.declared.typed_unit.TExt.TheVariants as tx
use Rattle.c_tree.specs.declared.typed_unit.TypedUnit.{TypedUnit}
use Rattle.c_tree.specs.declared.typed_unit.Program.{Program}
use Rattle.c_tree.specs.TExpr as e
use Rattle.c_tree.specs.TStmt as st
use Rattle.c_tree.specs.TUnit as u

-- the 32 bits of a number
abbrev pub bits_of : ℤ → ℕ
bits_of (pos n) = n
bits_of (negsuc n) = 4294967295 - n

-- what a name is bound to
abbrev pub ref_of : r.Ref → e.Ref
ref_of (r.TheVariants.Local i) = e.Local i
ref_of (r.TheVariants.Param i) = e.Param i
ref_of (r.TheVariants.Static k) = e.Static k
ref_of (r.TheVariants.Ext n) = e.Ext n
ref_of (r.TheVariants.Func k) = e.Func k
ref_of (r.TheVariants.Outer n) = e.Outer n
ref_of (r.TheVariants.Const n) = e.Const (bits_of n)

abbrev mutual
  pub expr_of : TExpr → e.TExpr
  expr_of (x.TheBlock.Name t n) = e.name (type_of t) (ref_of n)
  expr_of (x.TheBlock.Int t n) = e.int (type_of t) n
  expr_of (x.TheBlock.Text t k) = e.text (type_of t) k
  expr_of (x.TheBlock.Unary' t op p a) = e.unary (type_of t) op (expr_of a)
  expr_of (x.TheBlock.Deref' t p a) = e.deref (type_of t) (expr_of a)
  expr_of (x.TheBlock.Address' t p a) = e.address (type_of t) (expr_of a)
  expr_of (x.TheBlock.Step' t op p a) = e.step (type_of t) op (expr_of a)
  expr_of (x.TheBlock.SizeOf' p a) = e.size_of (expr_of a)
  expr_of (x.TheBlock.SizeOfType t) = e.size_of_type (type_of t)
  expr_of (x.TheBlock.Cast' t p a) = e.cast (type_of t) (expr_of a)
  expr_of (x.TheBlock.Convert' t p a) = e.convert (type_of t) (expr_of a)
  expr_of (x.TheBlock.Decay' t p a) = e.decay (type_of t) (expr_of a)
  expr_of (x.TheBlock.Designate' t p a) = e.designate (type_of t) (expr_of a)
  expr_of (x.TheBlock.Binary' t op p a q b) = e.binary (type_of t) op (expr_of a) (expr_of b)
  expr_of (x.TheBlock.Both' p a q b) = e.both (expr_of a) (expr_of b)
  expr_of (x.TheBlock.Either' p a q b) = e.either (expr_of a) (expr_of b)
  expr_of (x.TheBlock.Comma' t p a q b) = e.comma (type_of t) (expr_of a) (expr_of b)
  expr_of (x.TheBlock.Choice' t p c q a r b) = e.choice (type_of t) (expr_of c) (expr_of a) (expr_of b)
  expr_of (x.TheBlock.Assign' t p a q b) = e.assign (type_of t) (expr_of a) (expr_of b)
  expr_of (x.TheBlock.Update' t op at p a q b) = e.update (type_of t) op (type_of at) (expr_of a) (expr_of b)
  expr_of (x.TheBlock.Index' t p a q i) = e.index (type_of t) (expr_of a) (expr_of i)
  expr_of (x.TheBlock.Call' t p f shape row) = e.call (type_of t) (expr_of f) (args_of row)
  expr_of (x.TheBlock.Member' t p a m) = e.member (type_of t) (expr_of a) m
  expr_of (x.TheBlock.Arrow' t p a m) = e.arrow (type_of t) (expr_of a) m

  pub args_of : {n : _} → x.TheBlock.Row_of-TExpr n → e.TArgs
  args_of x.TheBlock.end_of-TExpr = e.no_args
  args_of (x.TheBlock.more_of-TExpr a row) = e.more_args (expr_of a) (args_of row)

-- an expression that may be left out
abbrev pub option_of : Option TExpr → Option e.TExpr
option_of None = None
option_of (Some a) = Some (expr_of a)

-- a declarator
abbrev pub declr_of : TDeclr → st.Declr
declr_of d = record { name = d.name; ty = type_of d.ty; dims = map expr_of d.dims.items }

abbrev mutual
  pub init_of : TInit → st.Init
  init_of (ti.TheBlock.Single a) = st.single (expr_of a)
  init_of (ti.TheBlock.Bytes n) = st.bytes n
  init_of (ti.TheBlock.Group' shape row) = st.group (inits_of row)

  pub inits_of : {n : _} → ti.TheBlock.Row_of-TInit n → st.Inits
  inits_of ti.TheBlock.end_of-TInit = st.no_inits
  inits_of (ti.TheBlock.more_of-TInit i row) = st.more_inits (init_of i) (inits_of row)

-- an initialiser that may be left out
abbrev pub begin_of : Option TInit → Option st.Init
begin_of None = None
begin_of (Some i) = Some (init_of i)

-- a declarator of a block
abbrev pub local_of : TLocal → st.Local
local_of (tl.Auto d i) = st.auto (declr_of d) i
local_of (tl.AutoInit d i k l a) = st.auto_init (declr_of d) i k l (expr_of a)
local_of (tl.Static d k i) = st.static_ (declr_of d) k (begin_of i)
local_of (tl.Extern d) = st.extern_ (declr_of d)
local_of (tl.Function d s) = st.function (declr_of d) s

-- a declaration of a block
abbrev pub local_decl_of : TLocalDecl → st.LocalDecl
local_decl_of d = record { items = map local_of d.items.items }

abbrev mutual
  pub stmt_of : TStmt → st.TStmt
  stmt_of (ts.TheBlock.Expr k l a) = st.expr k l (expr_of a)
  stmt_of (ts.TheBlock.Empty k l) = st.empty k l
  stmt_of (ts.TheBlock.IfOnly' k l a p s) = st.if_only k l (expr_of a) (stmt_of s)
  stmt_of (ts.TheBlock.IfElse' k l a p s q t) = st.if_else k l (expr_of a) (stmt_of s) (stmt_of t)
  stmt_of (ts.TheBlock.While' k l a p s) = st.while_ k l (expr_of a) (stmt_of s)
  stmt_of (ts.TheBlock.Do' k l p s a) = st.do_ k l (stmt_of s) (expr_of a)
  stmt_of (ts.TheBlock.For' k l a b c p s) = st.for_ k l (option_of a) (option_of b) (option_of c) (stmt_of s)
  stmt_of (ts.TheBlock.Switch' k l a shape row) = st.switch k l (expr_of a) (items_of row)
  stmt_of (ts.TheBlock.Break k l) = st.break_ k l
  stmt_of (ts.TheBlock.Continue k l) = st.continue_ k l
  stmt_of (ts.TheBlock.Return k l a) = st.return_ k l (option_of a)
  stmt_of (ts.TheBlock.Block' line ds shape row close_line) = st.block line (map local_decl_of ds.items) (stmts_of row) close_line

  pub stmts_of : {n : _} → ts.TheBlock.Row_of-TStmt n → st.TStmts
  stmts_of ts.TheBlock.end_of-TStmt = st.no_stmts
  stmts_of (ts.TheBlock.more_of-TStmt s row) = st.more_stmts (stmt_of s) (stmts_of row)

  pub item_of : TSwItem → st.TItems → st.TItems
  item_of (ts.TheBlock.Case a n) is = st.case_ (expr_of a) n is
  item_of ts.TheBlock.Default is = st.default_ is
  item_of (ts.TheBlock.Stmt s) is = st.more_items (stmt_of s) is

  pub items_of : {n : _} → ts.TheBlock.Row_of-TSwItem n → st.TItems
  items_of ts.TheBlock.end_of-TSwItem = st.no_items
  items_of (ts.TheBlock.more_of-TSwItem i row) = item_of i (items_of row)

-- the statements of a list
abbrev pub stmts_from : List TStmt → st.TStmts
stmts_from [] = st.no_stmts
stmts_from (s ∷ ss) = st.more_stmts (stmt_of s) (stmts_from ss)

-- the parts of a switch in a list
abbrev pub items_from : List TSwItem → st.TItems
items_from [] = st.no_items
items_from (i ∷ is) = item_of i (items_from is)

-- an enumerator
abbrev pub enumerator_of : TEnumerator → u.Enumerator
enumerator_of n = record { name = n.name; value = n.value; expr = option_of n.expr }

abbrev mutual
  pub spec_of : TSpec → u.Spec
  spec_of (sp.TheBlock.Plain t) = u.plain (type_of t)
  spec_of (sp.TheBlock.Struct' k shape row) = u.struct_body k (mems_of row)
  spec_of (sp.TheBlock.Enum k es) = u.enum_body k (map enumerator_of es.items)

  pub mems_of : {n : _} → sp.TheBlock.Row_of-TMembers n → u.Mems
  mems_of sp.TheBlock.end_of-TMembers = u.no_mems
  mems_of (sp.TheBlock.more_of-TMembers s ds row) = u.more_mems (spec_of s) (map declr_of ds.items) (mems_of row)

-- a declarator at file level
abbrev pub typed_item_of : TItem → u.Item
typed_item_of i = record { declr = declr_of i.declr; bound = i.bound; init = begin_of i.init }

-- a declaration of parameters
abbrev pub par_of : TParDecl → u.ParDecl
par_of p = record { spec = spec_of p.spec; declrs = map declr_of p.declrs.items }

-- a parameter
abbrev pub var_of : TParam → u.Var
var_of v = record { name = v.name; ty = type_of v.ty }

-- a function body
abbrev pub func_of : TFunc → u.Func
func_of f =
    record {
      name = f.name;
      is_static = f.is_static;
      result = type_of f.result;
      params = map var_of f.params.items;
      declared = map par_of f.declared.items;
      open_ = f.open;
      line = f.body.line;
      locals = map local_decl_of f.body.locals.items;
      stmts = stmts_from f.body.stmts.items;
      close = f.close;
      close_line = f.body.close_line;
    }

-- a part of a unit
abbrev pub ext_of : TExt → u.TExt
ext_of (tx.Typedef s ds) = u.typedef (spec_of s) (map declr_of ds.items)
ext_of (tx.TagOnly s) = u.tag_only (spec_of s)
ext_of (tx.Object s is) = u.object (spec_of s) (map typed_item_of is.items)
ext_of (tx.Func s f) = u.func (spec_of s) (func_of f)

-- a unit
abbrev pub unit_of : TypedUnit → u.TypedUnit
unit_of t = record { tags = tags_of t.tags; texts = t.texts.items; exts = map ext_of t.exts.items }

-- a program
abbrev pub program_of : Program → u.Program
program_of p = record { units = map unit_of p.units.items; classes = map (λ c. c.items) p.classes.items }
