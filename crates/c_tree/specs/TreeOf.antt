-- The trees that values of the code stand for.
use Rattle.std.specs.Prelude.{List, [], ◌∷◌, map, Option, Some, None}
use Rattle.c_tree.specs.declared.expr.TagRef.{TagRef}
use Rattle.c_tree.specs.declared.expr.TypeSpec.{TypeSpec}
use Rattle.c_tree.specs.declared.expr.TypeSpec.TheVariants as y
use Rattle.c_tree.specs.declared.expr.TypeName.{TypeName}
use Rattle.c_tree.specs.declared.expr.Expr as x
use Rattle.c_tree.specs.declared.expr.Expr.{Expr}
use Rattle.c_tree.specs.declared.decl.Declr as d
use Rattle.c_tree.specs.declared.decl.Declr.{Declr}
use Rattle.c_tree.specs.declared.decl.Init as i
use Rattle.c_tree.specs.declared.decl.Init.{Init}
use Rattle.c_tree.specs.declared.decl.Item.{Item}
use Rattle.c_tree.specs.declared.decl.En.{En}
use Rattle.c_tree.specs.declared.decl.TagDef as g
use Rattle.c_tree.specs.declared.decl.TagDef.{TagDef}
use Rattle.c_tree.specs.declared.decl.Types.{Types}
use Rattle.c_tree.specs.declared.decl.Mem.{Mem}
use Rattle.c_tree.specs.declared.decl.TagSpec.{TagSpec}
use Rattle.c_tree.specs.declared.decl.TagSpec.TheVariants as h
use Rattle.c_tree.specs.declared.decl.FileSpecs.{FileSpecs}
use Rattle.c_tree.specs.declared.decl.LocalSpecs.{LocalSpecs}
use Rattle.c_tree.specs.declared.decl.ParDecl.{ParDecl}
use Rattle.c_tree.specs.declared.decl.LocalDecl.{LocalDecl}
use Rattle.c_tree.specs.declared.stmt.Stmt as s
use Rattle.c_tree.specs.declared.stmt.Stmt.{Stmt}
use Rattle.c_tree.specs.declared.stmt.SwItem.{SwItem}
use Rattle.c_tree.specs.declared.stmt.Block.{Block}
use Rattle.c_tree.specs.declared.unit.Ext.{Ext}
use Rattle.c_tree.specs.declared.unit.Ext.TheVariants as u
use Rattle.c_tree.specs.declared.unit.Unit.{Unit}
use Rattle.c_tree.specs.TreeExpr as t
use Rattle.c_tree.specs.TreeDecl as td
use Rattle.c_tree.specs.TreeStmt as ts
use Rattle.c_tree.specs.TreeUnit as tu

abbrev pub tag_ref_of : TagRef → t.TagRef
tag_ref_of r = record { line = r.line; kind = r.kind; name = r.name }

abbrev pub type_spec_of : TypeSpec → t.TypeSpec
type_spec_of (y.Num k) = t.num k
type_spec_of y.Void = t.void
type_spec_of (y.Tag r) = t.tag (tag_ref_of r)
type_spec_of (y.Named n) = t.named n

abbrev pub type_name_of : TypeName → t.TypeName
type_name_of n = record { line = n.line; types = type_spec_of n.types; stars = n.stars }

abbrev mutual
  pub expr_of : Expr → t.Expr
  expr_of (x.TheBlock.Comma' l p a q b) = t.comma l (expr_of a) (expr_of b)
  expr_of (x.TheBlock.Assign' l op p a q b) = t.assign l op (expr_of a) (expr_of b)
  expr_of (x.TheBlock.Choice' l p a q b r c) = t.choice l (expr_of a) (expr_of b) (expr_of c)
  expr_of (x.TheBlock.Binary' l op p a q b) = t.binary l op (expr_of a) (expr_of b)
  expr_of (x.TheBlock.Unary' l op p e) = t.unary l op (expr_of e)
  expr_of (x.TheBlock.SizeOf' l p e) = t.size_of l (expr_of e)
  expr_of (x.TheBlock.SizeOfType l n) = t.size_of_type l (type_name_of n)
  expr_of (x.TheBlock.Cast' l n p e) = t.cast l (type_name_of n) (expr_of e)
  expr_of (x.TheBlock.Index' l p a q b) = t.index l (expr_of a) (expr_of b)
  expr_of (x.TheBlock.Call' l p f shape row) = t.call l (expr_of f) (exprs_of row)
  expr_of (x.TheBlock.Member' l p e n) = t.member l (expr_of e) n
  expr_of (x.TheBlock.Arrow' l p e n) = t.arrow l (expr_of e) n
  expr_of (x.TheBlock.Post' l op p e) = t.post l op (expr_of e)
  expr_of (x.TheBlock.Name l n) = t.name l n
  expr_of (x.TheBlock.Int l n long) = t.int l n long
  expr_of (x.TheBlock.Chr l n) = t.chr l n
  expr_of (x.TheBlock.Text l bytes) = t.text l bytes

  pub exprs_of : {n : _} → x.TheBlock.Row_of-Expr n → t.Exprs
  exprs_of x.TheBlock.end_of-Expr = t.no_exprs
  exprs_of (x.TheBlock.more_of-Expr e es) = t.more_exprs (expr_of e) (exprs_of es)

-- the arguments in a list
abbrev pub exprs_from : List Expr → t.Exprs
exprs_from [] = t.no_exprs
exprs_from (e ∷ es) = t.more_exprs (expr_of e) (exprs_from es)

abbrev pub part_of : {A B : Type 0} → (A → B) → Option A → Option B
part_of f None = None
part_of f (Some a) = Some (f a)

abbrev pub declr_of : Declr → td.Declr
declr_of (d.TheBlock.Pointer' l p e) = td.pointer l (declr_of e)
declr_of (d.TheBlock.Name l n) = td.name l n
declr_of (d.TheBlock.Array' l p e n) = td.array l (declr_of e) (part_of expr_of n)
declr_of (d.TheBlock.Function' l p e ns) = td.function l (declr_of e) ns.items

abbrev mutual
  pub init_of : Init → td.Init
  init_of (i.TheBlock.Single e) = td.single (expr_of e)
  init_of (i.TheBlock.Group' l shape row) = td.group l (inits_of row)

  pub inits_of : {n : _} → i.TheBlock.Row_of-Init n → td.Inits
  inits_of i.TheBlock.end_of-Init = td.no_inits
  inits_of (i.TheBlock.more_of-Init e es) = td.more_inits (init_of e) (inits_of es)

-- the initialisers in a list
abbrev pub inits_from : List Init → td.Inits
inits_from [] = td.no_inits
inits_from (e ∷ es) = td.more_inits (init_of e) (inits_from es)

abbrev pub item_of : Item → td.Item
item_of e = record { declr = declr_of e.declr; init = part_of init_of e.init }

abbrev pub en_of : En → td.En
en_of e = record { line = e.line; name = e.name; value = part_of expr_of e.value }

abbrev mutual
  pub types_of : Types → td.Types
  types_of (g.TheBlock.Spec n) = td.spec (type_spec_of n)
  types_of (g.TheBlock.Def e) = td.def (def_of e)

  pub def_of : TagDef → td.TagDef
  def_of (g.TheBlock.Struct' l n shape row) = td.struct l n (mems_of row)
  def_of (g.TheBlock.Union' l n shape row) = td.union l n (mems_of row)
  def_of (g.TheBlock.Enum l n es) = td.enum l n (map en_of es.items)

  pub mems_of : {n : _} → g.TheBlock.Row_of-Mem n → td.Mems
  mems_of g.TheBlock.end_of-Mem = td.no_mems
  mems_of (g.TheBlock.more_of-Mem l n ds ms) = td.more_mems (td.mem l (types_of n) (map declr_of ds.items)) (mems_of ms)

abbrev pub mem_of : Mem → td.Mem
mem_of m = td.mem m.line (types_of m.types) (map declr_of m.declrs.items)

-- the members' declarations in a list
abbrev pub mems_from : List Mem → td.Mems
mems_from [] = td.no_mems
mems_from (m ∷ ms) = td.more_mems (mem_of m) (mems_from ms)

abbrev pub tag_of : TagSpec → td.TagSpec
tag_of (h.Ref r) = td.ref (tag_ref_of r)
tag_of (h.Def e) = td.body (def_of e)

abbrev pub file_specs_of : FileSpecs → td.FileSpecs
file_specs_of e = record { storage = e.storage; types = part_of types_of e.types }

abbrev pub local_specs_of : LocalSpecs → td.LocalSpecs
local_specs_of e = record { storage = e.storage; types = part_of type_spec_of e.types }

abbrev pub par_of : ParDecl → td.ParDecl
par_of e = record { line = e.line; register = e.register; types = types_of e.types; declrs = map declr_of e.declrs.items }

abbrev pub local_of : LocalDecl → td.LocalDecl
local_of e = record { line = e.line; specs = local_specs_of e.specs; items = map item_of e.items.items }

abbrev mutual
  pub stmt_of : Stmt → ts.Stmt
  stmt_of (s.TheBlock.Expr l e) = ts.expr l (expr_of e)
  stmt_of (s.TheBlock.Empty l) = ts.empty l
  stmt_of (s.TheBlock.If' l e p a) = ts.if_only l (expr_of e) (stmt_of a)
  stmt_of (s.TheBlock.IfElse' l e p a q b) = ts.if_else l (expr_of e) (stmt_of a) (stmt_of b)
  stmt_of (s.TheBlock.While' l e p a) = ts.while l (expr_of e) (stmt_of a)
  stmt_of (s.TheBlock.Do' l p a m e) = ts.do_while l (stmt_of a) m (expr_of e)
  stmt_of (s.TheBlock.For' l e1 e2 e3 p a) = ts.for l (part_of expr_of e1) (part_of expr_of e2) (part_of expr_of e3) (stmt_of a)
  stmt_of (s.TheBlock.Switch' l e shape row) = ts.switch l (expr_of e) (sw_items_of row)
  stmt_of (s.TheBlock.Break l) = ts.break l
  stmt_of (s.TheBlock.Continue l) = ts.continue l
  stmt_of (s.TheBlock.Return l e) = ts.return l (part_of expr_of e)
  stmt_of (s.TheBlock.Block' l ds shape row m) = ts.block l (map local_of ds.items) (stmts_of row) m

  pub stmts_of : {n : _} → s.TheBlock.Row_of-Stmt n → ts.Stmts
  stmts_of s.TheBlock.end_of-Stmt = ts.no_stmts
  stmts_of (s.TheBlock.more_of-Stmt a row) = ts.more_stmts (stmt_of a) (stmts_of row)

  pub sw_item_of : SwItem → ts.SwItem
  sw_item_of (s.TheBlock.Case l e) = ts.case l (expr_of e)
  sw_item_of (s.TheBlock.Default l) = ts.default l
  sw_item_of (s.TheBlock.Stmt a) = ts.stmt (stmt_of a)

  pub sw_items_of : {n : _} → s.TheBlock.Row_of-SwItem n → ts.SwItems
  sw_items_of s.TheBlock.end_of-SwItem = ts.no_items
  sw_items_of (s.TheBlock.more_of-SwItem a row) = ts.more_items (sw_item_of a) (sw_items_of row)

-- the statements in a list
abbrev pub stmts_from : List Stmt → ts.Stmts
stmts_from [] = ts.no_stmts
stmts_from (a ∷ as_) = ts.more_stmts (stmt_of a) (stmts_from as_)

-- the parts of a switch's body in a list
abbrev pub sw_items_from : List SwItem → ts.SwItems
sw_items_from [] = ts.no_items
sw_items_from (a ∷ as_) = ts.more_items (sw_item_of a) (sw_items_from as_)

abbrev pub block_of : Block → ts.Block
block_of b = record { line = b.line; decls = map local_of b.decls.items; stmts = stmts_from b.stmts.items; close_line = b.close_line }

abbrev pub ext_of : Ext → tu.Ext
ext_of (u.Typedef l n ds) = tu.typedef l (part_of types_of n) (map declr_of ds.items)
ext_of (u.TagOnly l e) = tu.tag_only l (tag_of e)
ext_of (u.Object l e is) = tu.object l (file_specs_of e) (map item_of is.items)
ext_of (u.Func l e n ps b) = tu.func l (part_of file_specs_of e) (declr_of n) (map par_of ps.items) (block_of b)

abbrev pub unit_of : Unit → tu.Unit
unit_of e = record { exts = map ext_of e.exts.items }
