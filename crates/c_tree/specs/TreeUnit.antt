-- External declarations and units as plain data.
use Rattle.std.specs.Prelude.{ℕ, ◌+◌, max, List, Option}
use Rattle.c_tree.specs.TreeExpr.{deepest, optional}
use Rattle.c_tree.specs.TreeDecl.{Declr, Types, TagSpec, FileSpecs, Item, ParDecl, declr_depth, types_depth, tag_depth, file_specs_depth, item_depth, par_depth}
use Rattle.c_tree.specs.TreeStmt.{Block, block_depth}

pub data Ext : Type 0 where
  typedef : (l : ℕ) (y : Option Types) (ds : List Declr) → Ext
  tag_only : (l : ℕ) (t : TagSpec) → Ext
  object : (l : ℕ) (s : FileSpecs) (is : List Item) → Ext
  func : (l : ℕ) (s : Option FileSpecs) (d : Declr) (ps : List ParDecl) (b : Block) → Ext

pub record Unit : Type 0 where
  pub exts : List Ext

-- the parts of a function but for its block
pub record FuncHead : Type 0 where
  pub line : ℕ
  pub specs : Option FileSpecs
  pub declr : Declr
  pub params : List ParDecl

abbrev pub ext_depth : Ext → ℕ
ext_depth (typedef l y ds) = 1 + max (optional types_depth y) (deepest declr_depth ds)
ext_depth (tag_only l t) = 1 + tag_depth t
ext_depth (object l s is) = 1 + max (file_specs_depth s) (deepest item_depth is)
ext_depth (func l s d ps b) = 1 + max (optional file_specs_depth s) (max (declr_depth d) (max (deepest par_depth ps) (block_depth b)))

abbrev pub head_depth : FuncHead → ℕ
head_depth h = 1 + max (optional file_specs_depth h.specs) (max (declr_depth h.declr) (deepest par_depth h.params))

abbrev pub unit_depth : Unit → ℕ
unit_depth u = 1 + deepest ext_depth u.exts
