-- Declarations as plain data, one constructor for each production. Each node begins with the line of its first token.
pub use Rattle.c_tree.specs.declared.decl.Storage.{Storage}
use Rattle.std.specs.Prelude.{ℕ, ◌+◌, max, List, Bool, Option}
use Rattle.c_type.specs.Names.{Name}
use Rattle.c_tree.specs.TreeExpr.{Expr, TagRef, TypeSpec, expr_depth, type_depth, deepest, optional}

-- A function's head has the names of its list; elsewhere there are none.
pub data Declr : Type 0 where
  pointer : (l : ℕ) (d : Declr) → Declr
  name : (l : ℕ) (x : Name) → Declr
  array : (l : ℕ) (d : Declr) (e : Option Expr) → Declr
  function : (l : ℕ) (d : Declr) (xs : List Name) → Declr

-- the name that is declared
abbrev pub declared : Declr → Name
declared (pointer l d) = declared d
declared (name l x) = x
declared (array l d e) = declared d
declared (function l d xs) = declared d

mutual
  pub data Init : Type 0 where
    single : (e : Expr) → Init
    group : (l : ℕ) (is : Inits) → Init

  pub data Inits : Type 0 where
    no_inits : Inits
    more_inits : (i : Init) (is : Inits) → Inits

pub record Item : Type 0 where
  pub declr : Declr
  pub init : Option Init

-- an enumerator
pub record En : Type 0 where
  pub line : ℕ
  pub name : Name
  pub value : Option Expr

-- A type, without or with a tag's body. The body of a structure or union is a list of declarations of members.
mutual
  pub data Types : Type 0 where
    spec : (y : TypeSpec) → Types
    def : (d : TagDef) → Types

  pub data TagDef : Type 0 where
    struct : (l : ℕ) (x : Option Name) (ms : Mems) → TagDef
    union : (l : ℕ) (x : Option Name) (ms : Mems) → TagDef
    enum : (l : ℕ) (x : Option Name) (es : List En) → TagDef

  pub data Mem : Type 0 where
    mem : (l : ℕ) (y : Types) (ds : List Declr) → Mem

  pub data Mems : Type 0 where
    no_mems : Mems
    more_mems : (m : Mem) (ms : Mems) → Mems

-- a tag that is declared alone
pub data TagSpec : Type 0 where
  ref : (t : TagRef) → TagSpec
  body : (d : TagDef) → TagSpec

-- the words before the declarators outside of blocks
pub record FileSpecs : Type 0 where
  pub storage : Option Storage
  pub types : Option Types

-- the words before the declarators in a block
pub record LocalSpecs : Type 0 where
  pub storage : Option Storage
  pub types : Option TypeSpec

pub record ParDecl : Type 0 where
  pub line : ℕ
  pub register : Bool
  pub types : Types
  pub declrs : List Declr

pub record LocalDecl : Type 0 where
  pub line : ℕ
  pub specs : LocalSpecs
  pub items : List Item

abbrev pub declr_depth : Declr → ℕ
declr_depth (pointer l d) = 1 + declr_depth d
declr_depth (name l x) = 1
declr_depth (array l d e) = 1 + max (declr_depth d) (optional expr_depth e)
declr_depth (function l d xs) = 1 + declr_depth d

abbrev mutual
  pub init_depth : Init → ℕ
  init_depth (single e) = 1 + expr_depth e
  init_depth (group l is) = 1 + inits_depth is

  pub inits_depth : Inits → ℕ
  inits_depth no_inits = 0
  inits_depth (more_inits i is) = max (init_depth i) (inits_depth is)

abbrev pub item_depth : Item → ℕ
item_depth i = 1 + max (declr_depth i.declr) (optional init_depth i.init)

abbrev pub en_depth : En → ℕ
en_depth e = 1 + optional expr_depth e.value

-- A type's words are no trees, but a tag is one.
abbrev mutual
  pub types_depth : Types → ℕ
  types_depth (spec y) = type_depth y
  types_depth (def d) = def_depth d

  pub def_depth : TagDef → ℕ
  def_depth (struct l x ms) = 1 + mems_depth ms
  def_depth (union l x ms) = 1 + mems_depth ms
  def_depth (enum l x es) = 1 + deepest en_depth es

  pub mem_depth : Mem → ℕ
  mem_depth (mem l y ds) = 1 + max (types_depth y) (deepest declr_depth ds)

  pub mems_depth : Mems → ℕ
  mems_depth no_mems = 0
  mems_depth (more_mems m ms) = max (mem_depth m) (mems_depth ms)

abbrev pub tag_depth : TagSpec → ℕ
tag_depth (ref t) = 1
tag_depth (body d) = def_depth d

abbrev pub file_specs_depth : FileSpecs → ℕ
file_specs_depth s = optional types_depth s.types

abbrev pub local_specs_depth : LocalSpecs → ℕ
local_specs_depth s = optional type_depth s.types

abbrev pub par_depth : ParDecl → ℕ
par_depth p = 1 + max (types_depth p.types) (deepest declr_depth p.declrs)

abbrev pub local_depth : LocalDecl → ℕ
local_depth d = 1 + max (local_specs_depth d.specs) (deepest item_depth d.items)
