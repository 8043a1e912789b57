-- Typed units and the program.
-- It states docs/LANGUAGE.md, section Evaluation.
pub use Rattle.c_tree.specs.declared.typed_unit.Bound.{Bound}
pub use Rattle.c_tree.specs.declared.typed_unit.Bound.TheVariants.{Own, Outside, Elsewhere, OwnFunction, OutsideFunction}
use Rattle.std.specs.Prelude.{ℕ, List, [], ◌∷◌, Bool, Option}
use Rattle.c_type.specs.Names.{Name}
use Rattle.c_type.specs.Types.{CType, Tag}
use Rattle.c_tree.specs.TExpr.{TExpr}
use Rattle.c_tree.specs.TStmt.{Declr, Init, LocalDecl, TStmts}

-- an enumerator with the 32 bits of its value
pub record Enumerator : Type 0 where
  pub name : Name
  pub value : ℕ
  pub expr : Option TExpr

-- the type that begins a declaration, with the tag of the unit that it defines
mutual
  pub data Spec : Type 0 where
    plain : (t : CType) → Spec
    struct_body : (tag : ℕ) (ms : Mems) → Spec
    enum_body : (tag : ℕ) (es : List Enumerator) → Spec

  pub data Mems : Type 0 where
    no_mems : Mems
    more_mems : (s : Spec) (ds : List Declr) (ms : Mems) → Mems

-- a declarator at file level
pub record Item : Type 0 where
  pub declr : Declr
  pub bound : Bound
  pub init : Option Init

-- a declaration of parameters
pub record ParDecl : Type 0 where
  pub spec : Spec
  pub declrs : List Declr

-- a parameter
pub record Var : Type 0 where
  pub name : Name
  pub ty : CType

-- A function body: its parameters by their places in the list, their declarations, the starts of its braces with their lines.
pub record Func : Type 0 where
  pub name : Name
  pub is_static : Bool
  pub result : CType
  pub params : List Var
  pub declared : List ParDecl
  pub open_ : ℕ
  pub line : ℕ
  pub locals : List LocalDecl
  pub stmts : TStmts
  pub close : ℕ
  pub close_line : ℕ

-- a part of a unit
pub data TExt : Type 0 where
  typedef : (s : Spec) (ds : List Declr) → TExt
  tag_only : (s : Spec) → TExt
  object : (s : Spec) (is : List Item) → TExt
  func : (s : Spec) (f : Func) → TExt

-- the tags in the order of their closing braces; the bytes of each string text that is an object, the zero byte too, in textual order
pub record TypedUnit : Type 0 where
  pub tags : List Tag
  pub texts : List (List ℕ)
  pub exts : List TExt

-- classes: for each unit and each of its tags, the number that it shares with the tags of other units that agree with it
pub record Program : Type 0 where
  pub units : List TypedUnit
  pub classes : List (List ℕ)

-- what stands for a unit that is not there
abbrev pub no_unit : TypedUnit
no_unit = record { tags = []; texts = []; exts = [] }

-- the function bodies of a unit, in textual order
abbrev pub funcs_of : List TExt → List Func
funcs_of [] = []
funcs_of (typedef s ds ∷ xs) = funcs_of xs
funcs_of (tag_only s ∷ xs) = funcs_of xs
funcs_of (object s is ∷ xs) = funcs_of xs
funcs_of (func s f ∷ xs) = f ∷ funcs_of xs
