-- What the units of a program say of external names and of functions, in textual order.
-- It states docs/LANGUAGE.md, section Joined files.
use Rattle.std.specs.Prelude.{ℕ, suc, List, [], ◌∷◌, ◌++◌, map, Option, Some, None, Bool, false, not, ◌&&◌, slice_get}
use Rattle.std.specs.List.{flat_map, list_any}
use Rattle.c_type.specs.Names.{Name, same_name, pick}
use Rattle.c_type.specs.Types.{CType, fun}
use Rattle.c_tree.specs.TExpr as e
use Rattle.c_tree.specs.TExpr.{TExpr, TArgs, Ref}
use Rattle.c_tree.specs.TStmt as st
use Rattle.c_tree.specs.TStmt.{Declr, Init, Inits, TStmt, TStmts, TItems, locals}
use Rattle.c_tree.specs.Gathered as g
use Rattle.c_tree.specs.Gathered.{Gathered}
use Rattle.c_tree.specs.declared.typed_unit.Bound.TheVariants as bd
use Rattle.c_tree.specs.TUnit.{Enumerator, Spec, Mems, Item, ParDecl, Func, TExt, TypedUnit, funcs_of}
use Rattle.c_tree.specs.declared.typed_unit.Bound.{Bound}

-- Whose name it is: an external one, a static function's, that of body k of the unit, that of a function which the unit does
-- not define.
pub data Whose : Type 0 where
  External : (x : Name) → Whose
  Hidden : (x : Name) → Whose
  Own : (k : ℕ) → Whose
  Outer : (x : Name) → Whose

-- What is said of it: a declaration that defines nothing, an object declared without `extern` and without an initialiser, an
-- initialised object, a function body with the types of its parameters, a use of an object, a use of a function with the type
-- that it has there, a call by name.
pub data Saying : Type 0 where
  Declared : (t : CType) → Saying
  Common : (t : CType) → Saying
  Begun : (t : CType) → Saying
  Defined : (t : CType) (params : List CType) → Saying
  Used : Saying
  Named : (t : CType) → Saying
  Called : (es : TArgs) → Saying

-- one thing said of one name
pub record Event : Type 0 where
  pub about : Whose
  pub says : Saying

-- an event
abbrev pub event : Whose → Saying → Event
event w s = record { about = w; says = s }

-- a name in an expression, with its type there
abbrev pub in_ref : CType → Ref → List Event
in_ref t (e.Local i) = []
in_ref t (e.Param i) = []
in_ref t (e.Static k) = []
in_ref t (e.Ext x) = event (External x) Used ∷ []
in_ref t (e.Func k) = event (Own k) (Named t) ∷ []
in_ref t (e.Outer x) = event (Outer x) (Named t) ∷ []
in_ref t (e.Const n) = []

-- a call of what a name is bound to
abbrev pub of_ref : Ref → TArgs → List Event
of_ref (e.Local i) es = []
of_ref (e.Param i) es = []
of_ref (e.Static k) es = []
of_ref (e.Ext x) es = []
of_ref (e.Func k) es = event (Own k) (Called es) ∷ []
of_ref (e.Outer x) es = event (Outer x) (Called es) ∷ []
of_ref (e.Const n) es = []

-- a call, if it is one by name
abbrev pub of_call : TExpr → TArgs → List Event
of_call (e.name t r) es = of_ref r es
of_call _ es = []

-- a function's name
abbrev pub of_function : Bool → Name → Whose
of_function s x = pick s (Hidden x) (External x)

-- an external object that is declared without `extern`
abbrev pub outside : CType → Option Init → Saying
outside t None = Common t
outside t (Some i) = Begun t

-- a declarator at file level by itself; a static object has no external name
abbrev pub said : Bound → Name → CType → Option Init → List Event
said (bd.Own k) x t i = []
said bd.Outside x t i = event (External x) (outside t i) ∷ []
said bd.Elsewhere x t i = event (External x) (Declared t) ∷ []
said bd.OwnFunction x t i = event (Hidden x) (Declared t) ∷ []
said bd.OutsideFunction x t i = event (External x) (Declared t) ∷ []

-- a function's own name
abbrev pub defined : Func → Event
defined f = event (of_function f.is_static f.name) (Defined (fun f.result) (map (λ v. v.ty) f.params))

-- what each part of a unit says by itself; a function of a block that isn't static is external there too
abbrev pub sayings : Gathered Event
sayings = record {
  name = in_ref;
  text = λ k. [];
  call = of_call;
  block_static = λ k t i. [];
  block_extern = λ x t. event (External x) (Declared t) ∷ [];
  block_function = λ s x t. event (of_function s x) (Declared t) ∷ [];
  file_item = said;
  body = λ f. defined f ∷ [];
}

-- what each part of a unit says
abbrev pub in_expr : TExpr → List Event
in_expr = g.in_expr sayings

abbrev pub in_args : TArgs → List Event
in_args = g.in_args sayings

abbrev pub in_option : Option TExpr → List Event
in_option = g.in_option sayings

abbrev pub in_declr : Declr → List Event
in_declr = g.in_declr sayings

abbrev pub in_init : Init → List Event
in_init = g.in_init sayings

abbrev pub in_inits : Inits → List Event
in_inits = g.in_inits sayings

abbrev pub in_begin : Option Init → List Event
in_begin = g.in_begin sayings

abbrev pub in_local : st.Local → List Event
in_local = g.in_local sayings

abbrev pub in_stmt : TStmt → List Event
in_stmt = g.in_stmt sayings

abbrev pub in_stmts : TStmts → List Event
in_stmts = g.in_stmts sayings

abbrev pub in_items : TItems → List Event
in_items = g.in_items sayings

abbrev pub in_enumerator : Enumerator → List Event
in_enumerator = g.in_enumerator sayings

abbrev pub in_spec : Spec → List Event
in_spec = g.in_spec sayings

abbrev pub in_mems : Mems → List Event
in_mems = g.in_mems sayings

abbrev pub in_item : Item → List Event
in_item = g.in_item sayings

abbrev pub in_pars : ParDecl → List Event
in_pars = g.in_pars sayings

abbrev pub in_func : Func → List Event
in_func = g.in_func sayings

abbrev pub in_ext : TExt → List Event
in_ext = g.in_ext sayings

-- a unit
abbrev pub events : TypedUnit → List Event
events t = flat_map in_ext t.exts

-- A name as the program has it: an external one, or that of a static function of unit u.
pub record Subject : Type 0 where
  pub within : Option ℕ
  pub name : Name

-- an external name
abbrev pub external : Name → Subject
external x = record { within = None; name = x }

-- a static function of unit u
abbrev pub static_in : ℕ → Name → Subject
static_in u x = record { within = Some u; name = x }

-- the name of a function, where it is static or not
abbrev pub function_of : ℕ → Bool → Name → Subject
function_of u s x = pick s (static_in u x) (external x)

-- the name of a function body, where it is there
abbrev pub of_body : ℕ → Option Func → Subject
of_body u None = external []
of_body u (Some f) = function_of u f.is_static f.name

-- whether the event declares x as a static function
abbrev pub declares_static : Name → Event → Bool
declares_static x v = of_event v.about v.says
  where
    of_event : Whose → Saying → Bool
    of_event (Hidden y) (Declared t) = same_name x y
    of_event _ _ = false

-- whether the event is the body of a static function x
abbrev pub defines_static : Name → Event → Bool
defines_static x v = of_event v.about v.says
  where
    of_event : Whose → Saying → Bool
    of_event (Hidden y) (Defined t ps) = same_name x y
    of_event _ _ = false

-- a static function that the unit declares and never defines
abbrev pub is_lacking : List Event → Name → Bool
is_lacking vs x = list_any (declares_static x) vs && not (list_any (defines_static x) vs)

-- The name as the program has it. A function that the unit declares static and never defines is no other file's function.
abbrev pub subject : ℕ → List Func → (lacking : Name → Bool) → Whose → Subject
subject u fs lacking (External x) = external x
subject u fs lacking (Hidden x) = static_in u x
subject u fs lacking (Own k) = of_body u (slice_get fs k)
subject u fs lacking (Outer x) = function_of u (lacking x) x

-- one thing that a unit of the program says of one of its names
pub record Fact : Type 0 where
  pub about : Subject
  pub unit : ℕ
  pub says : Saying

-- what an event says in unit u
abbrev pub fact : ℕ → List Func → (Name → Bool) → Event → Fact
fact u fs lacking v = record { about = subject u fs lacking v.about; unit = u; says = v.says }

-- what unit u says
abbrev pub facts_in : ℕ → TypedUnit → List Fact
facts_in u t = map (fact u (funcs_of t.exts) (is_lacking (events t))) (events t)

-- what units say, the first of which has the number u
abbrev pub facts_from : ℕ → List TypedUnit → List Fact
facts_from u [] = []
facts_from u (t ∷ ts) = facts_in u t ++ facts_from (suc u) ts

-- what the units of a program say, file by file
abbrev pub facts : List TypedUnit → List Fact
facts ts = facts_from 0 ts
