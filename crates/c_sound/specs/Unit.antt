-- What a typed unit meets by itself, before its names are joined with those of other files.
use Rattle.std.specs.Prelude.{◌≡◌, ℕ, ◌<◌, List, [], ◌∷◌, length, Bool, true, false, not, nat_eq, ◌&&◌}
use Rattle.std.specs.List.{list_any}
use Rattle.c_type.specs.Types.{CType, Tag, is_integer}
use Rattle.c_tree.specs.TExpr as e
use Rattle.c_tree.specs.TExpr.{Ref}
use Rattle.c_tree.specs.TUnit.{Func, TypedUnit, funcs_of}
use Rattle.c_run.specs.Mentions.{Mention, Text, Use, Extern, Own, Outside, in_exts}
use Rattle.c_type.specs.Names.{Name, same_name}
use Rattle.c_run.specs.Numbers.{own_numbers}
use Rattle.c_join.specs.JoinSaid as j
use Rattle.c_join.specs.JoinSaid.{Whose, External, Hidden, Outer, Saying, Declared, Common, Begun, Defined, Used, Named, Called, Event, events}
use Rattle.c_rule.specs.RuleTypes.{is_function}
use Rattle.c_sound.specs.Suits.{SuitsFunc, SuitsBegin}
use Rattle.c_sound.specs.Program.{HaveSizes}

-- the types of objects that an event gives a name
abbrev pub gives_object : Saying → Bool
gives_object (Declared t) = not (is_function t)
gives_object (Common t) = not (is_function t)
gives_object (Begun t) = not (is_function t)
gives_object (Defined t ps) = false
gives_object Used = false
gives_object (Named t) = false
gives_object (Called es) = false

-- whether it is that external name
abbrev pub is_external : Name → Whose → Bool
is_external x (External y) = same_name x y
is_external x (Hidden y) = false
is_external x (j.Own k) = false
is_external x (Outer y) = false

-- whether the event declares that external name as an object
abbrev pub declares_object : Name → Event → Bool
declares_object x v = is_external x v.about && gives_object v.says

-- the objects that a unit declares: its statics, and external ones
pub record Declares : Type 1 where
  pub statics : List ℕ
  pub object : Name → Type 0

-- A name with its type, in a unit of so many bodies that declares these objects.
abbrev pub IsMeant : (bodies : ℕ) → Declares → CType → Ref → Type 0
IsMeant n d t (e.Local i) = is_function t ≡ false
IsMeant n d t (e.Param i) = is_function t ≡ false
IsMeant n d t (e.Static k) = (is_function t ≡ false) × (list_any (nat_eq k) d.statics ≡ true)
IsMeant n d t (e.Ext x) = (is_function t ≡ false) × d.object x
IsMeant n d t (e.Func k) = (is_function t ≡ true) × (k < n)
IsMeant n d t (e.Outer x) = is_function t ≡ true
IsMeant n d t (e.Const m) = is_integer t ≡ true

-- the objects that a typed unit declares
abbrev pub declared_in : TypedUnit → Declares
declared_in u = record { statics = own_numbers (in_exts u.exts); object = λ x. list_any (declares_object x) (events u) ≡ true }

-- a name with its type in a unit
abbrev pub MeantIn : TypedUnit → CType → Ref → Type 0
MeantIn u = IsMeant (length (funcs_of u.exts)) (declared_in u)

-- any text
abbrev pub AnyText : ℕ → Type 0
AnyText k = Unit {0}

abbrev pub SuitFuncs : (R : CType → Ref → Type 0) → (T : ℕ → Type 0) → List Func → Type 0
SuitFuncs R T [] = Unit {0}
SuitFuncs R T (f ∷ fs) = SuitsFunc R T f × SuitFuncs R T fs

-- what the objects of static life begin as
abbrev pub SuitMentions : (R : CType → Ref → Type 0) → (T : ℕ → Type 0) → List Tag → List Mention → Type 0
SuitMentions R T ts [] = Unit {0}
SuitMentions R T ts (Text k ∷ ms) = SuitMentions R T ts ms
SuitMentions R T ts (Use x ∷ ms) = SuitMentions R T ts ms
SuitMentions R T ts (Extern x ∷ ms) = SuitMentions R T ts ms
SuitMentions R T ts (Own k t i ∷ ms) = SuitsBegin R T ts t i × SuitMentions R T ts ms
SuitMentions R T ts (Outside x t i ∷ ms) = (is_function t ≡ false) × SuitsBegin R T ts t i × SuitMentions R T ts ms

-- a typed unit whose trees suit
pub record SuitsUnit (u : TypedUnit) : Type 0 where
  pub sizes : HaveSizes u.tags
  pub funcs : SuitFuncs (MeantIn u) AnyText (funcs_of u.exts)
  pub begins : SuitMentions (MeantIn u) AnyText u.tags (in_exts u.exts)
