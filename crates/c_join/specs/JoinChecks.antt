-- What the units of a program have to meet as a whole, and the program that they make.
-- It states docs/LANGUAGE.md, section Joined files.
use Rattle.std.specs.Prelude.{◌≡◌, ℕ, ◌+◌, List, [], ◌∷◌, ◌++◌, map, length, Option, Some, None, Bool, true, false, not, nat_eq, nat_le, ◌&&◌, ◌||◌, slice_get, count_by, filter, find}
use Rattle.std.specs.List.{list_any, filter_map}
use Rattle.std.specs.Option.{option_map}
use Rattle.c_type.specs.Names.{Name, same_name, pick, at_or, or_else}
use Rattle.c_type.specs.declared.Kind.TheVariants.{Int}
use Rattle.c_type.specs.Types.{CType, num, fun, Tag, is_integer, is_pointer}
use Rattle.c_tree.specs.TExpr.{TArgs, no_args, more_args, type_of}
use Rattle.c_tree.specs.Constant.{is_zero}
use Rattle.c_tree.specs.TUnit.{TypedUnit, Program, no_unit}
use Rattle.c_tree.specs.Library.{putchar_name, getchar_name, exit_name, main_name}
use Rattle.c_join.specs.JoinSaid.{Saying, Declared, Common, Begun, Defined, Used, Named, Called, Subject, Fact, facts}
use Rattle.c_join.specs.JoinTypes.{Relation, TagAt, IsWidest, TypeIn, between, agree_by, declare_alike}

-- `_start`
abbrev pub start_name : Name
start_name = 95 ∷ (115 ∷ (116 ∷ (97 ∷ (114 ∷ (116 ∷ [])))))

-- int
abbrev pub int_type : CType
int_type = num Int

-- the types of the parameters of a function of the library
abbrev pub library : Name → Option (List CType)
library x =
    pick (same_name x putchar_name) (Some (int_type ∷ [])) (pick (same_name x getchar_name) (Some []) (pick (same_name x exit_name) (Some (int_type ∷ [])) None))

-- whether a list of parameters is there
abbrev pub is_there : Option (List CType) → Bool
is_there None = false
is_there (Some ts) = true

-- whether the name is external
abbrev pub is_external : Subject → Bool
is_external s = none s.within
  where
    none : Option ℕ → Bool
    none None = true
    none (Some u) = false

-- whether it is this external name
abbrev pub is_name : Name → Subject → Bool
is_name x s = is_external s && same_name s.name x

-- the parameters of the function of the library that has this name
abbrev pub in_library : Subject → Option (List CType)
in_library s = pick (is_external s) (library s.name) None

-- whether two names are one
abbrev pub same_subject : Subject → Subject → Bool
same_subject s t = same_within s.within t.within && same_name s.name t.name
  where
    same_within : Option ℕ → Option ℕ → Bool
    same_within None None = true
    same_within (Some u) (Some v) = nat_eq u v
    same_within _ _ = false

-- what is said of a name
abbrev pub about : Subject → List Fact → List Fact
about s fs = filter (λ f. same_subject s f.about) fs

-- Twice

-- whether this defines an object or a function of that name; a common `_start` is a definition too
abbrev pub defines : Subject → Saying → Bool
defines s (Declared t) = false
defines s (Common t) = is_name start_name s
defines s (Begun t) = true
defines s (Defined t ps) = true
defines s Used = false
defines s (Named t) = false
defines s (Called es) = false

-- the library and `_start` are defined once already
abbrev pub is_given : Subject → Bool
is_given s = is_there (in_library s) || is_name start_name s

-- an external name has two definitions
abbrev pub is_twice : Subject → List Fact → Bool
is_twice s fs = is_external s && nat_le 2 (pick (is_given s) 1 0 + count_by (λ f. defines s f.says) fs)

-- Undefined

-- whether this uses the name in an expression
abbrev pub is_use : Saying → Bool
is_use (Declared t) = false
is_use (Common t) = false
is_use (Begun t) = false
is_use (Defined t ps) = false
is_use Used = true
is_use (Named t) = true
is_use (Called es) = true

-- whether this is a definition or a common
abbrev pub is_definition : Saying → Bool
is_definition (Declared t) = false
is_definition (Common t) = true
is_definition (Begun t) = true
is_definition (Defined t ps) = true
is_definition Used = false
is_definition (Named t) = false
is_definition (Called es) = false

-- a name is used and has neither definition nor common, and isn't one of the library
abbrev pub is_undefined : Subject → List Fact → Bool
is_undefined s fs = list_any (λ f. is_use f.says) fs && not (is_there (in_library s) || list_any (λ f. is_definition f.says) fs)

-- Clash

-- the type that this gives to the name; a function that is used has the type there that it is declared with, or int ()
abbrev pub given_type : Saying → Option CType
given_type (Declared t) = Some t
given_type (Common t) = Some t
given_type (Begun t) = Some t
given_type (Defined t ps) = Some t
given_type Used = None
given_type (Named t) = Some t
given_type (Called es) = None

-- main and the library are functions that return int
abbrev pub first_type : Subject → List TypeIn
first_type s = pick (is_there (in_library s) || is_name main_name s) (record { unit = 0; ty = fun int_type } ∷ []) []

-- the type that a fact gives, with its unit
abbrev pub type_in : Fact → Option TypeIn
type_in f = option_map (λ t. record { unit = f.unit; ty = t }) (given_type f.says)

-- the types with which a name is declared
abbrev pub declared_types : Subject → List Fact → List TypeIn
declared_types s fs = first_type s ++ filter_map type_in fs

-- whether two declared types differ
abbrev pub differ : Relation → TypeIn → TypeIn → Bool
differ r a b = not (declare_alike (between r a.unit b.unit) a.ty b.ty)

-- whether two of some declared types differ
abbrev pub some_differ : Relation → List TypeIn → Bool
some_differ r [] = false
some_differ r (t ∷ ts) = list_any (differ r t) ts || some_differ r ts

-- two declarations of a name differ in type
abbrev pub is_clash : Relation → Subject → List Fact → Bool
is_clash r s fs = some_differ r (declared_types s fs)

-- Arguments

-- an integer for an integer; a pointer of the same type or the constant 0 for a pointer
abbrev pub fits_kind : (CType → CType → Bool) → (zero : Bool) → (t a : CType) → Bool
fits_kind same zero t a = (is_integer t && is_integer a) || (is_pointer t && (same t a || (is_integer a && zero)))

-- as many arguments as parameters, each of its parameter's kind; ts are the tags of the calling unit
abbrev pub fit : (CType → CType → Bool) → List Tag → List CType → TArgs → Bool
fit same ts [] no_args = true
fit same ts (t ∷ ps) (more_args e es) = fits_kind same (is_zero ts e) t (type_of e) && fit same ts ps es
fit same ts _ _ = false

-- the parameters of a definition of a function, with its unit
pub record ParamsIn : Type 0 where
  pub unit : ℕ
  pub types : List CType

-- the parameters that a fact defines
abbrev pub params_in : Fact → Option ParamsIn
params_in f = of_saying f.says
  where
    of_saying : Saying → Option ParamsIn
    of_saying (Declared t) = None
    of_saying (Common t) = None
    of_saying (Begun t) = None
    of_saying (Defined t ps) = Some (record { unit = f.unit; types = ps })
    of_saying Used = None
    of_saying (Named t) = None
    of_saying (Called es) = None

-- those of a function of the library
abbrev pub library_params : Subject → List ParamsIn
library_params s = pack (in_library s)
  where
    pack : Option (List CType) → List ParamsIn
    pack None = []
    pack (Some ts) = record { unit = 0; types = ts } ∷ []

-- the definitions of a name as a function
abbrev pub definitions : Subject → List Fact → List ParamsIn
definitions s fs = library_params s ++ filter_map params_in fs

-- whether the fact is a call that does not fit the definition
abbrev pub misfits : List TypedUnit → Relation → ParamsIn → Fact → Bool
misfits us r d f = of_saying f.says
  where
    of_saying : Saying → Bool
    of_saying (Declared t) = false
    of_saying (Common t) = false
    of_saying (Begun t) = false
    of_saying (Defined t ps) = false
    of_saying Used = false
    of_saying (Named t) = false
    of_saying (Called es) = not (fit (agree_by (between r d.unit f.unit)) (at_or no_unit us f.unit).tags d.types es)

-- whether there are parameters
abbrev pub has_params : ParamsIn → Bool
has_params d = some d.types
  where
    some : List CType → Bool
    some [] = false
    some (t ∷ ts) = true

-- a call of a function by name does not fit its definition, or main has parameters
abbrev pub is_misfit : List TypedUnit → Relation → Subject → List Fact → Bool
is_misfit us r s fs =
    list_any (λ d. list_any (misfits us r d) fs) (definitions s fs) || (is_name main_name s && list_any has_params (definitions s fs))

-- the whole

-- the first name, in order of first mention, that has this fault
abbrev pub first_with : (Subject → List Fact → Bool) → List Fact → Option Name
first_with fault fs = option_map (λ s. s.name) (find (λ s. fault s (about s fs)) (map (λ f. f.about) fs))

-- why a program is refused
pub data Refusal : Type 0 where
  NoMain : Refusal
  Twice : (x : Name) → Refusal
  Undefined : (x : Name) → Refusal
  Clash : (x : Name) → Refusal
  Arguments : (x : Name) → Refusal

-- whether this is a function body
abbrev pub is_body : Saying → Bool
is_body (Declared t) = false
is_body (Common t) = false
is_body (Begun t) = false
is_body (Defined t ps) = true
is_body Used = false
is_body (Named t) = false
is_body (Called es) = false

-- a file defines an external function main
abbrev pub has_main : List Fact → Bool
has_main fs = list_any (λ f. is_name main_name f.about && is_body f.says) fs

-- the checks in their order; where `complete` is not, the names that are defined nowhere are left to the link editor
abbrev pub refusal : (complete : Bool) → List TypedUnit → Relation → Option Refusal
refusal complete us r =
    or_else (pick (complete && not (has_main (facts us))) (Some NoMain) None)
    (or_else (option_map Twice (first_with is_twice (facts us)))
    (or_else (pick complete (option_map Undefined (first_with is_undefined (facts us))) None)
    (or_else (option_map Clash (first_with (is_clash r) (facts us)))
    (option_map Arguments (first_with (is_misfit us r) (facts us))))))

-- Why units are refused, where tags agree by the widest relation.
abbrev pub IsRefused : (complete : Bool) → List TypedUnit → Refusal → Type 0
IsRefused complete us why = (r : Relation) × IsWidest us r × (refusal complete us r ≡ Some why)

-- the number of a tag, where it is there
abbrev pub class_of : List (List ℕ) → TagAt → Option ℕ
class_of classes p = slice_get (at_or [] classes p.unit) p.tag

-- whether two tags have one number, or neither has one
abbrev pub same_class : List (List ℕ) → Relation
same_class classes p q = same (class_of classes p) (class_of classes q)
  where
    same : Option ℕ → Option ℕ → Bool
    same None None = true
    same (Some n) (Some m) = nat_eq n m
    same _ _ = false

-- The program of units that nothing refuses: their tags are numbered, and two have one number exactly where they agree.
pub record IsJoined (complete : Bool) (us : List TypedUnit) (p : Program) : Type 0 where
  pub units : p.units ≡ us
  pub each : map length p.classes ≡ map (λ t. length t.tags) us
  pub agree : IsWidest us (same_class p.classes)
  pub accepted : refusal complete us (same_class p.classes) ≡ None
