-- What is given to a name: types, and parameters of a definition.
use Rattle.std.specs.Prelude.{List, [], ◌∷◌, map, Bool, false, nat_eq, Option, Some, None, option_to_list}
use Rattle.std.specs.Option.{option_map}
use Rattle.c_type.specs.Names.{pick}
use Rattle.c_type.specs.declared.Kind.{Kind}
use Rattle.c_type.specs.declared.Kind.TheVariants.{Int}
use Rattle.c_type.specs.Types.{CType, num, arr, fun}
use Rattle.c_type.specs.Of.{type_of}
use Rattle.c_tree.specs.TypedOf.{var_of}
use Rattle.c_join.specs.JoinSaid.{Fact}
use Rattle.c_join.specs.JoinTypes as t
use Rattle.c_join.specs.JoinChecks as s
use Rattle.c_whole.specs.declared.given.Given.{Given}
use Rattle.c_whole.specs.declared.given.Given.TheVariants as g
use Rattle.c_whole.specs.declared.given.TypeIn.{TypeIn}
use Rattle.c_whole.specs.declared.args.Params.{Params}
use Rattle.c_whole.specs.declared.args.Params.TheVariants as p
use Rattle.c_whole.specs.declared.args.ParamsIn.{ParamsIn}

-- the types of the parameters of a function of the library
abbrev pub library_types : Bool → List CType
library_types takes = pick takes (s.int_type ∷ []) []

-- the type that is given
abbrev pub given_of : Given → CType
given_of g.IntFunction = fun (num Int)
given_of (g.Function t) = fun (type_of t.now)
given_of (g.Whole t) = type_of t.now

-- what a function returns
abbrev pub result_of : CType → Option CType
result_of (fun t) = Some t
result_of t = None

-- the type of a unit
abbrev pub in_unit : TypeIn → t.TypeIn
in_unit x = record { unit = x.unit; ty = given_of x.ty }

-- the types of parameters
abbrev pub types_of : Params → List CType
types_of (p.Library takes) = library_types takes
types_of (p.Told ps) = map (λ v. v.ty) (map var_of ps.now)

-- the parameters of a definition
abbrev pub params_of : ParamsIn → s.ParamsIn
params_of d = record { unit = d.unit; types = types_of d.types }

-- one type, if it is there
abbrev pub first_of : Option TypeIn → List t.TypeIn
first_of x = option_to_list (option_map in_unit x)

-- an array without a dimension
abbrev pub is_open : CType → Bool
is_open (arr n t) = nat_eq n 0
is_open t = false

-- the kind of a number
abbrev pub kind_of : CType → Option Kind
kind_of (num k) = Some k
kind_of t = None

-- of two types the one with a dimension, where they agree
abbrev pub both_of : t.Relation → t.TypeIn → t.TypeIn → Option t.TypeIn
both_of r a b = pick (s.differ r a b) None (pick (is_open a.ty) (Some b) (Some a))

-- what a type, if it is there, and a further one say together
abbrev pub both : t.Relation → Option t.TypeIn → t.TypeIn → Option t.TypeIn
both r None b = Some b
both r (Some a) b = both_of r a b

-- a type that is kept, or that two differ
abbrev pub kept_on : Option t.TypeIn → Option (Option t.TypeIn)
kept_on None = None
kept_on (Some a) = Some (Some a)

-- what is kept behind a type, if it is there
abbrev pub by_type : t.Relation → Option t.TypeIn → Option t.TypeIn → Option (Option t.TypeIn)
by_type r kept None = Some kept
by_type r kept (Some b) = kept_on (both r kept b)

-- what is kept behind a fact, or that types differ
abbrev pub with_fact : t.Relation → Option t.TypeIn → Fact → Option (Option t.TypeIn)
with_fact r kept f = by_type r kept (s.type_in f)
