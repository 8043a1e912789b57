-- What values of the code stand for.
use Rattle.std.specs.Prelude.{List, [], ◌∷◌, map}
use Rattle.c_type.specs.Types.{CType, fun, struct, enum}
use Rattle.c_type.specs.Of.{type_of}
use Rattle.c_tree.specs.declared.typed_expr.TExpr.{TExpr}
use Rattle.c_tree.specs.declared.typed_stmt.TInit.{TInit}
use Rattle.c_tree.specs.TExpr as e
use Rattle.c_tree.specs.TStmt as st
use Rattle.c_tree.specs.TUnit as u
use Rattle.c_tree.specs.declared.typed_unit.TMembers.{TMembers}
use Rattle.c_tree.specs.TypedOf.{expr_of, local_of, init_of, spec_of, declr_of}
use Rattle.c_rule.specs.RuleUnit.{as_parameter}
use Rattle.c_limit.specs.declared.parts.Part.{Part}
use Rattle.c_limit.specs.declared.parts.Part.TheVariants as p
use Rattle.c_limit.specs.Parts as s
use Rattle.c_limit.specs.declared.names.Named.{Named}
use Rattle.c_limit.specs.declared.names.NamedType.{NamedType}
use Rattle.c_limit.specs.declared.names.NamedType.TheVariants as n
use Rattle.c_limit.specs.Names as d

-- a part of a body
abbrev pub body_part_of : Part → s.Part
body_part_of (p.Declares d) = s.Declares (local_of d.now)
body_part_of (p.Evaluates e) = s.Evaluates (expr_of e.now)

-- parts in order
abbrev pub parts_of : List Part → List s.Part
parts_of xs = map body_part_of xs

-- the arguments of a list
abbrev pub args_from : List TExpr → e.TArgs
args_from [] = e.no_args
args_from (a ∷ es) = e.more_args (expr_of a) (args_from es)

-- the initialisers of a list
abbrev pub inits_from : List TInit → st.Inits
inits_from [] = st.no_inits
inits_from (i ∷ is) = st.more_inits (init_of i) (inits_from is)

-- the declarations of members of a list
abbrev pub mems_from : List TMembers → u.Mems
mems_from [] = u.no_mems
mems_from (m ∷ ms) = u.more_mems (spec_of m.spec) (map declr_of m.declrs.items) (mems_from ms)

-- the type of a declared name
abbrev pub named_type_of : NamedType → CType
named_type_of (n.Whole t) = type_of t.now
named_type_of (n.Parameter t) = as_parameter (type_of t.now)
named_type_of (n.Function t) = fun (type_of t.now)
named_type_of (n.Struct k) = struct k
named_type_of (n.Enum k) = enum k

-- a declared name
abbrev pub named_of : Named → d.Named
named_of x = record { name = x.name.now; ty = named_type_of x.ty }

-- declared names in order
abbrev pub all_named_of : List Named → List d.Named
all_named_of xs = map named_of xs
