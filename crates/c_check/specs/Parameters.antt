-- One declaration of parameters, and the types that declarations give to the names of a list.
use Rattle.std.specs.Prelude.{ℕ, List, Option, Some, None, Box, slice_get}
use Rattle.std.specs.Global.{Global}
use Rattle.c_type.specs.Names.{Name}
use Rattle.c_type.specs.declared.Kind.TheVariants.{Int}
use Rattle.c_type.specs.Types.{CType, num}
use Rattle.c_tree.specs.declared.typed_unit.TFunc.{TFunc}
use Rattle.c_tree.specs.TreeDecl as ud
use Rattle.c_tree.specs.TStmt.{Declr}
use Rattle.c_tree.specs.TUnit.{Func, ParDecl}
use Rattle.c_tree.specs.TypedOf.{func_of}
use Rattle.c_rule.specs.RuleScope.{Judged, onward, Env}
use Rattle.c_rule.specs.RuleDecls.{past_declr}
use Rattle.c_rule.specs.RuleUnit.{as_parameter}
use Rattle.c_rule.specs.Judging.{Behind, behind}
use Rattle.c_rule.specs.JudgingUnit.{judged_types, judged_parameter, judged_parameters}

-- the outcome of one declared parameter
abbrev pub judged_parameter_here : Env → List Name → CType → ud.Declr → Judged (Behind Declr)
judged_parameter_here c xs base d = onward (judged_parameter c xs base d) (λ y. behind y (past_declr d c))

-- the outcome of one declaration of parameters
abbrev pub judged_par_decl_here : Env → List Name → ud.ParDecl → Judged (Behind ParDecl)
judged_par_decl_here c xs p =
    onward (judged_types c p.types) (λ s. onward (judged_parameters s.env xs s.tree.base p.declrs) (λ ds. behind (record { spec = s.tree.spec; declrs = ds.tree }) ds.env))

-- the type of a declared parameter, or int where none is
abbrev pub type_by : Option Declr → CType
type_by None = num Int
type_by (Some d) = as_parameter d.ty

-- the type of the parameter that is declared at that place
abbrev pub type_at : List Declr → Option ℕ → CType
type_at ds None = num Int
type_at ds (Some i) = type_by (slice_get ds i)

abbrev pub boxed_func : Box TFunc Global → Func
boxed_func b = func_of b.value
