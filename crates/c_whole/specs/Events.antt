-- The events that values of the code stand for.
use Rattle.std.specs.Prelude.{ℕ, List, [], ◌∷◌, map, Bool}
use Rattle.std.specs.Borrow.{Bor}
use Rattle.std.specs.List.{list_any}
use Rattle.std.specs.Str.{bytes_eq}
use Rattle.c_type.specs.Names.{Name}
use Rattle.c_type.specs.Of.{type_of}
use Rattle.c_tree.specs.declared.typed_expr.TExpr.{TExpr}
use Rattle.c_tree.specs.TExpr as e
use Rattle.c_tree.specs.declared.typed_stmt.TInit.{TInit}
use Rattle.c_tree.specs.declared.typed_unit.TMembers.{TMembers}
use Rattle.c_tree.specs.TStmt as st
use Rattle.c_tree.specs.TUnit as u
use Rattle.c_tree.specs.TypedOf.{expr_of, declr_of, init_of, spec_of, var_of}
use Rattle.c_type.specs.Types.{fun}
use Rattle.c_join.specs.JoinSaid as j
use Rattle.c_whole.specs.declared.said.Whose.{Whose}
use Rattle.c_whole.specs.declared.said.Whose.TheVariants as w
use Rattle.c_whole.specs.declared.said.Said.{Said}
use Rattle.c_whole.specs.declared.said.Said.TheVariants as s
use Rattle.c_whole.specs.declared.said.Event.{Event}

-- the arguments of a list
abbrev pub args_from : List TExpr → e.TArgs
args_from [] = e.no_args
args_from (a ∷ es) = e.more_args (expr_of a) (args_from es)

-- the initialisers of a list
abbrev pub inits_from : List TInit → st.Inits
inits_from [] = st.no_inits
inits_from (i ∷ is) = st.more_inits (init_of i) (inits_from is)

-- the declarations of members of a list
abbrev pub mems_from : List TMembers → u.Mems
mems_from [] = u.no_mems
mems_from (m ∷ ms) = u.more_mems (spec_of m.spec) (map declr_of m.declrs.items) (mems_from ms)

-- whose name it is
abbrev pub whose_of : Whose → j.Whose
whose_of (w.External x) = j.External x.now
whose_of (w.Hidden x) = j.Hidden x.now
whose_of (w.Own k) = j.Own k
whose_of (w.Outer x) = j.Outer x.now

-- what is said
abbrev pub saying_of : Said → j.Saying
saying_of (s.Declared t) = j.Declared (type_of t.now)
saying_of (s.Common t) = j.Common (type_of t.now)
saying_of (s.Begun t) = j.Begun (type_of t.now)
saying_of (s.Defined t ps) = j.Defined (fun (type_of t.now)) (map (λ v. v.ty) (map var_of ps.now))
saying_of s.Used = j.Used
saying_of (s.Named t) = j.Named (type_of t.now)
saying_of (s.Called es) = j.Called (args_from es.now)

-- one thing said of one name
abbrev pub event_of : Event → j.Event
event_of v = j.event (whose_of v.about) (saying_of v.says)

-- events in order
abbrev pub events_of : List Event → List j.Event
events_of vs = map event_of vs

-- whether a name is one of those
abbrev pub has_name : List (Bor (List ℕ)) → Name → Bool
has_name names x = list_any (λ k. bytes_eq x k.now) names
