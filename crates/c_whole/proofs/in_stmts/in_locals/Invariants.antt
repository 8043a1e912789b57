-- What was added and what is left is the whole.
use Rattle.std.proofs.Common.{◌≡◌, ◌++◌, map, drop}
use Rattle.std.specs.List.{flat_map}
use Rattle.c_join.specs.JoinSaid as s
use Rattle.c_tree.specs.TypedOf.{local_decl_of}
use Rattle.c_whole.specs.Events.{events_of}
use Rattle.c_tree.specs.TStmt.{locals}
use Rattle.c_whole.proofs.in_stmts.in_locals.Given as goal

abbrev pub invariant-loop-decl : goal.invariant-loop-decl
invariant-loop-decl l =
    events_of l.out.items ++ flat_map s.in_local (locals (map local_decl_of (drop l.decl-index l.decls))) ≡
    events_of l.initial.out.items ++ flat_map s.in_local (locals (map local_decl_of l.decls))
