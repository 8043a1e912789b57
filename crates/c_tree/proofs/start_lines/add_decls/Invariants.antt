-- What was added and what is left is the whole.
use Rattle.std.proofs.Common.{◌≡◌, ◌++◌, map, drop}
use Rattle.std.specs.List.{flat_map}
use Rattle.c_tree.specs.Starts as s
use Rattle.c_tree.specs.TStmt.{locals}
use Rattle.c_tree.specs.TypedOf.{local_decl_of}
use Rattle.c_tree.proofs.start_lines.add_decls.Given as goal

abbrev pub invariant-loop-decl : goal.invariant-loop-decl
invariant-loop-decl l =
    l.lines.items ++ s.lines (flat_map s.starts_local (locals (map local_decl_of (drop l.decl-index l.decls)))) ≡
    l.initial.lines.items ++ s.lines (flat_map s.starts_local (locals (map local_decl_of l.decls)))
