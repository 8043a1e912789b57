-- What was added and what is left is the whole.
use Rattle.std.proofs.Common.{◌≡◌, ◌++◌, map, drop}
use Rattle.c_tree.specs.TStmt.{locals}
use Rattle.c_tree.specs.TypedOf.{local_decl_of}
use Rattle.c_limit.specs.Parts as s
use Rattle.c_limit.specs.Of.{parts_of}
use Rattle.c_limit.proofs.parts.add_decls.Given as goal

abbrev pub invariant-loop-decl : goal.invariant-loop-decl
invariant-loop-decl l =
    parts_of l.out.items ++ map s.Declares (locals (map local_decl_of (drop l.decl-index l.decls))) ≡
    parts_of l.initial.out.items ++ map s.Declares (locals (map local_decl_of l.decls))
