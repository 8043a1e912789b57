-- What was counted and what is left is the whole.
use Rattle.std.proofs.Common.{◌≡◌, ◌+◌, length, map, drop}
use Rattle.std.specs.List.{flat_map}
use Rattle.c_tree.specs.Bodies.{autos_local}
use Rattle.c_tree.specs.TStmt.{locals}
use Rattle.c_tree.specs.TypedOf.{local_decl_of}
use Rattle.gen_small.proofs.func_code.objects.Given as goal

abbrev pub invariant-loop-decl : goal.invariant-loop-decl
invariant-loop-decl l = l.count + length (flat_map autos_local (locals (map local_decl_of (drop l.decl-index l.decls)))) ≡ length (flat_map autos_local (locals (map local_decl_of l.decls)))
