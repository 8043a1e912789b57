-- What was counted and what is left is the whole.
use Rattle.std.proofs.Common.{◌≡◌, ◌+◌, length, map, drop}
use Rattle.std.specs.List.{flat_map}
use Rattle.c_tree.specs.Bodies.{autos_local}
use Rattle.c_tree.specs.TypedOf.{local_of}
use Rattle.gen_small.proofs.func_code.objects_in.Given as goal

abbrev pub invariant-loop-local : goal.invariant-loop-local
invariant-loop-local l = l.count + length (flat_map autos_local (map local_of (drop l.local-index l.decl.items.items))) ≡ length (flat_map autos_local (map local_of l.decl.items.items))
