-- What was added and what is left is the whole.
use Rattle.std.proofs.Common.{◌≡◌, ◌++◌, map, drop}
use Rattle.std.specs.List.{flat_map}
use Rattle.c_tree.specs.Starts as s
use Rattle.c_tree.specs.TypedOf.{local_of}
use Rattle.c_tree.proofs.start_lines.add_decl.Given as goal

abbrev pub invariant-loop-local : goal.invariant-loop-local
invariant-loop-local l =
    l.lines.items ++ s.lines (flat_map s.starts_local (map local_of (drop l.local-index l.decl.items.items))) ≡
    l.initial.lines.items ++ s.lines (flat_map s.starts_local (map local_of l.decl.items.items))
