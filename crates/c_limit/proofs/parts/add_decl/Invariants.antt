-- What was added and what is left is the whole.
use Rattle.std.proofs.Common.{◌≡◌, ◌++◌, map, drop}
use Rattle.c_tree.specs.TypedOf.{local_of}
use Rattle.c_limit.specs.Parts as s
use Rattle.c_limit.specs.Of.{parts_of}
use Rattle.c_limit.proofs.parts.add_decl.Given as goal

abbrev pub invariant-loop-local : goal.invariant-loop-local
invariant-loop-local l =
    parts_of l.out.items ++ map s.Declares (map local_of (drop l.local-index l.decl.items.items)) ≡
    parts_of l.initial.out.items ++ map s.Declares (map local_of l.decl.items.items)
