-- What was found and what is left is the whole.
use Rattle.std.proofs.Common.{◌≡◌, ◌++◌, map, drop}
use Rattle.c_tree.specs.TUnit.{funcs_of}
use Rattle.c_tree.specs.TypedOf.{ext_of}
use Rattle.c_whole.specs.Facts.{bodies_of}
use Rattle.c_whole.proofs.facts.bodies.Given as goal

abbrev pub invariant-loop-ext : goal.invariant-loop-ext
invariant-loop-ext l = bodies_of l.bodies.items ++ funcs_of (map ext_of (drop l.ext-index l.unit.exts.items)) ≡ funcs_of (map ext_of l.unit.exts.items)
