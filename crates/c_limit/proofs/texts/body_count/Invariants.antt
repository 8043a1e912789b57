-- What was counted and what is left are the whole.
use Rattle.std.proofs.Common.{◌≡◌, ◌+◌, ◌<◌, ◌^◌, map, drop, length}
use Rattle.c_tree.specs.TUnit.{funcs_of}
use Rattle.c_tree.specs.TypedOf.{ext_of, unit_of}
use Rattle.c_limit.specs.Temporaries.{counted}
use Rattle.c_limit.proofs.texts.body_count.Given as goal

abbrev pub invariant-loop-ext : goal.invariant-loop-ext
invariant-loop-ext l = (counted (l.count + length (funcs_of (map ext_of (drop l.ext-index l.ext-items)))) ≡ counted (length (funcs_of (unit_of l.unit).exts))) × (l.count < 2 ^ 64)
