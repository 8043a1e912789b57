-- What was added and what is left is the whole.
use Rattle.std.proofs.Common.{◌≡◌, ◌++◌, map, drop}
use Rattle.std.specs.List.{flat_map}
use Rattle.c_tree.specs.TypedOf.{ext_of, unit_of}
use Rattle.c_limit.specs.Names as s
use Rattle.c_limit.specs.Of.{all_named_of}
use Rattle.c_limit.proofs.names.declared_names.Given as goal

abbrev pub invariant-loop-ext : goal.invariant-loop-ext
invariant-loop-ext l = all_named_of l.out.items ++ flat_map (s.named_ext (unit_of l.unit).tags) (map ext_of (drop l.ext-index l.ext-items)) ≡ s.declared_names (unit_of l.unit)
