-- What was added and what is left is the whole.
use Rattle.std.proofs.Common.{◌≡◌, ◌++◌, map, drop}
use Rattle.std.specs.List.{flat_map}
use Rattle.c_type.specs.Of.{tags_of}
use Rattle.c_tree.specs.TypedOf.{par_of}
use Rattle.c_limit.specs.Names as s
use Rattle.c_limit.specs.Of.{all_named_of}
use Rattle.c_limit.proofs.names.add_pars.Given as goal

abbrev pub invariant-loop-par : goal.invariant-loop-par
invariant-loop-par l = all_named_of l.out.items ++ flat_map (s.named_pars (tags_of l.tags)) (map par_of (drop l.par-index l.pars)) ≡ all_named_of l.initial.out.items ++ flat_map (s.named_pars (tags_of l.tags)) (map par_of l.pars)
