-- What was added and what is left is the whole.
use Rattle.std.proofs.Common.{◌≡◌, ◌++◌, map, drop}
use Rattle.std.specs.List.{filter_map}
use Rattle.c_limit.specs.Names as s
use Rattle.c_limit.specs.Parts.{local_in}
use Rattle.c_limit.specs.Of.{parts_of, all_named_of}
use Rattle.c_limit.proofs.names.add_locals.Given as goal

abbrev pub invariant-loop-part : goal.invariant-loop-part
invariant-loop-part l = all_named_of l.out.items ++ map s.named_local (filter_map local_in (parts_of (drop l.part-index l.parts))) ≡ all_named_of l.initial.out.items ++ map s.named_local (filter_map local_in (parts_of l.parts))
