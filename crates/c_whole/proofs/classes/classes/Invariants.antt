-- No relation by which tags agree goes beyond the numbers.
use Rattle.std.proofs.Common.{map}
use Rattle.c_tree.specs.TypedOf.{unit_of}
use Rattle.c_whole.specs.Classes.{rows_of, IsCoarse}
use Rattle.c_whole.proofs.classes.classes.Given as goal

abbrev pub invariant-loop : goal.invariant-loop
invariant-loop l = IsCoarse (map unit_of l.units) (rows_of l.list.items)
