-- What was added and what is left is the whole.
use Rattle.std.proofs.Common.{◌≡◌, ◌++◌, map, drop}
use Rattle.std.specs.List.{flat_map}
use Rattle.c_type.specs.Names.{at_or}
use Rattle.c_tree.specs.TUnit.{no_unit, funcs_of}
use Rattle.c_tree.specs.Starts as s
use Rattle.c_tree.specs.TypedOf.{ext_of, program_of}
use Rattle.c_tree.proofs.start_lines.starts.Given as goal

abbrev pub invariant-loop-ext : goal.invariant-loop-ext
invariant-loop-ext l =
    (l.lines.items ++ s.lines (flat_map s.starts_func (funcs_of (map ext_of (drop l.ext-index l.ext-items)))) ≡
    s.lines (s.starts (at_or no_unit (program_of l.p).units l.file)))
