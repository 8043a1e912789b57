-- What was counted and what is left are the whole.
use Rattle.std.proofs.Common.{◌≡◌, drop}
use Rattle.c_tree.specs.TypedOf.{program_of}
use Rattle.c_limit.specs.Limits.{first_passed, line_limits}
use Rattle.c_limit.proofs.texts.first_long.Given as goal

abbrev pub invariant-loop-file : goal.invariant-loop-file
invariant-loop-file l = first_passed (line_limits l.file (drop l.file (program_of l.p).units)) ≡ first_passed (line_limits 0 (program_of l.p).units)
