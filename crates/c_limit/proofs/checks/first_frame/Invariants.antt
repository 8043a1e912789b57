-- The first among all is the first among what is left.
use Rattle.std.proofs.Common.{◌≡◌, map, drop}
use Rattle.c_tree.specs.TUnit.{funcs_of}
use Rattle.c_tree.specs.TypedOf.{ext_of, unit_of}
use Rattle.c_limit.specs.Limits.{first_passed, unit_frames, frame_limit}
use Rattle.c_limit.proofs.checks.first_frame.Given as goal

abbrev pub invariant-loop-ext : goal.invariant-loop-ext
invariant-loop-ext l =
    first_passed (map (frame_limit (unit_of l.unit).tags) (funcs_of (map ext_of (drop l.ext-index l.ext-items)))) ≡ first_passed (unit_frames (unit_of l.unit))
