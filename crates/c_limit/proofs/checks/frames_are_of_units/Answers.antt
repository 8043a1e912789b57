-- The law is shown in proofs/UnitFrames.
use Rattle.c_limit.proofs.UnitFrames.{frames_are_of_units}
use Rattle.c_limit.proofs.checks.frames_are_of_units.Goals as goal

pub returns : goal.returns
returns c = record { law = frames_are_of_units }
