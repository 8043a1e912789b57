-- The law is shown in proofs/FrameParts.
use Rattle.c_limit.proofs.FrameParts.{frame_is_of_parts}
use Rattle.c_limit.proofs.frame.frame_is_of_parts.Goals as goal

pub returns : goal.returns
returns c = record { law = frame_is_of_parts }
