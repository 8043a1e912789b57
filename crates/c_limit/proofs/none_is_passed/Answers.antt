-- The law is shown in proofs/FirstPassed.
use Rattle.c_limit.proofs.FirstPassed.{none_is_passed}
use Rattle.c_limit.proofs.none_is_passed.Goals as goal

pub returns : goal.returns
returns c = record { law = none_is_passed }
