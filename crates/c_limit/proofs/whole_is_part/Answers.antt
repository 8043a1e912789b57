-- The law is shown in proofs.Whole.
use Rattle.c_limit.proofs.Whole.{whole_is_part}
use Rattle.c_limit.proofs.whole_is_part.Goals as goal

pub returns : goal.returns
returns c = record { law = whole_is_part }
