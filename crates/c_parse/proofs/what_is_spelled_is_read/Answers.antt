use Rattle.c_parse.proofs.Joined as joined
use Rattle.c_parse.proofs.what_is_spelled_is_read.Goals as goal

pub returns : goal.returns
returns c = record { law = joined.is_read }
