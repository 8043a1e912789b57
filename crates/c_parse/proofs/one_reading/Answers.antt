use Rattle.c_parse.proofs.Joined as joined
use Rattle.c_parse.proofs.one_reading.Goals as goal

pub returns : goal.returns
returns c = record { law = joined.one_reading }
