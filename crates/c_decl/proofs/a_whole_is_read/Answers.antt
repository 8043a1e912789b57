use Rattle.c_decl.proofs.Joined as joined
use Rattle.c_decl.proofs.a_whole_is_read.Goals as goal

pub returns : goal.returns
returns c = record { law = joined.whole_read }
