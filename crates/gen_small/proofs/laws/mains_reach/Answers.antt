use Rattle.gen_small.proofs.Law.{mains_reach}
use Rattle.gen_small.proofs.laws.mains_reach.Goals as goal

pub returns : goal.returns
returns c = record { law = mains_reach }
