use Rattle.gen_small.proofs.WholeRuns.{whole_ends}
use Rattle.gen_small.proofs.laws.whole_ends.Goals as goal

pub returns : goal.returns
returns c = record { law = whole_ends }
