use Rattle.gen_small.proofs.WholeRuns.{whole_stops}
use Rattle.gen_small.proofs.laws.whole_stops.Goals as goal

pub returns : goal.returns
returns c = record { law = whole_stops }
