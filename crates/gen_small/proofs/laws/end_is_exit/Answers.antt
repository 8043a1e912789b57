use Rattle.gen_small.proofs.Plain.{ends_alike}
use Rattle.gen_small.proofs.laws.end_is_exit.Goals as goal

pub returns : goal.returns
returns c = record { law = ends_alike }
