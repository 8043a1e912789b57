use Rattle.gen_small.proofs.Plain.{stops_alike}
use Rattle.gen_small.proofs.laws.stop_is_turn.Goals as goal

pub returns : goal.returns
returns c = record { law = stops_alike }
