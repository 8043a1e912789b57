use Rattle.gen_small.proofs.Law.{ghosts_can_go}
use Rattle.gen_small.proofs.laws.ghosts_can_go.Goals as goal

pub returns : goal.returns
returns c = record { law = ghosts_can_go }
