use Rattle.gen_small.proofs.Law.{statements_reach}
use Rattle.gen_small.proofs.laws.statements_reach.Goals as goal

pub returns : goal.returns
returns c = record { law = statements_reach }
