use Rattle.gen_small.proofs.Law.{expressions_reach}
use Rattle.gen_small.proofs.laws.expressions_reach.Goals as goal

pub returns : goal.returns
returns c = record { law = expressions_reach }
