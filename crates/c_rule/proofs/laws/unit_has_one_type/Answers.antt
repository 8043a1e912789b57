use Rattle.c_rule.proofs.OneUnit.{unit_one}
use Rattle.c_rule.proofs.laws.unit_has_one_type.Goals as goal

pub returns : goal.returns
returns c = record { law = unit_one }
