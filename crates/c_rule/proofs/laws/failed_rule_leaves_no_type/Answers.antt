use Rattle.c_rule.proofs.ApartUnit.{unit_apart}
use Rattle.c_rule.proofs.laws.failed_rule_leaves_no_type.Goals as goal

pub returns : goal.returns
returns c = record { law = unit_apart }
