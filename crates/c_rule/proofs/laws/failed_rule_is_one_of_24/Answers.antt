use Rattle.c_rule.proofs.RuleNumbers.{unit_number}
use Rattle.c_rule.proofs.laws.failed_rule_is_one_of_24.Goals as goal

pub returns : goal.returns
returns c = record { law = unit_number }
