use Rattle.c_rule.proofs.TypingLaws.{is_refused}
use Rattle.c_rule.proofs.laws.what_fails_is_refused.Goals as goal

pub returns : goal.returns
returns c = record { law = is_refused }
