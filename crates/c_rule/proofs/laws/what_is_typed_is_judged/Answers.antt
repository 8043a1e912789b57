use Rattle.c_rule.proofs.TypingLaws.{is_complete}
use Rattle.c_rule.proofs.laws.what_is_typed_is_judged.Goals as goal

pub returns : goal.returns
returns c = record { law = is_complete }
