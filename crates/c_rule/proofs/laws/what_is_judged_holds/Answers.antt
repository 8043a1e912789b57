use Rattle.c_rule.proofs.TypingLaws.{is_sound}
use Rattle.c_rule.proofs.laws.what_is_judged_holds.Goals as goal

pub returns : goal.returns
returns c = record { law = is_sound }
