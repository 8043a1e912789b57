use Rattle.c_rule.proofs.TypedTags.{unit_laid}
use Rattle.c_rule.proofs.laws.typed_tags_are_laid.Goals as goal

pub returns : goal.returns
returns c = record { law = unit_laid }
