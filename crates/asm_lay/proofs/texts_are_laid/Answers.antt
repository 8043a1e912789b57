use Rattle.asm_lay.proofs.Texts.{all_lay}
use Rattle.asm_lay.proofs.texts_are_laid.Goals as goal

pub returns : goal.returns
returns c = record { law = all_lay }
