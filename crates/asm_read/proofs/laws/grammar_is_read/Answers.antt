use Rattle.asm_read.proofs.TextShape.{reads_text, text_is_read}
use Rattle.asm_read.proofs.laws.grammar_is_read.Goals as goal

pub returns : goal.returns
returns c = record { law = λ bytes items. (reads_text bytes items, text_is_read bytes items) }
