use Rattle.asm_read.proofs.Whole.{printed_is_read}
use Rattle.asm_read.proofs.laws.read_undoes_print.Goals as goal

pub returns : goal.returns
returns c = record { law = printed_is_read }
