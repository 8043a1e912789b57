use Rattle.asm_read.proofs.TextShape.{leaves}
use Rattle.asm_read.proofs.laws.others_leave.Goals as goal

pub returns : goal.returns
returns c = record { law = leaves }
