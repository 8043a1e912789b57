use Rattle.asm_read.proofs.NormalItems.{read_is_normal}
use Rattle.asm_read.proofs.laws.only_normal_items.Goals as goal

pub returns : goal.returns
returns c = record { law = read_is_normal }
