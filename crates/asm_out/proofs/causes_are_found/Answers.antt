use Rattle.asm_out.proofs.Causes.{all_found}
use Rattle.asm_out.proofs.causes_are_found.Goals as goal

pub returns : goal.returns
returns c = record { law = all_found }
