use Rattle.asm_out.proofs.Made.{all_made, externals_made, tags_made}
use Rattle.asm_out.proofs.objects_are_made.Goals as goal

pub returns : goal.returns
returns c = record { law = all_made; externals = externals_made; tags = tags_made }
