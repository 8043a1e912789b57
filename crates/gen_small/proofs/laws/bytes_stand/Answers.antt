use Rattle.gen_small.proofs.Emitted.{emitted_stands}
use Rattle.gen_small.proofs.laws.bytes_stand.Goals as goal

pub returns : goal.returns
returns c = record { law = emitted_stands }
