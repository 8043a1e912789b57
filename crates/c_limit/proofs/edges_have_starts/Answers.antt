-- The law is shown in proofs/EdgeStarts.
use Rattle.c_limit.proofs.EdgeStarts.{edges_have_starts}
use Rattle.c_limit.proofs.edges_have_starts.Goals as goal

pub returns : goal.returns
returns c = record { law = edges_have_starts }
