use Rattle.coff_rec.proofs.Blocks.{ends_are_scopes}
use Rattle.coff_rec.proofs.nesting.ends_are_scopes.Goals as goal

pub returns : goal.returns
returns c = record { law = ends_are_scopes }
