use Rattle.c_decl.proofs.Standing.{stands}
use Rattle.c_decl.proofs.reader.Reader.token.Goals as goal

pub returns : goal.returns
returns c = stands c.args.self.now c.args.at c.deref.result.now c.get.result c.deref.ensures.value c.get.ensures.lookup.1 c.get.ensures.lookup.3
