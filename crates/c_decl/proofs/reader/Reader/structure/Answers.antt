use Rattle.c_decl.proofs.MemTurns.{struct_given}
use Rattle.c_decl.proofs.reader.Reader.structure.Goals as goal

pub returns : goal.returns
returns c = struct_given c.args.self.now c.args.line c.args.at c.args.name c.args.mems c.low_def.result c.low_def.ensures
