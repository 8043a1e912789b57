use Rattle.c_decl.proofs.Groups.{group_given}
use Rattle.c_decl.proofs.reader.Reader.group.Goals as goal

pub returns : goal.returns
returns c = group_given c.args.self.now c.args.line c.args.at c.args.members c.low_init.result c.low_init.ensures
