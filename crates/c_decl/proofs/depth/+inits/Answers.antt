use Rattle.std.proofs.Common.{arith}
use Rattle.c_tree.specs.TreeOf.{init_of}
use Rattle.c_decl.proofs.Depths.{init_exceeds_none, group_exceeds}
use Rattle.c_decl.proofs.depth.+inits.Goals as goal

pub init_exceeds-returns-then-most-eq0 : goal.init_exceeds-returns-then-most-eq0
init_exceeds-returns-then-most-eq0 t c = init_exceeds_none c.args.most (init_of c.args.init.now) c.if-most-eq0.true

pub init_exceeds-returns-in-Group : goal.init_exceeds-returns-in-Group
init_exceeds-returns-in-Group t c =
    group_exceeds c.args.most c.in-Group.field-0 c.in-Group.members c.args.init.now c.inits_exceed.result c.in-Group.is (omega arith) (rw c.deref.ensures.value at c.inits_exceed.ensures)
