use Rattle.c_tree.specs.TreeOf.{declr_of}
use Rattle.c_decl.proofs.Depths.{declr_exceeds_none}
use Rattle.c_decl.proofs.depth.+declr_exceeds.Goals as goal

pub returns-then-most-eq0 : goal.returns-then-most-eq0
returns-then-most-eq0 t c = declr_exceeds_none c.args.most (declr_of c.args.declr.now) c.if-most-eq0.true
