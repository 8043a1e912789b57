use Rattle.std.proofs.Common.{arith}
use Rattle.c_tree.specs.TreeOf.{def_of}
use Rattle.c_decl.proofs.Depths.{def_exceeds_none, struct_exceeds, union_exceeds}
use Rattle.c_decl.proofs.depth.+types.Goals as goal

pub def_exceeds-returns-then-most-eq0 : goal.def_exceeds-returns-then-most-eq0
def_exceeds-returns-then-most-eq0 t c = def_exceeds_none c.args.most (def_of c.args.def.now) c.if-most-eq0.true

pub def_exceeds-returns-in-Struct : goal.def_exceeds-returns-in-Struct
def_exceeds-returns-in-Struct t c =
    struct_exceeds c.args.most c.in-Struct.field-0 c.in-Struct.field-1 c.in-Struct.mems c.args.def.now c.mems_exceed.result c.in-Struct.is (omega arith) (rw c.deref.ensures.value at c.mems_exceed.ensures)

pub def_exceeds-returns-in-Union : goal.def_exceeds-returns-in-Union
def_exceeds-returns-in-Union t c =
    union_exceeds c.args.most c.in-Union.field-0 c.in-Union.field-1 c.in-Union.mems c.args.def.now c.mems_exceed-in-Union.result c.in-Union.is (omega arith) (rw c.deref-in-Union.ensures.value at c.mems_exceed-in-Union.ensures)
