use Rattle.std.proofs.Common.{length, sym, ap, subst, arith}
use Rattle.coff_walk.specs.Walk.{IsReached}
use Rattle.coff_walk.proofs.Reaching.{begins, reaches, marked, stepped}
use Rattle.coff_walk.proofs.index.Index.new.Goals as goal

pub loop-n-init : goal.loop-n-init
loop-n-init c = record { here = begins c.args.table; marked = λ k lt. absurd (omega (arith, lt, ap length c.new-marks.ensures)) }

pub loop-n-preserved : goal.loop-n-preserved
loop-n-preserved c = record {
  here = subst (IsReached c.args.table) (sym (stepped c.args.table c.loop-n.n c.record.result c.record.ensures.record)) (reaches c.args.table c.loop-n.n (omega arith) c.loop-n.invariant.here);
  marked = marked c.args.table c.loop-n.marks.items c.add_mark.new.marks.items c.loop-n.n c.loop-n.invariant.here c.loop-n.invariant.marked c.add_mark.ensures.one;
}
