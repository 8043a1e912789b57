use Rattle.std.proofs.Common.{length-drop, arith}
use Rattle.outside.proofs.Taken.{taken_more}
use Rattle.real_io.proofs.real.put.Goals as goal

pub loop-done-preserved : goal.loop-done-preserved
loop-done-preserved g c = record {
  in_range = omega (arith, length-drop c.loop-done.done c.args.bytes.now, c.in-Ok.ensures.bound);
  taken = taken_more _ _ _ c.loop-done.done c.in-Ok.n c.args.bytes.now c.loop-done.invariant.taken c.in-Ok.ensures.bytes;
}
