use Rattle.std.proofs.Common.{arith, ◌∙◌}
use Rattle.c_scope.proofs.Laying.{zero_step}
use Rattle.c_scope.proofs.layout.place_at_zero.Goals as goal

pub loop-i-preserved : goal.loop-i-preserved
loop-i-preserved c = zero_step c.loop-i.members c.loop-i.i c.index-members-i.result (omega arith) ∙ c.loop-i.invariant
