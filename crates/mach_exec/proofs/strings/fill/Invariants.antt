use Rattle.std.proofs.Common.{◌≡◌}
use Rattle.mach_exec.specs.Strings.{filled}
use Rattle.mach_exec.proofs.strings.fill.Given as goal

abbrev pub invariant-loop-k : goal.invariant-loop-k
invariant-loop-k l = l.mem ≡ filled l.initial.mem l.at l.b l.k
