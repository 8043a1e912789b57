use Rattle.std.proofs.Common.{◌≡◌}
use Rattle.mach_exec.specs.Strings.{copied}
use Rattle.mach_exec.proofs.strings.copy_up.Given as goal

abbrev pub invariant-loop-k : goal.invariant-loop-k
invariant-loop-k l = l.mem ≡ copied l.initial.mem l.from l.to l.k
