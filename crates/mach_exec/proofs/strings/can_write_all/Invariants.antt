use Rattle.std.proofs.Common.{◌≡◌, true}
use Rattle.mach_mem.specs.Space.{is_writable}
use Rattle.mach_exec.specs.Strings.{each_byte}
use Rattle.mach_exec.proofs.strings.can_write_all.Given as goal

abbrev pub invariant-loop-k : goal.invariant-loop-k
invariant-loop-k l = each_byte (is_writable l.mem) l.at l.k ≡ true
