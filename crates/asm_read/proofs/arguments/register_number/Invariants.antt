use Rattle.std.proofs.Common.{◌≡◌}
use Rattle.asm_item.specs.Args.{register_text, registers}
use Rattle.asm_read.specs.Arguments.{number_by}
use Rattle.asm_read.proofs.arguments.register_number.Given as goal

abbrev pub invariant-loop-r : goal.invariant-loop-r
invariant-loop-r l = number_by (register_text l.size) l.r l.w ≡ number_by (register_text l.size) (registers l.size) l.w

abbrev pub decreases-loop-r : goal.decreases-loop-r
decreases-loop-r l = l.r
