use Rattle.std.proofs.Common.{◌-◌, ◌+◌, ◌≤◌, ◌≡◌, length, drop}
use Rattle.asm_read.specs.Lex.{word_length}
use Rattle.asm_read.proofs.token.word_end.Given as goal

abbrev pub invariant-loop-i : goal.invariant-loop-i
invariant-loop-i l = (l.fn.at ≤ l.i) × (l.i ≤ length l.line) × (l.i + word_length (drop l.i l.line) ≡ l.fn.at + word_length (drop l.fn.at l.line))

abbrev pub decreases-loop-i : goal.decreases-loop-i
decreases-loop-i l = length l.line - l.i
