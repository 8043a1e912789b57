use Rattle.std.proofs.Common.{◌-◌, ◌≤◌, ◌≡◌, length, drop}
use Rattle.asm_read.specs.Lex.{text_length, placed_at}
use Rattle.asm_read.proofs.token.text_end.Given as goal

abbrev pub invariant-loop-i : goal.invariant-loop-i
invariant-loop-i l = (l.fn.at ≤ l.i) × (l.i ≤ length l.line) × (placed_at l.i (text_length (drop l.i l.line)) ≡ placed_at l.fn.at (text_length (drop l.fn.at l.line)))

abbrev pub decreases-loop-i : goal.decreases-loop-i
decreases-loop-i l = length l.line - l.i
