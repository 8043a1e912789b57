use Rattle.std.proofs.Common.{◌-◌, ◌++◌, ◌≤◌, ◌≡◌, length, drop}
use Rattle.asm_read.specs.Lex.{lex}
use Rattle.asm_read.specs.Lex.{all_shown}
use Rattle.asm_read.proofs.token.tokens.Given as goal

abbrev pub invariant-loop-at : goal.invariant-loop-at
invariant-loop-at l = (l.at ≤ length l.line) × (all_shown l.out.items ++ lex (drop l.at l.line) ≡ lex l.line)

abbrev pub decreases-loop-at : goal.decreases-loop-at
decreases-loop-at l = length l.line - l.at
