use Rattle.std.proofs.Common.{◌≡◌, length}
use Rattle.std.specs.Prelude.{map}
use Rattle.asm_read.specs.Reading.{start, steps, text_stmts}
use Rattle.asm_read.specs.Goes.{state_of}
use Rattle.asm_read.specs.Shown.{shown_at}
use Rattle.asm_read.proofs.read_stmts.Given as goal

-- what is left leads from where the reader stands to where the whole text leads
abbrev pub invariant-loop-at : goal.invariant-loop-at
invariant-loop-at l = steps (state_of l.reader) (map shown_at l.queue.items) ≡ steps start (text_stmts l.fn.text)

abbrev pub decreases-loop-at : goal.decreases-loop-at
decreases-loop-at l = length l.queue.items
