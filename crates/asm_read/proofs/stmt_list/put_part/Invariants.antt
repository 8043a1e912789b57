use Rattle.std.proofs.Common.{◌≡◌, ◌++◌, length}
use Rattle.std.specs.Prelude.{map}
use Rattle.asm_read.specs.Lex.{all_shown}
use Rattle.asm_read.specs.Stmts.{stmts_at}
use Rattle.asm_read.specs.Reading.{at_line}
use Rattle.asm_read.specs.Shown.{shown_at}
use Rattle.asm_read.proofs.stmt_list.put_part.Given as goal

-- the statements so far and those of what is left
abbrev pub invariant-loop-k : goal.invariant-loop-k
invariant-loop-k l = map shown_at l.out.items ++ at_line l.line (stmts_at (all_shown l.rest)) ≡ map shown_at l.fn.out.items ++ at_line l.line (stmts_at (all_shown l.fn.part))

abbrev pub decreases-loop-k : goal.decreases-loop-k
decreases-loop-k l = length l.rest
