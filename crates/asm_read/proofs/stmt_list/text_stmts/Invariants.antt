use Rattle.std.proofs.Common.{◌≡◌, ◌+◌, ◌++◌, drop}
use Rattle.std.specs.Prelude.{map}
use Rattle.asm_read.specs.Reading.{from_line}
use Rattle.asm_read.specs.Shown.{shown_at}
use Rattle.asm_read.proofs.stmt_list.text_stmts.Given as goal

-- the statements so far and those of the lines that are left
abbrev pub invariant-loop-line : goal.invariant-loop-line
invariant-loop-line l =
    (l.number ≡ l.line-index + 1)
    × (map shown_at l.out.items ++ from_line (l.line-index + 1) (map (λ x. x.now) (drop l.line-index l.line-items)) ≡ from_line 1 (map (λ x. x.now) l.line-items))
