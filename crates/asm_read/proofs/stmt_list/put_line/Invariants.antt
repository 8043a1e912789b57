use Rattle.std.proofs.Common.{◌≡◌, ◌++◌, drop}
use Rattle.std.specs.Prelude.{map}
use Rattle.std.specs.List.{flat_map}
use Rattle.asm_read.specs.Lex.{all_shown}
use Rattle.asm_read.specs.Stmts.{stmts_at}
use Rattle.asm_read.specs.Reading.{at_line}
use Rattle.asm_read.specs.Shown.{shown_at}
use Rattle.asm_read.proofs.stmt_list.put_line.Given as goal

-- the statements so far and those of the parts that are left
abbrev pub invariant-loop-part : goal.invariant-loop-part
invariant-loop-part l =
    map shown_at l.out.items ++ at_line l.line (flat_map stmts_at (map (λ x. all_shown x.now) (drop l.part-index l.part-items)))
    ≡ map shown_at l.fn.out.items ++ at_line l.line (flat_map stmts_at (map (λ x. all_shown x.now) l.part-items))
