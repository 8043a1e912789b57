use Rattle.std.proofs.Common.{◌≡◌, ◌++◌, drop}
use Rattle.asm_item.specs.Statements.{further_text}
use Rattle.asm_item.specs.Groups.{numbers}
use Rattle.asm_item.proofs.printing.put_further.Given as goal

-- the text so far and that of the numbers that are left
abbrev pub invariant-loop-n : goal.invariant-loop-n
invariant-loop-n l = l.out.items ++ further_text (numbers (drop l.n-index l.ns)) ≡ l.fn.out.items ++ further_text (numbers l.ns)
