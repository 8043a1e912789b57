use Rattle.std.proofs.Common.{◌≡◌, ◌++◌, drop}
use Rattle.asm_item.specs.Printed.{text_of}
use Rattle.asm_item.proofs.printing.print.Given as goal

-- the text so far and that of the items that are left
abbrev pub invariant-loop-item : goal.invariant-loop-item
invariant-loop-item l = l.out.items ++ text_of (drop l.item-index l.item-items) ≡ text_of l.item-items
