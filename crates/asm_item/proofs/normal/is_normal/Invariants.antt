use Rattle.std.proofs.Common.{◌≡◌, ◌+◌, drop, cond}
use Rattle.std.specs.Prelude.{◌&&◌, nat_lt}
use Rattle.std.specs.List.{list_all}
use Rattle.asm_item.specs.Normal.{is_item, files, are_normal}
use Rattle.asm_item.proofs.normal.is_normal.Given as goal

-- all items are normal where those that are left are, with the one file name that was met
abbrev pub invariant-loop-item : goal.invariant-loop-item
invariant-loop-item l = (list_all is_item (drop l.item-index l.item-items) && nat_lt (cond l.named 1 0 + files (drop l.item-index l.item-items)) 2) ≡ are_normal l.item-items
