use Rattle.std.proofs.Common.{◌≡◌, ◌++◌, map, drop}
use Rattle.c_tree.specs.TreeOf.{item_of}
use Rattle.c_tree.specs.TreeDecl.{declared}
use Rattle.small_form.proofs.typed_main.add_names.Given as goal

abbrev pub invariant-loop-item : goal.invariant-loop-item
invariant-loop-item l =
    l.names.items ++ map (λ i. declared i.declr) (map item_of (drop l.item-index l.items)) ≡ l.initial.names.items ++ map (λ i. declared i.declr) (map item_of l.items)
