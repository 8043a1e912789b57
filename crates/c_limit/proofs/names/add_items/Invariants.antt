-- What was added and what is left is the whole.
use Rattle.std.proofs.Common.{◌≡◌, ◌++◌, map, drop}
use Rattle.c_tree.specs.TypedOf.{typed_item_of}
use Rattle.c_limit.specs.Names as s
use Rattle.c_limit.specs.Of.{all_named_of}
use Rattle.c_limit.proofs.names.add_items.Given as goal

abbrev pub invariant-loop-item : goal.invariant-loop-item
invariant-loop-item l = all_named_of l.out.items ++ map (λ i. s.of_declr i.declr) (map typed_item_of (drop l.item-index l.items)) ≡ all_named_of l.initial.out.items ++ map (λ i. s.of_declr i.declr) (map typed_item_of l.items)
