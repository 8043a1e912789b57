-- What was added and what is left is the whole.
use Rattle.std.proofs.Common.{◌≡◌, ◌++◌, map, drop}
use Rattle.std.specs.List.{flat_map}
use Rattle.c_join.specs.JoinSaid as s
use Rattle.c_tree.specs.TypedOf.{typed_item_of}
use Rattle.c_whole.specs.Events.{events_of}
use Rattle.c_whole.proofs.in_units.in_file_items.Given as goal

abbrev pub invariant-loop-item : goal.invariant-loop-item
invariant-loop-item l =
    events_of l.out.items ++ flat_map s.in_item (map typed_item_of (drop l.item-index l.items)) ≡
    events_of l.initial.out.items ++ flat_map s.in_item (map typed_item_of l.items)
