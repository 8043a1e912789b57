use Rattle.std.proofs.Common.{◌≡◌, ◌+◌, ◌++◌, map, drop}
use Rattle.c_tree.specs.TreeOf.{item_of}
use Rattle.c_tree.specs.TypedOf.{local_of}
use Rattle.small_form.specs.SmallForm.{locals_in}
use Rattle.small_form.proofs.typed_main.locals.Given as goal

abbrev pub invariant-loop-item : goal.invariant-loop-item
invariant-loop-item l = record {
  number : l.number ≡ l.first + l.item-index;
  typed : map local_of l.list.items ++ locals_in l.number (map item_of (drop l.item-index l.items)) ≡ locals_in l.first (map item_of l.items);
}
