-- The names that were added and those of the items that are left are all.
use Rattle.std.proofs.Common.{◌≡◌, ◌++◌, drop, map}
use Rattle.std.specs.List.{flat_map}
use Rattle.c_tree.specs.TreeOf as u
use Rattle.c_rule.specs.RuleNames as n
use Rattle.c_check.specs.UnitParts.{names_in}
use Rattle.c_check.proofs.units.add_items.Given as goal

abbrev pub invariant-loop-item : goal.invariant-loop-item
invariant-loop-item l = names_in l.defined ++ flat_map n.defined_by (map u.item_of (drop l.item-index l.items)) ≡ names_in l.initial.defined ++ flat_map n.defined_by (map u.item_of l.items)
