-- The first units are typed.
use Rattle.std.proofs.Common.{◌≡◌, take, map}
use Rattle.std.specs.List.{AllZip}
use Rattle.c_tree.specs.TypedOf as typed
use Rattle.c_rule.specs.RuleUnit.{IsTyped}
use Rattle.c_front.specs.Sources.{units_of}
use Rattle.c_front.proofs.front.typed_units.Given as goal

abbrev pub invariant-loop-source : goal.invariant-loop-source
invariant-loop-source l = record {
  typed : AllZip IsTyped (take l.source-index (units_of l.sources)) (map typed.unit_of l.list.items);
  number : l.file ≡ l.source-index;
}
