-- The names so far differ, and are the first of all.
use Rattle.std.proofs.Common.{◌≡◌, ◌++◌, true, drop}
use Rattle.name_set.specs.Different.{are_different}
use Rattle.name_set.proofs.Different.{names_of}
use Rattle.name_set.proofs.names.NameSet.of.Given as goal

abbrev pub invariant-loop-name : goal.invariant-loop-name
invariant-loop-name l = record {
  first : names_of l.set.keys ++ drop l.name-index l.names ≡ l.names;
  differ : are_different (names_of l.set.keys) ≡ true;
}
