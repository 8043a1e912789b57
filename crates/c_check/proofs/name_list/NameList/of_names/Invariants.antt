-- The names that were added are those before the next one.
use Rattle.std.proofs.Common.{◌≡◌, take}
use Rattle.c_check.specs.ListOf.{names_of}
use Rattle.c_check.proofs.name_list.NameList.of_names.Given as goal

abbrev pub invariant-loop-name : goal.invariant-loop-name
invariant-loop-name l = names_of l.list ≡ take l.name-index l.names
