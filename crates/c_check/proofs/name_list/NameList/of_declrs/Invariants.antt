-- The names that were added and those of the declarators that are left are all.
use Rattle.std.proofs.Common.{◌≡◌, ◌++◌, drop, map}
use Rattle.c_tree.specs.TypedOf.{declr_of}
use Rattle.c_check.specs.ListOf.{names_of}
use Rattle.c_check.proofs.name_list.NameList.of_declrs.Given as goal

abbrev pub invariant-loop-declr : goal.invariant-loop-declr
invariant-loop-declr l = names_of l.list ++ map (λ y. y.name) (map (λ d. declr_of d.now) (drop l.declr-index l.declrs)) ≡ map (λ y. y.name) (map (λ d. declr_of d.now) l.declrs)
