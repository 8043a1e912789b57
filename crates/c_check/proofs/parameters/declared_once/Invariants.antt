-- The names that were taken and those of the declarators that are left are all.
use Rattle.std.proofs.Common.{◌≡◌, ◌++◌, drop, map}
use Rattle.c_tree.specs.TypedOf.{declr_of}
use Rattle.c_check.proofs.parameters.declared_once.Given as goal

abbrev pub invariant-loop-declr : goal.invariant-loop-declr
invariant-loop-declr l = map (λ n. n.now) l.names.items ++ map (λ y. y.name) (map (λ d. declr_of d.now) (drop l.declr-index l.declared)) ≡ map (λ y. y.name) (map (λ d. declr_of d.now) l.declared)
