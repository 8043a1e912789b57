-- The declarators before the next one were added.
use Rattle.std.proofs.Common.{◌≡◌, ◌++◌, take, map}
use Rattle.c_tree.specs.TypedOf.{declr_of}
use Rattle.c_check.proofs.parameters.add_declared.Given as goal

abbrev pub invariant-loop-declr : goal.invariant-loop-declr
invariant-loop-declr l = map (λ d. declr_of d.now) l.declared.items ≡ map (λ d. declr_of d.now) l.initial.declared.items ++ map declr_of (take l.declr-index l.declrs)
