-- The declarators that were added and those of the parts that are left are all.
use Rattle.std.proofs.Common.{◌≡◌, ◌++◌, drop, map}
use Rattle.c_tree.specs.TypedOf.{declr_of, par_of}
use Rattle.c_rule.specs.RuleUnit as r
use Rattle.c_check.proofs.parameters.declared_in.Given as goal

abbrev pub invariant-loop-part : goal.invariant-loop-part
invariant-loop-part l = map (λ d. declr_of d.now) l.declared.items ++ r.declared_in (map par_of (drop l.part-index l.parts)) ≡ r.declared_in (map par_of l.parts)
