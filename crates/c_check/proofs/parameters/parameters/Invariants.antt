-- The names before the next one have their types.
use Rattle.std.proofs.Common.{◌≡◌, take, map}
use Rattle.c_tree.specs.TypedOf.{declr_of, var_of}
use Rattle.c_rule.specs.RuleUnit as r
use Rattle.c_check.proofs.parameters.parameters.Given as goal

abbrev pub invariant-loop-name : goal.invariant-loop-name
invariant-loop-name l = map var_of l.typed.items ≡ map (r.as_var (map (λ d. declr_of d.now) l.declared)) (take l.name-index l.list)
