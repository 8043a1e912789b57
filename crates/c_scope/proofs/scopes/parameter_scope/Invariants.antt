-- The parameters from that place on are declared.
use Rattle.std.proofs.Common.{◌≡◌, ◌≤◌, length, drop, map}
use Rattle.c_tree.specs.TypedOf.{var_of}
use Rattle.c_rule.specs.RuleUnit as u
use Rattle.c_scope.specs.EnvOf.{scope_of}
use Rattle.c_scope.proofs.scopes.parameter_scope.Given as goal

abbrev pub invariant-loop-left : goal.invariant-loop-left
invariant-loop-left l = record { within : l.left ≤ length l.params; declared : scope_of l.scope ≡ u.parameter_scope l.left (map var_of (drop l.left l.params)) }

abbrev pub decreases-loop-left : goal.decreases-loop-left
decreases-loop-left l = l.left
