-- The stars that are left decide.
use Rattle.std.proofs.Common.{◌≡◌}
use Rattle.c_type.specs.Of.{type_of}
use Rattle.c_rule.specs.RuleTypes as r
use Rattle.c_scope.proofs.words.pointer_to.Given as goal

abbrev pub invariant-loop-left : goal.invariant-loop-left
invariant-loop-left l = r.pointer_to l.left (type_of l.ty) ≡ r.pointer_to l.stars (type_of l.initial.ty)

abbrev pub decreases-loop-left : goal.decreases-loop-left
decreases-loop-left l = l.left
