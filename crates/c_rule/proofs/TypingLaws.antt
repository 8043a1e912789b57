-- The typing function joined to the rules.
use Rattle.std.proofs.Common.{◌≡◌, ℕ, refl, ap, ◌∙◌}
use Rattle.c_tree.specs.TreeUnit.{Unit}
use Rattle.c_tree.specs.TUnit.{TypedUnit}
use Rattle.c_rule.specs.RuleScope.{Judged, Is, Fails}
use Rattle.c_rule.specs.RuleUnit.{IsTyped}
use Rattle.c_rule.specs.RuleFailsUnit.{UnitFails}
use Rattle.c_rule.proofs.OneUnit.{unit_one}
use Rattle.c_rule.proofs.ApartUnit.{unit_apart}
use Rattle.c_rule.specs.JudgingUnit.{judged}
use Rattle.c_rule.specs.Laws.{IsSound, IsComplete, IsRefused}
use Rattle.c_rule.proofs.JudgesUnit.{unit_a}

pub is_sound : IsSound
is_sound y = ((unit_a y).gives, (unit_a y).fails)

-- where a unit has a typed unit, the outcome is that one
by_outcome : (y : Unit) (x : TypedUnit) (j : Judged TypedUnit) → judged y ≡ j → IsTyped y x → judged y ≡ Is x
by_outcome y x (Is z) q h = q ∙ ap Is (unit_one y z x ((unit_a y).gives z q) h)
by_outcome y x (Fails n) q h = absurd (unit_apart y n x ((unit_a y).fails n q) h)

pub is_complete : IsComplete
is_complete y x h = by_outcome y x (judged y) refl h

-- where a rule fails, the outcome is a failure
by_failure : (y : Unit) (n : ℕ) (j : Judged TypedUnit) → judged y ≡ j → UnitFails y n → (m : ℕ) × (judged y ≡ Fails m)
by_failure y n (Is z) q h = absurd (unit_apart y n z h ((unit_a y).gives z q))
by_failure y n (Fails m) q h = (m, q)

pub is_refused : IsRefused
is_refused y n h = by_failure y n (judged y) refl h
