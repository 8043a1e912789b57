-- Laws of typing: of the rules, and of the typing function beside them. A unit that was read is fixed.
use Rattle.std.specs.Prelude.{◌≡◌, ℕ, ◌≤◌}
use Rattle.c_type.specs.Sizes.{AreLaid}
use Rattle.c_tree.specs.TreeExpr.{Expr}
use Rattle.c_tree.specs.TreeUnit as u
use Rattle.c_tree.specs.TExpr.{TExpr}
use Rattle.c_tree.specs.TUnit.{TypedUnit}
use Rattle.c_rule.specs.RuleScope.{Env, Is, Fails}
use Rattle.c_rule.specs.RuleTree.{IsExpr}
use Rattle.c_rule.specs.RuleUnit.{IsTyped}
use Rattle.c_rule.specs.RuleFailsUnit.{UnitFails}
use Rattle.c_rule.specs.JudgingUnit.{judged}

-- where an expression stands, at most one typed expression belongs to it
abbrev pub OneTypedExpr : Type 0
OneTypedExpr = (c : Env) (a : Expr) (t t' : TExpr) → IsExpr c a t → IsExpr c a t' → t ≡ t'

-- at most one typed unit belongs to a unit
abbrev pub OneTypedUnit : Type 0
OneTypedUnit = (y : u.Unit) (x x' : TypedUnit) → IsTyped y x → IsTyped y x' → x ≡ x'

-- where a rule fails in a unit, no typed unit belongs to it
abbrev pub FailsApart : Type 0
FailsApart = (y : u.Unit) (n : ℕ) (x : TypedUnit) → UnitFails y n → IsTyped y x → ⊥

-- a rule that fails in a unit is one of the 24
abbrev pub FailsByNumber : Type 0
FailsByNumber = (y : u.Unit) (n : ℕ) → UnitFails y n → (1 ≤ n) × (n ≤ 24)

-- the tags of a typed unit hold earlier ones alone, and have the numbers that their members' types give
abbrev pub TagsAreLaid : Type 0
TagsAreLaid = (y : u.Unit) (x : TypedUnit) → IsTyped y x → AreLaid x.tags

-- what the typing function gives belongs to the unit, and what it says to fail fails there
abbrev pub IsSound : Type 0
IsSound = (y : u.Unit) → ((x : TypedUnit) → judged y ≡ Is x → IsTyped y x) × ((n : ℕ) → judged y ≡ Fails n → UnitFails y n)

-- the typed unit that belongs to a unit is what the typing function gives
abbrev pub IsComplete : Type 0
IsComplete = (y : u.Unit) (x : TypedUnit) → IsTyped y x → judged y ≡ Is x

-- where a rule fails in a unit, the typing function says that one does
abbrev pub IsRefused : Type 0
IsRefused = (y : u.Unit) (n : ℕ) → UnitFails y n → (m : ℕ) × (judged y ≡ Fails m)
