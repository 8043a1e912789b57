-- Outcomes of rules: what a rule gives is as wanted.
use Rattle.std.proofs.Common.{◌≡◌, ℕ, Bool, true, false, refl, subst}
use Rattle.c_type.specs.Names.{pick}
use Rattle.c_rule.specs.RuleScope.{Judged, Is, Fails, onward, provided}

-- what a rule gives is as wanted
abbrev pub Each : {A : Type 0} → (A → Type 0) → Judged A → Type 0
Each P (Is a) = P a
Each P (Fails n) = Unit {0}

pub onward_each : {A B : Type 0} (P : A → Type 0) (Q : B → Type 0) (j : Judged A) (go : A → Judged B) → Each P j → ((a : A) → P a → Each Q (go a)) → Each Q (onward j go)
onward_each P Q (Is a) go h f = f a h
onward_each P Q (Fails n) go h f = tt

pub provided_each : {A : Type 0} (P : A → Type 0) (n : ℕ) (b : Bool) (j : Judged A) → (b ≡ true → Each P j) → Each P (provided n b j)
provided_each P n true j h = h refl
provided_each P n false j h = tt

pub pick_each : {A : Type 0} (P : A → Type 0) (b : Bool) (j k : Judged A) → (b ≡ true → Each P j) → (b ≡ false → Each P k) → Each P (pick b j k)
pick_each P true j k h g = h refl
pick_each P false j k h g = g refl

pub each_is : {A : Type 0} (P : A → Type 0) (j : Judged A) (a : A) → Each P j → j ≡ Is a → P a
each_is P j a h q = subst (Each P) q h
