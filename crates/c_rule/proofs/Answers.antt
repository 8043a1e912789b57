-- What an outcome says: of a value that it gives, or of a rule that fails.
use Rattle.std.proofs.Common.{◌≡◌, ℕ, Bool, true, false, refl, subst}
use Rattle.c_rule.specs.RuleScope.{Judged, Is, Fails, onward, provided}

pub record Answer {A : Type 0} (P : A → Type 0) (F : ℕ → Type 0) (j : Judged A) : Type 0 where
  pub gives : (a : A) → j ≡ Is a → P a
  pub fails : (n : ℕ) → j ≡ Fails n → F n

pub is_a : {A : Type 0} {P : A → Type 0} {F : ℕ → Type 0} (a : A) → P a → Answer P F (Is a)
is_a {A} {P} {F} a h = record { gives = λ b q. let p : a ≡ b = cc in subst P p h; fails = λ n q. cc }

pub fails_a : {A : Type 0} {P : A → Type 0} {F : ℕ → Type 0} (n : ℕ) → F n → Answer P F (Fails n)
fails_a {A} {P} {F} n h = record { gives = λ b q. cc; fails = λ m q. let p : n ≡ m = cc in subst F p h }

-- the outcome of a rule
pub rule_a : {A : Type 0} {P : A → Type 0} {F : ℕ → Type 0} (j : Judged A) → ((a : A) → j ≡ Is a → P a) → ((n : ℕ) → j ≡ Fails n → F n) → Answer P F j
rule_a j g h = record { gives = g; fails = h }

pub onward_a : {A B : Type 0} {P : A → Type 0} {F : ℕ → Type 0} {Q : B → Type 0} {G : ℕ → Type 0} (j : Judged A) (go : A → Judged B) →
    Answer P F j → ((n : ℕ) → F n → G n) → ((a : A) → P a → Answer Q G (go a)) → Answer Q G (onward j go)
onward_a (Is a) go h up down = down a (h.gives a refl)
onward_a (Fails n) go h up down = fails_a n (up n (h.fails n refl))

pub provided_a : {A : Type 0} {P : A → Type 0} {F : ℕ → Type 0} (n : ℕ) (b : Bool) (j : Judged A) → (b ≡ false → F n) → (b ≡ true → Answer P F j) → Answer P F (provided n b j)
provided_a n true j g h = h refl
provided_a n false j g h = fails_a n (g refl)

pub under_a : {A : Type 0} {P Q : A → Type 0} {F G : ℕ → Type 0} (j : Judged A) → Answer P F j → ((a : A) → P a → Q a) → ((n : ℕ) → F n → G n) → Answer Q G j
under_a j h p f = record { gives = λ a q. p a (h.gives a q); fails = λ n q. f n (h.fails n q) }

pub provided_is : {A : Type 0} (n : ℕ) (b : Bool) (j : Judged A) (a : A) → provided n b j ≡ Is a → j ≡ Is a
provided_is n true j a q = q
provided_is n false j a q = cc
