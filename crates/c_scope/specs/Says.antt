-- What an answer of the code says of an outcome: the value that a rule gives, or the number of a rule that fails.
use Rattle.std.specs.Prelude.{◌≡◌, Result, Ok, Err}
use Rattle.c_rule.specs.RuleScope.{Judged, Is, Fails, Env}
use Rattle.c_rule.specs.Judging.{Behind}
use Rattle.c_scope.specs.declared.error.TypeErr.{TypeErr}
use Rattle.c_scope.specs.declared.error.TypeErr.TheVariants.{Rule, Memory}

-- Want of memory says nothing.
abbrev pub Refused : {A : Type 0} → Judged A → TypeErr → Type 0
Refused j (Rule n l) = j ≡ Fails n
Refused j Memory = Unit {0}

abbrev pub Says : {T A : Type 0} → (T → A) → Judged A → Result T TypeErr → Type 0
Says view j (Ok x) = j ≡ Is (view x)
Says view j (Err e) = Refused j e

-- the same where the rule gives a tree with the environment behind it
abbrev pub SaysBehind : {T A : Type 0} → (T → A) → Env → Judged (Behind A) → Result T TypeErr → Type 0
SaysBehind view c j r = Says (λ x. record { tree = view x; env = c }) j r
