-- What holds of the value of an option, if there is one.
use Rattle.std.proofs.Common.{◌≡◌, Bool, true, false, cond, Option, Some, None, refl}
use Rattle.std.specs.Option.{option_map}
use Rattle.asm_read.specs.Numerals.{◌>>=◌}

abbrev pub Holds : {A : Type 0} → (A → Type 0) → Option A → Type 0
Holds P None = Unit {0}
Holds P (Some x) = P x

pub behind : {A B : Type 0} (P : A → Type 0) (Q : B → Type 0) (o : Option A) (f : A → Option B) → Holds P o → ((x : A) → P x → Holds Q (f x)) → Holds Q (o >>= f)
behind P Q None f h g = tt
behind P Q (Some x) f h g = g x h

pub behind_any : {A B : Type 0} (Q : B → Type 0) (o : Option A) (f : A → Option B) → ((x : A) → Holds Q (f x)) → Holds Q (o >>= f)
behind_any Q None f g = tt
behind_any Q (Some x) f g = g x

pub mapped : {A B : Type 0} (P : A → Type 0) (Q : B → Type 0) (o : Option A) (f : A → B) → Holds P o → ((x : A) → P x → Q (f x)) → Holds Q (option_map f o)
mapped P Q None f h g = tt
mapped P Q (Some x) f h g = g x h

pub weaker : {A : Type 0} (P Q : A → Type 0) (o : Option A) → Holds P o → ((x : A) → P x → Q x) → Holds Q o
weaker P Q None h g = tt
weaker P Q (Some x) h g = g x h

pub either_way : {A : Type 0} (P : A → Type 0) (b : Bool) (o p : Option A) → (b ≡ true → Holds P o) → (b ≡ false → Holds P p) → Holds P (cond b o p)
either_way P true o p f g = f refl
either_way P false o p f g = g refl

pub if_so : {A : Type 0} (P : A → Type 0) (b : Bool) (o : Option A) → (b ≡ true → Holds P o) → Holds P (cond b o None)
if_so P true o f = f refl
if_so P false o f = tt
