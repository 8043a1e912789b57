-- What the code that types the small form answers.
use Rattle.std.specs.Prelude.{◌≡◌, Option, Some, None, Result, Ok, Err}
use Rattle.small_form.specs.declared.typed_main.Fault.{Fault}
use Rattle.small_form.specs.declared.typed_main.Fault.TheVariants.{Unbuilt, Memory}

-- The error is want of memory, or there is nothing of the form.
abbrev pub Refuses : {Y : Type 0} → Fault → Option Y → Type 0
Refuses Unbuilt given = given ≡ None
Refuses Memory given = Unit {0}

-- The answer is the typed tree that is given.
abbrev pub Gives : {X Y : Type 0} → (X → Y) → Result X Fault → Option Y → Type 0
Gives view (Ok x) given = given ≡ Some (view x)
Gives view (Err e) given = Refuses e given
