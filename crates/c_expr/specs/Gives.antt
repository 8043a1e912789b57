-- What a reader of the code answers, against what reading gives.
use Rattle.std.specs.Prelude.{◌≡◌, Option, Some, None, Result, Ok, Err}
use Rattle.c_expr.specs.declared.error.ParseErr.{ParseErr}
use Rattle.c_expr.specs.declared.error.ParseErr.TheVariants.{TooDeep, NotC, Memory}

-- The refusal is NotC, of some line.
abbrev pub IsNotC : ParseErr → Type 0
IsNotC (TooDeep line) = ⊥
IsNotC (NotC line) = Unit {0}
IsNotC Memory = ⊥

-- NotC says that reading gives nothing, and want of memory says nothing.
abbrev pub Fails : {Y : Type 0} → ParseErr → Option Y → Type 0
Fails (TooDeep line) read = ⊥
Fails (NotC line) read = read ≡ None
Fails Memory read = Unit {0}

-- The answer, seen by `view`, is what reading gives.
abbrev pub Gives : {X Y : Type 0} → (X → Y) → Result X ParseErr → Option Y → Type 0
Gives view (Ok x) read = read ≡ Some (view x)
Gives view (Err e) read = Fails e read
