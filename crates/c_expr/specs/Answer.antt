-- What an answer of a parser says beside the tree.
use Rattle.std.specs.Prelude.{Result, Ok, Err}
use Rattle.c_expr.specs.declared.error.ParseErr.{ParseErr}
use Rattle.c_expr.specs.declared.error.ParseErr.TheVariants.{TooDeep, NotC, Memory}

-- The fact holds where the answer is NotC.
abbrev pub OnNotC : {A : Type 0} → Result A ParseErr → Type 0 → Type 0
OnNotC (Ok x) P = Unit {0}
OnNotC (Err (TooDeep line)) P = Unit {0}
OnNotC (Err (NotC line)) P = P
OnNotC (Err Memory) P = Unit {0}

-- The answer is not TooDeep.
abbrev pub IsNotTooDeep : {A : Type 0} → Result A ParseErr → Type 0
IsNotTooDeep (Ok x) = Unit {0}
IsNotTooDeep (Err (TooDeep line)) = ⊥
IsNotTooDeep (Err (NotC line)) = Unit {0}
IsNotTooDeep (Err Memory) = Unit {0}
