-- Lists of named bytes.
use Rattle.std.specs.Prelude.{ℕ, List, [], ◌∷◌, Option, Some, None, Vec, if◌then◌else◌}
use Rattle.std.specs.Str.{bytes_eq}
use Rattle.std.specs.declared.alloc.Global.{Global}

-- the bytes of the first member of this name
abbrev pub named : List (List ℕ × Vec ℕ Global) → List ℕ → Option (List ℕ)
named [] name = None
named (entry ∷ entries) name = if bytes_eq entry.0 name then Some entry.1.items else named entries name
