-- Words on names and choices.
use Rattle.std.specs.Prelude.{ℕ, List, Bool, true, false, Option, Some, None, slice_index_or}
use Rattle.std.specs.Str.{bytes_eq}

-- a name is its bytes
abbrev pub Name : Type 0
Name = List ℕ

-- whether two names are the same bytes
abbrev pub same_name : Name → Name → Bool
same_name = bytes_eq

-- one of two values
abbrev pub pick : {A : Type 0} → Bool → A → A → A
pick true a b = a
pick false a b = b

-- the element at a place, or another
abbrev pub at_or : {A : Type 0} → A → List A → ℕ → A
at_or d xs k = slice_index_or xs k d

-- the first of two that is there
abbrev pub or_else : {A : Type 0} → Option A → Option A → Option A
or_else None b = b
or_else (Some a) b = Some a

-- what is there, or another
abbrev pub or_default : {A : Type 0} → A → Option A → A
or_default d None = d
or_default d (Some a) = a
