-- Names in a list, and names of which no two are the same.
use Rattle.std.specs.Prelude.{ℕ, List, [], ◌∷◌, Bool, true, not, ◌&&◌, Option, position}
use Rattle.std.specs.List.{list_any}
use Rattle.c_type.specs.Names.{Name, same_name}

-- the first place of a name
abbrev pub place_in : List Name → Name → Option ℕ
place_in ns x = position (λ y. same_name y x) ns

-- a name is among others
abbrev pub stands_in : List Name → Name → Bool
stands_in ns x = list_any (λ y. same_name y x) ns

-- no name stands twice
abbrev pub are_different : List Name → Bool
are_different [] = true
are_different (x ∷ xs) = not (stands_in xs x) && are_different xs
