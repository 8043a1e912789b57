-- Where a name first stands in a list of names.
use Rattle.std.specs.Prelude.{ℕ, suc, List, [], ◌∷◌, Option, Some, None}
use Rattle.c_type.specs.Names.{Name, same_name, pick}

-- the first place of the name, counted from k
abbrev pub place_from : ℕ → List Name → Name → Option ℕ
place_from k [] x = None
place_from k (y ∷ ys) x = pick (same_name x y) (Some k) (place_from (suc k) ys x)
