-- Where a name stands: its latest entry in a scope, the tag and the function body of the name in a unit.
use Rattle.std.specs.Prelude.{ℕ, suc, List, [], ◌∷◌, length, Option, Some, None}
use Rattle.c_type.specs.Names.{Name, same_name, pick}
use Rattle.c_type.specs.declared.TagKind.{TagKind}
use Rattle.c_rule.specs.RuleScope.{Entry, TagHead}

-- the number of the entries that were declared before the latest one of the name, which stands first
abbrev pub place_of : Name → List Entry → Option ℕ
place_of x [] = None
place_of x (e ∷ es) = pick (same_name x e.name) (Some (length es)) (place_of x es)

-- the number of the first tag of the name, counted from k, with its kind
abbrev pub head_from : ℕ → List TagHead → Name → Option (ℕ × TagKind)
head_from k [] x = None
head_from k (t ∷ ts) x = pick (same_name x t.name) (Some (k, t.kind)) (head_from (suc k) ts x)
