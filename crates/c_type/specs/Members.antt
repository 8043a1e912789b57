-- Members by their names.
-- It states docs/LANGUAGE.md, section Types.
use Rattle.std.specs.Prelude.{ℕ, List, [], ◌∷◌, Option, Some, None}
use Rattle.c_type.specs.Names.{Name, same_name, pick, at_or}
use Rattle.c_type.specs.Types.{Member, Tag}
use Rattle.c_type.specs.Sizes.{no_tag}

-- the first member of that name
abbrev pub member_named : Name → List Member → Option Member
member_named x [] = None
member_named x (m ∷ ms) = pick (same_name m.name x) (Some m) (member_named x ms)

-- the members of the tag with that number
abbrev pub members_at : List Tag → ℕ → List Member
members_at ts k = (at_or no_tag ts k).members
