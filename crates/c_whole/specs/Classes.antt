-- How the code numbers tags.
use Rattle.std.specs.Prelude.{◌≡◌, ℕ, ◌+◌, List, [], ◌∷◌, map, length, Bool, true, false, nat_eq, ◌&&◌, ◌||◌, Option, Some, None, Vec}
use Rattle.std.specs.Global.{Global}
use Rattle.std.specs.Option.{option_map, unwrap_or}
use Rattle.std.specs.Borrow.{Bor}
use Rattle.std.specs.Str.{bytes_eq}
use Rattle.indexmap.specs.IndexMap.{IndexMap, get, get_by}
use Rattle.c_type.specs.Names.{Name, pick}
use Rattle.c_type.specs.Types.{Tag}
use Rattle.c_tree.specs.TUnit.{TypedUnit}
use Rattle.c_join.specs.JoinTypes.{TagAt, at, tag_of, alike_where, between, is_named, Relation, IsClosed, IsWidest}
use Rattle.c_join.specs.JoinChecks.{same_class}
use Rattle.c_whole.specs.declared.classes.TagAt as d

-- the tag that a value of the code stands for
abbrev pub place_of : d.TagAt → TagAt
place_of p = at p.unit p.tag

-- whether two tags are alike, where tags with one number are one
abbrev pub alike_at : List TypedUnit → List (List ℕ) → TagAt → TagAt → Bool
alike_at us cs p q = alike_where (between (same_class cs) p.unit q.unit) (tag_of us p) (tag_of us q)

-- whether a tag is the first of its class, or alike to it
abbrev pub stays : List TypedUnit → List (List ℕ) → Option TagAt → TagAt → Bool
stays us cs None p = false
stays us cs (Some l) p = (nat_eq l.unit p.unit && nat_eq l.tag p.tag) || alike_at us cs p l

-- whether the tags of unit u from k on stay
abbrev pub row_stays : List TypedUnit → List (List ℕ) → (ℕ → Option TagAt) → (u k : ℕ) → List ℕ → Bool
row_stays us cs leader u k [] = true
row_stays us cs leader u k (n ∷ ns) = stays us cs (leader n) (at u k) && row_stays us cs leader u (k + 1) ns

-- whether the tags of the units from u on stay
abbrev pub rows_stay : List TypedUnit → List (List ℕ) → (ℕ → Option TagAt) → (u : ℕ) → List (List ℕ) → Bool
rows_stay us cs leader u [] = true
rows_stay us cs leader u (r ∷ rs) = row_stays us cs leader u 0 r && rows_stay us cs leader (u + 1) rs

-- the number that a tag of a class gets
abbrev pub renumbered : List TypedUnit → List (List ℕ) → (ℕ → Option TagAt) → (ℕ → ℕ) → TagAt → ℕ → ℕ
renumbered us cs leader other p n = pick (stays us cs (leader n) p) n (other n)

-- the numbers that the tags of unit u from k on get
abbrev pub renumbered_row : List TypedUnit → List (List ℕ) → (ℕ → Option TagAt) → (ℕ → ℕ) → (u k : ℕ) → List ℕ → List ℕ
renumbered_row us cs leader other u k [] = []
renumbered_row us cs leader other u k (n ∷ ns) = renumbered us cs leader other (at u k) n ∷ renumbered_row us cs leader other u (k + 1) ns

-- the numbers that the tags of the units from u on get
abbrev pub renumbered_rows : List TypedUnit → List (List ℕ) → (ℕ → Option TagAt) → (ℕ → ℕ) → (u : ℕ) → List (List ℕ) → List (List ℕ)
renumbered_rows us cs leader other u [] = []
renumbered_rows us cs leader other u (r ∷ rs) = renumbered_row us cs leader other u 0 r ∷ renumbered_rows us cs leader other (u + 1) rs

-- a tag's number at first: that of its name, or where it has none one of its own
abbrev pub first_number : (Name → ℕ) → Tag → ℕ → ℕ
first_number number t own = pick (is_named t.name) (number t.name) own

-- the numbers of tags at first, their own ones from c on
abbrev pub first_row : (Name → ℕ) → (c : ℕ) → List Tag → List ℕ
first_row number c [] = []
first_row number c (t ∷ ts) = first_number number t c ∷ first_row number (c + 1) ts

-- those of all units
abbrev pub first_rows : (Name → ℕ) → (c : ℕ) → List TypedUnit → List (List ℕ)
first_rows number c [] = []
first_rows number c (u ∷ us) = first_row number c u.tags ∷ first_rows number (c + length u.tags) us

-- The tags of units are numbered, and two have one number exactly where they agree.
pub record IsNumbered (us : List TypedUnit) (cs : List (List ℕ)) : Type 0 where
  pub each : map length cs ≡ map (λ t. length t.tags) us
  pub agree : IsWidest us (same_class cs)

-- The tags of units are numbered, and no relation by which tags agree goes beyond the numbers.
pub record IsCoarse (us : List TypedUnit) (cs : List (List ℕ)) : Type 0 where
  pub each : map length cs ≡ map (λ t. length t.tags) us
  pub wide : (s : Relation) → IsClosed us s → (p q : TagAt) → s p q ≡ true → same_class cs p q ≡ true

-- the numbers in vectors
abbrev pub rows_of : List (Vec ℕ Global) → List (List ℕ)
rows_of rs = map (λ r. r.items) rs

module _ {S : Type 0} where
  -- the first tag of a class
  abbrev pub leader_in : IndexMap ℕ d.TagAt S → ℕ → Option TagAt
  leader_in m n = option_map place_of (get nat_eq m n)

  -- the number of the other part of a class
  abbrev pub other_in : IndexMap ℕ ℕ S → ℕ → ℕ
  other_in m n = unwrap_or (get nat_eq m n) n

  -- the number of a name
  abbrev pub named_in : IndexMap (Bor (List ℕ)) ℕ S → Name → ℕ
  named_in m x = unwrap_or (get_by (λ k. bytes_eq x k.now) m) 0
