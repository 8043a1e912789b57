-- Which types of two files agree.
-- It states docs/LANGUAGE.md, section Joined files.
use Rattle.std.specs.Prelude.{◌≡◌, ◌⊎◌, ℕ, List, [], ◌∷◌, Option, Some, None, Bool, true, false, nat_eq, ◌&&◌, ◌||◌, slice_get}
use Rattle.c_type.specs.Names.{Name, same_name, at_or}
use Rattle.c_type.specs.Types.{CType, num, void, ptr, arr, struct, union, enum, fun, kind_code, Tag, Member}
use Rattle.c_type.specs.declared.TagKind.{TagKind}
use Rattle.c_type.specs.declared.TagKind.TheVariants.{Struct, Union, Enum}
use Rattle.c_tree.specs.TUnit.{TypedUnit, no_unit}

-- a tag of a program: its unit and its number there
pub record TagAt : Type 0 where
  pub unit : ℕ
  pub tag : ℕ

-- tag k of unit u
abbrev pub at : ℕ → ℕ → TagAt
at u k = record { unit = u; tag = k }

-- the tag of that number, where it is there
abbrev pub tag_of : List TypedUnit → TagAt → Option Tag
tag_of us p = slice_get (at_or no_unit us p.unit).tags p.tag

-- a relation between the tags of a program
abbrev pub Relation : Type 0
Relation = TagAt → TagAt → Bool

-- whether two types are one, where the test says which of their tags are
abbrev pub agree_by : (ℕ → ℕ → Bool) → CType → CType → Bool
agree_by r (num a) (num b) = nat_eq (kind_code a) (kind_code b)
agree_by r void void = true
agree_by r (ptr a) (ptr b) = agree_by r a b
agree_by r (arr n a) (arr m b) = nat_eq n m && agree_by r a b
agree_by r (struct i) (struct j) = r i j
agree_by r (union i) (union j) = r i j
agree_by r (enum i) (enum j) = r i j
agree_by r (fun a) (fun b) = agree_by r a b
agree_by r _ _ = false

-- members have the same names and types, in order
abbrev pub members_agree : (ℕ → ℕ → Bool) → List Member → List Member → Bool
members_agree r [] [] = true
members_agree r (m ∷ ms) (n ∷ ns) = same_name m.name n.name && (agree_by r m.ty n.ty && members_agree r ms ns)
members_agree r _ _ = false

-- whether a tag has a name
abbrev pub is_named : Name → Bool
is_named [] = false
is_named (b ∷ bs) = true

-- two kinds of tags are one
abbrev pub same_kind : TagKind → TagKind → Bool
same_kind Struct Struct = true
same_kind Union Union = true
same_kind Enum Enum = true
same_kind _ _ = false

-- two tags have a name, the same one, the same kind, and members with the same names and types
abbrev pub alike : (ℕ → ℕ → Bool) → Tag → Tag → Bool
alike r s t = is_named s.name && (same_name s.name t.name && (same_kind s.kind t.kind && members_agree r s.members t.members))

-- tags that are there, or neither of them is
abbrev pub alike_where : (ℕ → ℕ → Bool) → Option Tag → Option Tag → Bool
alike_where r None None = true
alike_where r (Some s) (Some t) = alike r s t
alike_where r _ _ = false

-- what a relation between tags says of the tags of two units
abbrev pub between : Relation → ℕ → ℕ → ℕ → ℕ → Bool
between r u v i j = r (at u i) (at v j)

-- Each two tags of which the relation holds are one tag, or alike where their members' types agree by the relation.
abbrev pub IsClosed : List TypedUnit → Relation → Type 0
IsClosed us r = (p q : TagAt) → r p q ≡ true → (p ≡ q) ⊎ (alike_where (between r p.unit q.unit) (tag_of us p) (tag_of us q) ≡ true)

-- The widest such relation: tags agree where it holds of them. So `struct node { struct node *next; };` of two files agree.
pub record IsWidest (us : List TypedUnit) (r : Relation) : Type 0 where
  pub closed : IsClosed us r
  pub widest : (s : Relation) → IsClosed us s → (p q : TagAt) → s p q ≡ true → r p q ≡ true

-- a type of a unit
pub record TypeIn : Type 0 where
  pub unit : ℕ
  pub ty : CType

-- whether types of units are one
abbrev pub same_types : Relation → TypeIn → TypeIn → Bool
same_types r a b = agree_by (between r a.unit b.unit) a.ty b.ty

-- two numbers of elements, where a missing one is 0 and agrees with every number
abbrev pub same_dimension : ℕ → ℕ → Bool
same_dimension n m = nat_eq n 0 || (nat_eq m 0 || nat_eq n m)

-- whether two declarations give one type; the dimension may be missing under `extern`
abbrev pub declare_alike : (ℕ → ℕ → Bool) → CType → CType → Bool
declare_alike r (arr n a) (arr m b) = same_dimension n m && agree_by r a b
declare_alike r a b = agree_by r a b
