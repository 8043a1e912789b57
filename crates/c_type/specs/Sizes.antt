-- Sizes: size, alignment and member offsets.
-- It states docs/LANGUAGE.md, section Types.
use Rattle.std.specs.Prelude.{◌≡◌, ℕ, ◌+◌, ◌-◌, ◌*◌, ◌/◌, min, max, List, [], ◌∷◌, length, ◌<◌}
use Rattle.c_type.specs.Names.{at_or}
use Rattle.c_type.specs.Kinds.{kind_size}
use Rattle.c_type.specs.Types.{CType, num, void, ptr, arr, struct, union, enum, fun, Member, Tag, TagKind, Struct, Union, Enum}

-- a size or offset above 4294967295 counts as that
abbrev pub capped : ℕ → ℕ
capped n = min n 4294967295

-- the next multiple
unfoldable pub up_to : ℕ → ℕ → ℕ
up_to a n = (n + (a - 1)) / a * a

-- what stands for a tag that is not there
abbrev pub no_tag : Tag
no_tag = record { name = []; kind = Struct; members = []; size = 0; align = 1 }

-- what stands for a member that is not there
abbrev pub no_member : Member
no_member = record { name = []; off = 0; ty = void }

-- each tag that the type holds by value has a number below n
abbrev pub IsWithin : ℕ → CType → Type 0
IsWithin n (num k) = Unit {0}
IsWithin n void = Unit {0}
IsWithin n (ptr t) = Unit {0}
IsWithin n (arr m t) = IsWithin n t
IsWithin n (struct k) = k < n
IsWithin n (union k) = k < n
IsWithin n (enum k) = Unit {0}
IsWithin n (fun t) = Unit {0}

-- void and a function have size 0
abbrev pub size : List Tag → CType → ℕ
size ts (num k) = kind_size k
size ts void = 0
size ts (ptr t) = 4
size ts (arr n t) = capped (n * size ts t)
size ts (struct k) = (at_or no_tag ts k).size
size ts (union k) = (at_or no_tag ts k).size
size ts (enum k) = 4
size ts (fun t) = 0

-- the alignment of a type; void and a function have 1
abbrev pub align : List Tag → CType → ℕ
align ts (num k) = kind_size k
align ts void = 1
align ts (ptr t) = 4
align ts (arr n t) = align ts t
align ts (struct k) = (at_or no_tag ts k).align
align ts (union k) = (at_or no_tag ts k).align
align ts (enum k) = 4
align ts (fun t) = 1

-- members in order, each at the next multiple of its alignment
abbrev pub placed : List Tag → ℕ → List Member → List Member
placed ts o [] = []
placed ts o (m ∷ ms) =
    record m { off = capped (up_to (align ts m.ty) o) } ∷ placed ts (capped (capped (up_to (align ts m.ty) o) + size ts m.ty)) ms

-- the offset behind the last member, before rounding
abbrev pub end_of : List Tag → ℕ → List Member → ℕ
end_of ts o [] = o
end_of ts o (m ∷ ms) = end_of ts (capped (capped (up_to (align ts m.ty) o) + size ts m.ty)) ms

-- the greatest alignment of the members
abbrev pub greatest : List Tag → List Member → ℕ
greatest ts [] = 1
greatest ts (m ∷ ms) = max (align ts m.ty) (greatest ts ms)

-- the numbers of a structure
abbrev pub laid_struct : List Tag → Tag → Tag
laid_struct ts t =
    record t { members = placed ts 0 t.members; size = capped (up_to (greatest ts t.members) (end_of ts 0 t.members)); align = greatest ts t.members }

-- the members of a union, each at offset 0
abbrev pub at_zero : List Member → List Member
at_zero [] = []
at_zero (m ∷ ms) = record m { off = 0 } ∷ at_zero ms

-- the greatest size of a member
abbrev pub largest : List Tag → List Member → ℕ
largest ts [] = 0
largest ts (m ∷ ms) = max (size ts m.ty) (largest ts ms)

-- the numbers of a union
abbrev pub laid_union : List Tag → Tag → Tag
laid_union ts t =
    record t { members = at_zero t.members; size = capped (up_to (greatest ts t.members) (largest ts t.members)); align = greatest ts t.members }

-- a tag with the numbers that its members' types give
abbrev pub laid_as : TagKind → List Tag → Tag → Tag
laid_as Struct ts t = laid_struct ts t
laid_as Union ts t = laid_union ts t
laid_as Enum ts t = record t { size = 4; align = 4 }

-- The numbers of each tag are those that its members' types give.
abbrev pub IsLaid : List Tag → Type 0
IsLaid ts = (k : ℕ) → k < length ts → at_or no_tag ts k ≡ laid_as (at_or no_tag ts k).kind ts (at_or no_tag ts k)

-- each tag that a member holds by value has a number below n
abbrev pub AreWithin : ℕ → List Member → Type 0
AreWithin n [] = Unit {0}
AreWithin n (m ∷ ms) = IsWithin n m.ty × AreWithin n ms

-- the members of a structure or union hold by value earlier tags alone
abbrev pub HoldsEarlier : TagKind → ℕ → List Member → Type 0
HoldsEarlier Struct k ms = AreWithin k ms
HoldsEarlier Union k ms = AreWithin k ms
HoldsEarlier Enum k ms = Unit {0}

-- A structure or union holds by value earlier ones alone, and its numbers are those of its members' types.
pub record AreLaid (ts : List Tag) : Type 0 where
  pub earlier : (k : ℕ) → k < length ts → HoldsEarlier (at_or no_tag ts k).kind k (at_or no_tag ts k).members
  pub laid : IsLaid ts

-- the tags of a unit from their members alone, each over those before it
abbrev pub lay : List Tag → List Tag → List Tag
lay done [] = done
lay done (t ∷ ts) = lay (append done (laid_as t.kind done t)) ts
  where
    append : List Tag → Tag → List Tag
    append [] t = t ∷ []
    append (d ∷ ds) t = d ∷ append ds t
