-- The types that values of the code stand for.
-- It states docs/LANGUAGE.md, section Types.
use Rattle.std.specs.Prelude.{List, [], ◌∷◌, map}
use Rattle.c_type.specs.declared.CType as d
use Rattle.c_type.specs.declared.CType.{CType}
use Rattle.c_type.specs.declared.Member.{Member}
use Rattle.c_type.specs.declared.Tag.{Tag}
use Rattle.c_type.specs.declared.Tags.{Tags}
use Rattle.c_type.specs.Types as t
use Rattle.c_type.specs.Types.{num, void, ptr, arr, struct, union, enum, fun}

-- the type that a value of the code stands for
abbrev pub type_of : CType → t.CType
type_of (d.Num k) = num k
type_of d.Void = void
type_of (d.Ptr' p x) = ptr (type_of x)
type_of (d.Arr' n p x) = arr n (type_of x)
type_of (d.Struct k) = struct k.0
type_of (d.Union k) = union k.0
type_of (d.Enum k) = enum k.0
type_of (d.Fun' p x) = fun (type_of x)

-- the member that a value of the code stands for
abbrev pub member_of : Member → t.Member
member_of m = record { name = m.name; off = m.off; ty = type_of m.ty }

-- the members of a list
abbrev pub members_of : List Member → List t.Member
members_of [] = []
members_of (m ∷ ms) = member_of m ∷ members_of ms

-- the tag that a value of the code stands for
abbrev pub tag_of : Tag → t.Tag
tag_of x = record { name = x.name; kind = x.kind; members = members_of x.members.items; size = x.size; align = x.align }

-- the tags of a list
abbrev pub tags_of : Tags → List t.Tag
tags_of x = map tag_of x.list.items
