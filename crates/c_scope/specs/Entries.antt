-- The entries that those of the code stand for.
use Rattle.std.specs.Prelude.{List, map, reverse}
use Rattle.c_type.specs.Of.{type_of}
use Rattle.c_tree.specs.TypedOf.{ref_of}
use Rattle.c_rule.specs.RuleScope as r
use Rattle.c_scope.specs.declared.scope.Meaning.{Meaning}
use Rattle.c_scope.specs.declared.scope.Meaning.TheVariants as m
use Rattle.c_scope.specs.declared.scope.Entry.{Entry}
use Rattle.c_scope.specs.declared.heads.Head.{Head}
use Rattle.c_scope.specs.declared.bodies.Body.{Body}

-- what a name means
abbrev pub meaning_of : Meaning → r.Meaning
meaning_of (m.Alias t) = r.Alias (type_of t)
meaning_of (m.Constant n) = r.Constant n
meaning_of (m.Thing x t) = r.Thing (ref_of x) (type_of t)
meaning_of (m.Function s x t) = r.Function s (ref_of x) (type_of t)

abbrev pub entry_of : Entry → r.Entry
entry_of e = record { name = e.name; meaning = meaning_of e.meaning }

-- the latest declaration first
abbrev pub entries_of : List Entry → List r.Entry
entries_of es = reverse (map entry_of es)

abbrev pub head_of : Head → r.TagHead
head_of h = record { name = h.name; kind = h.kind }

abbrev pub body_of : Body → r.Body
body_of b = record { name = b.name; is_static = b.is_static }
