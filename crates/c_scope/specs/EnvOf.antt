-- The environment that the scopes of the code stand for.
use Rattle.std.specs.Prelude.{List, map, reverse}
use Rattle.c_type.specs.Of.{tags_of}
use Rattle.c_rule.specs.RuleScope as r
use Rattle.c_scope.specs.declared.scope.Scope.{Scope}
use Rattle.c_scope.specs.declared.heads.Heads.{Heads}
use Rattle.c_scope.specs.declared.bodies.Bodies.{Bodies}
use Rattle.c_scope.specs.declared.scopes.Scopes.{Scopes}
use Rattle.c_scope.specs.Entries.{entries_of, head_of, body_of}

-- what a scope declares, the latest declaration first
abbrev pub scope_of : Scope → List r.Entry
scope_of s = entries_of s.entries.items

-- the scopes inside a function, the innermost first
abbrev pub blocks_of : List Scope → List (List r.Entry)
blocks_of bs = reverse (map scope_of bs)

-- the tags that a unit defines
abbrev pub heads_of : Heads → List r.TagHead
heads_of h = map head_of h.list.items

-- the function bodies of a unit
abbrev pub bodies_of : Bodies → List r.Body
bodies_of b = map body_of b.list.items

-- where the next part of a unit stands
unfoldable pub env_of : Scopes → r.Env
env_of c =
    record {
      blocks = blocks_of c.blocks.items;
      file = scope_of c.file;
      tags = tags_of c.tags;
      texts = c.texts.items;
      starts = c.starts;
      autos = c.autos;
      statics = c.statics;
      heads = heads_of c.heads;
      bodies = bodies_of c.bodies;
    }
