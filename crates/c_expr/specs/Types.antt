-- What the code reads of a typename, against what reading gives.
use Rattle.std.specs.Prelude.{ℕ, suc, List, ◌∷◌, length, Option, Some, None}
use Rattle.c_type.specs.Names.{Name}
use Rattle.c_lex.specs.Tokens.{Token}
use Rattle.c_grammar.specs.Words.{TypeWord}
use Rattle.c_tree.specs.TreeExpr.{TypeSpec}
use Rattle.c_grammar.specs.WrittenType.{TypePart, word_part, spelled}
use Rattle.c_expr.specs.Front.{Read, ◌>>=◌}
use Rattle.c_expr.specs.Part.{Part, plain_part}
use Rattle.c_expr.specs.Typename as y

-- the part apart from the line of a tag's name, and the tokens behind it
abbrev pub plainly : TypePart × List Token → Part × List Token
plainly x = (plain_part x.0, x.1)

-- the type, if there is one, and the tokens behind it
abbrev pub before : Option TypeSpec → List Token → Read TypeSpec
before None ts = None
before (Some y) ts = Some (y, ts)

-- the type at the front
unfoldable pub types_at : List Name → List Token → Read TypeSpec
types_at defs ts = y.parts defs (suc (length ts)) ts >>= λ ps. before (spelled ps.0) ps.1

-- the type that the word and the parts behind it make
unfoldable pub types_from : List Name → TypeWord → List Token → Read TypeSpec
types_from defs w ts = y.parts defs (suc (length ts)) ts >>= λ ps. before (spelled (word_part 0 w ∷ ps.0)) ps.1

-- the number of stars at the front
unfoldable pub stars_at : List Token → Read ℕ
stars_at ts = y.stars (suc (length ts)) ts
