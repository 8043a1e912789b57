-- From tokens to a typename.
use Rattle.std.specs.Prelude.{ℕ, zero, suc, List, [], ◌∷◌, length, Bool, true, false, ◌||◌, Option, Some, None}
use Rattle.c_type.specs.Names.{Name, pick}
use Rattle.c_type.specs.declared.TagKind.{TagKind}
use Rattle.c_type.specs.declared.TagKind.TheVariants.{Struct, Enum}
use Rattle.c_lex.specs.Tokens.{Tok, Token}
use Rattle.c_lex.specs.Tokens as k
use Rattle.c_grammar.specs.Words.{TypeWord, Unsigned, Char, Short, Long, Int, Void, type_word, tag_word, with_mark, star, open_round, close_round}
use Rattle.c_tree.specs.TreeExpr.{TypeName, TypeSpec}
use Rattle.c_grammar.specs.WrittenType.{TypePart, word_part, tag_part, name_part, is_typedef, spelled}
use Rattle.c_expr.specs.Front.{Read, ◌>>=◌, eat, line_at, any_name}

abbrev pub type_word_of : ℕ → Option TypeWord
type_word_of w = with_mark type_word w (Unsigned ∷ Char ∷ Short ∷ Long ∷ Int ∷ Void ∷ [])

abbrev pub tag_of : ℕ → Option TagKind
tag_of w = with_mark tag_word w (Struct ∷ Enum ∷ [])

abbrev pub part_word : ℕ → List Token → Option TypeWord → Option TagKind → Read TypePart
part_word l ts (Some w) _ = Some (word_part l w, ts)
part_word l ts None (Some kind) = any_name ts >>= λ x. Some (tag_part l kind (line_at ts) x.0, x.1)
part_word l ts None None = None

abbrev pub part_tok : List Name → ℕ → List Token → Tok → Read TypePart
part_tok defs l ts (k.name x) = pick (is_typedef defs x) (Some (name_part l x, ts)) None
part_tok defs l ts (k.int n long) = None
part_tok defs l ts (k.chr n) = None
part_tok defs l ts (k.text bytes) = None
part_tok defs l ts (k.word w) = part_word l ts (type_word_of w) (tag_of w)
part_tok defs l ts (k.mark m) = None

-- the part of a type at the front
abbrev pub part_at : List Name → List Token → Read TypePart
part_at defs [] = None
part_at defs (x ∷ ts) = part_tok defs x.line ts x.kind

abbrev pub parts_by : (List Token → Read (List TypePart)) → List Token → Read TypePart → Read (List TypePart)
parts_by more ts None = Some ([], ts)
parts_by more ts (Some p) = more p.1 >>= λ ps. Some (p.0 ∷ ps.0, ps.1)

-- the parts of a type at the front, as many as there are
unfoldable pub parts : List Name → ℕ → List Token → Read (List TypePart)
parts defs zero ts = None
parts defs (suc k) ts = parts_by (parts defs k) ts (part_at defs ts)

abbrev pub stars_by : (List Token → Read ℕ) → List Token → Option (List Token) → Read ℕ
stars_by more ts None = Some (0, ts)
stars_by more ts (Some after) = more after >>= λ n. Some (suc n.0, n.1)

-- the number of stars at the front
unfoldable pub stars : ℕ → List Token → Read ℕ
stars zero ts = None
stars (suc k) ts = stars_by (stars k) ts (eat star ts)

abbrev pub starred : ℕ → Option TypeSpec → List Token → Read TypeName
starred l None ts = None
starred l (Some y) ts = stars (suc (length ts)) ts >>= λ n. Some (record { line = l; types = y; stars = n.0 }, n.1)

unfoldable pub typename : List Name → List Token → Read TypeName
typename defs ts = parts defs (suc (length ts)) ts >>= λ ps. starred (line_at ts) (spelled ps.0) ps.1

-- a typename behind its opening bracket, and the closing one
abbrev pub typed : List Name → List Token → Read TypeName
typed defs ts = typename defs ts >>= λ y. eat close_round y.1 >>= λ after. Some (y.0, after)

abbrev pub is_there : {A : Type 0} → Option A → Bool
is_there None = false
is_there (Some a) = true

abbrev pub begins_tok : List Name → Tok → Bool
begins_tok defs (k.name x) = is_typedef defs x
begins_tok defs (k.int n long) = false
begins_tok defs (k.chr n) = false
begins_tok defs (k.text bytes) = false
begins_tok defs (k.word w) = is_there (type_word_of w) || is_there (tag_of w)
begins_tok defs (k.mark m) = false

-- whether a type begins at the front
abbrev pub begins_type : List Name → List Token → Bool
begins_type defs [] = false
begins_type defs (x ∷ ts) = begins_tok defs x.kind

abbrev pub if_type : List Name → List Token → Option (List Token)
if_type defs ts = pick (begins_type defs ts) (Some ts) None

-- the tokens behind `(` where a type follows it
abbrev pub type_bracket : List Name → List Token → Option (List Token)
type_bracket defs ts = eat open_round ts >>= λ after. if_type defs after
