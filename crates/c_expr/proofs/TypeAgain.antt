-- A typename that is spelled is read.
use Rattle.std.proofs.Common.{◌≡◌, ℕ, ◌+◌, ◌<◌, ◌≤◌, zero, suc, List, [], ◌∷◌, length, Some, None, true, refl, arith}
use Rattle.c_type.specs.Names.{Name}
use Rattle.c_type.specs.declared.TagKind.{TagKind}
use Rattle.c_type.specs.declared.TagKind.TheVariants.{Struct, Union, Enum}
use Rattle.c_lex.specs.Tokens.{Token}
use Rattle.c_grammar.specs.Words.{TypeWord, Unsigned, Char, Short, Long, Int, Void, mark, type_word}
use Rattle.c_tree.specs.TreeExpr.{TypeSpec}
use Rattle.c_grammar.specs.WrittenType.{TypePart, word_part, tag_part, name_part, WrittenName, spelled, has_spelling, IsPart, AreParts, spell_part, spell_parts, spell_stars, spell_name, plain_name, IsName, parts_line}
use Rattle.c_expr.specs.Front.{eat, line_at}
use Rattle.c_expr.specs.Typename.{type_word_of, part_at, parts, stars, typename, typed}
use Rattle.c_expr.proofs.Fronts.{part_longer}

word_again : (w : TypeWord) → type_word_of (type_word w) ≡ Some w
word_again Unsigned = refl
word_again Char = refl
word_again Short = refl
word_again Long = refl
word_again Int = refl
word_again Void = refl

tag_again : (defs : List Name) (l m : ℕ) (kind : TagKind) (x : Name) (after : List Token) → has_spelling kind ≡ true → part_at defs (spell_part (tag_part l kind m x) after) ≡ Some (tag_part l kind m x, after)
tag_again defs l m Struct x after h = refl
tag_again defs l m Union x after h = cc
tag_again defs l m Enum x after h = refl

part_again : (defs : List Name) (p : TypePart) (after : List Token) → IsPart defs p → part_at defs (spell_part p after) ≡ Some (p, after)
part_again defs (word_part l w) after h = rw (word_again w) refl
part_again defs (tag_part l kind m x) after h = tag_again defs l m kind x after h
part_again defs (name_part l x) after h = rw h refl

parts_again : (defs : List Name) (ps : List TypePart) (n : ℕ) (rest : List Token) → AreParts defs ps → length ps < n → part_at defs rest ≡ None → parts defs n (spell_parts ps rest) ≡ Some (ps, rest)
unfolding parts
parts_again defs ps zero rest a lt none = absurd (omega arith)
parts_again defs [] (suc n) rest a lt none = rw none refl
parts_again defs (p ∷ ps) (suc n) rest a lt none = rw (part_again defs p (spell_parts ps rest) a.0, parts_again defs ps n rest a.1 (omega arith) none) refl

stars_again : (ls : List ℕ) (n : ℕ) (rest : List Token) → length ls < n → eat 35 rest ≡ None → stars n (spell_stars ls rest) ≡ Some (length ls, rest)
unfolding stars
stars_again ls zero rest lt none = absurd (omega arith)
stars_again [] (suc n) rest lt none = rw none refl
stars_again (l ∷ ls) (suc n) rest lt none = rw (stars_again ls n rest (omega arith) none) refl

parts_count : (ps : List TypePart) (ts : List Token) → length ps + length ts ≤ length (spell_parts ps ts)
parts_count [] ts = omega arith
parts_count (p ∷ ps) ts = omega (arith, part_longer p (spell_parts ps ts), parts_count ps ts)

stars_count : (ls : List ℕ) (ts : List Token) → length ls + length ts ≤ length (spell_stars ls ts)
stars_count [] ts = omega arith
stars_count (l ∷ ls) ts = omega (arith, stars_count ls ts)

no_part : (defs : List Name) (ls : List ℕ) (m : ℕ) (after : List Token) → part_at defs (spell_stars ls (mark m 22 ∷ after)) ≡ None
no_part defs [] m after = refl
no_part defs (l ∷ ls) m after = refl

parts_front : (ps : List TypePart) (y : TypeSpec) (rest : List Token) → spelled ps ≡ Some y → line_at (spell_parts ps rest) ≡ parts_line ps
parts_front [] y rest h = cc
parts_front (word_part l w ∷ ps) y rest h = refl
parts_front (tag_part l kind m x ∷ ps) y rest h = refl
parts_front (name_part l x ∷ ps) y rest h = refl

pub typed_again : (defs : List Name) (y : WrittenName) (m : ℕ) (after : List Token) → IsName defs y → typed defs (spell_name y (mark m 22 ∷ after)) ≡ Some (plain_name y, after)
unfolding typename
typed_again defs y m after h =
    let rest : List Token = spell_stars y.stars (mark m 22 ∷ after) in
    let a : length y.parts + length (spell_stars y.stars (mark m 22 ∷ after)) ≤ length (spell_parts y.parts (spell_stars y.stars (mark m 22 ∷ after))) = parts_count y.parts (spell_stars y.stars (mark m 22 ∷ after)) in
    let b : length y.stars + length (mark m 22 ∷ after) ≤ length (spell_stars y.stars (mark m 22 ∷ after)) = stars_count y.stars (mark m 22 ∷ after) in
    rw (
      parts_again defs y.parts (suc (length (spell_parts y.parts (spell_stars y.stars (mark m 22 ∷ after))))) (spell_stars y.stars (mark m 22 ∷ after)) h.1 (omega arith) (no_part defs y.stars m after),
      parts_front y.parts y.types (spell_stars y.stars (mark m 22 ∷ after)) h.0,
      h.0,
      stars_again y.stars (suc (length (spell_stars y.stars (mark m 22 ∷ after)))) (mark m 22 ∷ after) (omega arith) refl,
    ) refl
