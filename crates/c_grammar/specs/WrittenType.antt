-- From a type without a tag's body to its spellings.
use Rattle.std.specs.Prelude.{◌≡◌, ℕ, List, [], ◌∷◌, ◌++◌, length, Bool, true, false, nat_eq, ◌||◌, Option, Some, None}
use Rattle.c_type.specs.Names.{Name, same_name, pick}
use Rattle.c_type.specs.declared.Kind.TheVariants as kinds
use Rattle.c_type.specs.declared.TagKind.{TagKind}
use Rattle.c_type.specs.declared.TagKind.TheVariants.{Struct, Union, Enum}
use Rattle.c_lex.specs.Tokens.{Token}
use Rattle.c_lex.specs.Tokens as k
use Rattle.c_grammar.specs.Words.{TypeWord, Unsigned, Char, Short, Long, Int, Void, type_word, tag_word, tok, mark, word, star}
use Rattle.c_tree.specs.TreeExpr.{TypeName, TypeSpec}
use Rattle.c_tree.specs.TreeExpr as t

-- whether the name is one of these typedef names
abbrev pub is_typedef : List Name → Name → Bool
is_typedef [] x = false
is_typedef (d ∷ ds) x = same_name d x || is_typedef ds x

-- A part of a type: a word, a tag with the line m of its name, or a typedef name.
pub data TypePart : Type 0 where
  word_part : (l : ℕ) (w : TypeWord) → TypePart
  tag_part : (l : ℕ) (kind : TagKind) (m : ℕ) (x : Name) → TypePart
  name_part : (l : ℕ) (x : Name) → TypePart

-- the types that are made of words
abbrev pub row : List TypeWord → Option TypeSpec
row (Char ∷ []) = Some (t.num kinds.Char)
row (Unsigned ∷ Char ∷ []) = Some (t.num kinds.UChar)
row (Short ∷ []) = Some (t.num kinds.Short)
row (Short ∷ Int ∷ []) = Some (t.num kinds.Short)
row (Unsigned ∷ Short ∷ []) = Some (t.num kinds.UShort)
row (Unsigned ∷ Short ∷ Int ∷ []) = Some (t.num kinds.UShort)
row (Long ∷ []) = Some (t.num kinds.Long)
row (Long ∷ Int ∷ []) = Some (t.num kinds.Long)
row (Unsigned ∷ Long ∷ []) = Some (t.num kinds.ULong)
row (Unsigned ∷ Long ∷ Int ∷ []) = Some (t.num kinds.ULong)
row (Int ∷ []) = Some (t.num kinds.Int)
row (Unsigned ∷ []) = Some (t.num kinds.UInt)
row (Unsigned ∷ Int ∷ []) = Some (t.num kinds.UInt)
row (Void ∷ []) = Some t.void
row _ = None

-- each time that the word stands in the list
abbrev pub occurrences : TypeWord → List TypeWord → List TypeWord
occurrences w [] = []
occurrences w (v ∷ vs) = pick (nat_eq (type_word v) (type_word w)) (w ∷ occurrences w vs) (occurrences w vs)

-- the words in the order that the table has them in
abbrev pub in_order : List TypeWord → List TypeWord
in_order ws = occurrences Unsigned ws ++ (occurrences Char ws ++ (occurrences Short ws ++ (occurrences Long ws ++ (occurrences Int ws ++ occurrences Void ws))))

-- the words, where the parts are words alone
abbrev pub words_in : List TypePart → Option (List TypeWord)
words_in [] = Some []
words_in (word_part l w ∷ ps) = with_word w (words_in ps)
  where
    with_word : TypeWord → Option (List TypeWord) → Option (List TypeWord)
    with_word w None = None
    with_word w (Some ws) = Some (w ∷ ws)
words_in (tag_part l kind m x ∷ ps) = None
words_in (name_part l x ∷ ps) = None

abbrev pub worded : Option (List TypeWord) → Option TypeSpec
worded None = None
worded (Some ws) = row (in_order ws)

-- the type, where no other part follows
abbrev pub if_alone : List TypePart → TypeSpec → Option TypeSpec
if_alone [] y = Some y
if_alone (p ∷ ps) y = None

-- Words in any order, or one tag, or one typedef name.
abbrev pub spelled : List TypePart → Option TypeSpec
spelled [] = None
spelled (word_part l w ∷ ps) = worded (words_in (word_part l w ∷ ps))
spelled (tag_part l kind m x ∷ ps) = if_alone ps (t.tag (record { line = l; kind = kind; name = x }))
spelled (name_part l x ∷ ps) = if_alone ps (t.named x)

-- a union has no spelling
abbrev pub has_spelling : TagKind → Bool
has_spelling Struct = true
has_spelling Union = false
has_spelling Enum = true

-- A name is a typedef name. That of a tag may be one.
abbrev pub IsPart : List Name → TypePart → Type 0
IsPart defs (word_part l w) = Unit {0}
IsPart defs (tag_part l kind m x) = has_spelling kind ≡ true
IsPart defs (name_part l x) = is_typedef defs x ≡ true

abbrev pub AreParts : List Name → List TypePart → Type 0
AreParts defs [] = Unit {0}
AreParts defs (p ∷ ps) = IsPart defs p × AreParts defs ps

abbrev pub part_line : TypePart → ℕ
part_line (word_part l w) = l
part_line (tag_part l kind m x) = l
part_line (name_part l x) = l

abbrev pub spell_part : TypePart → List Token → List Token
spell_part (word_part l w) after = word l (type_word w) ∷ after
spell_part (tag_part l kind m x) after = word l (tag_word kind) ∷ tok m (k.name x) ∷ after
spell_part (name_part l x) after = tok l (k.name x) ∷ after

abbrev pub spell_parts : List TypePart → List Token → List Token
spell_parts [] after = after
spell_parts (p ∷ ps) after = spell_part p (spell_parts ps after)

-- ---- typenames

-- the type that the parts spell, and the lines of the stars
pub record WrittenName : Type 0 where
  pub parts : List TypePart
  pub types : TypeSpec
  pub stars : List ℕ

abbrev pub parts_line : List TypePart → ℕ
parts_line [] = 0
parts_line (p ∷ ps) = part_line p

abbrev pub plain_name : WrittenName → TypeName
plain_name y = record { line = parts_line y.parts; types = y.types; stars = length y.stars }

abbrev pub IsName : List Name → WrittenName → Type 0
IsName defs y = (spelled y.parts ≡ Some y.types) × AreParts defs y.parts

abbrev pub spell_stars : List ℕ → List Token → List Token
spell_stars [] after = after
spell_stars (l ∷ ls) after = mark l star ∷ spell_stars ls after

abbrev pub spell_name : WrittenName → List Token → List Token
spell_name y after = spell_parts y.parts (spell_stars y.stars after)
