-- The pieces of which a C text is written: white bytes, comments and tokens.
-- It states docs/LANGUAGE.md, section Tokens.
use Rattle.std.specs.Prelude.{◌≡◌, ◌⊎◌, ◌<◌, ◌≤◌, ℕ, ◌%◌, ◌+◌, List, [], ◌∷◌, ◌++◌, length, map, Bool, true, false, Option, Some, None, nat_eq}
use Rattle.c_type.specs.Names.{at_or, pick, same_name}
use Rattle.c_lex.specs.Tokens.{Tok, Token, int, word, words, marks}
use Rattle.c_lex.specs.Tokens as t
use Rattle.c_lex.specs.Bytes.{is_white, is_digit, is_octal, is_hexadecimal, is_between, begins_name, is_name_byte, is_run_byte, are, begins, value_from}

-- What stands for one byte between quotes: the byte, a backslash and a byte, or a backslash and octal digits.
pub data Item : Type 0 where
  plain : (b : ℕ) → Item
  escape : (b : ℕ) → Item
  code : (digits : List ℕ) → Item

-- the bytes of an item
abbrev pub item_bytes : Item → List ℕ
item_bytes (plain b) = b ∷ []
item_bytes (escape b) = 92 ∷ b ∷ []
item_bytes (code ds) = 92 ∷ ds

-- `n t b r f v` stand for 10, 9, 8, 13, 12, 11, and any other byte for itself
abbrev pub escaped : ℕ → ℕ
escaped b =
    pick (nat_eq b 110) 10 (pick (nat_eq b 116) 9 (pick (nat_eq b 98) 8 (pick (nat_eq b 114) 13 (pick (nat_eq b 102) 12 (pick (nat_eq b 118) 11 b)))))

-- the byte that an item stands for
abbrev pub item_value : Item → ℕ
item_value (plain b) = b
item_value (escape b) = escaped b
item_value (code ds) = value_from 8 0 ds % 256

-- an item before the closing mark and, behind it, these bytes: it has as many octal digits as stand there, up to three
abbrev pub IsItem : (close : ℕ) → Item → List ℕ → Type 0
IsItem close (plain b) after = (nat_eq b 10 ≡ false) × (nat_eq b 92 ≡ false) × (nat_eq b close ≡ false)
IsItem close (escape b) after = (nat_eq b 10 ≡ false) × (is_octal b ≡ false)
IsItem close (code ds) after =
    (are is_octal ds ≡ true) × (1 ≤ length ds) × (length ds ≤ 3) × ((length ds ≡ 3) ⊎ (begins is_octal after ≡ false))

-- the bytes of items, one behind the other
abbrev pub items_bytes : List Item → List ℕ
items_bytes [] = []
items_bytes (i ∷ is) = item_bytes i ++ items_bytes is

-- items before the closing mark, each before those behind it
abbrev pub AreItems : (close : ℕ) → List Item → List ℕ → Type 0
AreItems close [] after = Unit {0}
AreItems close (i ∷ is) after = IsItem close i (items_bytes is ++ after) × AreItems close is after

-- A number's digits, those of the second after a leading 0 and of the third after `0x` or `0X`.
pub data Number : Type 0 where
  decimal : (digits : List ℕ) → Number
  octal : (digits : List ℕ) → Number
  hexadecimal : (x : ℕ) (digits : List ℕ) → Number

-- the bytes of a number without its suffix
abbrev pub number_bytes : Number → List ℕ
number_bytes (decimal ds) = ds
number_bytes (octal ds) = 48 ∷ ds
number_bytes (hexadecimal x ds) = 48 ∷ x ∷ ds

-- the value that a number spells
abbrev pub number_value : Number → ℕ
number_value (decimal ds) = value_from 10 0 ds
number_value (octal ds) = value_from 8 0 ds
number_value (hexadecimal x ds) = value_from 16 0 ds

-- digits of the base; a decimal number begins with no 0, and a hexadecimal one has a digit behind its `x`
abbrev pub IsNumber : Number → Type 0
IsNumber (decimal ds) = (are is_digit ds ≡ true) × (begins (is_between 49 57) ds ≡ true)
IsNumber (octal ds) = are is_octal ds ≡ true
IsNumber (hexadecimal x ds) = ((x ≡ 120) ⊎ (x ≡ 88)) × (are is_hexadecimal ds ≡ true) × (1 ≤ length ds)

-- the last `l` or `L` of a long number
abbrev pub suffix_bytes : Option ℕ → List ℕ
suffix_bytes None = []
suffix_bytes (Some l) = l ∷ []

-- no suffix, or `l`, or `L`
abbrev pub IsSuffix : Option ℕ → Type 0
IsSuffix None = Unit {0}
IsSuffix (Some l) = (l ≡ 108) ⊎ (l ≡ 76)

-- Comments and texts are without their marks. A name may be a word.
pub data Piece : Type 0 where
  white : (b : ℕ) → Piece
  comment : (bytes : List ℕ) → Piece
  name : (bytes : List ℕ) → Piece
  number : (n : Number) (suffix : Option ℕ) → Piece
  chr : (item : Item) → Piece
  text : (items : List Item) → Piece
  mark : (k : ℕ) → Piece

-- the bytes of a piece
abbrev pub piece_bytes : Piece → List ℕ
piece_bytes (white b) = b ∷ []
piece_bytes (comment bs) = 47 ∷ 42 ∷ (bs ++ 42 ∷ 47 ∷ [])
piece_bytes (name bs) = bs
piece_bytes (number n l) = number_bytes n ++ suffix_bytes l
piece_bytes (chr i) = 39 ∷ (item_bytes i ++ 39 ∷ [])
piece_bytes (text is) = 34 ∷ (items_bytes is ++ 34 ∷ [])
piece_bytes (mark k) = at_or [] marks k

-- the bytes hold no `*/`
abbrev pub IsOpen : List ℕ → Type 0
IsOpen bs = (a c : List ℕ) → bs ≡ a ++ 42 ∷ 47 ∷ c → ⊥

-- no mark that the bytes begin with is longer than the one with number k, and no comment begins there
pub record IsLongest (k : ℕ) (bytes : List ℕ) : Type 0 where
  pub known : k < length marks
  pub longest : (j : ℕ) (rest : List ℕ) → j < length marks → bytes ≡ at_or [] marks j ++ rest → length (at_or [] marks j) ≤ length (at_or [] marks k)
  pub no_comment : (rest : List ℕ) → bytes ≡ 47 ∷ 42 ∷ rest → ⊥

-- The piece may stand before these bytes: it is well formed, and no longer piece of its kind stands there.
abbrev pub IsPiece : Piece → List ℕ → Type 0
IsPiece (white b) after = is_white b ≡ true
IsPiece (comment bs) after = IsOpen bs
IsPiece (name bs) after = (begins begins_name bs ≡ true) × (are is_name_byte bs ≡ true) × (begins is_name_byte after ≡ false)
IsPiece (number n l) after = IsNumber n × IsSuffix l × (begins is_run_byte after ≡ false) × (number_value n ≤ 4294967295)
IsPiece (chr i) after = IsItem 39 i (39 ∷ after)
IsPiece (text is) after = AreItems 34 is (34 ∷ after)
IsPiece (mark k) after = IsLongest k (at_or [] marks k ++ after)

-- the place of the name in the list of words, counted from k
abbrev pub word_from : ℕ → List (List ℕ) → List ℕ → Option ℕ
word_from k [] bs = None
word_from k (w ∷ ws) bs = pick (same_name w bs) (Some k) (word_from (k + 1) ws bs)

-- a name, or the word that it is
abbrev pub name_or_word : List ℕ → Option ℕ → Tok
name_or_word bs None = t.name bs
name_or_word bs (Some k) = word k

-- whether a suffix stands
abbrev pub is_long : Option ℕ → Bool
is_long None = false
is_long (Some l) = true

-- the token of a piece: white bytes and comments have none
abbrev pub token_of : Piece → Option Tok
token_of (white b) = None
token_of (comment bs) = None
token_of (name bs) = Some (name_or_word bs (word_from 0 words bs))
token_of (number n l) = Some (int (number_value n) (is_long l))
token_of (chr i) = Some (t.chr (item_value i))
token_of (text is) = Some (t.text (map item_value is))
token_of (mark k) = Some (t.mark k)
