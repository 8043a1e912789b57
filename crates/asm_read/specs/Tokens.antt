-- How a line is spelled: tokens with white space between them, and perhaps a comment.
use Rattle.std.specs.Prelude.{◌≡◌, ℕ, List, [], ◌∷◌, ◌++◌, Bool, true, false, ◌==◌, ◌||◌, nat_le, ◌&&◌, if◌then◌else◌}
use Rattle.asm_item.specs.Normal.{is_name_byte}
use Rattle.asm_read.specs.declared.token.Sign.{Sign}
use Rattle.asm_read.specs.declared.token.Sign.TheVariants as signs

pub data Tok : Type 0 where
  Word : (w : List ℕ) → Tok
  Mark : (s : Sign) → Tok
  Text : (q : List ℕ) → Tok
  -- a quote that isn't closed
  Bad : Tok

pub data Class : Type 0 where
  Blank : Class
  Letter : Class
  Quote : Class
  Slash : Class
  Other : Class

-- blank, tab, newline, vertical tab, form feed, carriage return
abbrev pub is_blank_byte : ℕ → Bool
is_blank_byte c = c == 32 || (nat_le 9 c && nat_le c 13)

abbrev pub class : ℕ → Class
class c =
    if is_name_byte c then Letter
    else (if is_blank_byte c then Blank
    else (if c == 34 then Quote
    else (if c == 47 then Slash else Other)))

abbrev pub is_letter : Class → Bool
is_letter Blank = false
is_letter Letter = true
is_letter Quote = false
is_letter Slash = false
is_letter Other = false

-- the mark that a byte makes
abbrev pub sign_of : ℕ → Sign
sign_of c =
    if c == 44 then signs.Comma
    else (if c == 59 then signs.Semicolon
    else (if c == 58 then signs.Colon
    else (if c == 37 then signs.Percent
    else (if c == 36 then signs.Dollar
    else (if c == 45 then signs.Minus
    else (if c == 43 then signs.Plus
    else (if c == 40 then signs.Open
    else (if c == 41 then signs.Close
    else (if c == 42 then signs.Star else signs.Other c)))))))))

abbrev pub sign_byte : Sign → ℕ
sign_byte signs.Comma = 44
sign_byte signs.Semicolon = 59
sign_byte signs.Colon = 58
sign_byte signs.Percent = 37
sign_byte signs.Dollar = 36
sign_byte signs.Minus = 45
sign_byte signs.Plus = 43
sign_byte signs.Open = 40
sign_byte signs.Close = 41
sign_byte signs.Star = 42
sign_byte (signs.Other c) = c

-- whether a word would go on
abbrev pub goes_on : List ℕ → Bool
goes_on [] = false
goes_on (c ∷ cs) = is_letter (class c)

-- what stands in a line
pub data Piece : Type 0 where
  White : (c : ℕ) → Piece
  One : (t : Tok) → Piece

-- how a line ends: with its last token, a comment, or a quote that isn't closed
pub data End : Type 0 where
  Nothing : End
  Comment : (bytes : List ℕ) → End
  Open : (bytes : List ℕ) → End

abbrev pub end_bytes : End → List ℕ
end_bytes Nothing = []
end_bytes (Comment bytes) = 47 ∷ bytes
end_bytes (Open bytes) = 34 ∷ bytes

abbrev pub spell_piece : Piece → List ℕ → List ℕ
spell_piece (White c) rest = c ∷ rest
spell_piece (One (Word w)) rest = w ++ rest
spell_piece (One (Mark s)) rest = sign_byte s ∷ rest
spell_piece (One (Text q)) rest = 34 ∷ (q ++ (34 ∷ rest))
spell_piece (One Bad) rest = rest

abbrev pub spell : List Piece → End → List ℕ
spell [] e = end_bytes e
spell (p ∷ ps) e = spell_piece p (spell ps e)

abbrev pub tokens_of : List Piece → End → List Tok
tokens_of [] Nothing = []
tokens_of [] (Comment bytes) = []
tokens_of [] (Open bytes) = Bad ∷ []
tokens_of (White c ∷ ps) e = tokens_of ps e
tokens_of (One t ∷ ps) e = t ∷ tokens_of ps e

abbrev pub IsWord : List ℕ → Type 0
IsWord [] = ⊥
IsWord (c ∷ []) = class c ≡ Letter
IsWord (c ∷ (d ∷ w)) = (class c ≡ Letter) × IsWord (d ∷ w)

abbrev pub NoQuote : List ℕ → Type 0
NoQuote [] = Unit {0}
NoQuote (c ∷ q) = ((c == 34) ≡ false) × NoQuote q

-- a mark is a byte of no other kind
abbrev pub IsMark : Sign → Type 0
IsMark s = (class (sign_byte s) ≡ Other) × (sign_of (sign_byte s) ≡ s)

-- a word ends where no further letter stands
abbrev pub IsPiece : Piece → List ℕ → Type 0
IsPiece (White c) after = class c ≡ Blank
IsPiece (One (Word w)) after = IsWord w × (goes_on after ≡ false)
IsPiece (One (Mark s)) after = IsMark s
IsPiece (One (Text q)) after = NoQuote q
IsPiece (One Bad) after = ⊥

abbrev pub IsEnd : End → Type 0
IsEnd Nothing = Unit {0}
IsEnd (Comment bytes) = Unit {0}
IsEnd (Open bytes) = NoQuote bytes

abbrev pub ArePieces : List Piece → End → Type 0
ArePieces [] e = IsEnd e
ArePieces (p ∷ ps) e = IsPiece p (spell ps e) × ArePieces ps e

-- the bytes of a line are spelled by these tokens
pub record IsLine (bytes : List ℕ) (ts : List Tok) : Type 0 where
  pub pieces : List Piece
  pub end : End
  pub are : ArePieces pieces end
  pub bytes_are : bytes ≡ spell pieces end
  pub tokens_are : ts ≡ tokens_of pieces end
