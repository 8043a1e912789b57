-- Which tokens a C text falls into, and its first bad place.
-- It states docs/LANGUAGE.md, section Tokens.
use Rattle.std.specs.Prelude.{◌≡◌, ◌⊎◌, ◌<◌, ℕ, ◌+◌, List, [], ◌∷◌, ◌++◌, Bool, true, false, ◌||◌, nat_eq, Option, Some, None}
use Rattle.c_lex.specs.Tokens.{Tok, Token, marks}
use Rattle.c_lex.specs.Bytes.{is_white, is_digit, is_run_byte, begins_name, are, begins, newlines}
use Rattle.c_lex.specs.Pieces.{Item, item_bytes, items_bytes, IsItem, AreItems, Number, number_bytes, number_value, IsNumber, suffix_bytes, IsSuffix, IsOpen, Piece, piece_bytes, IsPiece, token_of}

-- the bytes of the pieces, and then the others
abbrev pub spelled : List Piece → List ℕ → List ℕ
spelled [] after = after
spelled (p ∷ ps) after = piece_bytes p ++ spelled ps after

-- pieces that stand one behind the other before these bytes
abbrev pub ArePieces : List Piece → List ℕ → Type 0
ArePieces [] after = Unit {0}
ArePieces (p ∷ ps) after = IsPiece p (spelled ps after) × ArePieces ps after

-- the line on which the pieces end
abbrev pub line_after : ℕ → List Piece → ℕ
line_after line [] = line
line_after line (p ∷ ps) = line_after (line + newlines (piece_bytes p)) ps

-- a token of the line before others, where there is one
abbrev pub with_token : ℕ → Option Tok → List Token → List Token
with_token line None ts = ts
with_token line (Some k) ts = record { kind = k; line = line } ∷ ts

-- the tokens of the pieces, each with the line on which it begins
abbrev pub tokens_from : ℕ → List Piece → List Token
tokens_from line [] = []
tokens_from line (p ∷ ps) = with_token line (token_of p) (tokens_from (line + newlines (piece_bytes p)) ps)

-- The text falls into these tokens.
pub record Falls (bytes : List ℕ) (tokens : List Token) : Type 0 where
  pub pieces : List Piece
  pub are : ArePieces pieces []
  pub bytes_are : bytes ≡ spelled pieces []
  pub tokens_are : tokens ≡ tokens_from 1 pieces

-- a byte with which a mark of one byte is spelled
abbrev pub is_mark_in : List (List ℕ) → ℕ → Bool
is_mark_in [] b = false
is_mark_in ([] ∷ ms) b = is_mark_in ms b
is_mark_in ((m ∷ []) ∷ ms) b = nat_eq m b || is_mark_in ms b
is_mark_in ((m ∷ n ∷ bs) ∷ ms) b = is_mark_in ms b

-- whether a piece may begin with the byte
abbrev pub begins_piece : ℕ → Bool
begins_piece b = is_white b || (begins_name b || (is_digit b || (nat_eq b 39 || (nat_eq b 34 || is_mark_in marks b))))

-- The bytes begin with a run of letters and digits that is no number.
pub record IsBadRun (bytes : List ℕ) : Type 0 where
  pub run : List ℕ
  pub after : List ℕ
  pub bytes_are : bytes ≡ run ++ after
  pub digit : begins is_digit run ≡ true
  pub whole : are is_run_byte run ≡ true
  pub ends : begins is_run_byte after ≡ false
  pub bad : (n : Number) (l : Option ℕ) → IsNumber n → IsSuffix l → run ≡ number_bytes n ++ suffix_bytes l → ⊥

-- a byte with which nothing begins, or a run of another form than a number's
abbrev pub IsBadByte : List ℕ → Type 0
IsBadByte [] = ⊥
IsBadByte (b ∷ bs) = (begins_piece b ≡ false) ⊎ IsBadRun (b ∷ bs)

-- The bytes begin with a number above 4294967295.
pub record IsTooLarge (bytes : List ℕ) : Type 0 where
  pub n : Number
  pub l : Option ℕ
  pub after : List ℕ
  pub is : IsNumber n
  pub suffix : IsSuffix l
  pub bytes_are : bytes ≡ (number_bytes n ++ suffix_bytes l) ++ after
  pub ends : begins is_run_byte after ≡ false
  pub large : 4294967295 < number_value n

-- a comment that isn't closed
pub record IsOpenComment (bytes : List ℕ) : Type 0 where
  pub inside : List ℕ
  pub bytes_are : bytes ≡ 47 ∷ 42 ∷ inside
  pub never : IsOpen inside

-- a character that isn't one byte or escape and the closing mark
pub record IsOpenChar (bytes : List ℕ) : Type 0 where
  pub inside : List ℕ
  pub bytes_are : bytes ≡ 39 ∷ inside
  pub never : (i : Item) (after : List ℕ) → IsItem 39 i (39 ∷ after) → inside ≡ item_bytes i ++ 39 ∷ after → ⊥

-- a text that isn't closed
pub record IsOpenString (bytes : List ℕ) : Type 0 where
  pub inside : List ℕ
  pub bytes_are : bytes ≡ 34 ∷ inside
  pub never : (is : List Item) (after : List ℕ) → AreItems 34 is (34 ∷ after) → inside ≡ items_bytes is ++ 34 ∷ after → ⊥

-- a character or a text that isn't closed
abbrev pub IsOpenText : List ℕ → Type 0
IsOpenText bytes = IsOpenChar bytes ⊎ IsOpenString bytes

-- The text is pieces up to a place on that line, where the rest of it is bad.
pub record IsBad (Bad : List ℕ → Type 0) (bytes : List ℕ) (line : ℕ) : Type 0 where
  pub pieces : List Piece
  pub rest : List ℕ
  pub are : ArePieces pieces rest
  pub bytes_are : bytes ≡ spelled pieces rest
  pub bad : Bad rest
  pub line_is : line ≡ line_after 1 pieces
