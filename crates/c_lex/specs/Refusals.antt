-- What a refusal says of a text.
use Rattle.std.specs.Prelude.{◌≡◌, ℕ, List}
use Rattle.c_lex.specs.Tokens.{Token}
use Rattle.c_lex.specs.Pieces.{Piece}
use Rattle.c_lex.specs.Falls.{IsBad, IsBadByte, IsTooLarge, IsOpenComment, IsOpenText, ArePieces, spelled, tokens_from, line_after}
use Rattle.c_lex.specs.declared.pieces.Fault.{Fault}
use Rattle.c_lex.specs.declared.pieces.Fault.TheVariants as f
use Rattle.c_lex.specs.declared.pieces.Fault.TheVariants.{Byte, Large, Comment, Quoted}
use Rattle.c_lex.specs.declared.reader.LexErr.{LexErr}
use Rattle.c_lex.specs.declared.reader.LexErr.TheVariants.{BadByte, OpenComment, OpenText, NumberTooLarge, Memory}

-- The first bad place of the text is of that kind and stands on that line. Want of memory says nothing.
abbrev pub Refuses : LexErr → List ℕ → Type 0
Refuses (BadByte l) bytes = IsBad IsBadByte bytes l
Refuses (OpenComment l) bytes = IsBad IsOpenComment bytes l
Refuses (OpenText l) bytes = IsBad IsOpenText bytes l
Refuses (NumberTooLarge l) bytes = IsBad IsTooLarge bytes l
Refuses Memory bytes = Unit {0}

-- What has been read: pieces that give these tokens and end on that line before the rest of the text.
pub record HasRead (bytes : List ℕ) (tokens : List Token) (line : ℕ) (rest : List ℕ) : Type 0 where
  pub pieces : List Piece
  pub are : ArePieces pieces rest
  pub bytes_are : bytes ≡ spelled pieces rest
  pub tokens_are : tokens ≡ tokens_from 1 pieces
  pub line_is : line ≡ line_after 1 pieces

abbrev pub refusal : Fault → ℕ → LexErr
refusal Byte l = BadByte l
refusal Large l = NumberTooLarge l
refusal Comment l = OpenComment l
refusal Quoted l = OpenText l
refusal f.Memory l = Memory
