-- What the code answers at the front of a text, against what stands there.
use Rattle.std.specs.Prelude.{◌≡◌, List, map, Option, Result, Ok, Err}
use Rattle.std.specs.Option.{option_map}
use Rattle.c_lex.specs.Tokens as t
use Rattle.c_lex.specs.declared.Tok.{Tok}
use Rattle.c_lex.specs.declared.Tok.TheVariants.{Name, Int, Chr, Text, Word, Mark}
use Rattle.c_lex.specs.declared.Token.{Token}
use Rattle.c_lex.specs.declared.Tokens.{Tokens}
use Rattle.c_lex.specs.declared.pieces.Found.{Found}
use Rattle.c_lex.specs.declared.pieces.Fault.{Fault}
use Rattle.c_lex.specs.declared.pieces.Fault.TheVariants.{Byte, Large, Comment, Quoted, Memory}
use Rattle.c_lex.specs.Reading.{Front, found, bad_byte, too_large, open_comment, open_text}

abbrev pub tok_of : Tok → t.Tok
tok_of (Name x) = t.name x
tok_of (Int n l) = t.int n l
tok_of (Chr b) = t.chr b
tok_of (Text x) = t.text x
tok_of (Word k) = t.word k
tok_of (Mark k) = t.mark k

abbrev pub token_of : Token → t.Token
token_of x = record { kind = tok_of x.kind; line = x.line }

abbrev pub tokens_of : Tokens → List t.Token
tokens_of x = map token_of x.list.items

abbrev pub fault_front : Fault → Front → Type 0
fault_front Byte f = f ≡ bad_byte
fault_front Large f = f ≡ too_large
fault_front Comment f = f ≡ open_comment
fault_front Quoted f = f ≡ open_text
fault_front Memory f = Unit {0}

abbrev pub Shows : Front → Result Found Fault → Type 0
Shows f (Ok x) = f ≡ found (option_map tok_of x.kind) x.rest.now
Shows f (Err e) = fault_front e f

abbrev pub shown : Option Tok → Option t.Tok
shown o = option_map tok_of o
