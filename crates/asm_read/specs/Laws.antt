-- The laws of this crate.
use Rattle.std.specs.Prelude.{◌≡◌, ◌↔◌, ℕ, ◌+◌, ◌≤◌, List, length, true, Ok, Err}
use Rattle.asm_item.specs.declared.model.Item.{Item}
use Rattle.asm_item.specs.Normal.{are_normal}
use Rattle.asm_item.specs.Printed.{text_of}
use Rattle.asm_read.specs.Tokens.{Tok, IsLine}
use Rattle.asm_read.specs.Lex.{lex}
use Rattle.asm_read.specs.Reading.{lines_of, text_stmts, reading}
use Rattle.asm_read.specs.Grammar.{IsText, Leaves, stmts}

-- each line is spelled by one list of tokens
abbrev pub LinesHaveTokens : Type 0
LinesHaveTokens = (bytes : List ℕ) (ts : List Tok) → IsLine bytes ts ↔ (ts ≡ lex bytes)

-- what is printed of normal items is read as these items
abbrev pub PrintedIsRead : Type 0
PrintedIsRead = (items : List Item) → are_normal items ≡ true → reading (text_of items) ≡ Ok items

-- only normal items are read
abbrev pub OnlyNormalIsRead : Type 0
OnlyNormalIsRead = (bytes : List ℕ) (items : List Item) → reading bytes ≡ Ok items → are_normal items ≡ true

-- a text has these items exactly where its statements are blocks, one behind the other, that make them
abbrev pub GrammarIsRead : Type 0
GrammarIsRead = (bytes : List ℕ) (items : List Item) → reading bytes ≡ Ok items ↔ IsText (stmts (text_stmts bytes)) items

-- where a text has none, the line is that at which its statements leave the grammar
abbrev pub OthersLeave : Type 0
OthersLeave = (bytes : List ℕ) (n : ℕ) → reading bytes ≡ Err n → Leaves (text_stmts bytes) n

-- a text has at most one line more than bytes
abbrev pub LinesAreFew : Type 0
LinesAreFew = (bytes : List ℕ) → length (lines_of bytes) ≤ length bytes + 1
