-- The text that is printed of items.
use Rattle.std.specs.Prelude.{ℕ, zero, suc, List, [], ◌∷◌, ◌++◌, codes}
use Rattle.asm_item.specs.declared.model.Word.{Word}
use Rattle.asm_item.specs.declared.model.Word.TheVariants as datum
use Rattle.asm_item.specs.declared.model.Item.{Item}
use Rattle.asm_item.specs.declared.model.Item.TheVariants as items
use Rattle.asm_item.specs.declared.words.Keyword.TheVariants as words
use Rattle.asm_item.specs.Args.{Argument, plain, number, name, text, unsigned}
use Rattle.asm_item.specs.Statements.{Statement, bare, with_one, with_two, line_text}
use Rattle.asm_item.specs.Rows.{row, name_and}
use Rattle.asm_item.specs.Groups.{group_text}

abbrev pub name_argument : List ℕ → Argument
name_argument k = plain (name k)

abbrev pub number_argument : ℕ → Argument
number_argument n = plain (number (unsigned n))

abbrev pub datum_argument : Word → Argument
datum_argument (datum.Number n) = number_argument n
datum_argument (datum.Label k add) = plain (name_and k add)

abbrev pub section_statement : ℕ → Statement
section_statement zero = bare words.Text
section_statement (suc zero) = bare words.Text
section_statement (suc (suc n)) = bare words.Init

-- an item's line
abbrev pub item_text : Item → List ℕ
item_text (items.Code i l) = line_text (row i l)
item_text (items.Label k) = k ++ codes ":\n"
item_text (items.Byte n) = line_text (with_one words.Byte (number_argument n))
item_text (items.Value n) = line_text (with_one words.Value (number_argument n))
item_text (items.Long w) = line_text (with_one words.Long (datum_argument w))
item_text (items.Zero n) = line_text (with_one words.Zero (number_argument n))
item_text items.Align = line_text (with_one words.Align (number_argument 4))
item_text (items.Section s) = line_text (section_statement s)
item_text (items.Globl k) = line_text (with_one words.Globl (name_argument k))
item_text (items.Comm k n) = line_text (with_two words.Comm (name_argument k) (number_argument n))
item_text (items.Lcomm k n) = line_text (with_two words.Lcomm (name_argument k) (number_argument n))
item_text (items.Def g) = group_text g
item_text (items.Ln n) = line_text (with_one words.Ln (number_argument n))
item_text (items.File k) = line_text (with_one words.File (text k))

-- the text of the items, one line behind the other
abbrev pub text_of : List Item → List ℕ
text_of [] = []
text_of (i ∷ is) = item_text i ++ text_of is
