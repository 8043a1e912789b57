-- A statement: a word and its arguments, and its text.
use Rattle.std.specs.Prelude.{ℕ, List, [], ◌∷◌, ◌++◌, codes}
use Rattle.asm_item.specs.declared.words.Keyword.{Keyword}
use Rattle.asm_item.specs.Words.{keyword_text}
use Rattle.asm_item.specs.Args.{Argument, argument_text}

pub record Statement : Type 0 where
  pub word : Keyword
  pub args : List Argument

abbrev pub bare : Keyword → Statement
bare w = record { word = w; args = [] }

abbrev pub with_one : Keyword → Argument → Statement
with_one w a = record { word = w; args = a ∷ [] }

abbrev pub with_two : Keyword → Argument → Argument → Statement
with_two w a b = record { word = w; args = a ∷ (b ∷ []) }

-- a comma and a blank before each further argument
abbrev pub further_text : List Argument → List ℕ
further_text [] = []
further_text (a ∷ more) = codes ", " ++ (argument_text a ++ further_text more)

-- a blank before the first argument
abbrev pub arguments_text : List Argument → List ℕ
arguments_text [] = []
arguments_text (a ∷ more) = 32 ∷ (argument_text a ++ further_text more)

abbrev pub statement_text : Statement → List ℕ
statement_text s = keyword_text s.word ++ arguments_text s.args

-- a line of one statement: a tab before it, a newline behind it
abbrev pub line_text : Statement → List ℕ
line_text s = 9 ∷ (statement_text s ++ (10 ∷ []))
