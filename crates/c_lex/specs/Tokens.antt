-- The tokens of a C text as plain data, and the lists of its words and marks.
-- It states docs/LANGUAGE.md, section Tokens.
use Rattle.std.specs.Prelude.{ℕ, List, [], ◌∷◌, Bool, codes}
use Rattle.c_type.specs.Names.{Name}

-- A word or a mark is its place in the list of words or of marks, from 0. A text has its bytes without the closing zero.
pub data Tok : Type 0 where
  name : (x : Name) → Tok
  int : (n : ℕ) (long : Bool) → Tok
  chr : (n : ℕ) → Tok
  text : (bytes : List ℕ) → Tok
  word : (k : ℕ) → Tok
  mark : (k : ℕ) → Tok

-- a token with the line at which it begins
pub record Token : Type 0 where
  pub kind : Tok
  pub line : ℕ

-- the words of the language; the last five stand in no production
abbrev pub words : List (List ℕ)
words =
    codes "auto" ∷ codes "break" ∷ codes "case" ∷ codes "char" ∷ codes "continue" ∷ codes "default" ∷ codes "do" ∷ codes "else"
    ∷ codes "enum" ∷ codes "extern" ∷ codes "for" ∷ codes "if" ∷ codes "int" ∷ codes "long" ∷ codes "register" ∷ codes "return"
    ∷ codes "short" ∷ codes "sizeof" ∷ codes "static" ∷ codes "struct" ∷ codes "switch" ∷ codes "typedef" ∷ codes "unsigned"
    ∷ codes "void" ∷ codes "while" ∷ codes "asm" ∷ codes "double" ∷ codes "float" ∷ codes "goto" ∷ codes "union" ∷ []

-- the marks of the language
abbrev pub marks : List (List ℕ)
marks =
    codes "<<=" ∷ codes ">>=" ∷ codes "++" ∷ codes "--" ∷ codes "->" ∷ codes "<<" ∷ codes ">>" ∷ codes "<=" ∷ codes ">="
    ∷ codes "==" ∷ codes "!=" ∷ codes "&&" ∷ codes "||" ∷ codes "+=" ∷ codes "-=" ∷ codes "*=" ∷ codes "/=" ∷ codes "%="
    ∷ codes "&=" ∷ codes "|=" ∷ codes "^=" ∷ codes "(" ∷ codes ")" ∷ codes "[" ∷ codes "]" ∷ codes "{" ∷ codes "}"
    ∷ codes "." ∷ codes "," ∷ codes ";" ∷ codes ":" ∷ codes "?" ∷ codes "=" ∷ codes "+" ∷ codes "-" ∷ codes "*" ∷ codes "/"
    ∷ codes "%" ∷ codes "&" ∷ codes "|" ∷ codes "^" ∷ codes "~" ∷ codes "!" ∷ codes "<" ∷ codes ">" ∷ []
