-- The tokens of a line, from its end on.
use Rattle.std.specs.Prelude.{ℕ, suc, List, [], ◌∷◌, Bool, ◌==◌, ◌+◌, if◌then◌else◌, Option, Some, None, map}
use Rattle.asm_item.specs.Normal.{is_name_byte}
use Rattle.asm_read.specs.declared.token.Token.{Token}
use Rattle.asm_read.specs.declared.token.Token.TheVariants as tokens
use Rattle.asm_read.specs.Tokens.{Tok, Word, Mark, Text, Bad, Class, Blank, Letter, Quote, Slash, Other, class, sign_of, goes_on}

abbrev pub longer : ℕ → List Tok → List Tok
longer c (Word w ∷ ts) = Word (c ∷ w) ∷ ts
longer c ts = Word (c ∷ []) ∷ ts

abbrev pub onto : ℕ → List Tok → List Tok
onto c (Text q ∷ ts) = Text (c ∷ q) ∷ ts
onto c ts = ts

abbrev pub lex_by : Class → ℕ → Bool → List Tok → List Tok → List Tok
lex_by Blank c more rest text = rest
lex_by Letter c more rest text = if more then longer c rest else Word (c ∷ []) ∷ rest
lex_by Quote c more rest text = text
lex_by Slash c more rest text = []
lex_by Other c more rest text = Mark (sign_of c) ∷ rest

abbrev mutual
  pub lex : List ℕ → List Tok
  lex [] = []
  lex (c ∷ cs) = lex_by (class c) c (goes_on cs) (lex cs) (quoted cs)

  pub quoted : List ℕ → List Tok
  quoted [] = Bad ∷ []
  quoted (c ∷ cs) = if c == 34 then Text [] ∷ lex cs else onto c (quoted cs)

-- the code's tokens, which borrow their bytes
abbrev pub shown : Token → Tok
shown (tokens.Word w) = Word w.now
shown (tokens.Mark s) = Mark s
shown (tokens.Text q) = Text q.now
shown tokens.Bad = Bad

abbrev pub all_shown : List Token → List Tok
all_shown ts = map shown ts

-- how many bytes of a word come first
abbrev pub word_length : List ℕ → ℕ
word_length [] = 0
word_length (c ∷ cs) = if is_name_byte c then suc (word_length cs) else 0

abbrev pub one_more : Option ℕ → Option ℕ
one_more None = None
one_more (Some n) = Some (suc n)

-- how many bytes come before a quote, if there is one
abbrev pub text_length : List ℕ → Option ℕ
text_length [] = None
text_length (c ∷ cs) = if c == 34 then Some 0 else one_more (text_length cs)

abbrev pub placed_at : ℕ → Option ℕ → Option ℕ
placed_at at None = None
placed_at at (Some n) = Some (at + n)
