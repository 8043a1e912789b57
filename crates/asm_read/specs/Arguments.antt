-- The arguments of a statement, by their tokens.
use Rattle.std.specs.Prelude.{ℕ, zero, suc, List, [], ◌∷◌, Bool, true, false, if◌then◌else◌, Option, Some, None, codes}
use Rattle.std.specs.List.{slice_split}
use Rattle.std.specs.Str.{bytes_eq}
use Rattle.asm_item.specs.declared.args.Number.{Number}
use Rattle.asm_item.specs.declared.args.Size.{Size}
use Rattle.asm_item.specs.declared.args.Size.TheVariants as sizes
use Rattle.asm_item.specs.Args.{Op, register, number, name, plus, minus, base, Argument, plain, star, imm, imm_name, text, here, register_text, registers}
use Rattle.asm_item.specs.Normal.{is_name}
use Rattle.asm_read.specs.declared.token.Sign.{Sign}
use Rattle.asm_read.specs.declared.token.Sign.TheVariants as signs
use Rattle.asm_read.specs.Tokens.{Tok, Word, Mark, Text, Bad}
use Rattle.asm_read.specs.Numerals.{◌>>=◌, numeral}

-- the greatest number below this one whose register has the name
abbrev pub number_by : (ℕ → List ℕ) → ℕ → List ℕ → Option ℕ
number_by names zero w = None
number_by names (suc r) w = if bytes_eq w (names r) then Some r else number_by names r w

-- the register of this size and name
unfoldable pub register_number : Size → List ℕ → Option ℕ
register_number size w = number_by (register_text size) (registers size) w

abbrev pub of_size : Size → Option ℕ → Option Op → Option Op
of_size size None other = other
of_size size (Some r) other = Some (register size r)

-- the register of this name
abbrev pub register_named : List ℕ → Option Op
register_named w = of_size sizes.Full (register_number sizes.Full w) (of_size sizes.Short (register_number sizes.Short w) (of_size sizes.Byte (register_number sizes.Byte w) None))

-- a number with this sign
abbrev pub sized : Bool → List ℕ → Option Number
sized m w = numeral w >>= λ n. Some record { minus = m; size = n }

-- a number, with `-` before it or not
abbrev pub number_at : List Tok → Option Number
number_at (Word w ∷ []) = sized false w
number_at (Mark signs.Minus ∷ (Word w ∷ [])) = sized true w
number_at ts = None

-- a number, and `(%reg)` behind it
abbrev pub based : Option Number → List Tok → Option Op
based None ts = None
based (Some n) (Mark signs.Percent ∷ (Word w ∷ (Mark signs.Close ∷ []))) = register_number sizes.Full w >>= λ r. Some (base n r)
based (Some n) ts = None

-- a name and a number that is added to it or taken off
abbrev pub plus_at : List ℕ → List Tok → Option Op
plus_at k ts = if is_name k then (number_at ts >>= λ n. Some (plus k n)) else None

abbrev pub minus_at : List ℕ → List Tok → Option Op
minus_at k ts = if is_name k then (number_at ts >>= λ n. Some (minus k n)) else None

-- a name or a number alone
abbrev pub single : List ℕ → Option Op
single w = if is_name w then Some (name w) else (sized false w >>= λ n. Some (number n))

-- behind a word
abbrev pub word_operand : List ℕ → List Tok → Option Op
word_operand w [] = single w
word_operand w (Mark signs.Plus ∷ ts) = plus_at w ts
word_operand w (Mark signs.Minus ∷ ts) = minus_at w ts
word_operand w (Mark signs.Open ∷ ts) = based (sized false w) ts
word_operand w ts = None

-- behind `-` and a word
abbrev pub minus_operand : List ℕ → List Tok → Option Op
minus_operand w [] = sized true w >>= λ n. Some (number n)
minus_operand w (Mark signs.Open ∷ ts) = based (sized true w) ts
minus_operand w ts = None

-- what may stand alone or behind `*`
abbrev pub operand_at : List Tok → Option Op
operand_at (Word w ∷ ts) = word_operand w ts
operand_at (Mark signs.Percent ∷ (Word w ∷ [])) = register_named w
operand_at (Mark signs.Minus ∷ (Word w ∷ ts)) = minus_operand w ts
operand_at (Mark signs.Open ∷ ts) = based (Some record { minus = false; size = 0 }) ts
operand_at ts = None

-- behind `$`
abbrev pub immediate_at : List Tok → Option Argument
immediate_at (Word w ∷ []) = if is_name w then Some (imm_name w) else (sized false w >>= λ n. Some (imm n))
immediate_at ts = number_at ts >>= λ n. Some (imm n)

abbrev pub plain_at : List Tok → Option Argument
plain_at ts = operand_at ts >>= λ o. Some (plain o)

abbrev pub star_at : List Tok → Option Argument
star_at ts = operand_at ts >>= λ o. Some (star o)

-- a word alone; `.` is the present place
abbrev pub word_at : List ℕ → List Tok → Option Argument
word_at w ts = if bytes_eq w (codes ".") then Some here else plain_at ts

-- what begins with a mark, with what stands behind the mark
abbrev pub mark_at : Sign → List Tok → List Tok → Option Argument
mark_at signs.Dollar ts rest = immediate_at rest
mark_at signs.Star ts rest = star_at rest
mark_at s ts rest = plain_at ts

-- what begins with a word, with what stands behind the word
abbrev pub word_first : List ℕ → List Tok → List Tok → Option Argument
word_first w ts [] = word_at w ts
word_first w ts (t ∷ rest) = plain_at ts

-- a text alone
abbrev pub text_first : List ℕ → List Tok → Option Argument
text_first q [] = Some (text q)
text_first q (t ∷ rest) = None

-- an argument
abbrev pub argument_at : List Tok → Option Argument
argument_at [] = None
argument_at (Mark s ∷ ts) = mark_at s (Mark s ∷ ts) ts
argument_at (Word w ∷ ts) = word_first w (Word w ∷ ts) ts
argument_at (Text q ∷ ts) = text_first q ts
argument_at (Bad ∷ ts) = None

abbrev pub is_comma : Tok → Bool
is_comma (Mark signs.Comma) = true
is_comma t = false

-- each part is an argument
abbrev pub each_argument : List (List Tok) → Option (List Argument)
each_argument [] = Some []
each_argument (part ∷ parts) = argument_at part >>= λ a. each_argument parts >>= λ more. Some (a ∷ more)

-- arguments with commas between them, or none
abbrev pub arguments_at : List Tok → Option (List Argument)
arguments_at [] = Some []
arguments_at (t ∷ ts) = each_argument (slice_split is_comma (t ∷ ts))
