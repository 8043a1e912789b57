-- What a line says: labels and statements, each by its row.
use Rattle.std.specs.Prelude.{ℕ, ◌-◌, ◌%◌, List, [], ◌∷◌, ℤ, pos, Bool, true, false, ◌==◌, if◌then◌else◌, Option, Some, None, find, nat_le, length}
use Rattle.std.specs.List.{slice_split, flat_map}
use Rattle.std.specs.Option.{option_map}
use Rattle.std.specs.Str.{bytes_eq}
use Rattle.std.specs.Int.{w32, cast_signed}
use Rattle.asm_item.specs.declared.model.Word.{Word}
use Rattle.asm_item.specs.declared.model.Word.TheVariants as words_of
use Rattle.asm_item.specs.declared.model.Val.{Val}
use Rattle.asm_item.specs.declared.model.Val.TheVariants as values
use Rattle.asm_item.specs.declared.model.Item.{Item}
use Rattle.asm_item.specs.declared.model.Item.TheVariants as items
use Rattle.asm_item.specs.declared.words.Keyword.{Keyword}
use Rattle.asm_item.specs.declared.words.Keyword.TheVariants as words
use Rattle.asm_item.specs.declared.args.Number.{Number}
use Rattle.asm_item.specs.Args.{Argument, plain, number, name, plus, minus, text, here}
use Rattle.asm_item.specs.Words.{keyword_text}
use Rattle.asm_item.specs.Groups.{Part, val, scl, ty, tag, line, size, dims}
use Rattle.asm_item.specs.Normal.{is_name, is_file}
use Rattle.asm_read.specs.declared.token.Sign.TheVariants as signs
use Rattle.asm_read.specs.declared.keywords.TheConstants.{KEYWORDS}
use Rattle.asm_read.specs.Tokens as t
use Rattle.asm_read.specs.Tokens.{Tok}
use Rattle.asm_read.specs.Numerals.{◌>>=◌, byte_of, half_of, full_of, signed_of}
use Rattle.asm_read.specs.Arguments.{arguments_at}
use Rattle.asm_read.specs.Table.{Coded, is_number, two, one, alone}

-- a statement by its row
pub data Stmt : Type 0 where
  -- an item that is one statement
  item : (i : Item) → Stmt
  -- .def
  begin : (k : List ℕ) → Stmt
  -- a part of a group
  part : (p : Part) → Stmt
  -- .endef
  end : Stmt
  -- what stands nowhere
  wrong : Stmt

abbrev pub one_item : Option Item → Option Stmt
one_item i = i >>= λ i. Some (item i)

abbrev pub one_part : Option Part → Option Stmt
one_part p = p >>= λ p. Some (part p)

abbrev pub code : Option Coded → Option Stmt
code c = c >>= λ c. Some (item (items.Code c.ins c.label))

-- ---- one argument

-- a plain name, a plain number
abbrev pub name_of : Argument → Option (List ℕ)
name_of (plain (name k)) = Some k
name_of a = None

abbrev pub number_of : Argument → Option Number
number_of (plain (number n)) = Some n
number_of a = None

abbrev pub file : Argument → Option Item
file (text q) = if is_file q then Some (items.File q) else None
file a = None

-- the number that is taken off, in 32 bits with its sign
abbrev pub opposite : Number → Option ℤ
opposite n = full_of n >>= λ x. Some (cast_signed w32 ((4294967296 - x) % 4294967296))

abbrev pub word_label : List ℕ → Option ℤ → Option Word
word_label k add = add >>= λ z. Some (words_of.Label k z)

abbrev pub datum : Argument → Option Word
datum (plain (number n)) = option_map (λ x. words_of.Number x) (full_of n)
datum (plain (name k)) = word_label k (Some (pos 0))
datum (plain (plus k n)) = word_label k (signed_of n)
datum (plain (minus k n)) = word_label k (opposite n)
datum a = None

abbrev pub value : Argument → Option Val
value (plain (number n)) = option_map (λ x. values.Number x) (full_of n)
value (plain (name k)) = Some (values.Label k)
value here = Some values.Here
value a = None

-- a number of 32 bits, of 16, of 8
abbrev pub full : Argument → Option ℕ
full a = number_of a >>= λ n. full_of n

abbrev pub half : Argument → Option ℕ
half a = number_of a >>= λ n. half_of n

abbrev pub byte : Argument → Option ℕ
byte a = number_of a >>= λ n. byte_of n

abbrev pub signed : Argument → Option ℤ
signed a = number_of a >>= λ n. signed_of n

abbrev pub each_half : List Argument → Option (List ℕ)
each_half [] = Some []
each_half (a ∷ more) = half a >>= λ n. each_half more >>= λ ns. Some (n ∷ ns)

abbrev pub dimensions : List Argument → Option Part
dimensions more = option_map (λ ns. dims ns) (each_half more)

abbrev pub line_number : Argument → Option Item
line_number a = half a >>= λ n. if n == 0 then None else Some (items.Ln n)

abbrev pub align : Argument → Option Item
align a = if is_number 4 (full a) then Some items.Align else None

-- ---- rows

abbrev pub bare_statement : Keyword → Option Stmt
bare_statement words.Text = Some (item (items.Section 1))
bare_statement words.Init = Some (item (items.Section 2))
bare_statement words.Endef = Some end
bare_statement w = code (alone w)

-- the item of a directive and an argument
abbrev pub directive : Keyword → Argument → Option Item
directive words.File a = file a
directive words.Globl a = option_map (λ k. items.Globl k) (name_of a)
directive words.Byte a = option_map (λ n. items.Byte n) (byte a)
directive words.Value a = option_map (λ n. items.Value n) (half a)
directive words.Long a = option_map (λ w. items.Long w) (datum a)
directive words.Zero a = option_map (λ n. items.Zero n) (full a)
directive words.Align a = align a
directive words.Ln a = line_number a
directive w a = None

-- the part of a group of a word and an argument
abbrev pub group_part : Keyword → Argument → Option Part
group_part words.Val a = option_map (λ v. val v) (value a)
group_part words.Scl a = option_map (λ z. scl z) (signed a)
group_part words.Ty a = option_map (λ n. ty n) (half a)
group_part words.Tag a = option_map (λ k. tag k) (name_of a)
group_part words.Line a = option_map (λ n. line n) (half a)
group_part words.Size a = option_map (λ n. size n) (half a)
group_part w a = None

abbrev pub begin_of : Argument → Option Stmt
begin_of a = option_map (λ k. begin k) (name_of a)

abbrev pub one_statement : Keyword → Argument → Option Stmt
one_statement words.File a = one_item (directive words.File a)
one_statement words.Globl a = one_item (directive words.Globl a)
one_statement words.Byte a = one_item (directive words.Byte a)
one_statement words.Value a = one_item (directive words.Value a)
one_statement words.Long a = one_item (directive words.Long a)
one_statement words.Zero a = one_item (directive words.Zero a)
one_statement words.Align a = one_item (directive words.Align a)
one_statement words.Ln a = one_item (directive words.Ln a)
one_statement words.Def a = begin_of a
one_statement words.Val a = one_part (group_part words.Val a)
one_statement words.Scl a = one_part (group_part words.Scl a)
one_statement words.Ty a = one_part (group_part words.Ty a)
one_statement words.Tag a = one_part (group_part words.Tag a)
one_statement words.Line a = one_part (group_part words.Line a)
one_statement words.Size a = one_part (group_part words.Size a)
one_statement words.Dim a = one_part (dimensions (a ∷ []))
one_statement w a = code (one w a)

abbrev pub common_of : Keyword → List ℕ → ℕ → Item
common_of words.Comm k n = items.Comm k n
common_of w k n = items.Lcomm k n

abbrev pub common : Keyword → Argument → Argument → Option Item
common w a b = name_of a >>= λ k. full b >>= λ n. Some (common_of w k n)

abbrev pub two_statement : Keyword → Argument → Argument → Option Stmt
two_statement words.Comm a b = one_item (common words.Comm a b)
two_statement words.Lcomm a b = one_item (common words.Lcomm a b)
two_statement words.Dim a b = one_part (dimensions (a ∷ (b ∷ [])))
two_statement w a b = code (two w a b)

-- three or four arguments
abbrev pub long_statement : Keyword → List Argument → Option Stmt
long_statement words.Dim more = if nat_le (length more) 4 then one_part (dimensions more) else None
long_statement w more = None

-- the statement of a word and its arguments
abbrev pub make : Keyword → List Argument → Option Stmt
make w [] = bare_statement w
make w (a ∷ []) = one_statement w a
make w (a ∷ (b ∷ [])) = two_statement w a b
make w (a ∷ (b ∷ (c ∷ more))) = long_statement w (a ∷ (b ∷ (c ∷ more)))

-- the word that is spelled so
unfoldable pub keyword_named : List ℕ → Option Keyword
keyword_named w = find (λ k. bytes_eq (keyword_text k) w) KEYWORDS

abbrev pub or_wrong : Option Stmt → Stmt
or_wrong None = wrong
or_wrong (Some s) = s

abbrev pub statement_at : List Tok → Stmt
statement_at (t.Word w ∷ ts) = or_wrong (keyword_named w >>= λ k. arguments_at ts >>= λ more. make k more)
statement_at ts = wrong

abbrev pub label_at : List ℕ → Stmt
label_at k = if is_name k then item (items.Label k) else wrong

-- the word of a label, which has a colon behind it
abbrev pub label_front : List Tok → Option (List ℕ)
label_front (t.Word k ∷ (t.Mark signs.Colon ∷ ts)) = Some k
label_front ts = None

-- what stands between semicolons: labels, and then a statement or nothing
abbrev pub stmts_at : List Tok → List Stmt
stmts_at [] = []
stmts_at (t.Word k ∷ (t.Mark signs.Colon ∷ ts)) = label_at k ∷ stmts_at ts
stmts_at (u ∷ ts) = statement_at (u ∷ ts) ∷ []

abbrev pub is_semicolon : Tok → Bool
is_semicolon (t.Mark signs.Semicolon) = true
is_semicolon u = false

-- the labels and statements of a line
abbrev pub stmts_of : List Tok → List Stmt
stmts_of ts = flat_map stmts_at (slice_split is_semicolon ts)
