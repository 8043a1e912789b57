-- Where a reader of tokens stands, and what its answers say.
use Rattle.std.specs.Prelude.{◌≡◌, ◌<◌, ℕ, suc, ◌-◌, min, List, [], ◌∷◌, length, drop, Option, Some, None, Result, Ok, Err}
use Rattle.std.specs.Borrow.{Bor}
use Rattle.c_type.specs.Names.{Name}
use Rattle.c_lex.specs.Tokens.{Token}
use Rattle.c_lex.specs.declared.Token as l
use Rattle.c_lex.specs.Shown.{token_of, tokens_of}
use Rattle.c_expr.specs.declared.error.ParseErr.{ParseErr}
use Rattle.c_expr.specs.declared.error.ParseErr.TheVariants.{TooDeep, NotC, Memory}
use Rattle.c_expr.specs.Front.{line_at}
use Rattle.c_expr.specs.Typedefs.{names_of}
use Rattle.c_decl.specs.declared.reader.Reader.{Reader}

-- the typedef names that the reader knows
abbrev pub names : Reader → List Name
names r = names_of r.defs.now

-- the tokens from the place on
unfoldable pub rest : Reader → ℕ → List Token
rest r at = drop at (tokens_of r.tokens.now)

-- the line of the token at the place, or of the last one
abbrev pub refused_line : Reader → ℕ → ℕ
refused_line r at = line_at (rest r (min at (length (tokens_of r.tokens.now) - 1)))

-- a tree as data, and the tokens behind it
abbrev pub found : {X Y : Type 0} → (X → Y) → Reader → X × ℕ → Y × List Token
found view r x = (view x.0, rest r x.1)

-- The error is want of memory, or nothing is read there.
abbrev pub Refuses : {Y : Type 0} → ParseErr → Option Y → Type 0
Refuses (TooDeep line) read = ⊥
Refuses (NotC line) read = read ≡ None
Refuses Memory read = Unit {0}

-- The answer is what is read.
abbrev pub Gives : {X Y : Type 0} → (X → Y) → Result X ParseErr → Option Y → Type 0
Gives view (Ok x) read = read ≡ Some (view x)
Gives view (Err e) read = Refuses e read

-- The token stands at the place.
abbrev pub Stands : Option (Bor l.Token) → Reader → ℕ → Type 0
Stands None r at = rest r at ≡ []
Stands (Some x) r at = (rest r at ≡ token_of x.now ∷ rest r (suc at)) × (at < length (tokens_of r.tokens.now))
