-- The laws of tokens: a text falls into one list of tokens, or it is refused in one way.
use Rattle.std.specs.Prelude.{◌≡◌, ◌≢◌, ◌⊎◌, ℕ, List}
use Rattle.c_lex.specs.Tokens.{Token}
use Rattle.c_lex.specs.Falls.{Falls}
use Rattle.c_lex.specs.Refusals.{Refuses}
use Rattle.c_lex.specs.declared.reader.LexErr.{LexErr}
use Rattle.c_lex.specs.declared.reader.LexErr.TheVariants.{Memory}

-- The text has that refusal, which isn't want of memory.
abbrev pub IsRefused : LexErr → List ℕ → Type 0
IsRefused e bytes = (e ≢ Memory) × Refuses e bytes

-- A text falls into at most one list of tokens with their lines.
abbrev pub FallsOnce : Type 0
FallsOnce = (bytes : List ℕ) (ts us : List Token) → Falls bytes ts → Falls bytes us → ts ≡ us

-- No text that falls into tokens is bad.
abbrev pub FallsOrBad : Type 0
FallsOrBad = (bytes : List ℕ) (ts : List Token) (e : LexErr) → Falls bytes ts → IsRefused e bytes → ⊥

-- A text is bad in at most one way: the kind of the refusal and its line are determined.
abbrev pub BadOnce : Type 0
BadOnce = (bytes : List ℕ) (e f : LexErr) → IsRefused e bytes → IsRefused f bytes → e ≡ f

-- Each text falls into tokens or is bad.
abbrev pub FallsAlways : Type 0
FallsAlways = (bytes : List ℕ) → ((ts : List Token) × Falls bytes ts) ⊎ ((e : LexErr) × IsRefused e bytes)
