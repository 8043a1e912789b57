-- The laws that join reading a unit to its spellings.
use Rattle.std.specs.Prelude.{◌≡◌, ℕ, List, Some}
use Rattle.c_lex.specs.Tokens.{Token}
use Rattle.c_tree.specs.TreeUnit as t
use Rattle.c_grammar.specs.Reads.{most, Reads, ReadsTokens, AreShallow}
use Rattle.c_decl.specs.Expression.{expression}
use Rattle.c_parse.specs.ReadUnit.{unit}

-- At most one unit reads a text.
abbrev pub IsOneReading : Type 0
IsOneReading = (bytes : List ℕ) (y z : t.Unit) → Reads bytes y → Reads bytes z → y ≡ z

-- At most one unit is spelled by given tokens.
abbrev pub IsOneUnit : Type 0
IsOneUnit = (ts : List Token) (y z : t.Unit) → ReadsTokens ts y → ReadsTokens ts z → y ≡ z

-- The unit that tokens spell is what is read.
abbrev pub IsRead : Type 0
IsRead = (ts : List Token) (y : t.Unit) → ReadsTokens ts y → unit most expression ts ≡ Some y

-- What is read is the unit that the tokens spell, where no more than the greatest number of brackets are open.
abbrev pub IsSpelled : Type 0
IsSpelled = (ts : List Token) (y : t.Unit) → AreShallow 0 ts → unit most expression ts ≡ Some y → ReadsTokens ts y
