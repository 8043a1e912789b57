-- Texts as they are read: their tokens and units.
use Rattle.std.specs.Prelude.{ℕ, List, map, Vec}
use Rattle.std.specs.declared.alloc.Global.{Global}
use Rattle.c_lex.specs.Falls.{Falls}
use Rattle.c_tree.specs.TreeUnit.{Unit}
use Rattle.c_tree.specs.TreeOf.{unit_of}
use Rattle.c_grammar.specs.Reads.{ReadsTokens}
use Rattle.c_lex.specs.Shown.{tokens_of}
use Rattle.c_front.specs.declared.front.Source.{Source}

-- the bytes of texts
abbrev pub texts_of : List (Vec ℕ Global) → List (List ℕ)
texts_of texts = map (λ text. text.items) texts

-- the tokens and the unit of a text
pub record IsSource (text : List ℕ) (s : Source) : Type 0 where
  pub falls : Falls text (tokens_of s.tokens)
  pub reads : ReadsTokens (tokens_of s.tokens) (unit_of s.unit)

-- the units of sources
abbrev pub units_of : List Source → List Unit
units_of sources = map (λ s. unit_of s.unit) sources
