-- What bytes begin with, by the bytes of instructions alone.
use Rattle.std.specs.Prelude.{◌≡◌, ℕ, List, ◌∷◌, ◌++◌, length}
use Rattle.isa386.specs.Encoding.{encoding}
use Rattle.isa386.specs.Row.{IsRow}
use Rattle.isa386.specs.declared.Ins.{Ins}
use Rattle.isa_dec.specs.declared.dec.Dec.{Dec}
use Rattle.isa_dec.specs.declared.dec.Dec.TheVariants.{Ins as IsIns, Short, Unknown}

-- the bytes of a row stand first
pub record Begins (b : List ℕ) (i : Ins) : Type 0 where
  pub row : IsRow i
  pub rest : List ℕ
  pub bytes : b ≡ encoding i ++ rest

-- the bytes are a proper front of a row's
pub record IsCut (b : List ℕ) : Type 0 where
  pub whole : Ins
  pub row : IsRow whole
  pub next : ℕ
  pub rest : List ℕ
  pub bytes : encoding whole ≡ b ++ next ∷ rest

-- Ins: this row stands first and has so many bytes. Short: a proper front of a row. Unknown: neither.
abbrev pub Reads : List ℕ → Dec → Type 0
Reads b (IsIns i k) = Begins b i × (k ≡ length (encoding i))
Reads b Short = IsCut b
Reads b Unknown = ((i : Ins) → ¬ Begins b i) × ¬ IsCut b
