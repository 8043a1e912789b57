-- Bytes on their way to a sink.
use Rattle.std.specs.Prelude.{ℕ, ◌≡◌, List, ◌++◌, take, Option}
use Rattle.std.specs.Io.KnownBytes.{Appends}

-- Bytes wait for a sink. They were `before`, and `more` came behind them: what the sink has not gained of these still waits.
pub record Moves (old new : Option (List ℕ)) (before after more : List ℕ) : Type 0 where
  pub sent : List ℕ
  pub gained : Appends old new sent
  pub whole : before ++ more ≡ sent ++ after

-- a sink gained a front of these bytes
abbrev pub GainsFront : Option (List ℕ) → Option (List ℕ) → List ℕ → Type 0
GainsFront old new bytes = (n : ℕ) × Appends old new (take n bytes)
