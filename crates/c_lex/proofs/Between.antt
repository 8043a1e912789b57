-- Tests of bytes as facts on numbers.
use Rattle.std.proofs.Common.{◌≡◌, ℕ, ◌≤◌, true}
use Rattle.std.specs.Prelude.{nat_le}
use Rattle.std.proofs.lemmas.Bool.{and_from, and_parts, leb-true, le-leb}
use Rattle.c_lex.specs.Bytes.{is_between}

pub between_is : (low high b : ℕ) → is_between low high b ≡ true → (low ≤ b) × (b ≤ high)
between_is low high b e = let q = and_parts (nat_le low b) (nat_le b high) e in (leb-true low b q.0, leb-true b high q.1)

pub is_between_of : (low high b : ℕ) → low ≤ b → b ≤ high → is_between low high b ≡ true
is_between_of low high b h g = and_from (nat_le low b) (nat_le b high) (le-leb low b h) (le-leb b high g)
