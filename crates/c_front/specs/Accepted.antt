-- The program that texts make.
use Rattle.std.specs.Prelude.{◌≡◌, ℕ, List, true}
use Rattle.std.specs.List.{AllZip}
use Rattle.c_tree.specs.TreeUnit.{Unit}
use Rattle.c_grammar.specs.Reads.{Reads}
use Rattle.c_tree.specs.TUnit.{Program}
use Rattle.c_rule.specs.RuleUnit.{IsTyped}
use Rattle.c_join.specs.JoinChecks.{IsJoined}

-- no unit reads the text
abbrev pub IsUnread : List ℕ → Type 0
IsUnread text = (u : Unit) → Reads text u → ⊥

-- The texts make this program: each is read by a unit, each unit has a typed unit, and these are joined.
pub record IsAccepted (texts : List (List ℕ)) (p : Program) : Type 0 where
  pub units : List Unit
  pub read : AllZip Reads texts units
  pub typed : AllZip IsTyped units p.units
  pub joined : IsJoined true p.units p
