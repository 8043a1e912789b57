-- Why texts make no program.
use Rattle.std.specs.Prelude.{◌≡◌, ℕ, List, true, Option, Some, None}
use Rattle.std.specs.List.{AllZip}
use Rattle.c_tree.specs.TreeUnit.{Unit}
use Rattle.c_grammar.specs.Reads.{Reads}
use Rattle.c_tree.specs.TUnit.{TypedUnit}
use Rattle.c_rule.specs.RuleUnit.{IsTyped}
use Rattle.c_rule.specs.RuleFailsUnit.{UnitFails}
use Rattle.c_join.specs.JoinChecks as join
use Rattle.c_join.specs.JoinChecks.{IsRefused}
use Rattle.c_front.specs.First.{IsFirst}
use Rattle.c_front.specs.Accepted.{IsUnread}

-- text k is the first that no unit reads
abbrev pub IsSyntax : List (List ℕ) → ℕ → Type 0
IsSyntax texts k = IsFirst Reads IsUnread texts k

-- All texts are read, and unit k is the first in which a rule fails. This rule fails in it.
pub record IsRule (texts : List (List ℕ)) (k rule : ℕ) : Type 0 where
  pub units : List Unit
  pub read : AllZip Reads texts units
  pub fails : IsFirst IsTyped (λ u. UnitFails u rule) units k

-- All texts have typed units, and these are refused as a whole.
pub record IsJoin (texts : List (List ℕ)) (why : join.Refusal) : Type 0 where
  pub units : List Unit
  pub read : AllZip Reads texts units
  pub typed_units : List TypedUnit
  pub typed : AllZip IsTyped units typed_units
  pub refused : IsRefused true typed_units why

-- the units are refused as a whole, and it is told why
abbrev pub IsJoinAs : List (List ℕ) → Option join.Refusal → Type 0
IsJoinAs texts None = ⊥
IsJoinAs texts (Some why) = IsJoin texts why
