-- The programs that calls over a program are made for.
-- It states docs/LANGUAGE.md, sections Joined files and Limits.
use Rattle.std.specs.Prelude.{◌≡◌, ℕ, List, length, Bool}
use Rattle.std.specs.List.{AllZip}
use Rattle.c_tree.specs.TreeUnit as u
use Rattle.c_tree.specs.TUnit.{TypedUnit, Program}
use Rattle.c_grammar.specs.Reads.{Reads}
use Rattle.c_rule.specs.RuleUnit.{IsTyped}
use Rattle.c_join.specs.JoinChecks.{IsJoined}

-- A typed unit of a text of so many bytes.
pub record IsOfText (n : ℕ) (x : TypedUnit) : Type 0 where
  pub bytes : List ℕ
  pub unit : u.Unit
  pub counted : length bytes ≡ n
  pub reads : Reads bytes unit
  pub typed : IsTyped unit x

-- The program is what the join, or where it isn't complete the join of a part, makes of units that the rules type and that
-- texts of these lengths spell.
pub record IsMade (complete : Bool) (lengths : List ℕ) (p : Program) : Type 0 where
  pub of_texts : AllZip IsOfText lengths p.units
  pub joined : IsJoined complete p.units p
