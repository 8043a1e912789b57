-- Texts have one answer.
use Rattle.std.specs.Prelude.{◌≡◌, ℕ, List}
use Rattle.c_tree.specs.TUnit.{Program}
use Rattle.c_join.specs.JoinChecks as join
use Rattle.c_front.specs.Accepted.{IsAccepted}
use Rattle.c_front.specs.Causes.{IsSyntax, IsRule, IsJoin}

-- Each cause of a refusal is one, no two of them stand beside each other, and none stands beside a program.
pub record HasOneAnswer (texts : List (List ℕ)) : Type 0 where
  pub syntax_once : (k j : ℕ) → IsSyntax texts k → IsSyntax texts j → k ≡ j
  pub rule_once : (k n j m : ℕ) → IsRule texts k n → IsRule texts j m → k ≡ j
  pub join_once : (v w : join.Refusal) → IsJoin texts v → IsJoin texts w → v ≡ w
  pub syntax_or_rule : (k j n : ℕ) → IsSyntax texts k → IsRule texts j n → ⊥
  pub syntax_or_join : (k : ℕ) (w : join.Refusal) → IsSyntax texts k → IsJoin texts w → ⊥
  pub rule_or_join : (k n : ℕ) (w : join.Refusal) → IsRule texts k n → IsJoin texts w → ⊥
  pub syntax_or_program : (k : ℕ) (p : Program) → IsSyntax texts k → IsAccepted texts p → ⊥
  pub rule_or_program : (k n : ℕ) (p : Program) → IsRule texts k n → IsAccepted texts p → ⊥
  pub join_or_program : (w : join.Refusal) (p : Program) → IsJoin texts w → IsAccepted texts p → ⊥

abbrev pub OneAnswer : Type 0
OneAnswer = (texts : List (List ℕ)) → HasOneAnswer texts
