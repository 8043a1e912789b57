-- A refusal that is right is the one.
use Rattle.std.proofs.Common.{◌≡◌, ℕ, List, refl, ap, ◌∙◌}
use Rattle.std.specs.Prelude.{Some, None}
use Rattle.c_tree.specs.TUnit.{Func, Program}
use Rattle.c_join.specs.JoinChecks as join
use Rattle.c_whole.specs.Refusals.{told_as}
use Rattle.c_whole.specs.declared.JoinErr.{JoinErr}
use Rattle.c_whole.specs.declared.JoinErr.TheVariants as je
use Rattle.c_front.specs.Accepted.{IsAccepted}
use Rattle.c_front.specs.Causes.{IsSyntax, IsRule, IsJoin, IsJoinAs}
use Rattle.c_front.proofs.Causes.{syntax_read, syntax_once, rule_typed, rule_once, join_once, join_accepted}
use Rattle.small_build.specs.SmallText.{AreSmallTexts}
use Rattle.top.specs.TextsAnswer.{join_err, IsRight}
use Rattle.top.specs.declared.answer.Refusal.{Refusal}
use Rattle.top.specs.declared.answer.Refusal.TheVariants.{Syntax, Rule, Join, Unbuilt}

one_reason : (v w : join.Refusal) → Some v ≡ Some w → v ≡ w
one_reason v w e = cc

no_reason : (w : join.Refusal) → None ≡ Some w → ⊥
no_reason w e = cc

told_is : (why : JoinErr) (w : join.Refusal) → told_as why ≡ Some w → why ≡ join_err w
told_is je.NoMain w is = ap join_err (one_reason join.NoMain w is)
told_is (je.Twice x) w is = ap join_err (one_reason (join.Twice x) w is)
told_is (je.Undefined x) w is = ap join_err (one_reason (join.Undefined x) w is)
told_is (je.Clash x) w is = ap join_err (one_reason (join.Clash x) w is)
told_is (je.Arguments x) w is = ap join_err (one_reason (join.Arguments x) w is)
told_is je.Memory w is = absurd (no_reason w is)

-- a refusal of the join
joined_by : (texts : List (List ℕ)) (why : JoinErr) → IsJoinAs texts (told_as why) → (w : join.Refusal) × IsJoin texts w × (told_as why ≡ Some w)
joined_by texts je.NoMain right = (join.NoMain, right, refl)
joined_by texts (je.Twice x) right = (join.Twice x, right, refl)
joined_by texts (je.Undefined x) right = (join.Undefined x, right, refl)
joined_by texts (je.Clash x) right = (join.Clash x, right, refl)
joined_by texts (je.Arguments x) right = (join.Arguments x, right, refl)
joined_by texts je.Memory right = absurd right

pub right_syntax : (texts : List (List ℕ)) (r : Refusal) (k : ℕ) → IsRight texts r → IsSyntax texts k → (line : ℕ) × (r ≡ Syntax k line)
right_syntax texts (Syntax j line) k right s = (line, ap (λ i. Syntax i line) (syntax_once texts j k right s))
right_syntax texts (Rule j line n) k right s = absurd (syntax_read texts k right.units s right.read)
right_syntax texts (Join why) k right s = let j = joined_by texts why right in absurd (syntax_read texts k j.1.units s j.1.read)
right_syntax texts Unbuilt k right s = absurd (syntax_read texts k right.0.1.units s right.0.1.read)

pub right_rule : (texts : List (List ℕ)) (r : Refusal) (k n : ℕ) → IsRight texts r → IsRule texts k n → (line named : ℕ) × (r ≡ Rule k line named)
right_rule texts (Syntax j line) k n right s = absurd (syntax_read texts j s.units right s.read)
right_rule texts (Rule j line m) k n right s = (line, m, ap (λ i. Rule i line m) (rule_once texts j m k n right s))
right_rule texts (Join why) k n right s = let j = joined_by texts why right in absurd (rule_typed texts k n j.1.units j.1.typed_units s j.1.read j.1.typed)
right_rule texts Unbuilt k n right s = absurd (rule_typed texts k n right.0.1.units right.0.0.units s right.0.1.read right.0.1.typed)

pub right_join : (texts : List (List ℕ)) (r : Refusal) (w : join.Refusal) → IsRight texts r → IsJoin texts w → r ≡ Join (join_err w)
right_join texts (Syntax j line) w right s = absurd (syntax_read texts j s.units right s.read)
right_join texts (Rule j line m) w right s = absurd (rule_typed texts j m s.units s.typed_units right s.read s.typed)
right_join texts (Join why) w right s =
    let j = joined_by texts why right in
    ap Join (told_is why j.0 j.2 ∙ ap join_err (join_once texts j.0 w j.1 s))
right_join texts Unbuilt w right s = absurd (join_accepted texts w right.0.0 s right.0.1)

pub right_accepted : (texts : List (List ℕ)) (r : Refusal) (p : Program) → IsRight texts r → IsAccepted texts p → (r ≡ Unbuilt) × ((f : Func) → AreSmallTexts texts f → ⊥)
right_accepted texts (Syntax j line) p right a = absurd (syntax_read texts j a.units right a.read)
right_accepted texts (Rule j line m) p right a = absurd (rule_typed texts j m a.units p.units right a.read a.typed)
right_accepted texts (Join why) p right a = let j = joined_by texts why right in absurd (join_accepted texts j.0 p j.1 a)
right_accepted texts Unbuilt p right a = (refl, right.1)
