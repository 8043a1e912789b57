-- What the typing function says of a unit is what the rules say.
use Rattle.std.proofs.Common.{ℕ, Result, Ok, Err, IfOk, IfErr, OnOk}
use Rattle.c_tree.specs.declared.typed_unit.TypedUnit.{TypedUnit}
use Rattle.c_tree.specs.TreeUnit.{Unit}
use Rattle.c_tree.specs.TypedOf.{unit_of}
use Rattle.c_rule.specs.RuleUnit.{IsTyped}
use Rattle.c_rule.specs.RuleFailsUnit.{UnitFails}
use Rattle.c_rule.proofs.ApartUnit.{unit_apart}
use Rattle.c_scope.specs.declared.error.TypeErr.{TypeErr}
use Rattle.c_scope.specs.declared.error.TypeErr.TheVariants as why
use Rattle.c_rule.specs.JudgingUnit.{judged}
use Rattle.c_scope.specs.Says.{Says}
use Rattle.c_rule.proofs.TypingLaws.{is_sound}
use Rattle.c_check.specs.Tells.{Tells}

pub typed_by : (y : Unit) (r : Result TypedUnit TypeErr) → Says unit_of (judged y) r → IfOk r (λ x. IsTyped y (unit_of x))
typed_by y (Ok x) h = (is_sound y).0 (unit_of x) h
typed_by y (Err e) h = tt

pub none_by : (y : Unit) (r : Result TypedUnit TypeErr) → Says unit_of (judged y) r → OnOk r ((n : ℕ) → UnitFails y n → ⊥)
none_by y (Ok x) h = λ n f. unit_apart y n (unit_of x) f ((is_sound y).0 (unit_of x) h)
none_by y (Err e) h = tt

pub told_by : (y : Unit) (r : Result TypedUnit TypeErr) → Says unit_of (judged y) r → IfErr r (λ e. Tells y e)
told_by y (Ok x) h = tt
told_by y (Err (why.Rule n l)) h = (is_sound y).1 n h
told_by y (Err why.Memory) h = tt
