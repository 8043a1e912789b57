-- What the numbers and the first refusal say of the units.
use Rattle.std.proofs.Common.{◌≡◌, ℕ, List, Bool, Option, Some, None, IfSome, sym, ap, subst, ◌∙◌}
use Rattle.c_tree.specs.TUnit.{TypedUnit}
use Rattle.c_join.specs.JoinChecks as s
use Rattle.c_join.specs.JoinChecks.{same_class, refusal, IsRefused}
use Rattle.c_whole.specs.Classes.{IsNumbered}
use Rattle.c_whole.specs.Refusals.{IsAccepted}

module _ (complete : Bool) (us : List TypedUnit) (cs ds : List (List ℕ)) (same : ds ≡ cs) (numbered : IsNumbered us cs) (o : Option s.Refusal)
    (is : o ≡ refusal complete us (same_class ds)) where
  here : refusal complete us (same_class cs) ≡ o
  here = ap (λ x. refusal complete us (same_class x)) (sym same) ∙ sym is

  pub accepted_by : o ≡ None → IsAccepted complete us cs
  accepted_by none = record { numbered = numbered; accepted = here ∙ none }

  pub refused_by : (w : s.Refusal) → o ≡ Some w → (e : Option s.Refusal) → IfSome e (λ why. why ≡ w) → IfSome e (IsRefused complete us)
  refused_by w some None h = h
  refused_by w some (Some why) h = (same_class cs, numbered.agree, here ∙ some ∙ ap Some (sym h))

pub accepted_of : (complete : Bool) (us vs : List TypedUnit) (cs : List (List ℕ)) → vs ≡ us → IsAccepted complete vs cs → IsAccepted complete us cs
accepted_of complete us vs cs same h = subst (λ x. IsAccepted complete x cs) same h
