-- A reader hands the refusal of a part on.
use Rattle.std.proofs.Common.{◌≡◌, Option, None, Result, Err, sym, subst}
use Rattle.c_expr.specs.declared.error.ParseErr.{ParseErr}
use Rattle.c_expr.specs.declared.error.ParseErr.TheVariants.{TooDeep, NotC, Memory}
use Rattle.c_decl.specs.Answers.{Refuses, Gives}

pub refused : {Y Z : Type 0} (e : ParseErr) (part : Option Y) (whole : Option Z) → (part ≡ None → whole ≡ None) → Refuses e part → Refuses e whole
refused (TooDeep line) part whole none is = is
refused (NotC line) part whole none is = none is
refused Memory part whole none is = tt

-- what the exit of a `?` answers, where without the part there is no whole
pub handed_on : {X Y Z : Type 0} (view : X → Z) (x : Result X ParseErr) (e : ParseErr) (part : Option Y) (whole : Option Z) → (y : ParseErr) × (x ≡ Err y) × (y ≡ e)
    → (part ≡ None → whole ≡ None) → Refuses e part → Gives view x whole
handed_on view x e part whole p none is = subst (λ v. Gives view v whole) (sym (p.1)) (subst (λ v. Refuses v whole) (sym p.2) (refused e part whole none is))
