-- A list of parts is judged by its parts in order, each where those before it stand.
use Rattle.std.proofs.Common.{◌≡◌, ℕ, ◌+◌, ◌<◌, ◌≤◌, List, [], ◌∷◌, ◌++◌, drop, length, slice_index_or, ap, ◌∙◌}
use Rattle.std.proofs.lemmas.List.{drop_all}
use Rattle.c_rule.specs.RuleScope.{Judged, Env}
use Rattle.c_scope.specs.declared.error.TypeErr.{TypeErr}
use Rattle.c_rule.specs.Judging.{Behind, behind}
use Rattle.c_scope.specs.Says.{Refused}
use Rattle.c_local.proofs.FromHere.{from_here}
use Rattle.c_local.proofs.Lists.{onto, with_parts, front, none_before, next_part, part_refused, all_parts}

module _ {T A B U : Type 0} (tree : T → B) (cons : B → A → A) (one : Env → U → Judged (Behind B)) (all : Env → List U → Judged (Behind A))
    (row : (c : Env) (x : U) (xs : List U) → all c (x ∷ xs) ≡ front cons (one c x) (λ d. all d xs)) where
  -- the parts that were judged stand before the outcome of those that are left
  abbrev pub IsLeft : Env → List U → ℕ → List T → Env → Type 0
  IsLeft c us i ts d = all c us ≡ with_parts (λ y r. cons (tree y) r) ts (all d (drop i us))

  pub first : (c : Env) (us : List U) (ts : List T) → ts ≡ [] → IsLeft c us 0 ts c
  first c us ts e = none_before (λ y r. cons (tree y) r) ts (all c us) e

  here : (d : Env) (us : List U) (i : ℕ) (x : U) → i < length us → x ≡ slice_index_or us i x → all d (drop i us) ≡ front cons (one d x) (λ e. all e (drop (i + 1) us))
  here d us i x lt is = ap (all d) (from_here us i x lt is) ∙ row d x (drop (i + 1) us)

  pub next : (c d e : Env) (us : List U) (i : ℕ) (x : U) (ts ss : List T) (t : T) → IsLeft c us i ts d → i < length us → x ≡ slice_index_or us i x → one d x ≡ behind (tree t) e →
      ss ≡ ts ++ t ∷ [] → IsLeft c us (i + 1) ss e
  next c d e us i x ts ss t left lt is says more =
      next_part tree cons ts ss t (all c us) (all d (drop i us)) (one d x) (λ y. all y (drop (i + 1) us)) e left (here d us i x lt is) says more

  pub refused : (c d : Env) (us : List U) (i : ℕ) (x : U) (ts : List T) (w : TypeErr) → IsLeft c us i ts d → i < length us → x ≡ slice_index_or us i x → Refused (one d x) w → Refused (all c us) w
  refused c d us i x ts w left lt is says =
      part_refused (λ y r. cons (tree y) r) cons ts (all c us) (all d (drop i us)) (one d x) (λ y. all y (drop (i + 1) us)) w left (here d us i x lt is) says

  pub last : (c d : Env) (us : List U) (i : ℕ) (ts : List T) (z t : A) → IsLeft c us i ts d → length us ≤ i → all d [] ≡ behind z d → onto (λ y r. cons (tree y) r) ts z ≡ t →
      all c us ≡ behind t d
  last c d us i ts z t left le end whole =
      all_parts (λ y r. cons (tree y) r) ts (all c us) (all d (drop i us)) z t d left (ap (all d) (drop_all i us le) ∙ end) whole
