-- Whether a fact passes a test, one fact after the other.
use Rattle.std.proofs.Common.{◌≡◌, ◌<◌, ℕ, suc, ◌+◌, List, ◌∷◌, length, drop, slice_index_or, Bool, true, false, ◌||◌, sym, ap, ◌∙◌, add-one}
use Rattle.std.specs.List.{list_any}
use Rattle.std.proofs.Math.Seq.{drop-cons}
use Rattle.c_join.specs.JoinSaid.{Fact}
use Rattle.c_whole.specs.Facts.{fact_of, facts_of}
use Rattle.c_whole.specs.declared.facts.Fact as cf

-- the facts from one on are that one and the rest
pub from_here : (facts : List cf.Fact) (i : ℕ) (f : cf.Fact) → i < length facts → f ≡ slice_index_or facts i f → facts_of (drop i facts) ≡ fact_of f ∷ facts_of (drop (i + 1) facts)
from_here facts i f within is =
    ap facts_of (drop-cons facts i f within ∙ ap (λ x. x ∷ drop (suc i) facts) (sym is) ∙ ap (λ n. f ∷ drop n facts) (sym (add-one i)))

pub any_hit : (p : Fact → Bool) (facts : List cf.Fact) (i : ℕ) (f : cf.Fact) → i < length facts → f ≡ slice_index_or facts i f → p (fact_of f) ≡ true → list_any p (facts_of (drop i facts)) ≡ true
any_hit p facts i f within is hit = ap (list_any p) (from_here facts i f within is) ∙ ap (λ b. b || list_any p (facts_of (drop (i + 1) facts))) hit

pub any_miss : (p : Fact → Bool) (facts : List cf.Fact) (i : ℕ) (f : cf.Fact) → i < length facts → f ≡ slice_index_or facts i f → p (fact_of f) ≡ false → list_any p (facts_of (drop i facts)) ≡ list_any p (facts_of (drop (i + 1) facts))
any_miss p facts i f within is miss = ap (list_any p) (from_here facts i f within is) ∙ ap (λ b. b || list_any p (facts_of (drop (i + 1) facts))) miss
