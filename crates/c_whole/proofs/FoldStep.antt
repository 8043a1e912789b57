-- One fact more is placed.
use Rattle.std.proofs.Common.{◌≡◌, ◌<◌, ℕ, suc, ◌+◌, List, ◌∷◌, length, drop, slice_index_or, sym, ap, ◌∙◌, add-one}
use Rattle.std.specs.List.{fold}
use Rattle.std.proofs.Math.Seq.{drop-cons}
use Rattle.c_whole.specs.Facts.{fact_of, facts_of}
use Rattle.c_whole.specs.Groups.{Group, placed}
use Rattle.c_whole.specs.declared.facts.Fact as cf

pub fold_step : (facts : List cf.Fact) (i : ℕ) (f : cf.Fact) (gs : List Group) → i < length facts → f ≡ slice_index_or facts i f
    → fold placed (placed gs (fact_of f)) (facts_of (drop (i + 1) facts)) ≡ fold placed gs (facts_of (drop i facts))
fold_step facts i f gs within is =
    let rest : drop i facts ≡ f ∷ drop (i + 1) facts = drop-cons facts i f within ∙ ap (λ x. x ∷ drop (suc i) facts) (sym is) ∙ ap (λ n. f ∷ drop n facts) (sym (add-one i)) in
    ap (λ xs. fold placed gs (facts_of xs)) (sym rest)
