-- The first group with a fault, one group after the other.
use Rattle.std.proofs.Common.{◌≡◌, ◌<◌, ℕ, suc, ◌+◌, List, ◌∷◌, length, drop, slice_index_or, Bool, true, false, Some, sym, ap, ◌∙◌, add-one}
use Rattle.std.proofs.Math.Seq.{drop-cons}
use Rattle.c_type.specs.Names.{pick}
use Rattle.c_join.specs.JoinSaid.{Subject, Fact}
use Rattle.c_whole.specs.Groups.{group_of, groups_of, first_group}
use Rattle.c_whole.specs.declared.groups.Group as cg

from_here : (gs : List cg.Group) (i : ℕ) (g : cg.Group) → i < length gs → g ≡ slice_index_or gs i g → groups_of (drop i gs) ≡ group_of g ∷ groups_of (drop (i + 1) gs)
from_here gs i g within is =
    ap groups_of (drop-cons gs i g within ∙ ap (λ x. x ∷ drop (suc i) gs) (sym is) ∙ ap (λ n. g ∷ drop n gs) (sym (add-one i)))

module _ (fault : Subject → List Fact → Bool) (gs : List cg.Group) (i : ℕ) (g : cg.Group) (within : i < length gs) (is : g ≡ slice_index_or gs i g) where
  pub first_hit : fault (group_of g).subject (group_of g).facts ≡ true → first_group fault (groups_of (drop i gs)) ≡ Some (group_of g).subject.name
  first_hit hit = ap (first_group fault) (from_here gs i g within is) ∙ ap (λ b. pick b (Some (group_of g).subject.name) (first_group fault (groups_of (drop (i + 1) gs)))) hit

  pub first_miss : fault (group_of g).subject (group_of g).facts ≡ false → first_group fault (groups_of (drop i gs)) ≡ first_group fault (groups_of (drop (i + 1) gs))
  first_miss miss = ap (first_group fault) (from_here gs i g within is) ∙ ap (λ b. pick b (Some (group_of g).subject.name) (first_group fault (groups_of (drop (i + 1) gs)))) miss
