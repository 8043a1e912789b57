-- The first refusal among the groups of facts is that of the units.
use Rattle.std.proofs.Common.{◌≡◌, List, Bool, Option, ap, ◌∙◌}
use Rattle.c_type.specs.Names.{Name}
use Rattle.c_tree.specs.TUnit.{TypedUnit}
use Rattle.c_join.specs.JoinSaid.{Subject, Fact, facts}
use Rattle.c_join.specs.JoinTypes.{Relation}
use Rattle.c_join.specs.JoinChecks as s
use Rattle.c_whole.specs.Groups.{Group, grouped, first_group}
use Rattle.c_whole.specs.Refusals.{in_order}
use Rattle.c_whole.proofs.InOrder.{first_is}

module _ (us : List TypedUnit) (fs : List Fact) (gs : List Group) (said : fs ≡ facts us) (grouping : gs ≡ grouped fs) where
  first_in : (fault : Subject → List Fact → Bool) (o : Option Name) → o ≡ first_group fault gs → o ≡ s.first_with fault (facts us)
  first_in fault o e = e ∙ ap (first_group fault) grouping ∙ first_is fault fs ∙ ap (s.first_with fault) said

  pub whole_refusal : (complete : Bool) (r : Relation) (main : Bool) (a b c d : Option Name) → main ≡ s.has_main fs → a ≡ first_group s.is_twice gs → b ≡ first_group s.is_undefined gs
      → c ≡ first_group (s.is_clash r) gs → d ≡ first_group (s.is_misfit us r) gs → in_order complete main a b c d ≡ s.refusal complete us r
  whole_refusal complete r main a b c d m e f g h =
      let m' : main ≡ s.has_main (facts us) = m ∙ ap s.has_main said in
      let a' = first_in s.is_twice a e in
      let b' = first_in s.is_undefined b f in
      let c' = first_in (s.is_clash r) c g in
      let d' = first_in (s.is_misfit us r) d h in
      λ i. in_order complete (m' i) (a' i) (b' i) (c' i) (d' i)
