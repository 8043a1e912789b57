-- The first name with a fault, among the groups of facts, is the first in order of mention.
use Rattle.std.proofs.Common.{◌≡◌, ℕ, List, [], ◌∷◌, ◌++◌, map, cond, Bool, true, false, not, ◌&&◌, nat_eq, Option, Some, None, refl, sym, ap, ◌∙◌, true≢false, subst}
use Rattle.std.proofs.lemmas.List.{append_assoc, append-nil}
use Rattle.std.specs.List.{fold, find}
use Rattle.std.specs.Option.{option_map}
use Rattle.std.proofs.lemmas.Bool.{eqb-true, eq-eqb}
use Rattle.std.proofs.lemmas.List.Elements.{filter-append}
use Rattle.std.proofs.lemmas.Slice.Eq.{bytes_eq-Decides}
use Rattle.c_type.specs.Names.{Name, same_name, pick, or_else}
use Rattle.c_join.specs.JoinSaid.{Subject, Fact}
use Rattle.c_join.specs.JoinChecks.{same_subject, about, first_with}
use Rattle.c_whole.specs.Groups.{Group, placed, grouped, first_group}
use Rattle.c_whole.proofs.Replace.{both_true, and_true}

abbrev subject_in : Option ℕ → Name → Subject
subject_in w x = record { within = w; name = x }

-- names that are compared as one are one
pub subjects_same : (s t : Subject) → same_subject s t ≡ true → s ≡ t
subjects_same s t h = by s.within t.within h
  where
    by : (v w : Option ℕ) → same_subject (subject_in v s.name) (subject_in w t.name) ≡ true → subject_in v s.name ≡ subject_in w t.name
    by None None e = ap (subject_in None) ((bytes_eq-Decides s.name t.name).0 e)
    by (Some n) (Some m) e =
        let both = both_true (nat_eq n m) (same_name s.name t.name) e in
        ap (λ k. subject_in (Some k) s.name) (eqb-true n m both.0) ∙ ap (subject_in (Some m)) ((bytes_eq-Decides s.name t.name).0 both.1)
    by None (Some m) e = absurd (true≢false (sym e))
    by (Some n) None e = absurd (true≢false (sym e))

pub subject_self : (s : Subject) → same_subject s s ≡ true
subject_self s = by s.within
  where
    by : (w : Option ℕ) → same_subject (subject_in w s.name) (subject_in w s.name) ≡ true
    by None = (bytes_eq-Decides s.name s.name).1 refl
    by (Some n) = and_true _ _ (eq-eqb n n refl) ((bytes_eq-Decides s.name s.name).1 refl)

subjects_turn : (s t : Subject) (b : Bool) → same_subject s t ≡ b → same_subject t s ≡ b
subjects_turn s t true h = ap (same_subject t) (subjects_same s t h) ∙ subject_self t
subjects_turn s t false h = by (same_subject t s) refl
  where
    by : (c : Bool) → same_subject t s ≡ c → same_subject t s ≡ false
    by true e = absurd (true≢false (sym (ap (λ y. same_subject y t) (sym (subjects_same t s e)) ∙ subject_self t) ∙ h))
    by false e = e

abbrev names_of : List Group → List Subject
names_of gs = map (λ g. g.subject) gs

abbrev mentions : List Fact → List Subject
mentions fs = map (λ f. f.about) fs

module _ (test : Subject → Bool) where
  -- one more mention
  abbrev or_this : Option Subject → Subject → Option Subject
  or_this o s = or_else o (cond (test s) (Some s) None)

  known : (s t : Subject) (o : Option Subject) → same_subject s t ≡ true → cond (test t) (Some t) o ≡ or_this (cond (test t) (Some t) o) s
  known s t o same = by (test t) refl o
    where
      by : (b : Bool) → test t ≡ b → (o : Option Subject) → cond b (Some t) o ≡ or_this (cond b (Some t) o) s
      by true e o = refl
      by false e None = let is : test s ≡ false = ap test (subjects_same s t same) ∙ e in ap (λ c. cond c (Some s) None) (sym is)
      by false e (Some x) = refl

  passed : (s : Subject) (b : Bool) (t : Subject) (o p : Option Subject) → p ≡ or_this o s → cond b (Some t) p ≡ or_this (cond b (Some t) o) s
  passed s true t o p e = refl
  passed s false t o p e = e

  placed_found : (gs : List Group) (f : Fact) → find test (names_of (placed gs f)) ≡ or_this (find test (names_of gs)) f.about
  placed_found [] f = refl
  placed_found (g ∷ gs) f = by (same_subject f.about g.subject) refl (placed_found gs f)
    where
      by : (b : Bool) → same_subject f.about g.subject ≡ b → find test (names_of (placed gs f)) ≡ or_this (find test (names_of gs)) f.about
          → find test (names_of (pick b (record { subject = g.subject; facts = g.facts ++ f ∷ [] } ∷ gs) (g ∷ placed gs f))) ≡ or_this (find test (names_of (g ∷ gs))) f.about
      by true e rest = known f.about g.subject (find test (names_of gs)) e
      by false e rest = passed f.about (test g.subject) g.subject (find test (names_of gs)) (find test (names_of (placed gs f))) rest

  or_cond : (o p : Option Subject) (s : Subject) (b : Bool) → or_else (or_else o (cond b (Some s) None)) p ≡ or_else o (cond b (Some s) p)
  or_cond None p s true = refl
  or_cond None p s false = refl
  or_cond (Some x) p s b = refl

  all_found : (gs : List Group) (fs : List Fact) → find test (names_of (fold placed gs fs)) ≡ or_else (find test (names_of gs)) (find test (mentions fs))
  all_found gs [] = by (find test (names_of gs))
    where
      by : (o : Option Subject) → o ≡ or_else o None
      by None = refl
      by (Some s) = refl
  all_found gs (f ∷ fs) =
      all_found (placed gs f) fs ∙ ap (λ o. or_else o (find test (mentions fs))) (placed_found gs f) ∙
      or_cond (find test (names_of gs)) (find test (mentions fs)) f.about (test f.about)

-- whether no group has the name
abbrev absent : Subject → List Group → Bool
absent s [] = true
absent s (g ∷ gs) = not (same_subject s g.subject) && absent s gs

-- each group has all that is said of its name, and no two have one name
abbrev AreFull : List Fact → List Group → Type 0
AreFull fs [] = Unit {0}
AreFull fs (g ∷ gs) = (g.facts ≡ about g.subject fs) × (absent g.subject gs ≡ true) × AreFull fs gs

about_more : (s : Subject) (fs : List Fact) (f : Fact) → about s (fs ++ f ∷ []) ≡ about s fs ++ cond (same_subject s f.about) (f ∷ []) []
about_more s fs f = filter-append (λ g. same_subject s g.about) fs (f ∷ [])

about_that : (s : Subject) (fs : List Fact) (f : Fact) → same_subject s f.about ≡ true → about s (fs ++ f ∷ []) ≡ about s fs ++ f ∷ []
about_that s fs f e = about_more s fs f ∙ ap (λ b. about s fs ++ cond b (f ∷ []) []) e

about_other : (s : Subject) (fs : List Fact) (f : Fact) → same_subject s f.about ≡ false → about s fs ≡ about s (fs ++ f ∷ [])
about_other s fs f e = sym (about_more s fs f ∙ ap (λ b. about s fs ++ cond b (f ∷ []) []) e ∙ append-nil (about s fs))

not_true : (b c : Bool) → (not b && c) ≡ true → (b ≡ false) × (c ≡ true)
not_true false c h = (refl, h)
not_true true c h = absurd (true≢false (sym h))

-- groups of other names stay as they are
others_stay : (fs : List Fact) (gs : List Group) (f : Fact) → AreFull fs gs → absent f.about gs ≡ true → AreFull (fs ++ f ∷ []) gs
others_stay fs [] f full h = tt
others_stay fs (g ∷ gs) f full h =
    let two = not_true (same_subject f.about g.subject) (absent f.about gs) h in
    (full.0 ∙ about_other g.subject fs f (subjects_turn f.about g.subject false two.0), full.1, others_stay fs gs f full.2 two.1)

absent_placed : (s : Subject) (gs : List Group) (f : Fact) → same_subject s f.about ≡ false → absent s gs ≡ true → absent s (placed gs f) ≡ true
absent_placed s [] f e h = ap (λ b. not b && true) e
absent_placed s (g ∷ gs) f e h = by (same_subject f.about g.subject) (absent_placed s gs f e (not_true (same_subject s g.subject) (absent s gs) h).1)
  where
    by : (b : Bool) → absent s (placed gs f) ≡ true → absent s (pick b (record { subject = g.subject; facts = g.facts ++ f ∷ [] } ∷ gs) (g ∷ placed gs f)) ≡ true
    by true rest = h
    by false rest = and_true _ _ (ap not (not_true (same_subject s g.subject) (absent s gs) h).0) rest

placed_full : (fs : List Fact) (gs : List Group) (f : Fact) → AreFull fs gs → (absent f.about gs ≡ true → about f.about fs ≡ []) → AreFull (fs ++ f ∷ []) (placed gs f)
placed_full fs [] f full new =
    (sym (about_that f.about fs f (subject_self f.about) ∙ ap (λ xs. xs ++ f ∷ []) (new refl)), refl, tt)
placed_full fs (g ∷ gs) f full new = by (same_subject f.about g.subject) refl (λ n. placed_full fs gs f full.2 n)
  where
    by : (b : Bool) → same_subject f.about g.subject ≡ b → ((absent f.about gs ≡ true → about f.about fs ≡ []) → AreFull (fs ++ f ∷ []) (placed gs f))
        → AreFull (fs ++ f ∷ []) (pick b (record { subject = g.subject; facts = g.facts ++ f ∷ [] } ∷ gs) (g ∷ placed gs f))
    by true e rest =
        let turned = subjects_turn f.about g.subject true e in
        let away : absent f.about gs ≡ true = ap (λ s. absent s gs) (subjects_same f.about g.subject e) ∙ full.1 in
        (ap (λ xs. xs ++ f ∷ []) full.0 ∙ sym (about_that g.subject fs f turned), full.1, others_stay fs gs f full.2 away)
    by false e rest =
        let turned = subjects_turn f.about g.subject false e in
        (full.0 ∙ about_other g.subject fs f turned, absent_placed g.subject gs f turned full.1, rest (λ h. new (and_true _ _ (ap not e) h)))

-- what is not among the groups is not among the facts
abbrev Covers : List Fact → List Group → Type 0
Covers fs gs = (s : Subject) → absent s gs ≡ true → about s fs ≡ []

absent_before : (s : Subject) (gs : List Group) (f : Fact) → absent s (placed gs f) ≡ true → (absent s gs ≡ true) × (same_subject s f.about ≡ false)
absent_before s [] f h = (refl, (not_true (same_subject s f.about) true h).0)
absent_before s (g ∷ gs) f h = by (same_subject f.about g.subject) refl h (absent_before s gs f)
  where
    by : (b : Bool) → same_subject f.about g.subject ≡ b → absent s (pick b (record { subject = g.subject; facts = g.facts ++ f ∷ [] } ∷ gs) (g ∷ placed gs f)) ≡ true
        → (absent s (placed gs f) ≡ true → (absent s gs ≡ true) × (same_subject s f.about ≡ false)) → (absent s (g ∷ gs) ≡ true) × (same_subject s f.about ≡ false)
    by true e h rest = (h, ap (same_subject s) (subjects_same f.about g.subject e) ∙ (not_true (same_subject s g.subject) (absent s gs) h).0)
    by false e h rest =
        let two = not_true (same_subject s g.subject) (absent s (placed gs f)) h in
        let more = rest two.1 in
        (and_true _ _ (ap not two.0) more.0, more.1)

covers_more : (fs : List Fact) (gs : List Group) (f : Fact) → Covers fs gs → Covers (fs ++ f ∷ []) (placed gs f)
covers_more fs gs f covers s h = let two = absent_before s gs f h in sym (about_other s fs f two.1) ∙ covers s two.0

full_fold : (done : List Fact) (gs : List Group) (fs : List Fact) → AreFull done gs → Covers done gs → AreFull (done ++ fs) (fold placed gs fs)
full_fold done gs [] full covers = subst (λ xs. AreFull xs gs) (sym (append-nil done)) full
full_fold done gs (f ∷ fs) full covers =
    subst (λ xs. AreFull xs (fold placed (placed gs f) fs)) (append_assoc done (f ∷ []) fs)
    (full_fold (done ++ f ∷ []) (placed gs f) fs (placed_full done gs f full (covers f.about)) (covers_more done gs f covers))

grouped_full : (fs : List Fact) → AreFull fs (grouped fs)
grouped_full fs = full_fold [] [] fs tt (λ s h. refl)

module _ (fault : Subject → List Fact → Bool) (fs : List Fact) where
  group_is : (gs : List Group) → AreFull fs gs → first_group fault gs ≡ option_map (λ s. s.name) (find (λ s. fault s (about s fs)) (names_of gs))
  group_is [] full = refl
  group_is (g ∷ gs) full =
      ap (λ xs. pick (fault g.subject xs) (Some g.subject.name) (first_group fault gs)) full.0 ∙ by (fault g.subject (about g.subject fs)) (group_is gs full.2)
    where
      by : (b : Bool) → first_group fault gs ≡ option_map (λ s. s.name) (find (λ s. fault s (about s fs)) (names_of gs))
          → pick b (Some g.subject.name) (first_group fault gs) ≡ option_map (λ s. s.name) (cond b (Some g.subject) (find (λ s. fault s (about s fs)) (names_of gs)))
      by true rest = refl
      by false rest = rest

  pub first_is : first_group fault (grouped fs) ≡ first_with fault fs
  first_is = group_is (grouped fs) (grouped_full fs) ∙ ap (option_map (λ s. s.name)) (all_found (λ s. fault s (about s fs)) [] fs)
