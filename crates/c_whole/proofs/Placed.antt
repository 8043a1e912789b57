-- A fact put with those of its name, over the groups of the code.
use Rattle.std.proofs.Common.{◌≡◌, ◌<◌, ◌≤◌, ℕ, zero, suc, ◌+◌, List, [], ◌∷◌, ◌++◌, length, map, Bool, true, false, cond, not, ◌||◌, slice_set, slice_index_or, if◌then◌else◌, Option, Some, None, refl, sym, ap, ◌∙◌, arith}
use Rattle.std.specs.List.{position_or_len, list_any}
use Rattle.indexmap.specs.IndexSet.{insert_key}
use Rattle.std.proofs.lemmas.List.{map-append}
use Rattle.std.proofs.Math.Seq.{map-set_same}
use Rattle.c_type.specs.Names.{pick}
use Rattle.c_join.specs.JoinSaid as j
use Rattle.c_join.specs.JoinSaid.{Fact}
use Rattle.c_join.specs.JoinChecks.{same_subject}
use Rattle.c_whole.specs.Facts.{subject_of, fact_of, facts_of}
use Rattle.c_whole.specs.Groups.{Group, group_of, groups_of, placed, same_name}
use Rattle.c_whole.specs.declared.facts.Subject as cs
use Rattle.c_whole.specs.contracts.facts.SubjectPartialEq.TheImpl.{eq-value}
use Rattle.c_whole.specs.declared.facts.Fact as cf
use Rattle.c_whole.specs.declared.groups.Group as cg

-- the names of groups
abbrev pub names : List cg.Group → List cs.Subject
names gs = map (λ g. g.subject) gs

-- where the name of a fact stands among the groups
abbrev pub found : List cg.Group → cf.Fact → ℕ
found gs f = position_or_len (same_subject (subject_of f.about)) (map (λ g. subject_of g.subject) gs)

abbrev group : j.Subject → List Fact → Group
group s fs = record { subject = s; facts = fs }

same_group : (s t : j.Subject) (fs gs : List Fact) → s ≡ t → fs ≡ gs → group s fs ≡ group t gs
same_group s t fs gs p q = ap (λ y. group y fs) p ∙ ap (group t) q

pub facts_more : (fs : List cf.Fact) (f : cf.Fact) → facts_of (fs ++ f ∷ []) ≡ facts_of fs ++ fact_of f ∷ []
facts_more fs f = map-append fact_of fs (f ∷ [])

-- a fact that joins those of its name
pub with_others : (gs : List cg.Group) (f : cf.Fact) (x old : cg.Group) (i : ℕ) → i ≡ found gs f → i < length gs → old ≡ slice_index_or gs i old
    → x.subject ≡ old.subject → facts_of x.facts.items ≡ facts_of old.facts.items ++ fact_of f ∷ [] → groups_of (slice_set gs i x) ≡ placed (groups_of gs) (fact_of f)
with_others [] f x old i at within same here more = absurd (omega arith)
with_others (g ∷ gs) f x old zero at within same here more = by (same_subject (subject_of f.about) (subject_of g.subject)) at
  where
    by : (b : Bool) → zero ≡ cond (not b) (1 + found gs f) 0 → group_of x ∷ groups_of gs ≡ pick b (group (subject_of g.subject) (facts_of g.facts.items ++ fact_of f ∷ []) ∷ groups_of gs) (group_of g ∷ placed (groups_of gs) (fact_of f))
    by true e = ap (λ y. y ∷ groups_of gs) (same_group _ _ _ _ (ap subject_of here ∙ ap (λ y. subject_of y.subject) same) (more ∙ ap (λ y. facts_of y.facts.items ++ fact_of f ∷ []) same))
    by false e = absurd (omega arith)
with_others (g ∷ gs) f x old (suc i) at within same here more =
    by (same_subject (subject_of f.about) (subject_of g.subject)) at (λ e. with_others gs f x old i e (omega arith) same here more)
  where
    by : (b : Bool) → suc i ≡ cond (not b) (1 + found gs f) 0 → (i ≡ found gs f → groups_of (slice_set gs i x) ≡ placed (groups_of gs) (fact_of f)) → group_of g ∷ groups_of (slice_set gs i x) ≡ pick b (group (subject_of g.subject) (facts_of g.facts.items ++ fact_of f ∷ []) ∷ groups_of gs) (group_of g ∷ placed (groups_of gs) (fact_of f))
    by true e rest = absurd (omega arith)
    by false e rest = ap (λ y. group_of g ∷ y) (rest (omega arith))

-- the first fact of a new name
pub as_last : (gs : List cg.Group) (f : cf.Fact) (x : cg.Group) → found gs f ≡ length gs → x.subject ≡ f.about → facts_of x.facts.items ≡ fact_of f ∷ []
    → groups_of (gs ++ x ∷ []) ≡ placed (groups_of gs) (fact_of f)
as_last [] f x at here more = ap (λ y. y ∷ []) (same_group _ _ _ _ (ap subject_of here) more)
as_last (g ∷ gs) f x at here more = by (same_subject (subject_of f.about) (subject_of g.subject)) at (λ e. as_last gs f x e here more)
  where
    by : (b : Bool) → cond (not b) (1 + found gs f) 0 ≡ length (g ∷ gs) → (found gs f ≡ length gs → groups_of (gs ++ x ∷ []) ≡ placed (groups_of gs) (fact_of f)) → group_of g ∷ groups_of (gs ++ x ∷ []) ≡ pick b (group (subject_of g.subject) (facts_of g.facts.items ++ fact_of f ∷ []) ∷ groups_of gs) (group_of g ∷ placed (groups_of gs) (fact_of f))
    by true e rest = absurd (omega arith)
    by false e rest = ap (λ y. group_of g ∷ y) (rest (omega arith))

found_within : (gs : List cg.Group) (f : cf.Fact) → found gs f ≤ length gs
found_within [] f = omega arith
found_within (g ∷ gs) f = by (same_subject (subject_of f.about) (subject_of g.subject)) (found_within gs f)
  where
    by : (b : Bool) → found gs f ≤ length gs → cond (not b) (1 + found gs f) 0 ≤ length (g ∷ gs)
    by true w = omega arith
    by false w = omega arith

pub found_at_end : (gs : List cg.Group) (f : cf.Fact) (i : ℕ) → i ≡ found gs f → (i < length gs → ⊥) → found gs f ≡ length gs
found_at_end gs f i at beyond = let w : found gs f ≤ length gs = found_within gs f in omega arith

any_found : (gs : List cg.Group) (f : cf.Fact) → found gs f < length gs → list_any (same_name f.about) (names gs) ≡ true
any_found [] f within = absurd (omega arith)
any_found (g ∷ gs) f within = by (same_subject (subject_of f.about) (subject_of g.subject)) within (any_found gs f)
  where
    by : (b : Bool) → cond (not b) (1 + found gs f) 0 < length (g ∷ gs) → (found gs f < length gs → list_any (same_name f.about) (names gs) ≡ true) → (b || list_any (same_name f.about) (names gs)) ≡ true
    by true w rest = refl
    by false w rest = rest (omega arith)

none_found : (gs : List cg.Group) (f : cf.Fact) → found gs f ≡ length gs → list_any (same_name f.about) (names gs) ≡ false
none_found [] f at = refl
none_found (g ∷ gs) f at = by (same_subject (subject_of f.about) (subject_of g.subject)) at (none_found gs f)
  where
    by : (b : Bool) → cond (not b) (1 + found gs f) 0 ≡ length (g ∷ gs) → (found gs f ≡ length gs → list_any (same_name f.about) (names gs) ≡ false) → (b || list_any (same_name f.about) (names gs)) ≡ false
    by true e rest = absurd (omega arith)
    by false e rest = rest (omega arith)

-- the names stay where the fact joins others
pub names_stay : (gs : List cg.Group) (f : cf.Fact) (x old : cg.Group) (i : ℕ) → i ≡ found gs f → i < length gs → old ≡ slice_index_or gs i old
    → x.subject ≡ old.subject → names (slice_set gs i x) ≡ insert_key same_name (names gs) f.about
names_stay gs f x old i at within same here =
    map-set_same (λ g. g.subject) gs i x old (here ∙ ap (λ y. y.subject) same) ∙
    sym (ap (λ b. if b then names gs else names gs ++ f.about ∷ []) (any_found gs f (omega arith)))

-- a new name stands last
pub names_grow : (gs : List cg.Group) (f : cf.Fact) (x : cg.Group) → found gs f ≡ length gs → x.subject ≡ f.about → names (gs ++ x ∷ []) ≡ insert_key same_name (names gs) f.about
names_grow gs f x at here =
    map-append (λ g. g.subject) gs (x ∷ []) ∙ ap (λ y. names gs ++ y ∷ []) here ∙
    sym (ap (λ b. if b then names gs else names gs ++ f.about ∷ []) (none_found gs f at))

-- The names of the code are compared as those of the program.
pub eq_is : (a b : cs.Subject) → eq-value.it a b ≡ same_name a b
eq_is a b = by a.within b.within
  where
    by : (x y : Option ℕ) → eq-value.it (record { within = x; name = a.name }) (record { within = y; name = b.name }) ≡ same_name (record { within = x; name = a.name }) (record { within = y; name = b.name })
    by None None = refl
    by None (Some v) = refl
    by (Some u) None = refl
    by (Some u) (Some v) = refl

module _ (eq : cs.Subject → cs.Subject → Bool) (is : (a b : cs.Subject) → eq a b ≡ same_name a b) where
  pub found_by : (gs : List cg.Group) (f : cf.Fact) → position_or_len (eq f.about) (names gs) ≡ found gs f
  found_by [] f = refl
  found_by (g ∷ gs) f = λ i. cond (not (is f.about g.subject i)) (1 + found_by gs f i) 0

  any_by : (ks : List cs.Subject) (k : cs.Subject) → list_any (eq k) ks ≡ list_any (same_name k) ks
  any_by [] k = refl
  any_by (x ∷ xs) k = λ i. is k x i || any_by xs k i

  pub insert_by : (ks : List cs.Subject) (k : cs.Subject) → insert_key eq ks k ≡ insert_key same_name ks k
  insert_by ks k = ap (λ b. if b then ks else ks ++ k ∷ []) (any_by ks k)
