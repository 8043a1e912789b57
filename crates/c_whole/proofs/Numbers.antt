-- What numbers of tags tell of tags that agree.
use Rattle.std.proofs.Common.{◌≡◌, ◌⊎◌, inl, inr, ℕ, zero, suc, ◌+◌, List, [], ◌∷◌, length, map, Bool, true, false, nat_eq, ◌&&◌, ◌||◌, slice_get, Option, Some, None, refl, sym, ap, subst, ◌∙◌, true≢false, arith}
use Rattle.std.specs.Option.{option_map}
use Rattle.std.proofs.lemmas.Bool.{eqb-true, eq-eqb}
use Rattle.std.proofs.lemmas.Slice.Eq.{bytes_eq-Decides}
use Rattle.c_type.specs.Names.{Name, same_name, pick, at_or}
use Rattle.c_type.specs.Types.{Tag}
use Rattle.c_tree.specs.TUnit.{TypedUnit, no_unit}
use Rattle.c_join.specs.JoinTypes.{TagAt, at, Relation, tag_of, is_named, alike_where, between, IsClosed}
use Rattle.c_join.specs.JoinChecks.{class_of, same_class}
use Rattle.c_whole.specs.Types.{same_number}
use Rattle.c_whole.specs.Classes.{alike_at, stays, row_stays, rows_stay, renumbered, renumbered_row, renumbered_rows, first_row, first_rows, IsNumbered, IsCoarse}
use Rattle.c_whole.proofs.Replace.{both_true, where_turn, where_join, where_wider}
use Rattle.c_whole.proofs.SameClass.{numbers_same, number_self, equates}

-- as many numbers as tags

abbrev counts : List TypedUnit → List ℕ
counts us = map (λ t. length t.tags) us

abbrev head_or : ℕ → List ℕ → ℕ
head_or d [] = d
head_or d (n ∷ ns) = n

abbrev tail : List ℕ → List ℕ
tail [] = []
tail (n ∷ ns) = ns

each_row : (cs : List (List ℕ)) (us : List TypedUnit) (u : ℕ) → map length cs ≡ counts us → length (at_or [] cs u) ≡ length (at_or no_unit us u).tags
each_row [] [] u e = refl
each_row [] (t ∷ us) u e = absurd (cc)
each_row (c ∷ cs) [] u e = absurd (cc)
each_row (c ∷ cs) (t ∷ us) zero e = ap (head_or 0) e
each_row (c ∷ cs) (t ∷ us) (suc u) e = each_row cs us u (ap tail e)

none_too : {A B : Type 0} → (xs : List A) (ys : List B) (k : ℕ) → length xs ≡ length ys → slice_get xs k ≡ None → slice_get ys k ≡ None
none_too [] [] k e h = refl
none_too [] (y ∷ ys) k e h = absurd (omega arith)
none_too (x ∷ xs) [] k e h = absurd (omega arith)
none_too (x ∷ xs) (y ∷ ys) zero e h = absurd (cc)
none_too (x ∷ xs) (y ∷ ys) (suc k) e h = none_too xs ys k (omega arith) h

module _ (us : List TypedUnit) (cs : List (List ℕ)) (each : map length cs ≡ counts us) where
  no_tag_there : (p : TagAt) → class_of cs p ≡ None → tag_of us p ≡ None
  no_tag_there p h = none_too (at_or [] cs p.unit) (at_or no_unit us p.unit).tags p.tag (each_row cs us p.unit each) h

  no_class_there : (p : TagAt) → tag_of us p ≡ None → class_of cs p ≡ None
  no_class_there p h = none_too (at_or no_unit us p.unit).tags (at_or [] cs p.unit) p.tag (sym (each_row cs us p.unit each)) h

-- the numbers at first

module _ (number : Name → ℕ) where
  first_at : (c : ℕ) (ts : List Tag) (k : ℕ) (t : Tag) → slice_get ts k ≡ Some t → is_named t.name ≡ true → slice_get (first_row number c ts) k ≡ Some (number t.name)
  first_at c [] k t is named = absurd (cc)
  first_at c (x ∷ ts) zero t is named =
      let same : x ≡ t = cc in
      ap (λ y. Some (pick (is_named y.name) (number y.name) c)) same ∙ ap (λ b. Some (pick b (number t.name) c)) named
  first_at c (x ∷ ts) (suc k) t is named = first_at (c + 1) ts k t is named

  first_in : (c : ℕ) (us : List TypedUnit) (u k : ℕ) (t : Tag) → slice_get (at_or no_unit us u).tags k ≡ Some t → is_named t.name ≡ true → slice_get (at_or [] (first_rows number c us) u) k ≡ Some (number t.name)
  first_in c [] u k t is named = absurd (cc)
  first_in c (x ∷ us) zero k t is named = first_at c x.tags k t is named
  first_in c (x ∷ us) (suc u) k t is named = first_in (c + length x.tags) us u k t is named

  first_length : (c : ℕ) (ts : List Tag) → length (first_row number c ts) ≡ length ts
  first_length c [] = refl
  first_length c (t ∷ ts) = ap suc (first_length (c + 1) ts)

  first_each : (c : ℕ) (us : List TypedUnit) → map length (first_rows number c us) ≡ counts us
  first_each c [] = refl
  first_each c (t ∷ us) = λ i. first_length c t.tags i ∷ first_each (c + length t.tags) us i

  same_first : (c : ℕ) (us : List TypedUnit) (r : ℕ → ℕ → Bool) (p q : TagAt) (x y : Option Tag) → tag_of us p ≡ x → tag_of us q ≡ y → alike_where r x y ≡ true → same_class (first_rows number c us) p q ≡ true
  same_first c us r p q None None pe qe h =
      (λ i. same_number (no_class_there us (first_rows number c us) (first_each c us) p pe i) (no_class_there us (first_rows number c us) (first_each c us) q qe i))
  same_first c us r p q (Some s) (Some t) pe qe h =
      let one = both_true (is_named s.name) _ h in
      let two = both_true (same_name s.name t.name) _ one.1 in
      let names = (bytes_eq-Decides s.name t.name).0 two.0 in
      (λ i. same_number (first_in c us p.unit p.tag s pe one.0 i) (first_in c us q.unit q.tag t qe (ap is_named (sym names) ∙ one.0) i)) ∙ eq-eqb (number s.name) (number t.name) (ap number names)
  same_first c us r p q None (Some t) pe qe h = absurd (true≢false (sym h))
  same_first c us r p q (Some s) None pe qe h = absurd (true≢false (sym h))

  pub first_coarse : (c : ℕ) (us : List TypedUnit) → IsCoarse us (first_rows number c us)
  first_coarse c us = record {
    each = first_each c us;
    wide = λ s closed p q h. by s p q (closed p q h);
  }
    where
      by : (s : Relation) (p q : TagAt) → (p ≡ q) ⊎ (alike_where (between s p.unit q.unit) (tag_of us p) (tag_of us q) ≡ true) → same_class (first_rows number c us) p q ≡ true
      by s p q (inl e) = ap (λ x. same_class (first_rows number c us) p x) (sym e) ∙ number_self (class_of (first_rows number c us) p)
      by s p q (inr h) = same_first c us (between s p.unit q.unit) p q (tag_of us p) (tag_of us q) refl refl h

-- the numbers behind a round

module _ (us : List TypedUnit) (cs : List (List ℕ)) (leader : ℕ → Option TagAt) (other : ℕ → ℕ) where
  row_at : (u k : ℕ) (r : List ℕ) (j : ℕ) → slice_get (renumbered_row us cs leader other u k r) j ≡ option_map (λ n. renumbered us cs leader other (at u (k + j)) n) (slice_get r j)
  row_at u k [] j = refl
  row_at u k (n ∷ r) zero = let e : k ≡ k + 0 = omega arith in ap (λ m. Some (renumbered us cs leader other (at u m) n)) e
  row_at u k (n ∷ r) (suc j) = let e : (k + 1) + j ≡ k + suc j = omega arith in row_at u (k + 1) r j ∙ ap (λ m. option_map (λ n. renumbered us cs leader other (at u m) n) (slice_get r j)) e

  rows_at : (u : ℕ) (rs : List (List ℕ)) (v j : ℕ) → slice_get (at_or [] (renumbered_rows us cs leader other u rs) v) j ≡ option_map (λ n. renumbered us cs leader other (at (u + v) j) n) (slice_get (at_or [] rs v) j)
  rows_at u [] v j = refl
  rows_at u (r ∷ rs) zero j =
      let e : u ≡ u + 0 = omega arith in let f : 0 + j ≡ j = omega arith in
      row_at u 0 r j ∙ ap (λ m. option_map (λ n. renumbered us cs leader other (at u m) n) (slice_get r j)) f ∙ ap (λ m. option_map (λ n. renumbered us cs leader other (at m j) n) (slice_get r j)) e
  rows_at u (r ∷ rs) (suc v) j =
      let e : (u + 1) + v ≡ u + suc v = omega arith in
      rows_at (u + 1) rs v j ∙ ap (λ m. option_map (λ n. renumbered us cs leader other (at m j) n) (slice_get (at_or [] rs v) j)) e

  class_then : (p : TagAt) → class_of (renumbered_rows us cs leader other 0 cs) p ≡ option_map (λ n. renumbered us cs leader other p n) (class_of cs p)
  class_then p = let e : 0 + p.unit ≡ p.unit = omega arith in rows_at 0 cs p.unit p.tag ∙ ap (λ m. option_map (λ n. renumbered us cs leader other (at m p.tag) n) (class_of cs p)) e

  row_length : (u k : ℕ) (r : List ℕ) → length (renumbered_row us cs leader other u k r) ≡ length r
  row_length u k [] = refl
  row_length u k (n ∷ r) = ap suc (row_length u (k + 1) r)

  rows_length : (u : ℕ) (rs : List (List ℕ)) → map length (renumbered_rows us cs leader other u rs) ≡ map length rs
  rows_length u [] = refl
  rows_length u (r ∷ rs) = λ i. row_length u 0 r i ∷ rows_length (u + 1) rs i

-- which tags stay

or_true : (a b : Bool) → (a || b) ≡ true → (a ≡ true) ⊎ (b ≡ true)
or_true true b h = inl refl
or_true false b h = inr h

true_or : (a b : Bool) → (a ≡ true) ⊎ (b ≡ true) → (a || b) ≡ true
true_or true b h = refl
true_or false b (inl e) = absurd (true≢false (sym e))
true_or false b (inr e) = e

same_answer : (a b : Bool) → (a ≡ true → b ≡ true) → (b ≡ true → a ≡ true) → a ≡ b
same_answer true true f g = refl
same_answer false false f g = refl
same_answer true false f g = absurd (true≢false (sym (f refl)))
same_answer false true f g = absurd (true≢false (sym (g refl)))

places : (l p : TagAt) → (nat_eq l.unit p.unit && nat_eq l.tag p.tag) ≡ true → l ≡ p
places l p h = let two = both_true (nat_eq l.unit p.unit) (nat_eq l.tag p.tag) h in λ i. at (eqb-true l.unit p.unit two.0 i) (eqb-true l.tag p.tag two.1 i)

module _ (us : List TypedUnit) (cs : List (List ℕ)) where
  turned : (p q : TagAt) → alike_at us cs p q ≡ true → alike_at us cs q p ≡ true
  turned p q h = where_turn (same_class cs) (equates cs) p.unit q.unit (tag_of us p) (tag_of us q) h

  joined : (p q x : TagAt) → alike_at us cs p q ≡ true → alike_at us cs q x ≡ true → alike_at us cs p x ≡ true
  joined p q x h g = where_join (same_class cs) (equates cs) p.unit q.unit x.unit (tag_of us p) (tag_of us q) (tag_of us x) h g

  -- what is alike to a tag that stays stays
  follows : (l p q : TagAt) → alike_at us cs p q ≡ true → stays us cs (Some l) p ≡ true → stays us cs (Some l) q ≡ true
  follows l p q h stay = true_or (nat_eq l.unit q.unit && nat_eq l.tag q.tag) (alike_at us cs q l) (by (or_true (nat_eq l.unit p.unit && nat_eq l.tag p.tag) (alike_at us cs p l) stay))
    where
      by : ((nat_eq l.unit p.unit && nat_eq l.tag p.tag) ≡ true) ⊎ (alike_at us cs p l ≡ true) → ((nat_eq l.unit q.unit && nat_eq l.tag q.tag) ≡ true) ⊎ (alike_at us cs q l ≡ true)
      by (inl e) = inr (ap (alike_at us cs q) (places l p e) ∙ turned p q h)
      by (inr e) = inr (joined q p l (turned p q h) e)

  both_stay : (l : Option TagAt) (p q : TagAt) → alike_at us cs p q ≡ true → stays us cs l p ≡ stays us cs l q
  both_stay None p q h = refl
  both_stay (Some l) p q h = same_answer (stays us cs (Some l) p) (stays us cs (Some l) q) (follows l p q h) (follows l q p (turned p q h))

  module _ (coarse : IsCoarse us cs) (leader : ℕ → Option TagAt) (other : ℕ → ℕ) where
    alike_renumbered : (p q : TagAt) (c : Option ℕ) → alike_at us cs p q ≡ true → option_map (λ n. renumbered us cs leader other p n) c ≡ option_map (λ n. renumbered us cs leader other q n) c
    alike_renumbered p q None h = refl
    alike_renumbered p q (Some n) h = ap (λ b. Some (pick b n (other n))) (both_stay (leader n) p q h)

    still_same : (p q : TagAt) → same_class cs p q ≡ true → alike_at us cs p q ≡ true → same_class (renumbered_rows us cs leader other 0 cs) p q ≡ true
    still_same p q same h =
        let now : class_of (renumbered_rows us cs leader other 0 cs) q ≡ class_of (renumbered_rows us cs leader other 0 cs) p =
        class_then us cs leader other q ∙ ap (option_map (λ n. renumbered us cs leader other q n)) (sym (numbers_same (class_of cs p) (class_of cs q) same)) ∙
        sym (alike_renumbered p q (class_of cs p) h) ∙ sym (class_then us cs leader other p) in
        ap (same_number (class_of (renumbered_rows us cs leader other 0 cs) p)) now ∙ number_self (class_of (renumbered_rows us cs leader other 0 cs) p)

    pub coarse_then : IsCoarse us (renumbered_rows us cs leader other 0 cs)
    coarse_then = record {
      each = rows_length us cs leader other 0 cs ∙ coarse.each;
      wide = λ s closed p q h. by s closed p q (coarse.wide s closed p q h) (closed p q h);
    }
      where
        by : (s : Relation) → IsClosed us s → (p q : TagAt) → same_class cs p q ≡ true → (p ≡ q) ⊎ (alike_where (between s p.unit q.unit) (tag_of us p) (tag_of us q) ≡ true)
            → same_class (renumbered_rows us cs leader other 0 cs) p q ≡ true
        by s closed p q same (inl e) =
            ap (λ x. same_class (renumbered_rows us cs leader other 0 cs) p x) (sym e) ∙ number_self (class_of (renumbered_rows us cs leader other 0 cs) p)
        by s closed p q same (inr h) = still_same p q same (where_wider s (same_class cs) (coarse.wide s closed) p.unit q.unit (tag_of us p) (tag_of us q) h)

  module _ (leader : ℕ → Option TagAt) where
    row_stay : (u k : ℕ) (r : List ℕ) (j n : ℕ) → row_stays us cs leader u k r ≡ true → slice_get r j ≡ Some n → stays us cs (leader n) (at u (k + j)) ≡ true
    row_stay u k [] j n h is = absurd (cc)
    row_stay u k (m ∷ r) zero n h is =
        let e : k ≡ k + 0 = omega arith in let same : m ≡ n = cc in
        ap (λ x. stays us cs (leader n) (at u x)) (sym e) ∙ ap (λ x. stays us cs (leader x) (at u k)) (sym same) ∙ (both_true (stays us cs (leader m) (at u k)) (row_stays us cs leader u (k + 1) r) h).0
    row_stay u k (m ∷ r) (suc j) n h is =
        let e : (k + 1) + j ≡ k + suc j = omega arith in
        ap (λ x. stays us cs (leader n) (at u x)) (sym e) ∙ row_stay u (k + 1) r j n (both_true (stays us cs (leader m) (at u k)) (row_stays us cs leader u (k + 1) r) h).1 is

    rows_are : (u : ℕ) (rs : List (List ℕ)) (v j n : ℕ) → rows_stay us cs leader u rs ≡ true → slice_get (at_or [] rs v) j ≡ Some n → stays us cs (leader n) (at (u + v) j) ≡ true
    rows_are u [] v j n h is = absurd (cc)
    rows_are u (r ∷ rs) zero j n h is =
        let e : u ≡ u + 0 = omega arith in let f : 0 + j ≡ j = omega arith in
        ap (λ x. stays us cs (leader n) (at x j)) (sym e) ∙ ap (λ x. stays us cs (leader n) (at u x)) (sym f) ∙
        row_stay u 0 r j n (both_true (row_stays us cs leader u 0 r) (rows_stay us cs leader (u + 1) rs) h).0 is
    rows_are u (r ∷ rs) (suc v) j n h is =
        let e : (u + 1) + v ≡ u + suc v = omega arith in
        ap (λ x. stays us cs (leader n) (at x j)) (sym e) ∙ rows_are (u + 1) rs v j n (both_true (row_stays us cs leader u 0 r) (rows_stay us cs leader (u + 1) rs) h).1 is

    module _ (all : rows_stay us cs leader 0 cs ≡ true) (coarse : IsCoarse us cs) where
      stays_there : (p : TagAt) (n : ℕ) → class_of cs p ≡ Some n → stays us cs (leader n) p ≡ true
      stays_there p n is = let e : 0 + p.unit ≡ p.unit = omega arith in ap (λ x. stays us cs (leader n) (at x p.tag)) (sym e) ∙ rows_are 0 cs p.unit p.tag n all is

      two_stay : (l : Option TagAt) (p q : TagAt) → stays us cs l p ≡ true → stays us cs l q ≡ true → (p ≡ q) ⊎ (alike_at us cs p q ≡ true)
      two_stay None p q h g = absurd (true≢false (sym h))
      two_stay (Some l) p q h g =
          by (or_true (nat_eq l.unit p.unit && nat_eq l.tag p.tag) (alike_at us cs p l) h) (or_true (nat_eq l.unit q.unit && nat_eq l.tag q.tag) (alike_at us cs q l) g)
        where
          by : ((nat_eq l.unit p.unit && nat_eq l.tag p.tag) ≡ true) ⊎ (alike_at us cs p l ≡ true) → ((nat_eq l.unit q.unit && nat_eq l.tag q.tag) ≡ true) ⊎ (alike_at us cs q l ≡ true)
              → (p ≡ q) ⊎ (alike_at us cs p q ≡ true)
          by (inl e) (inl f) = inl (sym (places l p e) ∙ places l q f)
          by (inl e) (inr f) = inr (turned q p (ap (alike_at us cs q) (sym (places l p e)) ∙ f))
          by (inr e) (inl f) = inr (ap (alike_at us cs p) (sym (places l q f)) ∙ e)
          by (inr e) (inr f) = inr (joined p l q e (turned q l f))

      closed_here : (p q : TagAt) (c : Option ℕ) → class_of cs p ≡ c → class_of cs q ≡ c → (p ≡ q) ⊎ (alike_at us cs p q ≡ true)
      closed_here p q None pe qe = inr (λ i. alike_where (between (same_class cs) p.unit q.unit) (no_tag_there us cs coarse.each p pe i) (no_tag_there us cs coarse.each q qe i))
      closed_here p q (Some n) pe qe = two_stay (leader n) p q (stays_there p n pe) (stays_there q n qe)

      pub numbered : IsNumbered us cs
      numbered = record {
        each = coarse.each;
        agree = record {
          closed = λ p q h. closed_here p q (class_of cs p) refl (sym (numbers_same (class_of cs p) (class_of cs q) h));
          widest = coarse.wide;
        };
      }

-- the same, where the numbers are known by what they are equal to

pub coarse_by_first : (number : Name → ℕ) (c : ℕ) (us : List TypedUnit) (rows : List (List ℕ)) → rows ≡ first_rows number c us → IsCoarse us rows
coarse_by_first number c us rows e = subst (IsCoarse us) (sym e) (first_coarse number c us)

pub coarse_by_round : (us : List TypedUnit) (cs ds rows : List (List ℕ)) (leader : ℕ → Option TagAt) (other : ℕ → ℕ) → ds ≡ cs → rows ≡ renumbered_rows us ds leader other 0 ds → IsCoarse us cs → IsCoarse us rows
coarse_by_round us cs ds rows leader other same e coarse = subst (IsCoarse us) (sym e) (coarse_then us ds (subst (IsCoarse us) (sym same) coarse) leader other)

pub numbered_by : (us : List TypedUnit) (cs ds : List (List ℕ)) (leader : ℕ → Option TagAt) → ds ≡ cs → rows_stay us ds leader 0 ds ≡ true → IsCoarse us cs → IsNumbered us cs
numbered_by us cs ds leader same all coarse = subst (IsNumbered us) same (numbered us ds leader all (subst (IsCoarse us) (sym same) coarse))
