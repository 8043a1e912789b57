-- One type can stand for the types of a name that were met.
use Rattle.std.proofs.Common.{◌≡◌, ℕ, List, [], ◌∷◌, ◌++◌, Bool, true, false, not, ◌&&◌, ◌||◌, nat_eq, Option, Some, None, option_to_list, refl, sym, ap, ◌∙◌, true≢false}
use Rattle.std.specs.List.{list_any, filter_map, cons_option}
use Rattle.std.proofs.lemmas.Bool.{eqb-true}
use Rattle.c_type.specs.Names.{pick}
use Rattle.c_type.specs.Types.{CType, arr}
use Rattle.c_join.specs.JoinSaid.{Fact}
use Rattle.c_join.specs.JoinTypes.{Relation, TypeIn, agree_by, between, same_dimension, declare_alike}
use Rattle.c_join.specs.JoinChecks.{differ, some_differ, type_in}
use Rattle.c_whole.specs.Given.{is_open, both_of, with_fact, by_type, kept_on}
use Rattle.c_whole.proofs.Replace.{Equates, agree_replace, both_true}

and_self : (b : Bool) → b ≡ (b && b)
and_self true = refl
and_self false = refl

and_true : (b : Bool) → b ≡ (b && true)
and_true true = refl
and_true false = refl

and_false : (a b : Bool) → false ≡ ((a && false) && (b && false))
and_false true b = refl
and_false false b = refl

picked_false : (e a : Bool) (b : Bool) → pick e (b && false) (a && false) ≡ ((a && false) && (b && false))
picked_false true true true = refl
picked_false true true false = refl
picked_false true false true = refl
picked_false true false false = refl
picked_false false true true = refl
picked_false false true false = refl
picked_false false false b = refl

false_twice : (e : Bool) → pick e false false ≡ false
false_twice true = refl
false_twice false = refl

dimensions : (n m p : ℕ) → same_dimension n m ≡ true → pick (nat_eq n 0) (same_dimension m p) (same_dimension n p) ≡ (same_dimension n p && same_dimension m p)
dimensions n m p h = by (nat_eq n 0) (nat_eq m 0) refl refl h
  where
    by : (e f : Bool) → nat_eq n 0 ≡ e → nat_eq m 0 ≡ f → (e || (f || nat_eq n m)) ≡ true → pick e (same_dimension m p) (e || (nat_eq p 0 || nat_eq n p)) ≡ ((e || (nat_eq p 0 || nat_eq n p)) && same_dimension m p)
    by true f ne me h = refl
    by false true ne me h = and_true (nat_eq p 0 || nat_eq n p) ∙ ap (λ b. (nat_eq p 0 || nat_eq n p) && (b || (nat_eq p 0 || nat_eq m p))) (sym me)
    by false false ne me h =
        and_self (nat_eq p 0 || nat_eq n p) ∙ ap (λ k. (nat_eq p 0 || nat_eq n p) && (nat_eq p 0 || nat_eq k p)) (eqb-true n m h) ∙
        ap (λ b. (nat_eq p 0 || nat_eq n p) && (b || (nat_eq p 0 || nat_eq m p))) (sym me)

arrays : (n m p : ℕ) (a b : Bool) → same_dimension n m ≡ true → b ≡ a → pick (nat_eq n 0) (same_dimension m p && b) (same_dimension n p && a) ≡ ((same_dimension n p && a) && (same_dimension m p && b))
arrays n m p a b h e = (λ i. pick (nat_eq n 0) (same_dimension m p && e i) (same_dimension n p && a)) ∙ by a ∙ (λ i. (same_dimension n p && a) && (same_dimension m p && sym e i))
  where
    by : (a : Bool) → pick (nat_eq n 0) (same_dimension m p && a) (same_dimension n p && a) ≡ ((same_dimension n p && a) && (same_dimension m p && a))
    by true = (λ i. pick (nat_eq n 0) (sym (and_true (same_dimension m p)) i) (sym (and_true (same_dimension n p)) i)) ∙ dimensions n m p h ∙ (λ i. and_true (same_dimension n p) i && and_true (same_dimension m p) i)
    by false = picked_false (nat_eq n 0) (same_dimension n p) (same_dimension m p)

module _ (r : Relation) (laws : Equates r) where
  types_stand : (u v w : ℕ) (a b c : CType) → declare_alike (between r u v) a b ≡ true
      → pick (is_open a) (declare_alike (between r v w) b c) (declare_alike (between r u w) a c) ≡ (declare_alike (between r u w) a c && declare_alike (between r v w) b c)
  types_stand u v w (arr n a) (arr m b) (arr p c) h =
      let two = both_true (same_dimension n m) (agree_by (between r u v) a b) h in
      arrays n m p (agree_by (between r u w) a c) (agree_by (between r v w) b c) two.0 (agree_replace r laws u v w a b c two.1)
  types_stand u v w (arr n a) (arr m b) c h = false_twice (nat_eq n 0)
  types_stand u v w a (arr m b) c h = absurd (true≢false (sym h))
  types_stand u v w (arr n a) b c h = absurd (true≢false (sym h))
  types_stand u v w a b c h = and_self (agree_by (between r u w) a c) ∙ ap (λ y. agree_by (between r u w) a c && y) (sym (agree_replace r laws u v w a b c h))

  abbrev alike_in : TypeIn → TypeIn → Bool
  alike_in a b = declare_alike (between r a.unit b.unit) a.ty b.ty

  stands : (k t x : TypeIn) (e : Bool) → is_open k.ty ≡ e → alike_in k t ≡ true → differ r (pick e t k) x ≡ (differ r k x || differ r t x)
  stands k t x true open_ h = ap not (ap (λ y. pick y (alike_in t x) (alike_in k x)) (sym open_) ∙ types_stand k.unit t.unit x.unit k.ty t.ty x.ty h) ∙ turned (alike_in k x) (alike_in t x)
    where
      turned : (a b : Bool) → not (a && b) ≡ (not a || not b)
      turned true b = refl
      turned false b = refl
  stands k t x false open_ h = ap not (ap (λ y. pick y (alike_in t x) (alike_in k x)) (sym open_) ∙ types_stand k.unit t.unit x.unit k.ty t.ty x.ty h) ∙ turned (alike_in k x) (alike_in t x)
    where
      turned : (a b : Bool) → not (a && b) ≡ (not a || not b)
      turned true b = refl
      turned false b = refl

  all_stand : (k t : TypeIn) (e : Bool) → is_open k.ty ≡ e → alike_in k t ≡ true → (ts : List TypeIn) → list_any (differ r (pick e t k)) ts ≡ (list_any (differ r k) ts || list_any (differ r t) ts)
  all_stand k t e open_ h [] = refl
  all_stand k t e open_ h (x ∷ ts) =
      (λ i. stands k t x e open_ h i || all_stand k t e open_ h ts i) ∙ mixed (differ r k x) (differ r t x) (list_any (differ r k) ts) (list_any (differ r t) ts)
    where
      mixed : (a b c d : Bool) → ((a || b) || (c || d)) ≡ ((a || c) || (b || d))
      mixed true b c d = refl
      mixed false true true d = refl
      mixed false true false d = refl
      mixed false false c d = refl

  or_assoc : (a b c : Bool) → (a || (b || c)) ≡ ((a || b) || c)
  or_assoc true b c = refl
  or_assoc false b c = refl

  -- a type of each two
  one_stays : (k t m : TypeIn) (ts : List TypeIn) → both_of r k t ≡ Some m → some_differ r (k ∷ t ∷ ts) ≡ some_differ r (m ∷ ts)
  one_stays k t m ts is = by (alike_in k t) (is_open k.ty) refl refl is
    where
      by : (d e : Bool) → alike_in k t ≡ d → is_open k.ty ≡ e → pick (not d) None (pick e (Some t) (Some k)) ≡ Some m
          → ((not d || list_any (differ r k) ts) || (list_any (differ r t) ts || some_differ r ts)) ≡ some_differ r (m ∷ ts)
      by false e al open_ is = absurd (cc)
      by true true al open_ is = or_assoc (list_any (differ r k) ts) (list_any (differ r t) ts) (some_differ r ts) ∙ ap (λ b. b || some_differ r ts) (sym (all_stand k t true open_ al ts)) ∙ (let same : t ≡ m = cc in ap (λ y. some_differ r (y ∷ ts)) same)
      by true false al open_ is = or_assoc (list_any (differ r k) ts) (list_any (differ r t) ts) (some_differ r ts) ∙ ap (λ b. b || some_differ r ts) (sym (all_stand k t false open_ al ts)) ∙ (let same : k ≡ m = cc in ap (λ y. some_differ r (y ∷ ts)) same)

  none_stays : (k t : TypeIn) (ts : List TypeIn) → both_of r k t ≡ None → some_differ r (k ∷ t ∷ ts) ≡ true
  none_stays k t ts is = by (alike_in k t) (is_open k.ty) is
    where
      by : (d e : Bool) → pick (not d) None (pick e (Some t) (Some k)) ≡ None → ((not d || list_any (differ r k) ts) || (list_any (differ r t) ts || some_differ r ts)) ≡ true
      by false e is = refl
      by true true is = absurd (cc)
      by true false is = absurd (cc)

  -- the type that is kept stands for those that were met
  pub fact_kept : (kept m : Option TypeIn) (f : Fact) (fs : List Fact) → with_fact r kept f ≡ Some m
      → some_differ r (option_to_list kept ++ filter_map type_in (f ∷ fs)) ≡ some_differ r (option_to_list m ++ filter_map type_in fs)
  fact_kept kept m f fs is = by (type_in f) kept is
    where
      by : (o kept : Option TypeIn) → by_type r kept o ≡ Some m → some_differ r (option_to_list kept ++ cons_option o (filter_map type_in fs)) ≡ some_differ r (option_to_list m ++ filter_map type_in fs)
      by None kept is = let same : kept ≡ m = cc in ap (λ k. some_differ r (option_to_list k ++ filter_map type_in fs)) same
      by (Some t) None is = let same : Some t ≡ m = cc in ap (λ k. some_differ r (option_to_list k ++ filter_map type_in fs)) same
      by (Some t) (Some k) is = joined (both_of r k t) refl is
        where
          joined : (o : Option TypeIn) → both_of r k t ≡ o → kept_on o ≡ Some m → some_differ r (k ∷ t ∷ filter_map type_in fs) ≡ some_differ r (option_to_list m ++ filter_map type_in fs)
          joined None e is = absurd (cc)
          joined (Some x) e is = one_stays k t x (filter_map type_in fs) e ∙ (let same : Some x ≡ m = cc in ap (λ y. some_differ r (option_to_list y ++ filter_map type_in fs)) same)

  pub fact_differs : (kept : Option TypeIn) (f : Fact) (fs : List Fact) → with_fact r kept f ≡ None → some_differ r (option_to_list kept ++ filter_map type_in (f ∷ fs)) ≡ true
  fact_differs kept f fs is = by (type_in f) kept is
    where
      by : (o kept : Option TypeIn) → by_type r kept o ≡ None → some_differ r (option_to_list kept ++ cons_option o (filter_map type_in fs)) ≡ true
      by None kept is = absurd (cc)
      by (Some t) None is = absurd (cc)
      by (Some t) (Some k) is = joined (both_of r k t) refl is
        where
          joined : (o : Option TypeIn) → both_of r k t ≡ o → kept_on o ≡ None → some_differ r (k ∷ t ∷ filter_map type_in fs) ≡ true
          joined None e is = none_stays k t (filter_map type_in fs) e
          joined (Some x) e is = absurd (cc)
