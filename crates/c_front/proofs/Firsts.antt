-- Lists that agree place by place, and the first member that has no partner.
use Rattle.std.proofs.Common.{◌≡◌, ◌<◌, ℕ, zero, suc, List, [], ◌∷◌, ◌++◌, length, take, inl, inr, refl, ap, ◌∙◌, arith}
use Rattle.std.specs.Prelude.{Some, None, slice_get}
use Rattle.std.specs.List.{AllZip}
use Rattle.std.proofs.lemmas.Bool.{cases_lt}
use Rattle.c_front.specs.First.{IsFirst}

nothing : {A : Type 0} {x : A} → None ≡ Some x → ⊥
nothing e = cc

one_thing : {A : Type 0} {x y : A} → Some x ≡ Some y → x ≡ y
one_thing e = cc

module _ {A B : Type 0} (R : A → B → Type 0) where
  -- one pair more
  pub zip_push : (xs : List A) (ys : List B) (x : A) (y : B) → AllZip R xs ys → R x y → AllZip R (xs ++ x ∷ []) (ys ++ y ∷ [])
  zip_push [] [] x y all r = (r, tt)
  zip_push [] (b ∷ ys) x y all r = absurd all
  zip_push (a ∷ xs) [] x y all r = absurd all
  zip_push (a ∷ xs) (b ∷ ys) x y all r = (all.0, zip_push xs ys x y all.1 r)

  pub zip_length : (xs : List A) (ys : List B) → AllZip R xs ys → length xs ≡ length ys
  zip_length [] [] all = refl
  zip_length [] (b ∷ ys) all = absurd all
  zip_length (a ∷ xs) [] all = absurd all
  zip_length (a ∷ xs) (b ∷ ys) all = ap suc (zip_length xs ys all.1)

  -- the partners are one list where each member has one partner
  pub zip_same : ((x : A) (y z : B) → R x y → R x z → y ≡ z) → (xs : List A) (ys zs : List B) → AllZip R xs ys → AllZip R xs zs → ys ≡ zs
  zip_same one [] [] [] p q = refl
  zip_same one [] [] (z ∷ zs) p q = absurd q
  zip_same one [] (y ∷ ys) zs p q = absurd p
  zip_same one (x ∷ xs) [] zs p q = absurd p
  zip_same one (x ∷ xs) (y ∷ ys) [] p q = absurd q
  zip_same one (x ∷ xs) (y ∷ ys) (z ∷ zs) p q =
      let head : y ≡ z = one x y z p.0 q.0 in
      let tail : ys ≡ zs = zip_same one xs ys zs p.1 q.1 in
      ap (λ h. h ∷ ys) head ∙ ap (λ t. z ∷ t) tail

  -- each member has a partner
  pub partner : (xs : List A) (ys : List B) (k : ℕ) (x : A) → AllZip R xs ys → slice_get xs k ≡ Some x → (y : B) × R x y
  partner [] ys k x all is = absurd (nothing is)
  partner (a ∷ xs) [] k x all is = absurd all
  partner (a ∷ xs) (b ∷ ys) zero x all is = (b, rw (one_thing is) at all.0)
  partner (a ∷ xs) (b ∷ ys) (suc k) x all is = partner xs ys k x all.1 is

member_before : {A : Type 0} (xs : List A) (j k : ℕ) (x : A) → k < j → slice_get xs k ≡ Some x → slice_get (take j xs) k ≡ Some x
member_before [] j k x below is = absurd (nothing is)
member_before (a ∷ xs) zero k x below is = absurd (omega arith)
member_before (a ∷ xs) (suc j) zero x below is = is
member_before (a ∷ xs) (suc j) (suc k) x below is = member_before xs j k x (omega arith) is

module _ {A B : Type 0} (R : A → B → Type 0) where
  -- where all have partners, none is bad
  pub no_first : (P : A → Type 0) → ((x : A) (y : B) → R x y → P x → ⊥) → (xs : List A) (ys : List B) (k : ℕ) → AllZip R xs ys → IsFirst R P xs k → ⊥
  no_first P apart xs ys k all first =
      let p = partner R xs ys k first.member all first.there in
      apart first.member p.0 p.1 first.bad

  not_before : (P Q : A → Type 0) → ((x : A) (y : B) → R x y → P x → ⊥) → (xs : List A) (k j : ℕ) → k < j → IsFirst R P xs k → IsFirst R Q xs j → ⊥
  not_before P Q apart xs k j below first later =
      let p = partner R (take j xs) later.before k first.member later.good (member_before xs j k first.member below first.there) in
      apart first.member p.0 p.1 first.bad

  -- the first that is bad is one
  pub first_once : (P Q : A → Type 0) → ((x : A) (y : B) → R x y → P x → ⊥) → ((x : A) (y : B) → R x y → Q x → ⊥) → (xs : List A) (k j : ℕ) → IsFirst R P xs k → IsFirst R Q xs j → k ≡ j
  first_once P Q apart other xs k j first second = elim (cases_lt k j) [
    | inl below ↦ absurd (not_before P Q apart xs k j below first second)
    | inr above ↦ elim (cases_lt j k) [
      | inl below ↦ absurd (not_before Q P other xs j k below second first)
      | inr low ↦ omega arith
    ]
  ]

  -- members before number i have partners, and number i is bad
  pub first_at : (P : A → Type 0) (xs : List A) (ys : List B) (i : ℕ) (x : A) → AllZip R (take i xs) ys → slice_get xs i ≡ Some x → P x → IsFirst R P xs i
  first_at P xs ys i x good there bad = record { before = ys; good = good; member = x; there = there; bad = bad }
