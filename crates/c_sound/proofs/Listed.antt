-- What stands in a list, and what tests and changes of lists say of it.
use Rattle.std.proofs.Common.{◌≡◌, List, [], ◌∷◌, ◌++◌, map, Bool, true, false, cond, ◌||◌, filter, find, Option, Some, None, ◌⊎◌, inl, inr, refl, sym, ap, ◌∙◌, subst, true≢false}
use Rattle.std.specs.List.{flat_map, list_any, filter_map, cons_option}

abbrev pub IsIn : {A : Type 0} → A → List A → Type 0
IsIn x [] = ⊥
IsIn x (y ∷ ys) = (x ≡ y) ⊎ IsIn x ys

abbrev pub Within : {A : Type 0} → List A → List A → Type 0
Within {A} xs ys = (x : A) → IsIn x xs → IsIn x ys

pub in_first : {A : Type 0} (x : A) (xs ys : List A) → IsIn x xs → IsIn x (xs ++ ys)
in_first x [] ys h = absurd h
in_first x (y ∷ xs) ys (inl e) = inl e
in_first x (y ∷ xs) ys (inr h) = inr (in_first x xs ys h)

pub in_second : {A : Type 0} (x : A) (xs ys : List A) → IsIn x ys → IsIn x (xs ++ ys)
in_second x [] ys h = h
in_second x (y ∷ xs) ys h = inr (in_second x xs ys h)

pub in_either : {A : Type 0} (x : A) (xs ys : List A) → IsIn x (xs ++ ys) → IsIn x xs ⊎ IsIn x ys
in_either x [] ys h = inr h
in_either x (y ∷ xs) ys (inl e) = inl (inl e)
in_either x (y ∷ xs) ys (inr h) = case_of (in_either x xs ys h)
  where
    case_of : IsIn x xs ⊎ IsIn x ys → IsIn x (y ∷ xs) ⊎ IsIn x ys
    case_of (inl a) = inl (inr a)
    case_of (inr b) = inr b

pub in_map : {A B : Type 0} (f : A → B) (x : A) (xs : List A) → IsIn x xs → IsIn (f x) (map f xs)
in_map f x [] h = absurd h
in_map f x (y ∷ xs) (inl e) = inl (ap f e)
in_map f x (y ∷ xs) (inr h) = inr (in_map f x xs h)

pub of_map : {A B : Type 0} (f : A → B) (z : B) (xs : List A) → IsIn z (map f xs) → (x : A) × IsIn x xs × (z ≡ f x)
of_map f z [] h = absurd h
of_map f z (x ∷ xs) (inl e) = (x, inl refl, e)
of_map f z (x ∷ xs) (inr h) = let q = of_map f z xs h in (q.0, inr q.1, q.2)

pub in_flat : {A B : Type 0} (f : A → List B) (x : A) (z : B) (xs : List A) → IsIn x xs → IsIn z (f x) → IsIn z (flat_map f xs)
in_flat f x z [] h g = absurd h
in_flat f x z (y ∷ xs) (inl e) g = in_first z (f y) (flat_map f xs) (subst (λ w. IsIn z (f w)) e g)
in_flat f x z (y ∷ xs) (inr h) g = in_second z (f y) (flat_map f xs) (in_flat f x z xs h g)

pub of_flat : {A B : Type 0} (f : A → List B) (z : B) (xs : List A) → IsIn z (flat_map f xs) → (x : A) × IsIn x xs × IsIn z (f x)
of_flat f z [] h = absurd h
of_flat {A} {B} f z (x ∷ xs) h = case_of (in_either z (f x) (flat_map f xs) h) (λ g. of_flat f z xs g)
  where
    case_of : IsIn z (f x) ⊎ IsIn z (flat_map f xs) → (IsIn z (flat_map f xs) → (y : A) × IsIn y xs × IsIn z (f y)) → (y : A) × IsIn y (x ∷ xs) × IsIn z (f y)
    case_of (inl a) more = (x, inl refl, a)
    case_of (inr b) more = let q = more b in (q.0, inr q.1, q.2)

pub in_filter : {A : Type 0} (p : A → Bool) (x : A) (xs : List A) → IsIn x xs → p x ≡ true → IsIn x (filter p xs)
in_filter p x [] h e = absurd h
in_filter p x (y ∷ xs) h e = case_of (p y) refl h (λ g. in_filter p x xs g e)
  where
    case_of : (b : Bool) → p y ≡ b → (x ≡ y) ⊎ IsIn x xs → (IsIn x xs → IsIn x (filter p xs)) → IsIn x (cond b (y ∷ filter p xs) (filter p xs))
    case_of true q (inl i) more = inl i
    case_of true q (inr g) more = inr (more g)
    case_of false q (inl i) more = absurd (true≢false (sym e ∙ ap p i ∙ q))
    case_of false q (inr g) more = more g

pub of_filter : {A : Type 0} (p : A → Bool) (x : A) (xs : List A) → IsIn x (filter p xs) → IsIn x xs × (p x ≡ true)
of_filter p x [] h = absurd h
of_filter p x (y ∷ xs) h = case_of (p y) refl h (λ g. of_filter p x xs g)
  where
    case_of : (b : Bool) → p y ≡ b → IsIn x (cond b (y ∷ filter p xs) (filter p xs)) → (IsIn x (filter p xs) → IsIn x xs × (p x ≡ true)) → IsIn x (y ∷ xs) × (p x ≡ true)
    case_of true q (inl i) more = (inl i, ap p i ∙ q)
    case_of true q (inr g) more = let r = more g in (inr r.0, r.1)
    case_of false q g more = let r = more g in (inr r.0, r.1)

pub in_filter_map : {A B : Type 0} (h : A → Option B) (x : A) (z : B) (xs : List A) → IsIn x xs → h x ≡ Some z → IsIn z (filter_map h xs)
in_filter_map h x z [] g e = absurd g
in_filter_map h x z (y ∷ xs) (inl i) e = subst (λ o. IsIn z (cons_option o (filter_map h xs))) (sym e ∙ ap h i) (inl refl)
in_filter_map {A} {B} h x z (y ∷ xs) (inr g) e = case_of (h y) (in_filter_map h x z xs g e)
  where
    case_of : (o : Option B) → IsIn z (filter_map h xs) → IsIn z (cons_option o (filter_map h xs))
    case_of None k = k
    case_of (Some w) k = inr k

-- where none passes a test, this one doesn't
pub none_passes : {A : Type 0} (p : A → Bool) (x : A) (xs : List A) → list_any p xs ≡ false → IsIn x xs → p x ≡ false
none_passes p x [] e h = absurd h
none_passes p x (y ∷ xs) e h = case_of (p y) refl e h (λ r g. none_passes p x xs r g)
  where
    case_of : (b : Bool) → p y ≡ b → (b || list_any p xs) ≡ false → (x ≡ y) ⊎ IsIn x xs → (list_any p xs ≡ false → IsIn x xs → p x ≡ false) → p x ≡ false
    case_of true q r g more = absurd (true≢false r)
    case_of false q r (inl i) more = ap p i ∙ q
    case_of false q r (inr g) more = more r g

pub some_passes : {A : Type 0} (p : A → Bool) (x : A) (xs : List A) → IsIn x xs → p x ≡ true → list_any p xs ≡ true
some_passes p x [] h e = absurd h
some_passes p x (y ∷ xs) (inl i) e = ap (λ b. b || list_any p xs) (sym (ap p i) ∙ e)
some_passes p x (y ∷ xs) (inr h) e = case_of (p y) (some_passes p x xs h e)
  where
    case_of : (b : Bool) → list_any p xs ≡ true → (b || list_any p xs) ≡ true
    case_of true q = refl
    case_of false q = q

-- one that passes
pub passing : {A : Type 0} (p : A → Bool) (xs : List A) → list_any p xs ≡ true → (x : A) × IsIn x xs × (p x ≡ true)
passing p [] e = absurd (true≢false (sym e))
passing {A} p (y ∷ xs) e = case_of (p y) refl e (λ r. passing p xs r)
  where
    case_of : (b : Bool) → p y ≡ b → (b || list_any p xs) ≡ true → (list_any p xs ≡ true → (x : A) × IsIn x xs × (p x ≡ true)) → (x : A) × IsIn x (y ∷ xs) × (p x ≡ true)
    case_of true q r more = (y, inl refl, q)
    case_of false q r more = let k = more r in (k.0, inr k.1, k.2)

pub none_found : {A : Type 0} (p : A → Bool) (x : A) (xs : List A) → find p xs ≡ None → IsIn x xs → p x ≡ false
none_found p x [] e h = absurd h
none_found p x (y ∷ xs) e h = case_of (p y) refl e h (λ r g. none_found p x xs r g)
  where
    case_of : (b : Bool) → p y ≡ b → cond b (Some y) (find p xs) ≡ None → (x ≡ y) ⊎ IsIn x xs → (find p xs ≡ None → IsIn x xs → p x ≡ false) → p x ≡ false
    case_of true q r g more = cc
    case_of false q r (inl i) more = ap p i ∙ q
    case_of false q r (inr g) more = more r g
