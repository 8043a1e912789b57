-- Names that differ, and their places, in a set of their bytes.
use Rattle.std.proofs.Common.{◌≡◌, ℕ, Vec, Global, List, [], ◌∷◌, ◌++◌, map, Bool, true, false, not, ◌||◌, ◌&&◌, if◌then◌else◌, refl, ap, sym, ◌∙◌}
use Rattle.std.specs.Prelude.{position}
use Rattle.std.specs.List.{list_any, prefix_len}
use Rattle.std.specs.Str.{bytes_eq}
use Rattle.std.proofs.Math.Path.{fun_ext}
use Rattle.std.proofs.lemmas.Cmp.{nat_list_eq_equiv}
use Rattle.std.proofs.lemmas.List.{length-map, map-append}
use Rattle.indexmap.specs.IndexSet.{insert_key}
use Rattle.c_type.specs.Names.{Name, same_name}
use Rattle.name_set.specs.Different.{place_in, stands_in, are_different}

-- the names of keys
abbrev pub names_of : List (Vec ℕ Global) → List Name
names_of keys = map (λ k. k.items) keys

sides : (x y : Name) → bytes_eq x y ≡ bytes_eq y x
sides x y = nat_list_eq_equiv.symm x y

-- the name x among keys whose names are those of a list
pub stands_among : {K : Type 0} (f : K → Name) (keys : List K) (x : Name) → list_any (λ k. bytes_eq x (f k)) keys ≡ stands_in (map f keys) x
stands_among f [] x = refl
stands_among f (k ∷ keys) x = rw (sides x (f k), stands_among f keys x) refl

prefix_mapped : {A B : Type 0} (p : B → Bool) (f : A → B) (xs : List A) → prefix_len p (map f xs) ≡ prefix_len (λ x. p (f x)) xs
prefix_mapped p f [] = refl
prefix_mapped p f (x ∷ xs) = rw (prefix_mapped p f xs) refl

position_mapped : {A B : Type 0} (p : B → Bool) (f : A → B) (xs : List A) → position p (map f xs) ≡ position (λ x. p (f x)) xs
position_mapped p f xs = rw (prefix_mapped (λ y. not (p y)) f xs, length-map xs f) refl

-- its place
pub place_among : {K : Type 0} (f : K → Name) (keys : List K) (x : Name) → position (λ k. bytes_eq x (f k)) keys ≡ place_in (map f keys) x
place_among f keys x = ap (λ p. position p keys) (fun_ext (λ k. sides x (f k))) ∙ sym (position_mapped (λ y. same_name y x) f keys)

none_of : (a b : Bool) → (a || b) ≡ false → (a ≡ false) × (b ≡ false)
none_of true b e = absurd (cc)
none_of false b e = (refl, e)

stands_more : (ns : List Name) (x y : Name) → stands_in ns y ≡ false → bytes_eq x y ≡ false → stands_in (ns ++ x ∷ []) y ≡ false
stands_more [] x y none other = rw other refl
stands_more (n ∷ ns) x y none other =
    let p = none_of (same_name n y) (stands_in ns y) none in
    rw (p.0, stands_more ns x y p.1 other) refl

both_of : (a b : Bool) → (not a && b) ≡ true → (a ≡ false) × (b ≡ true)
both_of true b e = absurd (cc)
both_of false b e = (refl, e)

-- one name more that stands nowhere among them
pub differ_more : (ns : List Name) (x : Name) → are_different ns ≡ true → stands_in ns x ≡ false → are_different (ns ++ x ∷ []) ≡ true
differ_more [] x differ none = refl
differ_more (n ∷ ns) x differ none =
    let d = both_of (stands_in ns n) (are_different ns) differ in
    let p = none_of (same_name n x) (stands_in ns x) none in
    rw (stands_more ns x n d.0 (sides x n ∙ p.0), differ_more ns x d.1 p.1) refl

stands_inside : (ns : List Name) (x y : Name) (rest : List Name) → bytes_eq x y ≡ true → stands_in (ns ++ x ∷ rest) y ≡ true
stands_inside [] x y rest same = rw same refl
stands_inside (n ∷ ns) x y rest same = by (same_name n y) (stands_inside ns x y rest same)
  where
    by : (b : Bool) → stands_in (ns ++ x ∷ rest) y ≡ true → (b || stands_in (ns ++ x ∷ rest) y) ≡ true
    by true e = refl
    by false e = e

-- a name that stands among those before it
pub twice : (ns : List Name) (x : Name) (rest : List Name) → stands_in ns x ≡ true → are_different (ns ++ x ∷ rest) ≡ false
twice [] x rest there = absurd (cc)
twice (n ∷ ns) x rest there = by (same_name n x) refl there (twice ns x rest)
  where
    no_more : (a : Bool) → (not a && false) ≡ false
    no_more true = refl
    no_more false = refl

    by : (b : Bool) → same_name n x ≡ b → (b || stands_in ns x) ≡ true → (stands_in ns x ≡ true → are_different (ns ++ x ∷ rest) ≡ false) → are_different (n ∷ ns ++ x ∷ rest) ≡ false
    by true same e again = rw (stands_inside ns x n rest (sides x n ∙ same)) refl
    by false same e again = rw (again e) (no_more (stands_in (ns ++ x ∷ rest) n))

-- a key whose name is new goes last
pub added_last : {K : Type 0} (f : K → Name) (keys : List K) (k : K) → list_any (λ a. bytes_eq (f k) (f a)) keys ≡ false
    → map f (insert_key (λ a b. bytes_eq (f a) (f b)) keys k) ≡ map f keys ++ f k ∷ []
added_last f keys k none = ap (λ b. map f (if b then keys else keys ++ k ∷ [])) none ∙ map-append f keys (k ∷ [])

pub is_old : (new old : Bool) → new ≡ not old → new ≡ false → old ≡ true
is_old new true e f = refl
is_old new false e f = absurd (cc)

pub is_new : (new old : Bool) → new ≡ not old → new ≡ true → old ≡ false
is_new new true e f = absurd (cc)
is_new new false e f = refl
