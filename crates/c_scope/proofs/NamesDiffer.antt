-- Names differ where each differs from those before it.
use Rattle.std.proofs.Common.{◌≡◌, ℕ, List, [], ◌∷◌, ◌++◌, map, Bor, Bool, true, false, not, ◌&&◌, ◌||◌, nat_eq, refl, sym, ap, ◌∙◌}
use Rattle.std.specs.Cmp.Lexicographic.{pointwise}
use Rattle.std.specs.List.{list_any}
use Rattle.std.proofs.lemmas.Slice.Eq.{bytes_eq-Decides}
use Rattle.c_type.specs.Names.{Name, same_name}
use Rattle.c_rule.specs.RuleTags.{names_differ}

abbrev pub among : Name → List Name → Bool
among x [] = false
among x (y ∷ ys) = same_name x y || among x ys

first_differs : (x : Name) (xs : List Name) → names_differ (x ∷ xs) ≡ not (among x xs) && names_differ xs
first_differs x [] = refl
first_differs x (y ∷ ys) = by (same_name x y) _ (among x ys) _ (names_differ ys) (first_differs x ys)
  where
    by : (a s m p q : Bool) → not s && q ≡ not m && q → not (a || s) && (p && q) ≡ not (a || m) && (p && q)
    by true s m p q h = refl
    by false s m true true h = h
    by false s m true false h = h
    by false true true false q h = refl
    by false true false false q h = refl
    by false false true false q h = refl
    by false false false false q h = refl

-- none of these is among those
abbrev pub apart : List Name → List Name → Bool
apart [] xs = true
apart (y ∷ ys) xs = not (among y xs) && apart ys xs

abbrev pub left_differ : List Name → List Name → Bool
left_differ seen xs = names_differ xs && apart seen xs

pub apart_none : (ns : List Name) → apart ns [] ≡ true
apart_none [] = refl
apart_none (n ∷ ns) = apart_none ns

pub at_first : (xs : List Name) → names_differ xs ≡ left_differ [] xs
at_first xs = by (names_differ xs)
  where
    by : (b : Bool) → b ≡ b && true
    by true = refl
    by false = refl

same_bools : (a b : Bool) → (a ≡ true → b ≡ true) → (b ≡ true → a ≡ true) → a ≡ b
same_bools true b f g = sym (f refl)
same_bools false true f g = g refl
same_bools false false f g = refl

names_turn : (x y : Name) → same_name x y ≡ true → same_name y x ≡ true
names_turn x y h = (bytes_eq-Decides y x).1 (sym ((bytes_eq-Decides x y).0 h))

same_name_sym : (x y : Name) → same_name x y ≡ same_name y x
same_name_sym x y = same_bools (same_name x y) (same_name y x) (names_turn x y) (names_turn y x)

apart_next : (ns : List Name) (x : Name) (xs : List Name) → apart ns (x ∷ xs) ≡ not (among x ns) && apart ns xs
apart_next [] x xs = refl
apart_next (n ∷ ns) x xs =
    ap (λ b. not (same_name n x || among n xs) && b) (apart_next ns x xs) ∙ ap (λ b. not (b || among n xs) && (not (among x ns) && apart ns xs)) (same_name_sym n x) ∙
    by (same_name x n) (among n xs) (among x ns) (apart ns xs)
  where
    by : (e h l f : Bool) → not (e || h) && (not l && f) ≡ not (e || l) && (not h && f)
    by true h l f = refl
    by false true true f = refl
    by false true false f = refl
    by false false true f = refl
    by false false false f = refl

apart_more : (ns : List Name) (x : Name) (xs : List Name) → apart (ns ++ x ∷ []) xs ≡ apart ns xs && not (among x xs)
apart_more [] x xs = by (among x xs)
  where
    by : (h : Bool) → not h && true ≡ not h
    by true = refl
    by false = refl
apart_more (n ∷ ns) x xs = ap (λ b. not (among n xs) && b) (apart_more ns x xs) ∙ by (among n xs) (apart ns xs) (among x xs)
  where
    by : (h f k : Bool) → not h && (f && not k) ≡ (not h && f) && not k
    by true f k = refl
    by false f k = refl

pub past_new : (ns : List Name) (x : Name) (xs : List Name) → among x ns ≡ false → left_differ ns (x ∷ xs) ≡ left_differ (ns ++ x ∷ []) xs
past_new ns x xs q =
    ap (λ b. b && apart ns (x ∷ xs)) (first_differs x xs) ∙ ap (λ b. (not (among x xs) && names_differ xs) && b) (apart_next ns x xs ∙ ap (λ b. not b && apart ns xs) q) ∙
    by (among x xs) (names_differ xs) (apart ns xs) ∙ ap (λ b. names_differ xs && b) (sym (apart_more ns x xs))
  where
    by : (h l f : Bool) → (not h && l) && f ≡ l && (f && not h)
    by true true true = refl
    by true true false = refl
    by true false f = refl
    by false true true = refl
    by false true false = refl
    by false false f = refl

pub past_second : (ns : List Name) (x : Name) (xs : List Name) → among x ns ≡ true → left_differ ns (x ∷ xs) ≡ false
past_second ns x xs q = ap (λ b. names_differ (x ∷ xs) && b) (apart_next ns x xs ∙ ap (λ b. not b && apart ns xs) q) ∙ by (names_differ (x ∷ xs))
  where
    by : (l : Bool) → l && false ≡ false
    by true = refl
    by false = refl

-- a name among the keys of a set
pub among_keys : (x : Bor (List ℕ)) (ks : List (Bor (List ℕ))) → among x.now (map (λ n. n.now) ks) ≡ list_any (λ k. pointwise nat_eq x.now k.now) ks
among_keys x [] = refl
among_keys x (k ∷ ks) = ap (λ b. same_name x.now k.now || b) (among_keys x ks)
