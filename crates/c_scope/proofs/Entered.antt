-- The entries of a scope, by the place of the latest one of a name.
use Rattle.std.proofs.Common.{◌≡◌, ℕ, suc, ◌<◌, List, [], ◌∷◌, ◌++◌, length, map, reverse, Bool, true, false, Option, Some, None, slice_get, refl, ap, sym, ◌∙◌, arith, subst}
use Rattle.std.specs.Option.{option_map}
use Rattle.std.proofs.lemmas.List.{map-append, length-append, reverse-append, reverse-reverse, length-map, length-reverse, get_or_append_left}
use Rattle.std.proofs.lemmas.Option.{none-some, slice_get-get_or}
use Rattle.indexmap.proofs.ReorderLemmas.{map-reverse}
use Rattle.c_type.specs.Names.{Name, same_name, pick}
use Rattle.c_rule.specs.RuleScope as r
use Rattle.c_scope.specs.declared.scope.Entry.{Entry}
use Rattle.c_scope.specs.Entries.{meaning_of, entry_of, entries_of}
use Rattle.c_scope.specs.Places.{place_of}

-- a declared entry goes in front
pub entered : (es : List Entry) (e : Entry) → entries_of (es ++ e ∷ []) ≡ entry_of e ∷ entries_of es
entered es e = ap reverse (map-append entry_of es (e ∷ [])) ∙ reverse-append (map entry_of es) (entry_of e ∷ [])

pub entries_length : (es : List Entry) → length (entries_of es) ≡ length es
entries_length es = length-reverse (map entry_of es) ∙ length-map es entry_of

-- the element behind a list
get_last : {X : Type 0} (xs : List X) (y : X) → slice_get (xs ++ y ∷ []) (length xs) ≡ Some y
get_last [] y = refl
get_last (x ∷ xs) y = get_last xs y

get_before : {X : Type 0} (xs : List X) (y : X) (k : ℕ) → k < length xs → slice_get (xs ++ y ∷ []) k ≡ slice_get xs k
get_before xs y k lt = slice_get-get_or (xs ++ y ∷ []) k y (omega (arith, length-append xs (y ∷ []))) ∙ ap Some (get_or_append_left xs (y ∷ []) y k lt) ∙ sym (slice_get-get_or xs k y lt)

-- what stands at a place
abbrev pub meaning_at : List Entry → Option ℕ → Option r.Meaning
meaning_at es None = None
meaning_at es (Some k) = option_map (λ e. meaning_of e.meaning) (slice_get es k)

place_within : (x : Name) (es : List r.Entry) (k : ℕ) → place_of x es ≡ Some k → k < length es
place_within x [] k h = absurd (none-some k h)
place_within x (e ∷ es) k h = by (same_name x e.name) (place_of x es) (place_within x es k) h
  where
    by : (b : Bool) (o : Option ℕ) → (o ≡ Some k → k < length es) → pick b (Some (length es)) o ≡ Some k → k < suc (length es)
    by true o p q = let h1 : length es ≡ k = cc in omega arith
    by false o p q = let h1 : k < length es = p q in omega arith

found_in : (x : Name) (ls : List Entry) → meaning_at (reverse ls) (place_of x (map entry_of ls)) ≡ r.in_scope x (map entry_of ls)
found_in x [] = refl
found_in x (e ∷ es) = by (same_name x e.name) (place_of x (map entry_of es)) refl (found_in x es)
  where
    row : reverse (e ∷ es) ≡ reverse es ++ e ∷ []
    row = reverse-append (e ∷ []) es

    at_last : (n : ℕ) → n ≡ length (reverse es) → slice_get (reverse (e ∷ es)) n ≡ Some e
    at_last n h = ap (λ l. slice_get l n) row ∙ ap (slice_get (reverse es ++ e ∷ [])) h ∙ get_last (reverse es) e

    by : (b : Bool) (o : Option ℕ) → place_of x (map entry_of es) ≡ o → meaning_at (reverse es) (place_of x (map entry_of es)) ≡ r.in_scope x (map entry_of es) →
        meaning_at (reverse (e ∷ es)) (pick b (Some (length (map entry_of es))) o) ≡ pick b (Some (meaning_of e.meaning)) (r.in_scope x (map entry_of es))
    by true o p h = ap (option_map (λ y. meaning_of y.meaning)) (at_last (length (map entry_of es)) (length-map es entry_of ∙ sym (length-reverse es)))
    by false None p h = sym (ap (meaning_at (reverse es)) p) ∙ h
    by false (Some k) p h =
        let lt : k < length (reverse es) = subst (λ n. k < n) (length-map es entry_of ∙ sym (length-reverse es)) (place_within x (map entry_of es) k p) in
        ap (option_map (λ y. meaning_of y.meaning)) (ap (λ l. slice_get l k) row ∙ get_before (reverse es) e k lt) ∙ sym (ap (meaning_at (reverse es)) p) ∙ h

-- the latest entry of a name stands at its place
pub found : (x : Name) (es : List Entry) → meaning_at es (place_of x (entries_of es)) ≡ r.in_scope x (entries_of es)
found x es =
    let back : map entry_of (reverse es) ≡ entries_of es = map-reverse entry_of es in
    ap (λ l. meaning_at l (place_of x (entries_of es))) (sym (reverse-reverse es)) ∙ ap (λ l. meaning_at (reverse (reverse es)) (place_of x l)) (sym back) ∙
    found_in x (reverse es) ∙ ap (r.in_scope x) back

pub looked_none : (x : Name) (es : List Entry) → place_of x (entries_of es) ≡ None → r.in_scope x (entries_of es) ≡ None
looked_none x es h = sym (found x es) ∙ ap (meaning_at es) h

pub looked_past : (x : Name) (es : List Entry) (k : ℕ) → place_of x (entries_of es) ≡ Some k → slice_get es k ≡ None → r.in_scope x (entries_of es) ≡ None
looked_past x es k h g = sym (found x es) ∙ ap (meaning_at es) h ∙ ap (option_map (λ e. meaning_of e.meaning)) g

pub looked_some : (x : Name) (es : List Entry) (k : ℕ) (e : Entry) → place_of x (entries_of es) ≡ Some k → slice_get es k ≡ Some e → r.in_scope x (entries_of es) ≡ Some (meaning_of e.meaning)
looked_some x es k e h g = sym (found x es) ∙ ap (meaning_at es) h ∙ ap (option_map (λ e. meaning_of e.meaning)) g
