-- A set of the bytes of names stays one where a name is added.
use Rattle.std.proofs.Common.{◌≡◌, List, [], ◌∷◌, ◌++◌, Bool, true, false, ◌||◌, if◌then◌else◌, refl, ap, sym, ◌∙◌}
use Rattle.std.specs.List.{list_any}
use Rattle.std.specs.Str.{bytes_eq}
use Rattle.std.proofs.Math.Bool.{or-false}
use Rattle.std.proofs.lemmas.List.Folds.{list_any-append}
use Rattle.std.proofs.lemmas.Cmp.{nat_list_eq_equiv}
use Rattle.std.proofs.lemmas.Slice.Eq.{bytes_eq-Decides}
use Rattle.indexmap.specs.IndexSet.{insert_key}
use Rattle.c_type.specs.Names.{Name}
use Rattle.c_grammar.specs.WrittenType.{is_typedef}

is_typedef_more : (names : List Name) (y x : Name) → is_typedef (names ++ y ∷ []) x ≡ (is_typedef names x || bytes_eq x y)
is_typedef_more [] y x = or-false (bytes_eq y x) ∙ nat_list_eq_equiv.symm y x
is_typedef_more (n ∷ names) y x = by (bytes_eq n x) (is_typedef_more names y x)
  where
    by : (b : Bool) → is_typedef (names ++ y ∷ []) x ≡ (is_typedef names x || bytes_eq x y) → (b || is_typedef (names ++ y ∷ []) x) ≡ ((b || is_typedef names x) || bytes_eq x y)
    by true e = refl
    by false e = e

module _ {K : Type 0} (f : K → Name) where
  -- whether the bytes are those of a key
  abbrev is_key : List K → Name → Bool
  is_key keys x = list_any (λ k. bytes_eq x (f k)) keys

  already : (keys : List K) (k : K) (x : Name) (b : Bool) → is_key keys (f k) ≡ true → bytes_eq x (f k) ≡ b → is_key keys x ≡ (is_key keys x || b)
  already keys k x true there same = let e : is_key keys x ≡ true = ap (is_key keys) ((bytes_eq-Decides x (f k)).0 same) ∙ there in rw e refl
  already keys k x false there same = sym (or-false (is_key keys x))

  inserted : (keys : List K) (k : K) (x : Name) (b : Bool) → is_key keys (f k) ≡ b → is_key (if b then keys else keys ++ k ∷ []) x ≡ (is_key keys x || bytes_eq x (f k))
  inserted keys k x true there = already keys k x (bytes_eq x (f k)) there refl
  inserted keys k x false there = list_any-append (λ y. bytes_eq x (f y)) keys (k ∷ []) ∙ ap (λ b. is_key keys x || b) (or-false (bytes_eq x (f k)))

  pub key_added : (keys : List K) (names : List Name) (k : K) → ((x : Name) → is_key keys x ≡ is_typedef names x)
      → (x : Name) → is_key (insert_key (λ a b. bytes_eq (f a) (f b)) keys k) x ≡ is_typedef (names ++ f k ∷ []) x
  key_added keys names k before x = inserted keys k x (is_key keys (f k)) refl ∙ ap (λ b. b || bytes_eq x (f k)) (before x) ∙ sym (is_typedef_more names (f k) x)
