-- Where names first stand, where one is added behind the others, and what follows from a name's place.
use Rattle.std.proofs.Common.{◌≡◌, ℕ, suc, ◌+◌, ◌<◌, ◌≤◌, List, [], ◌∷◌, ◌++◌, length, map, is_some, Bool, true, false, ◌||◌, Option, Some, None, Bor, slice_index_or, refl, ap, sym, ◌∙◌, arith}
use Rattle.std.specs.Option.{option_map}
use Rattle.std.proofs.lemmas.Option.{slice_get-map, slice_get_read, slice_get_past}
use Rattle.c_type.specs.Of.{type_of}
use Rattle.c_type.specs.declared.Kind.TheVariants.{Int}
use Rattle.c_type.specs.Names.{Name, same_name, pick, or_else}
use Rattle.c_type.specs.Types.{num}
use Rattle.c_tree.specs.declared.typed_stmt.TDeclr.{TDeclr}
use Rattle.c_tree.specs.TypedOf.{declr_of}
use Rattle.c_tree.specs.TStmt.{Declr}
use Rattle.c_rule.specs.RuleUnit.{as_parameter, is_listed, parameter_type}
use Rattle.c_check.specs.Parameters.{type_at, type_by}
use Rattle.c_check.specs.Places.{place_from}

place_added : (k : ℕ) (ys : List Name) (y x : Name) → place_from k (ys ++ y ∷ []) x ≡ or_else (place_from k ys x) (pick (same_name x y) (Some (k + length ys)) None)
place_added k [] y x = ap (λ n. pick (same_name x y) (Some n) None) (let e : k ≡ k + 0 = omega arith in e)
place_added k (h ∷ ys) y x = by (same_name x h) (place_added (suc k) ys y x ∙ ap (λ n. or_else (place_from (suc k) ys x) (pick (same_name x y) (Some n) None)) (let e : suc k + length ys ≡ k + suc (length ys) = omega arith in e))
  where
    by : (b : Bool) → place_from (suc k) (ys ++ y ∷ []) x ≡ or_else (place_from (suc k) ys x) (pick (same_name x y) (Some (k + suc (length ys))) None) →
        pick b (Some k) (place_from (suc k) (ys ++ y ∷ []) x) ≡ or_else (pick b (Some k) (place_from (suc k) ys x)) (pick (same_name x y) (Some (k + suc (length ys))) None)
    by true e = refl
    by false e = e

pub place_last : (ys : List Name) (y x : Name) → place_from 0 (ys ++ y ∷ []) x ≡ or_else (place_from 0 ys x) (pick (same_name x y) (Some (length ys)) None)
place_last ys y x = place_added 0 ys y x ∙ ap (λ n. or_else (place_from 0 ys x) (pick (same_name x y) (Some n) None)) (let e : 0 + length ys ≡ length ys = omega arith in e)

listed_from : (k : ℕ) (x : Name) (ys : List Name) → is_some (place_from k ys x) ≡ is_listed x ys
listed_from k x [] = refl
listed_from k x (y ∷ ys) = by (same_name x y) (listed_from (suc k) x ys)
  where
    by : (b : Bool) → is_some (place_from (suc k) ys x) ≡ is_listed x ys → is_some (pick b (Some k) (place_from (suc k) ys x)) ≡ (b || is_listed x ys)
    by true e = refl
    by false e = e

-- a name is listed where it has a place
pub listed : (x : Name) (ys : List Name) → is_some (place_from 0 ys x) ≡ is_listed x ys
listed x ys = listed_from 0 x ys

shifted : (k : ℕ) (ys : List Name) (x : Name) → place_from (suc k) ys x ≡ option_map suc (place_from k ys x)
shifted k [] x = refl
shifted k (y ∷ ys) x = by (same_name x y) (shifted (suc k) ys x)
  where
    by : (b : Bool) → place_from (suc (suc k)) ys x ≡ option_map suc (place_from (suc k) ys x) →
        pick b (Some (suc k)) (place_from (suc (suc k)) ys x) ≡ option_map suc (pick b (Some k) (place_from (suc k) ys x))
    by true e = refl
    by false e = e

one_on : (d : Declr) (ds : List Declr) (o : Option ℕ) → type_at (d ∷ ds) (option_map suc o) ≡ type_at ds o
one_on d ds None = refl
one_on d ds (Some i) = refl

-- the type of a name is that at its place
pub typed_at : (x : Name) (ds : List Declr) → parameter_type x ds ≡ type_at ds (place_from 0 (map (λ d. d.name) ds) x)
typed_at x [] = refl
typed_at x (d ∷ ds) = by (same_name x d.name) (typed_at x ds)
  where
    by : (b : Bool) → parameter_type x ds ≡ type_at ds (place_from 0 (map (λ d. d.name) ds) x) →
        pick b (as_parameter d.ty) (parameter_type x ds) ≡ type_at (d ∷ ds) (pick b (Some 0) (place_from 1 (map (λ d. d.name) ds) x))
    by true e = refl
    by false e = e ∙ sym (ap (type_at (d ∷ ds)) (shifted 0 (map (λ d. d.name) ds) x) ∙ one_on d ds (place_from 0 (map (λ d. d.name) ds) x))

-- the type at a place where a declarator stands
pub typed_there : (ds : List (Bor TDeclr)) (o : Option ℕ) (i : ℕ) (d : Bor TDeclr) → o ≡ Some i → i < length ds → d ≡ slice_index_or ds i d →
    type_at (map (λ d. declr_of d.now) ds) o ≡ as_parameter (type_of d.now.ty)
typed_there ds o i d is lt at =
    ap (type_at (map (λ d. declr_of d.now) ds)) is ∙
    ap type_by (slice_get-map (λ d. declr_of d.now) ds i ∙ ap (option_map (λ d. declr_of d.now)) (slice_get_read ds (length ds) i d refl lt at))

-- and where none does
pub typed_nowhere : (ds : List (Bor TDeclr)) (o : Option ℕ) (i : ℕ) → o ≡ Some i → length ds ≤ i → type_at (map (λ d. declr_of d.now) ds) o ≡ num Int
typed_nowhere ds o i is le =
    ap (type_at (map (λ d. declr_of d.now) ds)) is ∙ ap type_by (slice_get-map (λ d. declr_of d.now) ds i ∙ ap (option_map (λ d. declr_of d.now)) (slice_get_past ds i le))
