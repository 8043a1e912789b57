-- What the bits of a type's word say of its outermost constructor.
use Rattle.std.proofs.Common.{◌≡◌, ◌<◌, ◌≤◌, ℕ, ◌+◌, ◌*◌, ◌/◌, ◌%◌, ◌==◌, Bool, true, false, nat_lt, nat_eq, List, [], ◌∷◌, ◌++◌, length, refl, arith, lit<, take, ap, subst, sym, ◌∙◌}
use Rattle.std.proofs.lemmas.Bool.Decides.{nat_tests}
use Rattle.c_type.specs.Types.{num, void, ptr, arr, struct, union, enum, fun, kind_code}
use Rattle.c_type.specs.declared.Kind.TheVariants.{Char, UChar, Short, UShort, Int, UInt, Long, ULong}
use Rattle.type_word.specs.Words.{TypeRec, basic_code, packed, derivations, dimensions_of, tag_number, four}
use Rattle.type_word.specs.Outer.{Outer, Num, Void, Ptr, Arr, Fun, Struct, Union, Enum, Bad, outer_of, OuterIsOutermost, without_derivation, without_dimension, untagged, tagged, basic_outer, array_outer, derived_outer}
use Rattle.type_word.specs.Parts.{basic}
use Rattle.std.specs.Prelude.{if◌then◌else◌, slice_index}
use Rattle.std.specs.List.{list_all}
use Rattle.type_word.proofs.Bits.{basic_code-small, lowest_pair, without-pair, four-shifted}

long : (b d p : ℕ) → 0 < d → nat_lt (b + 16 * (d + 4 * p)) 16 ≡ false
long b d p h = grind (arith, nat_tests)

outer_ptr : (b p k : ℕ) (ds : List ℕ) → b < 16 → outer_of (record { word = b + 16 * (1 + 4 * p); tag = k; dims = ds }) ≡ Ptr (record { word = b + 16 * p; tag = k; dims = ds })
outer_ptr b p k ds h = rw (long b 1 p (lit< tt), lowest_pair b 1 p h (lit< tt), without-pair b 1 p h (lit< tt)) refl

outer_fun : (b p k : ℕ) (ds : List ℕ) → b < 16 → outer_of (record { word = b + 16 * (2 + 4 * p); tag = k; dims = ds }) ≡ Fun (record { word = b + 16 * p; tag = k; dims = ds })
outer_fun b p k ds h = rw (long b 2 p (lit< tt), lowest_pair b 2 p h (lit< tt), without-pair b 2 p h (lit< tt)) refl

not_zero : (n : ℕ) → 1 ≤ n → nat_eq n 0 ≡ false
not_zero n h = grind (arith, nat_tests)

outer_arr : (b p k n : ℕ) (ds : List ℕ) → b < 16 → 1 ≤ n → outer_of (record { word = b + 16 * (3 + 4 * p); tag = k; dims = n ∷ ds }) ≡ Arr n (record { word = b + 16 * p; tag = k; dims = ds ++ 0 ∷ [] })
outer_arr b p k n ds h some = rw (long b 3 p (lit< tt), lowest_pair b 3 p h (lit< tt), not_zero n some, without-pair b 3 p h (lit< tt)) refl

pub outer_is_outermost : OuterIsOutermost
outer_is_outermost (num Char) h = refl
outer_is_outermost (num UChar) h = refl
outer_is_outermost (num Short) h = refl
outer_is_outermost (num UShort) h = refl
outer_is_outermost (num Int) h = refl
outer_is_outermost (num UInt) h = refl
outer_is_outermost (num Long) h = refl
outer_is_outermost (num ULong) h = refl
outer_is_outermost void h = refl
outer_is_outermost (ptr t) h = outer_ptr (basic_code t) (packed (derivations t)) (tag_number t) (four (dimensions_of t)) (basic_code-small t)
outer_is_outermost (arr n t) h =
    outer_arr (basic_code t) (packed (derivations t)) (tag_number t) n (take 3 (dimensions_of t ++ 0 ∷ (0 ∷ (0 ∷ (0 ∷ []))))) (basic_code-small t) (h.counted 0 0 (omega arith)).0
    ∙ ap (λ ds. Arr n (record { word = basic_code t + 16 * packed (derivations t); tag = tag_number t; dims = ds })) (four-shifted (dimensions_of t) (omega (arith, h.arrays)))
outer_is_outermost (struct k) h = refl
outer_is_outermost (union k) h = refl
outer_is_outermost (enum k) h = refl
outer_is_outermost (fun t) h = outer_fun (basic_code t) (packed (derivations t)) (tag_number t) (four (dimensions_of t)) (basic_code-small t)

-- the record has a derivation, and the outermost is d
pub record IsBelow (d : ℕ) (r : TypeRec) : Type 0 where
  pub long : 16 ≤ r.word
  pub pair : r.word / 16 % 4 ≡ d

-- what an outermost constructor says of the record
abbrev pub Peeled : TypeRec → Outer → Type 0
Peeled r (Num k) = r ≡ basic (kind_code k) 0
Peeled r Void = r ≡ basic 0 0
Peeled r (Ptr q) = IsBelow 1 r × (q ≡ without_derivation r)
Peeled r (Arr n q) = IsBelow 3 r × (q ≡ without_dimension r) × (1 ≤ n) × (slice_index r.dims 0 ≡ n)
Peeled r (Fun q) = IsBelow 2 r × (q ≡ without_derivation r)
Peeled r (Struct k) = r ≡ basic 8 k
Peeled r (Union k) = r ≡ basic 9 k
Peeled r (Enum k) = r ≡ basic 10 k
Peeled r Bad = Unit {0}

-- what both branches say
if_says : (P : Outer → Type 0) (b : Bool) (x y : Outer) → (b ≡ true → P x) → (b ≡ false → P y) → P (if b then x else y)
if_says P true x y f g = f refl
if_says P false x y f g = g refl

-- the tests of a number
is_number : (n m : ℕ) → (n == m) ≡ true → n ≡ m
is_number n m e = grind (arith, nat_tests)

untagged_says : (c : ℕ) → Peeled (basic c 0) (untagged c)
untagged_says c =
    if_says (Peeled (basic c 0)) (c == 0) _ _ (λ e. ap (λ n. basic n 0) (is_number c 0 e)) (λ _.
    if_says (Peeled (basic c 0)) (c == 2) _ _ (λ e. ap (λ n. basic n 0) (is_number c 2 e)) (λ _.
    if_says (Peeled (basic c 0)) (c == 3) _ _ (λ e. ap (λ n. basic n 0) (is_number c 3 e)) (λ _.
    if_says (Peeled (basic c 0)) (c == 4) _ _ (λ e. ap (λ n. basic n 0) (is_number c 4 e)) (λ _.
    if_says (Peeled (basic c 0)) (c == 5) _ _ (λ e. ap (λ n. basic n 0) (is_number c 5 e)) (λ _.
    if_says (Peeled (basic c 0)) (c == 12) _ _ (λ e. ap (λ n. basic n 0) (is_number c 12 e)) (λ _.
    if_says (Peeled (basic c 0)) (c == 13) _ _ (λ e. ap (λ n. basic n 0) (is_number c 13 e)) (λ _.
    if_says (Peeled (basic c 0)) (c == 14) _ _ (λ e. ap (λ n. basic n 0) (is_number c 14 e)) (λ _.
    if_says (Peeled (basic c 0)) (c == 15) _ _ (λ e. ap (λ n. basic n 0) (is_number c 15 e)) (λ _. tt)))))))))

tagged_says : (c k : ℕ) → Peeled (basic c k) (tagged c k)
tagged_says c k =
    if_says (Peeled (basic c k)) (c == 8) _ _ (λ e. ap (λ n. basic n k) (is_number c 8 e)) (λ _.
    if_says (Peeled (basic c k)) (c == 9) _ _ (λ e. ap (λ n. basic n k) (is_number c 9 e)) (λ _.
    if_says (Peeled (basic c k)) (c == 10) _ _ (λ e. ap (λ n. basic n k) (is_number c 10 e)) (λ _.
    if_says (Peeled (basic c k)) (k == 0) _ _
    (λ e. let P : ℕ → Type 0 = λ j. Peeled (basic c j) (untagged c) in subst P (sym (is_number k 0 e)) (untagged_says c))
    (λ _. tt))))

-- no dimension is there
all_zero : (ds : List ℕ) → length ds ≡ 4 → list_all (λ n. n == 0) ds ≡ true → ds ≡ 0 ∷ (0 ∷ (0 ∷ (0 ∷ [])))
all_zero [] h e = absurd (omega arith)
all_zero (a ∷ []) h e = absurd (omega arith)
all_zero (a ∷ (b ∷ [])) h e = absurd (omega arith)
all_zero (a ∷ (b ∷ (c ∷ []))) h e = absurd (omega arith)
all_zero (a ∷ (b ∷ (c ∷ (d ∷ [])))) h e = grind (arith, nat_tests)
all_zero (a ∷ (b ∷ (c ∷ (d ∷ (x ∷ ns))))) h e = absurd (omega arith)

basic_says : (r : TypeRec) → length r.dims ≡ 4 → Peeled r (basic_outer r)
basic_says r h =
    if_says (Peeled r) (list_all (λ n. n == 0) r.dims) _ _
    (λ e. let P : List ℕ → Type 0 = λ ds. Peeled (record { word = r.word; tag = r.tag; dims = ds }) (tagged r.word r.tag) in
    subst P (sym (all_zero r.dims h e)) (tagged_says r.word r.tag))
    (λ _. tt)

array_says : (n : ℕ) (r : TypeRec) → IsBelow 3 r → slice_index r.dims 0 ≡ n → Peeled r (array_outer n r)
array_says n r below first = if_says (Peeled r) (n == 0) _ _ (λ _. tt) (λ e. (below, refl, some e, first))
  where
    some : (n == 0) ≡ false → 1 ≤ n
    some e = grind (arith, nat_tests)

derived_says : (d : ℕ) (r : TypeRec) → 16 ≤ r.word → r.word / 16 % 4 ≡ d → Peeled r (derived_outer d r)
derived_says d r long pair =
    if_says (Peeled r) (d == 1) _ _ (λ e. (record { long = long; pair = pair ∙ is_number d 1 e }, refl)) (λ _.
    if_says (Peeled r) (d == 2) _ _ (λ e. (record { long = long; pair = pair ∙ is_number d 2 e }, refl)) (λ _.
    if_says (Peeled r) (d == 3) _ _ (λ e. array_says (slice_index r.dims 0) r (record { long = long; pair = pair ∙ is_number d 3 e }) refl) (λ _. tt)))

-- what the bits say is so
pub outer_says : (r : TypeRec) → length r.dims ≡ 4 → Peeled r (outer_of r)
outer_says r h = if_says (Peeled r) (nat_lt r.word 16) _ _ (λ _. basic_says r h) (λ e. derived_says (r.word / 16 % 4) r (long_word e) refl)
  where
    long_word : nat_lt r.word 16 ≡ false → 16 ≤ r.word
    long_word e = grind (arith, nat_tests)
