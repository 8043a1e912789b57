-- One step of the search for a cell: from an array to its element, from a tag to its members.
use Rattle.std.proofs.Common.{◌≡◌, ℕ, zero, suc, ◌+◌, ◌*◌, ◌/◌, ◌%◌, ◌<◌, ◌≤◌, ◌⊎◌, inl, inr, List, [], ◌∷◌, length, Option, Some, None, refl, sym, ap, ◌∙◌, subst, arith}
use Rattle.std.proofs.lemmas.Nat.{div-add-mod'}
use Rattle.c_type.specs.Types.{CType, arr, Tag}
use Rattle.c_type.specs.Sizes.{capped, size, IsWithin, AreLaid}
use Rattle.c_type.specs.Cells.{Cell, repeated, cells, cell_from}
use Rattle.c_type.specs.Parts.{IsElement}
use Rattle.c_type.proofs.Lists.{AllBelow, none_past, from_repeated, below_repeated}
use Rattle.c_type.proofs.Bounds.{below_size}

-- where an array has elements, one of them isn't larger than it
element_small : (m s : ℕ) → capped (m * s) < 4294967295 → 0 < m → s < 4294967295
element_small zero s lt p = absurd (omega arith)
element_small (suc m) s lt p = let e : suc m * s ≡ s + m * s = omega arith in omega arith

no_cells : (cs : List Cell) → AllBelow 0 cs → cs ≡ []
no_cells [] a = refl
no_cells (c ∷ cs) a = let h : c.off < 0 = a.0 in absurd (omega arith)

none_empty : (m o off : ℕ) → cell_from off (repeated m o 0 []) ≡ None
none_empty zero o off = refl
none_empty (suc m) o off = none_empty m (o + 0) off

pub none_flat : (ts : List Tag) (m off : ℕ) (t : CType) → AreLaid ts → IsWithin (length ts) t → size ts t ≡ 0 → cell_from off (cells ts (arr m t)) ≡ None
none_flat ts m off t a w e =
    let b : AllBelow (size ts t) (cells ts t) = below_size ts t a w (omega arith) in
    let b0 : AllBelow 0 (cells ts t) = subst (λ n. AllBelow n (cells ts t)) e b in
    ap (λ s. cell_from off (repeated m 0 s (cells ts t))) e ∙ ap (λ cs. cell_from off (repeated m 0 0 cs)) (no_cells (cells ts t) b0) ∙ none_empty m 0 off

none_above : (m s off : ℕ) (cs : List Cell) → AllBelow s cs → m * s ≤ off → cell_from off (repeated m 0 s cs) ≡ None
none_above m s off cs a le = none_past (m * s) off (repeated m 0 s cs) le (below_repeated m 0 s (m * s) cs (omega arith) a)

times_le : (m q s : ℕ) → m ≤ q → m * s ≤ q * s
times_le m q s le = omega (arith, mul-le-mul m q s le)
  where
    mul-le-mul : (m q s : ℕ) → m ≤ q → m * s ≤ q * s
    mul-le-mul m q zero le = omega arith
    mul-le-mul m q (suc s) le =
        let h : m * s ≤ q * s = mul-le-mul m q s le in
        let a : m * suc s ≡ m * s + m = omega arith in
        let b : q * suc s ≡ q * s + q = omega arith in
        omega arith

pub none_outside : (ts : List Tag) (m off : ℕ) (t : CType) → AreLaid ts → IsWithin (length ts) t → capped (m * size ts t) < 4294967295 → m ≤ off / size ts t → cell_from off (cells ts (arr m t)) ≡ None
none_outside ts zero off t a w lt le = refl
none_outside ts (suc m) off t a w lt le =
    let d : off / size ts t * size ts t + off % size ts t ≡ off = div-add-mod' off (size ts t) in
    let p : suc m * size ts t ≤ off / size ts t * size ts t = times_le (suc m) (off / size ts t) (size ts t) le in
    none_above (suc m) (size ts t) off (cells ts t) (below_size ts t a w (element_small (suc m) (size ts t) lt (omega arith))) (omega arith)

pub at_element : (ts : List Tag) (m off : ℕ) (t : CType) → AreLaid ts → IsWithin (length ts) t → capped (m * size ts t) < 4294967295 → 0 < size ts t → off / size ts t < m → cell_from off (cells ts (arr m t)) ≡ cell_from (off % size ts t) (cells ts t)
at_element ts m off t a w lt p q =
    let d : off / size ts t * size ts t + off % size ts t ≡ off = div-add-mod' off (size ts t) in
    let r : off % size ts t < size ts t = omega arith in
    from_repeated m 0 (size ts t) (off / size ts t) (off % size ts t) off (cells ts t) (below_size ts t a w (element_small m (size ts t) lt (omega arith))) (omega arith) r q

pub element_less : (ts : List Tag) (m off : ℕ) (t : CType) → capped (m * size ts t) < 4294967295 → off / size ts t < m → size ts t < 4294967295
element_less ts m off t lt q = element_small m (size ts t) lt (omega arith)

-- an array in which no element holds the offset has no cell there
pub array_none : (ts : List Tag) (n m s off : ℕ) (y t : CType) → AreLaid ts → length ts ≡ n → IsWithin n y → size ts y < 4294967295 → y ≡ arr m t → s ≡ size ts t → ((s ≡ 0) ⊎ (m ≤ off / s)) → cell_from off (cells ts y) ≡ None
array_none ts n m s off y t a l w lt e es (inl z) =
    ap (λ x. cell_from off (cells ts x)) e ∙ none_flat ts m off t a (subst (λ k. IsWithin k t) (sym l) (subst (λ x. IsWithin n x) e w)) (sym es ∙ z)
array_none ts n m s off y t a l w lt e es (inr le) =
    ap (λ x. cell_from off (cells ts x)) e ∙ none_outside ts m off t a (subst (λ k. IsWithin k t) (sym l) (subst (λ x. IsWithin n x) e w)) (subst (λ x. size ts x < 4294967295) e lt) (subst (λ k. m ≤ off / k) es le)

array_same : (ts : List Tag) (n m s off : ℕ) (y t : CType) → AreLaid ts → length ts ≡ n → IsWithin n y → size ts y < 4294967295 → y ≡ arr m t → s ≡ size ts t → 0 < s → off / s < m → cell_from off (cells ts y) ≡ cell_from (off % s) (cells ts t)
array_same ts n m s off y t a l w lt e es p q =
    ap (λ x. cell_from off (cells ts x)) e
    ∙ at_element ts m off t a (subst (λ k. IsWithin k t) (sym l) (subst (λ x. IsWithin n x) e w)) (subst (λ x. size ts x < 4294967295) e lt) (subst (λ k. 0 < k) es p) (subst (λ k. off / k < m) es q)
    ∙ ap (λ k. cell_from (off % k) (cells ts t)) (sym es)

-- what is found in the element is found in the array
pub array_element : (ts : List Tag) (n m s off : ℕ) (y t : CType) (found : Option (CType × ℕ)) → AreLaid ts → length ts ≡ n → IsWithin n y → size ts y < 4294967295 → y ≡ arr m t → s ≡ size ts t → 0 < s → off / s < m → IsElement ts (off % s) t found → IsElement ts off y found
array_element ts n m s off y t None a l w lt e es p q i = array_same ts n m s off y t a l w lt e es p q ∙ i
array_element ts n m s off y t (Some x) a l w lt e es p q i = record {
  same = array_same ts n m s off y t a l w lt e es p q ∙ i.same;
  small = i.small;
  within = λ k h. i.within k (subst (λ z. IsWithin k z) e h);
  single = i.single;
}

pub array_small : (ts : List Tag) (m s off : ℕ) (y t : CType) → size ts y < 4294967295 → y ≡ arr m t → s ≡ size ts t → off / s < m → size ts t < 4294967295
array_small ts m s off y t lt e es q = element_less ts m off t (subst (λ x. size ts x < 4294967295) e lt) (subst (λ k. off / k < m) es q)

pub array_within : (n m : ℕ) (y t : CType) → IsWithin n y → y ≡ arr m t → IsWithin n t
array_within n m y t w e = subst (λ x. IsWithin n x) e w
