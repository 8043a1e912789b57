-- The first mark of the list that fits is the longest.
use Rattle.std.proofs.Common.{◌≡◌, ℕ, zero, suc, ◌+◌, ◌<◌, ◌≤◌, ◌⊎◌, inl, inr, List, [], ◌∷◌, ◌++◌, length, take, drop, Some, None, Bool, true, false, refl, sym, ap, ◌∙◌, subst, arith}
use Rattle.std.specs.Prelude.{nat_eq, nat_le, ◌&&◌, ◌||◌}
use Rattle.std.specs.List.{starts_with}
use Rattle.std.proofs.lemmas.Bool.{and_parts, eqb-true, leb-true}
use Rattle.std.proofs.lemmas.List.{take-append-drop, take_at}
use Rattle.std.proofs.lemmas.Slice.Eq.{bytes_eq-Decides}
use Rattle.c_type.specs.Names.{at_or, pick}
use Rattle.c_lex.specs.Tokens.{marks}
use Rattle.c_lex.specs.Pieces.{IsLongest}
use Rattle.c_lex.specs.Falls.{is_mark_in}
use Rattle.c_lex.specs.Reading.{mark_from, begins_comment}

fits_is : (ts m : List ℕ) → starts_with nat_eq ts m ≡ true → ts ≡ m ++ drop (length m) ts
fits_is ts m e = sym (take-append-drop (length m) ts) ∙ ap (λ x. x ++ drop (length m) ts) (sym ((bytes_eq-Decides m (take (length m) ts)).0 e))

pub fits_of : (ts m rest : List ℕ) → ts ≡ m ++ rest → starts_with nat_eq ts m ≡ true
fits_of ts m rest e = (bytes_eq-Decides m (take (length m) ts)).1 (sym (ap (λ x. take (length m) x) e ∙ take_at m rest (length m) refl))

-- each is no longer than the one before it
abbrev no_longer : ℕ → List (List ℕ) → Bool
no_longer n [] = true
no_longer n (m ∷ ms) = nat_le (length m) n && no_longer (length m) ms

all_shorter : (n : ℕ) (ms : List (List ℕ)) (j : ℕ) → no_longer n ms ≡ true → j < length ms → length (at_or [] ms j) ≤ n
all_shorter n [] j e lt = absurd (omega arith)
all_shorter n (m ∷ ms) zero e lt = leb-true (length m) n (and_parts (nat_le (length m) n) (no_longer (length m) ms) e).0
all_shorter n (m ∷ ms) (suc j) e lt =
    let q = and_parts (nat_le (length m) n) (no_longer (length m) ms) e in
    let a : length m ≤ n = leb-true (length m) n q.0 in
    let b : length (at_or [] ms j) ≤ length m = all_shorter (length m) ms j q.1 (omega arith) in
    omega arith

-- The mark with that number is the first of the list that fits.
pub record First (ms : List (List ℕ)) (ts : List ℕ) (i : ℕ) (after : List ℕ) : Type 0 where
  pub known : i < length ms
  pub bytes_are : ts ≡ at_or [] ms i ++ after
  pub longest : (j : ℕ) (rest : List ℕ) → j < length ms → ts ≡ at_or [] ms j ++ rest → length (at_or [] ms j) ≤ length (at_or [] ms i)

first_here : (n : ℕ) (m : List ℕ) (ms : List (List ℕ)) (ts : List ℕ) → no_longer n (m ∷ ms) ≡ true → starts_with nat_eq ts m ≡ true → First (m ∷ ms) ts 0 (drop (length m) ts)
first_here n m ms ts s e = record { known = omega arith; bytes_are = fits_is ts m e; longest = shorter }
  where
    shorter : (j : ℕ) (rest : List ℕ) → j < length (m ∷ ms) → ts ≡ at_or [] (m ∷ ms) j ++ rest → length (at_or [] (m ∷ ms) j) ≤ length m
    shorter zero rest lt f = omega arith
    shorter (suc j) rest lt f = all_shorter (length m) ms j (and_parts (nat_le (length m) n) (no_longer (length m) ms) s).1 (omega arith)

first_later : (m : List ℕ) (ms : List (List ℕ)) (ts : List ℕ) (i : ℕ) (after : List ℕ) → starts_with nat_eq ts m ≡ false → First ms ts i after → First (m ∷ ms) ts (suc i) after
first_later m ms ts i after e r = record { known = (let h : i < length ms = r.known in omega arith); bytes_are = r.bytes_are; longest = shorter }
  where
    shorter : (j : ℕ) (rest : List ℕ) → j < length (m ∷ ms) → ts ≡ at_or [] (m ∷ ms) j ++ rest → length (at_or [] (m ∷ ms) j) ≤ length (at_or [] ms i)
    shorter zero rest lt f = absurd (let g : starts_with nat_eq ts m ≡ true = fits_of ts m rest f in cc)
    shorter (suc j) rest lt f = r.longest j rest (omega arith) f

-- the first that fits, or none does
pub record FirstAt (k : ℕ) (ms : List (List ℕ)) (ts : List ℕ) : Type 0 where
  pub i : ℕ
  pub after : List ℕ
  pub first : First ms ts i after
  pub read : mark_from k ms ts ≡ Some (k + i, after)

abbrev pub NoneFits : List (List ℕ) → List ℕ → Type 0
NoneFits [] ts = Unit {0}
NoneFits (m ∷ ms) ts = (starts_with nat_eq ts m ≡ false) × NoneFits ms ts

read_here : (k : ℕ) (m : List ℕ) (ms : List (List ℕ)) (ts : List ℕ) → starts_with nat_eq ts m ≡ true → mark_from k (m ∷ ms) ts ≡ Some (k + 0, drop (length m) ts)
read_here k m ms ts e = ap (λ t. pick t (Some (k, drop (length m) ts)) (mark_from (k + 1) ms ts)) e ∙ (let h : k ≡ k + 0 = omega arith in ap (λ n. Some (n, drop (length m) ts)) h)

read_later : (k : ℕ) (m : List ℕ) (ms : List (List ℕ)) (ts : List ℕ) (i : ℕ) (after : List ℕ) → starts_with nat_eq ts m ≡ false → mark_from (k + 1) ms ts ≡ Some (k + 1 + i, after) → mark_from k (m ∷ ms) ts ≡ Some (k + suc i, after)
read_later k m ms ts i after e f = ap (λ t. pick t (Some (k, drop (length m) ts)) (mark_from (k + 1) ms ts)) e ∙ f ∙ (let h : k + 1 + i ≡ k + suc i = omega arith in ap (λ n. Some (n, after)) h)

first_by : (n k : ℕ) (m : List ℕ) (ms : List (List ℕ)) (ts : List ℕ) (t : Bool) → no_longer n (m ∷ ms) ≡ true → starts_with nat_eq ts m ≡ t
    → (FirstAt (k + 1) ms ts ⊎ ((mark_from (k + 1) ms ts ≡ None) × NoneFits ms ts)) → FirstAt k (m ∷ ms) ts ⊎ ((mark_from k (m ∷ ms) ts ≡ None) × NoneFits (m ∷ ms) ts)
first_by n k m ms ts true s e r = inl (record { i = 0; after = drop (length m) ts; first = first_here n m ms ts s e; read = read_here k m ms ts e })
first_by n k m ms ts false s e (inl r) = inl (record { i = suc r.i; after = r.after; first = first_later m ms ts r.i r.after e r.first; read = read_later k m ms ts r.i r.after e r.read })
first_by n k m ms ts false s e (inr r) = inr (ap (λ t. pick t (Some (k, drop (length m) ts)) (mark_from (k + 1) ms ts)) e ∙ r.0, (e, r.1))

first_of : (n k : ℕ) (ms : List (List ℕ)) (ts : List ℕ) → no_longer n ms ≡ true → FirstAt k ms ts ⊎ ((mark_from k ms ts ≡ None) × NoneFits ms ts)
first_of n k [] ts s = inr (refl, tt)
first_of n k (m ∷ ms) ts s = first_by n k m ms ts (starts_with nat_eq ts m) s refl (first_of (length m) (k + 1) ms ts (and_parts (nat_le (length m) n) (no_longer (length m) ms) s).1)

pub mark_at : (ts : List ℕ) → FirstAt 0 marks ts ⊎ ((mark_from 0 marks ts ≡ None) × NoneFits marks ts)
mark_at ts = first_of 3 0 marks ts refl

pub longest_of : (ts : List ℕ) (k : ℕ) (after : List ℕ) → First marks ts k after → begins_comment ts ≡ None → IsLongest k (at_or [] marks k ++ after)
longest_of ts k after r e = subst (λ x. IsLongest k x) r.bytes_are (record { known = r.known; longest = r.longest; no_comment = λ rest f. (let g : begins_comment ts ≡ Some rest = ap begins_comment f in cc) })

-- where no mark fits, no mark is the byte alone
none_alone : (ms : List (List ℕ)) (b : ℕ) (bs : List ℕ) → NoneFits ms (b ∷ bs) → is_mark_in ms b ≡ false
none_alone [] b bs n = refl
none_alone ([] ∷ ms) b bs n = none_alone ms b bs n.1
none_alone ((m ∷ []) ∷ ms) b bs n = alone (nat_eq m b) refl (none_alone ms b bs n.1)
  where
    alone : (t : Bool) → nat_eq m b ≡ t → is_mark_in ms b ≡ false → (t || is_mark_in ms b) ≡ false
    alone true e f = absurd (let is : m ≡ b = eqb-true m b e in let g : starts_with nat_eq (b ∷ bs) (m ∷ []) ≡ true = fits_of (b ∷ bs) (m ∷ []) bs (ap (λ x. x ∷ bs) (sym is)) in let h : starts_with nat_eq (b ∷ bs) (m ∷ []) ≡ false = n.0 in cc)
    alone false e f = f
none_alone ((m ∷ c ∷ cs) ∷ ms) b bs n = none_alone ms b bs n.1

pub no_mark : (b : ℕ) (bs : List ℕ) → NoneFits marks (b ∷ bs) → is_mark_in marks b ≡ false
no_mark b bs n = none_alone marks b bs n
