-- The longest mark at the front is the one that is read, and where no mark may begin none is read.
use Rattle.std.proofs.Common.{◌≡◌, ℕ, zero, suc, ◌+◌, ◌<◌, ◌≤◌, ◌⊎◌, inl, inr, List, [], ◌∷◌, ◌++◌, length, take, drop, Option, Some, None, Bool, true, false, refl, sym, ap, ◌∙◌, arith}
use Rattle.std.specs.Prelude.{nat_eq, ◌&&◌, not}
use Rattle.std.specs.List.{starts_with}
use Rattle.std.proofs.lemmas.Bool.{and_parts, not-true, false_from_ne_true}
use Rattle.std.proofs.lemmas.List.{take_at, drop_at}
use Rattle.std.proofs.lemmas.Slice.Eq.{bytes_eq-Decides}
use Rattle.c_type.specs.Names.{at_or, pick, same_name}
use Rattle.c_lex.specs.Tokens.{marks}
use Rattle.c_lex.specs.Bytes.{begins}
use Rattle.c_lex.specs.Pieces.{IsLongest}
use Rattle.c_lex.specs.Reading.{mark_from, begins_comment}
use Rattle.c_lex.proofs.Fits.{FirstAt, NoneFits, fits_of, mark_at}
use Rattle.c_lex.proofs.Fronts.{comment_here}

-- whether the name is in no place of the list
abbrev is_new : List ℕ → List (List ℕ) → Bool
is_new m [] = true
is_new m (n ∷ ns) = not (same_name m n) && is_new m ns

-- whether all are different
abbrev differ : List (List ℕ) → Bool
differ [] = true
differ (m ∷ ms) = is_new m ms && differ ms

new_at : (m : List ℕ) (ms : List (List ℕ)) (j : ℕ) → is_new m ms ≡ true → j < length ms → m ≡ at_or [] ms j → ⊥
new_at m [] j e lt f = omega arith
new_at m (n ∷ ns) zero e lt f =
    let g : same_name m n ≡ false = not-true (same_name m n) (and_parts (not (same_name m n)) (is_new m ns) e).0 in
    let h : same_name m n ≡ true = (bytes_eq-Decides m n).1 f in
    cc
new_at m (n ∷ ns) (suc j) e lt f = new_at m ns j (and_parts (not (same_name m n)) (is_new m ns) e).1 (omega arith) f

-- where all are different, each has one place
one_place : (ms : List (List ℕ)) (i j : ℕ) → differ ms ≡ true → i < length ms → j < length ms → at_or [] ms i ≡ at_or [] ms j → i ≡ j
one_place [] i j e li lj f = absurd (omega arith)
one_place (m ∷ ms) zero zero e li lj f = refl
one_place (m ∷ ms) zero (suc j) e li lj f = absurd (new_at m ms j (and_parts (is_new m ms) (differ ms) e).0 (omega arith) f)
one_place (m ∷ ms) (suc i) zero e li lj f = absurd (new_at m ms i (and_parts (is_new m ms) (differ ms) e).0 (omega arith) (sym f))
one_place (m ∷ ms) (suc i) (suc j) e li lj f = ap suc (one_place ms i j (and_parts (is_new m ms) (differ ms) e).1 (omega arith) (omega arith) f)

not_none : (ms : List (List ℕ)) (ts : List ℕ) (k : ℕ) (after : List ℕ) → NoneFits ms ts → k < length ms → ts ≡ at_or [] ms k ++ after → ⊥
not_none [] ts k after n lt e = omega arith
not_none (m ∷ ms) ts zero after n lt e = let f : starts_with nat_eq ts m ≡ true = fits_of ts m after e in let g : starts_with nat_eq ts m ≡ false = n.0 in cc
not_none (m ∷ ms) ts (suc k) after n lt e = not_none ms ts k after n.1 (omega arith) e

same_read : (o : Option (ℕ × List ℕ)) (i k : ℕ) (xs ys : List ℕ) → o ≡ Some (i, xs) → i ≡ k → xs ≡ ys → o ≡ Some (k, ys)
same_read o i k xs ys e f g = e ∙ ap (λ n. Some (n, xs)) f ∙ ap (λ y. Some (k, y)) g

same_mark : (ts : List ℕ) (k : ℕ) (after : List ℕ) → IsLongest k ts → ts ≡ at_or [] marks k ++ after → FirstAt 0 marks ts → mark_from 0 marks ts ≡ Some (k, after)
same_mark ts k after h e x =
    let a : length (at_or [] marks k) ≤ length (at_or [] marks x.i) = x.first.longest k after h.known e in
    let b : length (at_or [] marks x.i) ≤ length (at_or [] marks k) = h.longest x.i x.after x.first.known x.first.bytes_are in
    let same : length (at_or [] marks x.i) ≡ length (at_or [] marks k) = omega arith in
    let both : at_or [] marks x.i ++ x.after ≡ at_or [] marks k ++ after = sym x.first.bytes_are ∙ e in
    let mark : at_or [] marks x.i ≡ at_or [] marks k =
    sym (take_at (at_or [] marks x.i) x.after (length (at_or [] marks k)) same)
    ∙ ap (λ y. take (length (at_or [] marks k)) y) both
    ∙ take_at (at_or [] marks k) after (length (at_or [] marks k)) refl in
    let rest : x.after ≡ after =
    sym (drop_at (at_or [] marks x.i) x.after (length (at_or [] marks k)) same)
    ∙ ap (λ y. drop (length (at_or [] marks k)) y) both
    ∙ drop_at (at_or [] marks k) after (length (at_or [] marks k)) refl in
    let place : x.i ≡ k = one_place marks x.i k refl x.first.known h.known mark in
    let counted : 0 + x.i ≡ k = omega arith in
    same_read (mark_from 0 marks ts) (0 + x.i) k x.after after x.read counted rest

pub mark_is : (ts : List ℕ) (k : ℕ) (after : List ℕ) → IsLongest k ts → ts ≡ at_or [] marks k ++ after → mark_from 0 marks ts ≡ Some (k, after)
mark_is ts k after h e = either (mark_at ts)
  where
    either : (FirstAt 0 marks ts ⊎ ((mark_from 0 marks ts ≡ None) × NoneFits marks ts)) → mark_from 0 marks ts ≡ Some (k, after)
    either (inl x) = same_mark ts k after h e x
    either (inr n) = absurd (not_none marks ts k after n.1 h.known e)

pub longest_no_comment : (ts : List ℕ) (k : ℕ) → IsLongest k ts → begins_comment ts ≡ None
longest_no_comment ts k h = either (begins_comment ts) refl
  where
    either : (o : Option (List ℕ)) → begins_comment ts ≡ o → begins_comment ts ≡ None
    either None e = e
    either (Some inside) e = absurd (h.no_comment inside (comment_here ts inside e))

-- whether each begins with a byte of the kind
abbrev pub all_begin : (ℕ → Bool) → List (List ℕ) → Bool
all_begin p [] = true
all_begin p (m ∷ ms) = begins p m && all_begin p ms

pub begin_at : (p : ℕ → Bool) (ms : List (List ℕ)) (k : ℕ) → all_begin p ms ≡ true → k < length ms → begins p (at_or [] ms k) ≡ true
begin_at p [] k e lt = absurd (omega arith)
begin_at p (m ∷ ms) zero e lt = (and_parts (begins p m) (all_begin p ms) e).0
begin_at p (m ∷ ms) (suc k) e lt = begin_at p ms k (and_parts (begins p m) (all_begin p ms) e).1 (omega arith)

other_begins : (p : ℕ → Bool) (m : List ℕ) (b : ℕ) (bs : List ℕ) → begins p m ≡ true → p b ≡ false → starts_with nat_eq (b ∷ bs) m ≡ false
other_begins p [] b bs e f = cc
other_begins p (c ∷ cs) b bs e f = false_from_ne_true (starts_with nat_eq (b ∷ bs) (c ∷ cs)) (λ g. (let h : c ∷ cs ≡ b ∷ take (length cs) bs = (bytes_eq-Decides (c ∷ cs) (b ∷ take (length cs) bs)).0 g in let i : c ≡ b = cc in let j : p c ≡ p b = ap p i in cc))

-- no mark is read where none begins with the byte
pub mark_none : (p : ℕ → Bool) (k : ℕ) (ms : List (List ℕ)) (b : ℕ) (bs : List ℕ) → all_begin p ms ≡ true → p b ≡ false → mark_from k ms (b ∷ bs) ≡ None
mark_none p k [] b bs e f = refl
mark_none p k (m ∷ ms) b bs e f =
    let q = and_parts (begins p m) (all_begin p ms) e in
    ap (λ t. pick t (Some (k, drop (length m) (b ∷ bs))) (mark_from (k + 1) ms (b ∷ bs))) (other_begins p m b bs q.0 f) ∙ mark_none p (k + 1) ms b bs q.1 f
