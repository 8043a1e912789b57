-- The type of a word, from what the bits say and the type below.
use Rattle.std.proofs.Common.{◌≡◌, ◌≢◌, ◌<◌, ◌≤◌, ℕ, zero, suc, ◌+◌, ◌*◌, ◌/◌, ◌%◌, List, [], ◌∷◌, ◌++◌, length, All, drop, Some, None, refl, arith, ap, subst, sym, ◌∙◌, add-zero, lit≤}
use Rattle.std.specs.Prelude.{slice_index}
use Rattle.c_type.specs.Types.{CType, num, void, ptr, arr, struct, union, enum, fun}
use Rattle.c_type.specs.declared.Kind.{Kind}
use Rattle.type_word.specs.Words.{TypeRec, word_of, HasWord, IsRecord, IsDimension, IsTypeOf, TypesAreOne, basic_code, packed, derivations, dimensions_of, tag_number, four}
use Rattle.type_word.specs.Parts.{basic}
use Rattle.type_word.specs.Outer.{Outer, Num, Void, Ptr, Arr, Fun, Struct, Union, Enum, Bad, outer_of, outermost, without_pair, without_derivation, without_dimension}
use Rattle.type_word.proofs.Bits.{basic_code-small, packed-short}
use Rattle.type_word.proofs.Peeled.{Peeled, IsBelow, outer_is_outermost}

-- records are one where their fields are
same_record : (r s : TypeRec) → r.word ≡ s.word → r.tag ≡ s.tag → r.dims ≡ s.dims → r ≡ s
same_record r s a b c =
    ap (λ n. record { word = n; tag = r.tag; dims = r.dims }) a
    ∙ (ap (λ n. record { word = s.word; tag = n; dims = r.dims }) b ∙ ap (λ ds. record { word = s.word; tag = s.tag; dims = ds }) c)

-- nothing has no dimension out of range
none_counted : All IsDimension []
none_counted k d h = absurd (omega arith)

-- a basic type has the record that its code and tag make
plain-some : (t : CType) (r : TypeRec) → derivations t ≡ [] → dimensions_of t ≡ [] → r ≡ basic (basic_code t) (tag_number t) → IsTypeOf r (Some t)
plain-some t r no_derivations no_dimensions e = (
  record {
    derived = rw no_derivations (lit≤ tt);
    arrays = rw no_dimensions (lit≤ tt);
    counted = (let P : List ℕ → Type 0 = λ ns. All IsDimension ns in subst P (sym no_dimensions) none_counted);
  },
  same_record (word_of t) (basic (basic_code t) (tag_number t)) (rw no_derivations (add-zero (basic_code t))) refl (rw no_dimensions refl) ∙ sym e,
)

pub num-some : (k : Kind) (r : TypeRec) → Peeled r (Num k) → IsTypeOf r (Some (num k))
num-some k r h = plain-some (num k) r refl refl h

pub void-some : (r : TypeRec) → Peeled r Void → IsTypeOf r (Some void)
void-some r h = plain-some void r refl refl h

pub struct-some : (k : ℕ) (r : TypeRec) → Peeled r (Struct k) → IsTypeOf r (Some (struct k))
struct-some k r h = plain-some (struct k) r refl refl h

pub union-some : (k : ℕ) (r : TypeRec) → Peeled r (Union k) → IsTypeOf r (Some (union k))
union-some k r h = plain-some (union k) r refl refl h

pub enum-some : (k : ℕ) (r : TypeRec) → Peeled r (Enum k) → IsTypeOf r (Some (enum k))
enum-some k r h = plain-some (enum k) r refl refl h

-- the bits above the outermost derivation
above : (d b p w : ℕ) → b < 16 → w / 16 % 4 ≡ d → b + 16 * p ≡ without_pair w → (p ≡ w / 64) × (b + 16 * (d + 4 * p) ≡ w)
above d b p w h pair e = (omega arith, omega arith)

-- the word of what is below, and the derivation, make the word
word_back : (d : ℕ) (r : TypeRec) (t : CType) → IsBelow d r → (word_of t).word ≡ without_pair r.word → basic_code t + 16 * (d + 4 * packed (derivations t)) ≡ r.word
word_back d r t below e = (above d (basic_code t) (packed (derivations t)) r.word (basic_code-small t) below.pair e).1

-- what is below has room for a derivation more
short : (d : ℕ) (r : TypeRec) (t : CType) → IsBelow d r → IsRecord r → (word_of t).word ≡ without_pair r.word → length (derivations t) ≤ 5
short d r t below small e =
    packed-short t 5 (let at : packed (derivations t) ≡ r.word / 64 = (above d (basic_code t) (packed (derivations t)) r.word (basic_code-small t) below.pair e).0 in omega (arith, small.half))

pub ptr-some : (t : CType) (r q : TypeRec) → IsRecord r → Peeled r (Ptr q) → IsTypeOf q (Some t) → IsTypeOf r (Some (ptr t))
ptr-some t r q small says h =
    let e : word_of t ≡ without_derivation r = h.1 ∙ says.1 in
    let few : length (derivations t) ≤ 5 = short 1 r t says.0 small (ap (λ x. x.word) e) in (
      record { derived = omega arith; arrays = h.0.arrays; counted = h.0.counted },
      same_record (word_of (ptr t)) r (word_back 1 r t says.0 (ap (λ x. x.word) e)) (ap (λ x. x.tag) e) (ap (λ x. x.dims) e),
    )

pub fun-some : (t : CType) (r q : TypeRec) → IsRecord r → Peeled r (Fun q) → IsTypeOf q (Some t) → IsTypeOf r (Some (fun t))
fun-some t r q small says h =
    let e : word_of t ≡ without_derivation r = h.1 ∙ says.1 in
    let few : length (derivations t) ≤ 5 = short 2 r t says.0 small (ap (λ x. x.word) e) in (
      record { derived = omega arith; arrays = h.0.arrays; counted = h.0.counted },
      same_record (word_of (fun t)) r (word_back 2 r t says.0 (ap (λ x. x.word) e)) (ap (λ x. x.tag) e) (ap (λ x. x.dims) e),
    )

-- the dimensions of an array from those of its element, the fourth of which is 0
record AreBack (n : ℕ) (ns ds : List ℕ) : Type 0 where
  few : length ns ≤ 3
  back : four (n ∷ ns) ≡ ds

dims_back : (n : ℕ) (ns ds : List ℕ) → length ds ≡ 4 → slice_index ds 0 ≡ n → four ns ≡ drop 1 ds ++ 0 ∷ [] → All IsDimension ns → AreBack n ns ds
dims_back n ns [] h first e counted = absurd (omega arith)
dims_back n ns (a ∷ []) h first e counted = absurd (omega arith)
dims_back n ns (a ∷ (b ∷ [])) h first e counted = absurd (omega arith)
dims_back n ns (a ∷ (b ∷ (c ∷ []))) h first e counted = absurd (omega arith)
dims_back n [] (a ∷ (b ∷ (c ∷ (d ∷ [])))) h first e counted = record { few = lit≤ tt; back = cc }
dims_back n (x ∷ []) (a ∷ (b ∷ (c ∷ (d ∷ [])))) h first e counted = record { few = lit≤ tt; back = cc }
dims_back n (x ∷ (y ∷ [])) (a ∷ (b ∷ (c ∷ (d ∷ [])))) h first e counted = record { few = lit≤ tt; back = cc }
dims_back n (x ∷ (y ∷ (z ∷ []))) (a ∷ (b ∷ (c ∷ (d ∷ [])))) h first e counted = record { few = lit≤ tt; back = cc }
dims_back n (x ∷ (y ∷ (z ∷ (w ∷ ns)))) (a ∷ (b ∷ (c ∷ (d ∷ [])))) h first e counted =
    let fourth : w ≡ 0 = cc in absurd (omega (arith, (counted 3 0 (omega arith)).0))
dims_back n ns (a ∷ (b ∷ (c ∷ (d ∷ (f ∷ ds))))) h first e counted = absurd (omega arith)

-- a dimension more
one_more_counted : (n : ℕ) (ns : List ℕ) → IsDimension n → All IsDimension ns → All IsDimension (n ∷ ns)
one_more_counted n ns h hs zero d lt = h
one_more_counted n ns h hs (suc k) d lt = hs k d (omega arith)

pub arr-some : (n : ℕ) (t : CType) (r q : TypeRec) → IsRecord r → Peeled r (Arr n q) → IsTypeOf q (Some t) → IsTypeOf r (Some (arr n t))
arr-some n t r q small says h =
    let e : word_of t ≡ without_dimension r = h.1 ∙ says.1 in
    let few : length (derivations t) ≤ 5 = short 3 r t says.0 small (ap (λ x. x.word) e) in
    let dims : AreBack n (dimensions_of t) r.dims = dims_back n (dimensions_of t) r.dims small.four says.3 (ap (λ x. x.dims) e) h.0.counted in (
      record { derived = omega arith; arrays = omega (arith, dims.few); counted = one_more_counted n (dimensions_of t) (says.2, omega arith) h.0.counted },
      same_record (word_of (arr n t)) r (word_back 3 r t says.0 (ap (λ x. x.word) e)) (ap (λ x. x.tag) e) dims.back,
    )

-- what is below a type with a word has one
below_ptr : (t : CType) → HasWord (ptr t) → HasWord t
below_ptr t h = record { derived = omega (arith, h.derived); arrays = h.arrays; counted = h.counted }

below_fun : (t : CType) → HasWord (fun t) → HasWord t
below_fun t h = record { derived = omega (arith, h.derived); arrays = h.arrays; counted = h.counted }

below_arr : (n : ℕ) (t : CType) → HasWord (arr n t) → HasWord t
below_arr n t h = record { derived = omega (arith, h.derived); arrays = omega (arith, h.arrays); counted = λ k d lt. h.counted (suc k) d (omega arith) }

-- the outermost constructor of a type whose word the record is
is_outermost : (r : TypeRec) (o : Outer) (t : CType) → outer_of r ≡ o → HasWord t → word_of t ≡ r → outermost t ≡ o
is_outermost r o t e h same = sym (outer_is_outermost t h) ∙ (ap outer_of same ∙ e)

-- no type is Bad
never_bad : (t : CType) → outermost t ≢ Bad
never_bad (num k) e = cc
never_bad void e = cc
never_bad (ptr t) e = cc
never_bad (arr n t) e = cc
never_bad (struct k) e = cc
never_bad (union k) e = cc
never_bad (enum k) e = cc
never_bad (fun t) e = cc

pub bad-none : (r : TypeRec) → outer_of r ≡ Bad → IsTypeOf r None
bad-none r e t h same = never_bad t (is_outermost r Bad t e h same)

ptr_none : (q : TypeRec) → IsTypeOf q None → (t : CType) → HasWord t → outermost t ≢ Ptr q
ptr_none q none (num k) h e = cc
ptr_none q none void h e = cc
ptr_none q none (ptr t) h e = none t (below_ptr t h) (cc)
ptr_none q none (arr n t) h e = cc
ptr_none q none (struct k) h e = cc
ptr_none q none (union k) h e = cc
ptr_none q none (enum k) h e = cc
ptr_none q none (fun t) h e = cc

pub ptr-none : (r q : TypeRec) → outer_of r ≡ Ptr q → IsTypeOf q None → IsTypeOf r None
ptr-none r q e none t h same = ptr_none q none t h (is_outermost r (Ptr q) t e h same)

fun_none : (q : TypeRec) → IsTypeOf q None → (t : CType) → HasWord t → outermost t ≢ Fun q
fun_none q none (num k) h e = cc
fun_none q none void h e = cc
fun_none q none (ptr t) h e = cc
fun_none q none (arr n t) h e = cc
fun_none q none (struct k) h e = cc
fun_none q none (union k) h e = cc
fun_none q none (enum k) h e = cc
fun_none q none (fun t) h e = none t (below_fun t h) (cc)

pub fun-none : (r q : TypeRec) → outer_of r ≡ Fun q → IsTypeOf q None → IsTypeOf r None
fun-none r q e none t h same = fun_none q none t h (is_outermost r (Fun q) t e h same)

arr_none : (m : ℕ) (q : TypeRec) → IsTypeOf q None → (t : CType) → HasWord t → outermost t ≢ Arr m q
arr_none m q none (num k) h e = cc
arr_none m q none void h e = cc
arr_none m q none (ptr t) h e = cc
arr_none m q none (arr n t) h e = none t (below_arr n t h) (cc)
arr_none m q none (struct k) h e = cc
arr_none m q none (union k) h e = cc
arr_none m q none (enum k) h e = cc
arr_none m q none (fun t) h e = cc

pub arr-none : (m : ℕ) (r q : TypeRec) → outer_of r ≡ Arr m q → IsTypeOf q None → IsTypeOf r None
arr-none m r q e none t h same = arr_none m q none t h (is_outermost r (Arr m q) t e h same)

-- types with one outermost constructor over words that are one are one
same_outermost : (s t : CType) → HasWord s → HasWord t → word_of s ≡ word_of t → outermost s ≡ outermost t
same_outermost s t hs ht e = is_outermost (word_of t) (outermost t) s (outer_is_outermost t ht) hs e

one_type : (s t : CType) → HasWord s → HasWord t → outermost s ≡ outermost t → s ≡ t
one_type (num k) (num j) hs ht e = cc
one_type void void hs ht e = refl
one_type (ptr s) (ptr t) hs ht e =
    let same : word_of s ≡ word_of t = cc in ap ptr (one_type s t (below_ptr s hs) (below_ptr t ht) (same_outermost s t (below_ptr s hs) (below_ptr t ht) same))
one_type (arr n s) (arr m t) hs ht e =
    let same : word_of s ≡ word_of t = cc in
    let count : n ≡ m = cc in
    let below : s ≡ t = one_type s t (below_arr n s hs) (below_arr m t ht) (same_outermost s t (below_arr n s hs) (below_arr m t ht) same) in
    cc
one_type (struct k) (struct j) hs ht e = cc
one_type (union k) (union j) hs ht e = cc
one_type (enum k) (enum j) hs ht e = cc
one_type (fun s) (fun t) hs ht e =
    let same : word_of s ≡ word_of t = cc in ap fun (one_type s t (below_fun s hs) (below_fun t ht) (same_outermost s t (below_fun s hs) (below_fun t ht) same))
one_type s t hs ht e = absurd (cc)

pub types_are_one : TypesAreOne
types_are_one s t hs ht e = one_type s t hs ht (same_outermost s t hs ht e)
