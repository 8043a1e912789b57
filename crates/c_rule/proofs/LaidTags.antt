-- A list of laid tags stays laid where one more is closed behind it.
use Rattle.std.proofs.Common.{◌≡◌, ℕ, ◌+◌, ◌<◌, ◌≤◌, ◌⊎◌, inl, inr, List, [], ◌∷◌, ◌++◌, length, max, refl, sym, ap, ◌∙◌, subst, arith}
use Rattle.std.proofs.lemmas.Bool.{cases_lt}
use Rattle.std.proofs.lemmas.List.{get_or_append_left}
use Rattle.std.proofs.Math.Seq.{get_or-append_seam}
use Rattle.c_type.specs.Names.{at_or}
use Rattle.c_type.specs.declared.TagKind.{TagKind}
use Rattle.c_type.specs.declared.TagKind.TheVariants.{Struct, Union, Enum}
use Rattle.c_type.specs.Types.{CType, num, void, ptr, arr, struct, union, enum, fun, Member, Tag}
use Rattle.c_type.specs.Sizes.{capped, up_to, no_tag, IsWithin, size, align, placed, end_of, greatest, at_zero, largest, laid_as, AreWithin, HoldsEarlier, AreLaid}

-- more tags behind those that a type holds do not change its numbers

size_more : (ts us : List Tag) (t : CType) → IsWithin (length ts) t → size (ts ++ us) t ≡ size ts t
size_more ts us (num k) h = refl
size_more ts us void h = refl
size_more ts us (ptr t) h = refl
size_more ts us (arr n t) h = let p = size_more ts us t h in cc
size_more ts us (struct k) h = ap (λ r. r.size) (get_or_append_left ts us no_tag k h)
size_more ts us (union k) h = ap (λ r. r.size) (get_or_append_left ts us no_tag k h)
size_more ts us (enum k) h = refl
size_more ts us (fun t) h = refl

align_more : (ts us : List Tag) (t : CType) → IsWithin (length ts) t → align (ts ++ us) t ≡ align ts t
align_more ts us (num k) h = refl
align_more ts us void h = refl
align_more ts us (ptr t) h = refl
align_more ts us (arr n t) h = align_more ts us t h
align_more ts us (struct k) h = ap (λ r. r.align) (get_or_append_left ts us no_tag k h)
align_more ts us (union k) h = ap (λ r. r.align) (get_or_append_left ts us no_tag k h)
align_more ts us (enum k) h = refl
align_more ts us (fun t) h = refl

placed_more : (ts us : List Tag) (o : ℕ) (ms : List Member) → AreWithin (length ts) ms → placed (ts ++ us) o ms ≡ placed ts o ms
placed_more ts us o [] h = refl
placed_more ts us o (m ∷ ms) h =
    let p = align_more ts us m.ty h.0 in
    let q = size_more ts us m.ty h.0 in
    let r = placed_more ts us (capped (capped (up_to (align ts m.ty) o) + size ts m.ty)) ms h.1 in
    cc

end_more : (ts us : List Tag) (o : ℕ) (ms : List Member) → AreWithin (length ts) ms → end_of (ts ++ us) o ms ≡ end_of ts o ms
end_more ts us o [] h = refl
end_more ts us o (m ∷ ms) h =
    let p = align_more ts us m.ty h.0 in
    let q = size_more ts us m.ty h.0 in
    let r = end_more ts us (capped (capped (up_to (align ts m.ty) o) + size ts m.ty)) ms h.1 in
    cc

greatest_more : (ts us : List Tag) (ms : List Member) → AreWithin (length ts) ms → greatest (ts ++ us) ms ≡ greatest ts ms
greatest_more ts us [] h = refl
greatest_more ts us (m ∷ ms) h =
    let p = align_more ts us m.ty h.0 in
    let q = greatest_more ts us ms h.1 in
    cc

largest_more : (ts us : List Tag) (ms : List Member) → AreWithin (length ts) ms → largest (ts ++ us) ms ≡ largest ts ms
largest_more ts us [] h = refl
largest_more ts us (m ∷ ms) h =
    let p = size_more ts us m.ty h.0 in
    let q = largest_more ts us ms h.1 in
    cc

laid_more : (ts us : List Tag) (κ : TagKind) (t : Tag) → HoldsEarlier κ (length ts) t.members → laid_as κ (ts ++ us) t ≡ laid_as κ ts t
laid_more ts us Struct t h =
    let p = placed_more ts us 0 t.members h in
    let q = end_more ts us 0 t.members h in
    let r = greatest_more ts us t.members h in
    cc
laid_more ts us Union t h =
    let p = largest_more ts us t.members h in
    let r = greatest_more ts us t.members h in
    cc
laid_more ts us Enum t h = refl

-- offsets that members had before do not count

placed_again : (ts : List Tag) (o : ℕ) (ms : List Member) → placed ts o (placed ts o ms) ≡ placed ts o ms
placed_again ts o [] = refl
placed_again ts o (m ∷ ms) = let p = placed_again ts (capped (capped (up_to (align ts m.ty) o) + size ts m.ty)) ms in cc

end_again : (ts : List Tag) (o p : ℕ) (ms : List Member) → end_of ts o (placed ts p ms) ≡ end_of ts o ms
end_again ts o p [] = refl
end_again ts o p (m ∷ ms) = end_again ts (capped (capped (up_to (align ts m.ty) o) + size ts m.ty)) (capped (capped (up_to (align ts m.ty) p) + size ts m.ty)) ms

greatest_again : (ts : List Tag) (o : ℕ) (ms : List Member) → greatest ts (placed ts o ms) ≡ greatest ts ms
greatest_again ts o [] = refl
greatest_again ts o (m ∷ ms) = ap (max (align ts m.ty)) (greatest_again ts (capped (capped (up_to (align ts m.ty) o) + size ts m.ty)) ms)

zero_again : (ms : List Member) → at_zero (at_zero ms) ≡ at_zero ms
zero_again [] = refl
zero_again (m ∷ ms) = let p = zero_again ms in cc

greatest_zero : (ts : List Tag) (ms : List Member) → greatest ts (at_zero ms) ≡ greatest ts ms
greatest_zero ts [] = refl
greatest_zero ts (m ∷ ms) = ap (max (align ts m.ty)) (greatest_zero ts ms)

largest_zero : (ts : List Tag) (ms : List Member) → largest ts (at_zero ms) ≡ largest ts ms
largest_zero ts [] = refl
largest_zero ts (m ∷ ms) = ap (max (size ts m.ty)) (largest_zero ts ms)

laid_again : (ts : List Tag) (κ : TagKind) (t : Tag) → laid_as κ ts (laid_as κ ts t) ≡ laid_as κ ts t
laid_again ts Struct t =
    let p = placed_again ts 0 t.members in
    let q = end_again ts 0 0 t.members in
    let r = greatest_again ts 0 t.members in
    cc
laid_again ts Union t =
    let p = zero_again t.members in
    let q = largest_zero ts t.members in
    let r = greatest_zero ts t.members in
    cc
laid_again ts Enum t = refl

within_placed : (n : ℕ) (ts : List Tag) (o : ℕ) (ms : List Member) → AreWithin n ms → AreWithin n (placed ts o ms)
within_placed n ts o [] h = tt
within_placed n ts o (m ∷ ms) h = (h.0, within_placed n ts (capped (capped (up_to (align ts m.ty) o) + size ts m.ty)) ms h.1)

within_zero : (n : ℕ) (ms : List Member) → AreWithin n ms → AreWithin n (at_zero ms)
within_zero n [] h = tt
within_zero n (m ∷ ms) h = (h.0, within_zero n ms h.1)

laid_holds : (n : ℕ) (ts : List Tag) (κ : TagKind) (t : Tag) → HoldsEarlier κ n t.members → HoldsEarlier κ n (laid_as κ ts t).members
laid_holds n ts Struct t h = within_placed n ts 0 t.members h
laid_holds n ts Union t h = within_zero n t.members h
laid_holds n ts Enum t h = tt

laid_kind : (ts : List Tag) (κ : TagKind) (t : Tag) → (laid_as κ ts t).kind ≡ t.kind
laid_kind ts Struct t = refl
laid_kind ts Union t = refl
laid_kind ts Enum t = refl

pub within_more : (n m : ℕ) (t : CType) → n ≤ m → IsWithin n t → IsWithin m t
within_more n m (num k) le h = tt
within_more n m void le h = tt
within_more n m (ptr t) le h = tt
within_more n m (arr i t) le h = within_more n m t le h
within_more n m (struct k) le h = omega arith
within_more n m (union k) le h = omega arith
within_more n m (enum k) le h = tt
within_more n m (fun t) le h = tt

pub all_within_more : (n m : ℕ) (ms : List Member) → n ≤ m → AreWithin n ms → AreWithin m ms
all_within_more n m [] le h = tt
all_within_more n m (x ∷ xs) le h = (within_more n m x.ty le h.0, all_within_more n m xs le h.1)

holds_more : (κ : TagKind) (n m : ℕ) (ms : List Member) → n ≤ m → HoldsEarlier κ n ms → HoldsEarlier κ m ms
holds_more Struct n m ms le h = all_within_more n m ms le h
holds_more Union n m ms le h = all_within_more n m ms le h
holds_more Enum n m ms le h = tt

-- what holds of a tag of a laid list
abbrev IsLaidAt : List Tag → ℕ → Tag → Type 0
IsLaidAt ts k t = HoldsEarlier t.kind k t.members × (t ≡ laid_as t.kind ts t)

earlier_at : (ts us : List Tag) (k : ℕ) → AreLaid ts → k < length ts → IsLaidAt (ts ++ us) k (at_or no_tag ts k)
earlier_at ts us k h lt =
    let t = at_or no_tag ts k in
    let e = h.earlier k lt in
    (e, h.laid k lt ∙ sym (laid_more ts us t.kind t (holds_more t.kind k (length ts) t.members (omega arith) e)))

last_at : (ts us : List Tag) (κ : TagKind) (r : Tag) → r.kind ≡ κ → HoldsEarlier κ (length ts) r.members → IsLaidAt (ts ++ us) (length ts) (laid_as κ ts r)
last_at ts us κ r q h =
    let e : (laid_as κ ts r).kind ≡ κ = laid_kind ts κ r ∙ q in
    let p : HoldsEarlier κ (length ts) (laid_as κ ts r).members = laid_holds (length ts) ts κ r h in
    let g : laid_as κ ts r ≡ laid_as κ (ts ++ us) (laid_as κ ts r) = sym (laid_more ts us κ (laid_as κ ts r) p ∙ laid_again ts κ r) in
    (subst (λ z. HoldsEarlier z (length ts) (laid_as κ ts r).members) (sym e) p, subst (λ z. laid_as κ ts r ≡ laid_as z (ts ++ us) (laid_as κ ts r)) (sym e) g)

at_each : (ts : List Tag) (r : Tag) → AreLaid ts → HoldsEarlier r.kind (length ts) r.members → (k : ℕ) → k < length ts + 1 → ((k < length ts) ⊎ (length ts ≤ k)) →
    IsLaidAt (ts ++ laid_as r.kind ts r ∷ []) k (at_or no_tag (ts ++ laid_as r.kind ts r ∷ []) k)
at_each ts r h e k lt (inl less) =
    let us = laid_as r.kind ts r ∷ [] in
    subst (IsLaidAt (ts ++ us) k) (sym (get_or_append_left ts us no_tag k less)) (earlier_at ts us k h less)
at_each ts r h e k lt (inr le) =
    let us = laid_as r.kind ts r ∷ [] in
    let q : length ts ≡ k = omega arith in
    subst (λ n. IsLaidAt (ts ++ us) n (at_or no_tag (ts ++ us) n)) q (subst (IsLaidAt (ts ++ us) (length ts)) (sym (get_or-append_seam ts (laid_as r.kind ts r) [] no_tag)) (last_at ts us r.kind r refl e))

pub count_more : (ts : List Tag) (t : Tag) → length (ts ++ t ∷ []) ≡ length ts + 1
count_more [] t = refl
count_more (x ∷ xs) t = let p = count_more xs t in omega arith

pub laid_with : (ts : List Tag) (r : Tag) → AreLaid ts → HoldsEarlier r.kind (length ts) r.members → AreLaid (ts ++ laid_as r.kind ts r ∷ [])
laid_with ts r h e = record {
  earlier = λ k lt. (at_each ts r h e k (subst (λ n. k < n) (count_more ts (laid_as r.kind ts r)) lt) (cases_lt k (length ts))).0;
  laid = λ k lt. (at_each ts r h e k (subst (λ n. k < n) (count_more ts (laid_as r.kind ts r)) lt) (cases_lt k (length ts))).1;
}
