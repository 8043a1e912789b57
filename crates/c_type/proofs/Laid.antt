-- What the numbers of a laid tag keep: each part lies within its size.
use Rattle.std.proofs.Common.{◌≡◌, ℕ, ◌+◌, ◌-◌, ◌*◌, ◌/◌, ◌%◌, ◌<◌, ◌≤◌, ◌⊎◌, inl, inr, List, [], ◌∷◌, length, sym, ap, subst, arith}
use Rattle.std.proofs.lemmas.Bool.{cases_lt}
use Rattle.std.proofs.lemmas.Nat.{div-add-mod'}
use Rattle.std.proofs.lemmas.List.{get_or_past}
use Rattle.c_type.specs.Names.{at_or}
use Rattle.c_type.specs.Kinds.{Kind, Char, UChar, Short, UShort, Int, UInt, Long, ULong, kind_size}
use Rattle.c_type.specs.Types.{CType, num, void, ptr, arr, struct, union, enum, fun, Member, Tag, TagKind, Struct, Union, Enum}
use Rattle.c_type.specs.Sizes.{capped, up_to, no_tag, size, align, placed, end_of, greatest, at_zero, largest, laid_as, IsLaid}

pub up_to_le : (a n : ℕ) → 1 ≤ a → n ≤ up_to a n
unfolding up_to
up_to_le a n le =
    let q : ℕ = (n + (a - 1)) / a in
    let e : (n + (a - 1)) / a * a + (n + (a - 1)) % a ≡ n + (a - 1) = div-add-mod' (n + (a - 1)) a in
    let r : (n + (a - 1)) % a < a = omega arith in
    omega arith

pub kind_positive : (k : Kind) → 1 ≤ kind_size k
kind_positive Char = omega arith
kind_positive UChar = omega arith
kind_positive Short = omega arith
kind_positive UShort = omega arith
kind_positive Int = omega arith
kind_positive UInt = omega arith
kind_positive Long = omega arith
kind_positive ULong = omega arith

greatest_positive : (ts : List Tag) (ms : List Member) → 1 ≤ greatest ts ms
greatest_positive ts [] = omega arith
greatest_positive ts (m ∷ ms) = let h : 1 ≤ greatest ts ms = greatest_positive ts ms in omega arith

laid_positive : (ts : List Tag) (κ : TagKind) (t : Tag) → t ≡ laid_as κ ts t → 1 ≤ t.align
laid_positive ts Struct t e = subst (λ n. 1 ≤ n) (sym (ap (λ x. x.align) e)) (greatest_positive ts t.members)
laid_positive ts Union t e = subst (λ n. 1 ≤ n) (sym (ap (λ x. x.align) e)) (greatest_positive ts t.members)
laid_positive ts Enum t e = subst (λ n. 1 ≤ n) (sym (ap (λ x. x.align) e)) (omega arith)

tag_positive : (ts : List Tag) (k : ℕ) → IsLaid ts → ((k < length ts) ⊎ (length ts ≤ k)) → 1 ≤ (at_or no_tag ts k).align
tag_positive ts k laid (inl lt) = laid_positive ts (at_or no_tag ts k).kind (at_or no_tag ts k) (laid k lt)
tag_positive ts k laid (inr le) = subst (λ t. 1 ≤ t.align) (sym (get_or_past ts k no_tag le)) (omega arith)

pub align_positive : (ts : List Tag) (t : CType) → IsLaid ts → 1 ≤ align ts t
align_positive ts (num k) laid = kind_positive k
align_positive ts void laid = omega arith
align_positive ts (ptr t) laid = omega arith
align_positive ts (arr n t) laid = align_positive ts t laid
align_positive ts (struct k) laid = tag_positive ts k laid (cases_lt k (length ts))
align_positive ts (union k) laid = tag_positive ts k laid (cases_lt k (length ts))
align_positive ts (enum k) laid = omega arith
align_positive ts (fun t) laid = omega arith

abbrev head_of : Member → List Member → Member
head_of d [] = d
head_of d (m ∷ ms) = m

-- each member lies below the number
abbrev pub AllIn : List Tag → ℕ → List Member → Type 0
AllIn ts n [] = Unit {0}
AllIn ts n (m ∷ ms) = (m.off + size ts m.ty ≤ n) × AllIn ts n ms

end_le : (ts : List Tag) (laid : IsLaid ts) (o : ℕ) (ms : List Member) → end_of ts o ms < 4294967295 → o ≤ end_of ts o ms
end_le ts laid o [] lt = omega arith
end_le ts laid o (m ∷ ms) lt =
    let a : 1 ≤ align ts m.ty = align_positive ts m.ty laid in
    let u : o ≤ up_to (align ts m.ty) o = up_to_le (align ts m.ty) o a in
    let h : capped (capped (up_to (align ts m.ty) o) + size ts m.ty) ≤ end_of ts (capped (capped (up_to (align ts m.ty) o) + size ts m.ty)) ms = end_le ts laid (capped (capped (up_to (align ts m.ty) o) + size ts m.ty)) ms lt in
    omega arith

pub placed_in : (ts : List Tag) (laid : IsLaid ts) (o : ℕ) (ms : List Member) → ms ≡ placed ts o ms → end_of ts o ms < 4294967295 → AllIn ts (end_of ts o ms) ms
placed_in ts laid o [] e lt = tt
placed_in ts laid o (m ∷ ms) e lt =
    let first : m.off ≡ capped (up_to (align ts m.ty) o) = ap (λ xs. (head_of m xs).off) e in
    let more : ms ≡ placed ts (capped (capped (up_to (align ts m.ty) o) + size ts m.ty)) ms = cc in
    let h : capped (capped (up_to (align ts m.ty) o) + size ts m.ty) ≤ end_of ts (capped (capped (up_to (align ts m.ty) o) + size ts m.ty)) ms = end_le ts laid (capped (capped (up_to (align ts m.ty) o) + size ts m.ty)) ms lt in
    (omega arith, placed_in ts laid (capped (capped (up_to (align ts m.ty) o) + size ts m.ty)) ms more lt)

pub zero_in : (ts : List Tag) (ms : List Member) (n : ℕ) → ms ≡ at_zero ms → largest ts ms ≤ n → AllIn ts n ms
zero_in ts [] n e le = tt
zero_in ts (m ∷ ms) n e le =
    let first : m.off ≡ 0 = ap (λ xs. (head_of m xs).off) e in
    let more : ms ≡ at_zero ms = cc in
    (omega arith, zero_in ts ms n more (omega arith))

struct_in : (ts : List Tag) (laid : IsLaid ts) (t : Tag) → t ≡ laid_as Struct ts t → t.size < 4294967295 → AllIn ts t.size t.members
struct_in ts laid t e lt =
    let s : t.size ≡ capped (up_to (greatest ts t.members) (end_of ts 0 t.members)) = ap (λ x. x.size) e in
    let u : end_of ts 0 t.members ≤ up_to (greatest ts t.members) (end_of ts 0 t.members) = up_to_le (greatest ts t.members) (end_of ts 0 t.members) (greatest_positive ts t.members) in
    all_in_more ts (end_of ts 0 t.members) t.size t.members (omega arith) (placed_in ts laid 0 t.members (ap (λ x. x.members) e) (omega arith))
  where
    all_in_more : (ts : List Tag) (n m : ℕ) (ms : List Member) → n ≤ m → AllIn ts n ms → AllIn ts m ms
    all_in_more ts n m [] le a = tt
    all_in_more ts n m (x ∷ xs) le a = (let h : x.off + size ts x.ty ≤ n = a.0 in omega arith, all_in_more ts n m xs le a.1)

union_in : (ts : List Tag) (t : Tag) → t ≡ laid_as Union ts t → t.size < 4294967295 → AllIn ts t.size t.members
union_in ts t e lt =
    let s : t.size ≡ capped (up_to (greatest ts t.members) (largest ts t.members)) = ap (λ x. x.size) e in
    let u : largest ts t.members ≤ up_to (greatest ts t.members) (largest ts t.members) = up_to_le (greatest ts t.members) (largest ts t.members) (greatest_positive ts t.members) in
    zero_in ts t.members t.size (ap (λ x. x.members) e) (omega arith)

-- the members of a structure or union lie within its size
abbrev pub PartsIn : List Tag → TagKind → Tag → Type 0
PartsIn ts Struct t = AllIn ts t.size t.members
PartsIn ts Union t = AllIn ts t.size t.members
PartsIn ts Enum t = Unit {0}

pub parts_in : (ts : List Tag) (laid : IsLaid ts) (κ : TagKind) (t : Tag) → t ≡ laid_as κ ts t → t.size < 4294967295 → PartsIn ts κ t
parts_in ts laid Struct t e lt = struct_in ts laid t e lt
parts_in ts laid Union t e lt = union_in ts t e lt
parts_in ts laid Enum t e lt = tt
