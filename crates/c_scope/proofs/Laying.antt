-- The numbers of a tag that is laid, in the code's lists.
use Rattle.std.proofs.Common.{get_or, set, ◌≡◌, ℕ, ◌+◌, ◌<◌, ◌≤◌, max, List, [], ◌∷◌, ◌++◌, length, take, drop, refl, ap, sym, ◌∙◌, arith}
use Rattle.std.proofs.lemmas.List.{get_or_past, append_assoc, take_more_set, drop-set-lt, drop_more}
use Rattle.c_type.specs.declared.Tags.{Tags}
use Rattle.c_type.specs.declared.Member as dm
use Rattle.c_type.specs.Of.{type_of, member_of, members_of, tags_of}
use Rattle.c_type.specs.Names.{at_or}
use Rattle.c_type.specs.Types.{Member, Tag}
use Rattle.c_type.specs.Sizes.{no_tag, placed, end_of, at_zero, capped, up_to, align, size, greatest}
use Rattle.c_type.proofs.Held.{tag_count}

pub tag_past : (x : Tags) (k : ℕ) → length x.list.items ≤ k → at_or no_tag (tags_of x) k ≡ no_tag
tag_past x k le = get_or_past (tags_of x) k no_tag (omega (arith, tag_count x))

members_append : (xs ys : List dm.Member) → members_of (xs ++ ys) ≡ members_of xs ++ members_of ys
members_append [] ys = refl
members_append (m ∷ xs) ys = ap (λ l. member_of m ∷ l) (members_append xs ys)

-- the member at a place with another offset
abbrev pub moved_at : List dm.Member → ℕ → dm.Member → ℕ → dm.Member
moved_at xs i d n = record { name = (get_or xs i d).name; off = n; ty = (get_or xs i d).ty }

row_step : (f : List Member → List Member) (xs : List dm.Member) (i : ℕ) (y : dm.Member) → i < length xs →
    members_of (take (i + 1) (set xs i y)) ++ f (members_of (drop (i + 1) (set xs i y))) ≡ members_of (take i xs) ++ (member_of y ∷ f (members_of (drop (i + 1) xs)))
row_step f xs i y lt =
    ap (λ a. members_of a ++ f (members_of (drop (i + 1) (set xs i y)))) (take_more_set xs i y lt) ∙
    ap (λ b. members_of (take i xs ++ y ∷ []) ++ f (members_of b)) (drop-set-lt (i + 1) xs i y (omega arith)) ∙
    ap (λ a. a ++ f (members_of (drop (i + 1) xs))) (members_append (take i xs) (y ∷ [])) ∙
    append_assoc (members_of (take i xs)) (member_of y ∷ []) (f (members_of (drop (i + 1) xs)))

pub zero_step : (xs : List dm.Member) (i : ℕ) (d : dm.Member) → i < length xs →
    members_of (take (i + 1) (set xs i (moved_at xs i d 0))) ++ at_zero (members_of (drop (i + 1) (set xs i (moved_at xs i d 0)))) ≡ members_of (take i xs) ++ at_zero (members_of (drop i xs))
zero_step xs i d lt = row_step at_zero xs i (moved_at xs i d 0) lt ∙ ap (λ l. members_of (take i xs) ++ at_zero (members_of l)) (sym (drop_more xs i d lt))

pub place_step : (ts : List Tag) (xs : List dm.Member) (i : ℕ) (d : dm.Member) (end n e : ℕ) → i < length xs →
    n ≡ capped (up_to (align ts (type_of (get_or xs i d).ty)) end) → e ≡ capped (n + size ts (type_of (get_or xs i d).ty)) →
    members_of (take (i + 1) (set xs i (moved_at xs i d n))) ++ placed ts e (members_of (drop (i + 1) (set xs i (moved_at xs i d n)))) ≡
    members_of (take i xs) ++ placed ts end (members_of (drop i xs))
place_step ts xs i d end n e lt hn he =
    row_step (placed ts e) xs i (moved_at xs i d n) lt ∙
    ap (λ k. members_of (take i xs) ++ (member_of (moved_at xs i d n) ∷ placed ts k (members_of (drop (i + 1) xs)))) he ∙
    ap (λ k. members_of (take i xs) ++ (member_of (moved_at xs i d k) ∷ placed ts (capped (k + size ts (type_of (get_or xs i d).ty))) (members_of (drop (i + 1) xs)))) hn ∙
    ap (λ l. members_of (take i xs) ++ placed ts end (members_of l)) (sym (drop_more xs i d lt))

pub end_step : (ts : List Tag) (xs : List dm.Member) (i : ℕ) (d y : dm.Member) (end n e : ℕ) → i < length xs →
    n ≡ capped (up_to (align ts (type_of (get_or xs i d).ty)) end) → e ≡ capped (n + size ts (type_of (get_or xs i d).ty)) →
    end_of ts e (members_of (drop (i + 1) (set xs i y))) ≡ end_of ts end (members_of (drop i xs))
end_step ts xs i d y end n e lt hn he =
    ap (λ l. end_of ts e (members_of l)) (drop-set-lt (i + 1) xs i y (omega arith)) ∙
    ap (λ k. end_of ts k (members_of (drop (i + 1) xs))) (he ∙ ap (λ k. capped (k + size ts (type_of (get_or xs i d).ty))) hn) ∙
    ap (λ l. end_of ts end (members_of l)) (sym (drop_more xs i d lt))

pub greatest_positive : (ts : List Tag) (ms : List Member) → 1 ≤ greatest ts ms
greatest_positive ts [] = omega arith
greatest_positive ts (m ∷ ms) = let h : 1 ≤ greatest ts ms = greatest_positive ts ms in omega arith

pub greatest_or_one : (ts : List Tag) (ms : List Member) → max 1 (greatest ts ms) ≡ greatest ts ms
greatest_or_one ts ms = let h : 1 ≤ greatest ts ms = greatest_positive ts ms in omega arith
