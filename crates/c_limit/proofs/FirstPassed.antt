-- The first limit that is passed among several lists.
use Rattle.std.proofs.Common.{◌≡◌, ◌<◌, ◌≤◌, arith, ℕ, suc, ◌+◌, List, [], ◌∷◌, ◌++◌, length, map, drop, get_or, Option, Some, None, IfSome, Bool, true, false, nat_lt, refl, sym, ap, ◌∙◌, subst, drop-cons, add-one}
use Rattle.std.specs.List.{flat_map}
use Rattle.std.specs.Option.{option_map}
use Rattle.c_type.specs.Names.{pick, or_else}
use Rattle.c_tree.specs.TUnit as u
use Rattle.c_tree.specs.TypedOf.{unit_of}
use Rattle.c_tree.specs.declared.typed_unit.TypedUnit.{TypedUnit}
use Rattle.c_limit.specs.declared.LimitErr.{LimitErr}
use Rattle.c_limit.specs.Errors.{excess_of}
use Rattle.c_limit.specs.Limits.{Limit, Excess, first_passed, AreKept}
use Rattle.c_limit.specs.Laws.{NoneIsPassed}
use Rattle.std.proofs.lemmas.Bool.Decides.{nat_tests}

one_more : (b : Bool) (w : Excess) (m n l : Option Excess) → m ≡ or_else n l → pick b (Some w) m ≡ or_else (pick b (Some w) n) l
one_more true w m n l e = refl
one_more false w m n l e = e

pub passed-append : (xs ys : List Limit) → first_passed (xs ++ ys) ≡ or_else (first_passed xs) (first_passed ys)
passed-append [] ys = refl
passed-append (x ∷ xs) ys = one_more (nat_lt x.greatest x.quantity) x.excess (first_passed (xs ++ ys)) (first_passed xs) (first_passed ys) (passed-append xs ys)

-- where none of the first list is passed, it is that of the second
pub passed-behind : (xs ys : List Limit) → first_passed xs ≡ None → first_passed (xs ++ ys) ≡ first_passed ys
passed-behind xs ys e = passed-append xs ys ∙ ap (λ o. or_else o (first_passed ys)) e

-- one of the first list goes before all others
pub passed-before : (xs ys : List Limit) (w : Excess) → first_passed xs ≡ Some w → first_passed (xs ++ ys) ≡ Some w
passed-before xs ys w e = passed-append xs ys ∙ ap (λ o. or_else o (first_passed ys)) e

-- what is named by a refusal is the first that is passed
abbrev pub IsFirst : List Limit → Option Excess → Type 0
IsFirst xs o = IfSome o (λ x. first_passed xs ≡ Some x)

pub first-before : (xs ys : List Limit) (o : Option Excess) → IsFirst xs o → IsFirst (xs ++ ys) o
first-before xs ys None h = h
first-before xs ys (Some w) h = passed-before xs ys w h

pub first-behind : (xs ys : List Limit) (o : Option Excess) → first_passed xs ≡ None → IsFirst ys o → IsFirst (xs ++ ys) o
first-behind xs ys None e h = h
first-behind xs ys (Some w) e h = passed-behind xs ys e ∙ h

named_by : (xs : List Limit) (o f : Option Excess) → first_passed xs ≡ f → Some o ≡ option_map Some f → IsFirst xs o
named_by xs o None e h = absurd (cc)
named_by xs o (Some w) e h = let same : Some w ≡ o = cc in subst (λ x. IsFirst xs x) same e

-- a refusal that a search found
pub found-first : (xs : List Limit) (o : Option Excess) → Some o ≡ option_map Some (first_passed xs) → IsFirst xs o
found-first xs o h = named_by xs o (first_passed xs) refl h

none_of : (o : Option Excess) → None ≡ option_map Some o → o ≡ None
none_of None h = refl
none_of (Some w) h = absurd (cc)

-- none that a search found
pub found-none : (xs : List Limit) → None ≡ option_map Some (first_passed xs) → first_passed xs ≡ None
found-none xs h = none_of (first_passed xs) h

-- the limits of what is left are those of one unit and of the others
pub units-step : (F : u.TypedUnit → List Limit) (xs : List TypedUnit) (i : ℕ) (x : TypedUnit) → i < length xs → x ≡ get_or xs i x
    → flat_map F (map unit_of (drop i xs)) ≡ F (unit_of x) ++ flat_map F (map unit_of (drop (i + 1) xs))
units-step F xs i x lt is =
    ap (λ ys. flat_map F (map unit_of ys)) (drop-cons xs i x lt) ∙
    (ap (λ y. F (unit_of y) ++ flat_map F (map unit_of (drop (suc i) xs))) (sym is) ∙ ap (λ n. F (unit_of x) ++ flat_map F (map unit_of (drop n xs))) (sym (add-one i)))

before : (xs ys : List Limit) (o f : Option Excess) → first_passed xs ≡ f → Some o ≡ option_map Some f → Some o ≡ option_map Some (first_passed (xs ++ ys))
before xs ys o None e h = absurd (cc)
before xs ys o (Some w) e h = h ∙ ap (λ x. option_map Some x) (sym (passed-before xs ys w e))

-- a unit in which one is passed
pub units-refused : (F : u.TypedUnit → List Limit) (xs : List TypedUnit) (i : ℕ) (x : TypedUnit) (o : Option Excess) → i < length xs → x ≡ get_or xs i x
    → first_passed (flat_map F (map unit_of (drop i xs))) ≡ first_passed (flat_map F (map unit_of xs)) → Some o ≡ option_map Some (first_passed (F (unit_of x)))
    → Some o ≡ option_map Some (first_passed (flat_map F (map unit_of xs)))
units-refused F xs i x o lt is same found =
    before (F (unit_of x)) (flat_map F (map unit_of (drop (i + 1) xs))) o (first_passed (F (unit_of x))) refl found
    ∙ ap (option_map Some) (ap first_passed (sym (units-step F xs i x lt is)) ∙ same)

-- a unit in which none is
pub units-passed : (F : u.TypedUnit → List Limit) (xs : List TypedUnit) (i : ℕ) (x : TypedUnit) → i < length xs → x ≡ get_or xs i x
    → first_passed (flat_map F (map unit_of (drop i xs))) ≡ first_passed (flat_map F (map unit_of xs)) → None ≡ option_map Some (first_passed (F (unit_of x)))
    → first_passed (flat_map F (map unit_of (drop (i + 1) xs))) ≡ first_passed (flat_map F (map unit_of xs))
units-passed F xs i x lt is same found =
    sym (passed-behind (F (unit_of x)) (flat_map F (map unit_of (drop (i + 1) xs))) (found-none (F (unit_of x)) found)) ∙ (ap first_passed (sym (units-step F xs i x lt is)) ∙ same)

-- what a search over units told, where it found one
pub told : (F : u.TypedUnit → List Limit) (xs ys : List TypedUnit) (o : Option LimitErr) (e : LimitErr) → xs ≡ ys
    → option_map excess_of o ≡ option_map Some (first_passed (flat_map F (map unit_of xs))) → o ≡ Some e → IsFirst (flat_map F (map unit_of ys)) (excess_of e)
told F xs ys o e same found is =
    found-first (flat_map F (map unit_of ys)) (excess_of e) (sym (ap (option_map excess_of) is) ∙ (found ∙ ap (λ zs. option_map Some (first_passed (flat_map F (map unit_of zs)))) same))

-- and where it found none
pub told-none : (F : u.TypedUnit → List Limit) (xs ys : List TypedUnit) (o : Option LimitErr) → xs ≡ ys
    → option_map excess_of o ≡ option_map Some (first_passed (flat_map F (map unit_of xs))) → o ≡ None → first_passed (flat_map F (map unit_of ys)) ≡ None
told-none F xs ys o same found is =
    found-none (flat_map F (map unit_of ys)) (sym (ap (option_map excess_of) is) ∙ (found ∙ ap (λ zs. option_map Some (first_passed (flat_map F (map unit_of zs)))) same))

kept_by : (b : Bool) (w : Excess) (o : Option Excess) → pick b (Some w) o ≡ None → (b ≡ false) × (o ≡ None)
kept_by true w o e = absurd (cc)
kept_by false w o e = (refl, e)

not_above : (g q : ℕ) → nat_lt g q ≡ false → q ≤ g
not_above g q e = grind (arith, nat_tests)

not_passed : (g q : ℕ) → q ≤ g → nat_lt g q ≡ false
not_passed g q h = grind (arith, nat_tests)

none-kept : (xs : List Limit) → first_passed xs ≡ None → AreKept xs
none-kept [] e = tt
none-kept (x ∷ xs) e =
    let both = kept_by (nat_lt x.greatest x.quantity) x.excess (first_passed xs) e in
    (not_above x.greatest x.quantity both.0, none-kept xs both.1)

kept-none : (xs : List Limit) → AreKept xs → first_passed xs ≡ None
kept-none [] h = refl
kept-none (x ∷ xs) h = ap (λ b. pick b (Some x.excess) (first_passed xs)) (not_passed x.greatest x.quantity h.0) ∙ kept-none xs h.1

pub none_is_passed : NoneIsPassed
none_is_passed xs = (none-kept xs, kept-none xs)
