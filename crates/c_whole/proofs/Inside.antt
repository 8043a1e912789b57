-- Types agree where their parts by the same derivation do.
use Rattle.std.proofs.Common.{◌≡◌, ◌<◌, ℕ, suc, Bool, true, false, ◌&&◌, nat_eq, Option, Some, None, List, [], ◌∷◌, length, refl, sym, ap, ◌∙◌, arith}
use Rattle.c_type.specs.Names.{pick}
use Rattle.c_type.specs.Types.{CType, num, void, ptr, arr, struct, union, enum, fun}
use Rattle.c_type.specs.Names.{same_name}
use Rattle.c_type.specs.declared.Member.{Member}
use Rattle.c_type.specs.Of.{type_of, members_of}
use Rattle.c_join.specs.JoinTypes.{agree_by, members_agree}
use Rattle.c_whole.specs.Types.{inside, leaf_agrees, depth}

-- the parts decide, or the types themselves
abbrev by_parts : (ℕ → ℕ → Bool) → Option (CType × CType) → CType → CType → Bool
by_parts r None a b = leaf_agrees r a b
by_parts r (Some p) a b = agree_by r p.0 p.1

dimensions : (r : ℕ → ℕ → Bool) (n m : ℕ) (a b : CType) (e : Bool) → (e && agree_by r a b) ≡ by_parts r (pick e (Some (a, b)) None) (arr n a) (arr m b)
dimensions r n m a b true = refl
dimensions r n m a b false = refl

pub agree_inside : (r : ℕ → ℕ → Bool) (a b : CType) → agree_by r a b ≡ by_parts r (inside a b) a b
agree_inside r (num a) (num b) = refl
agree_inside r void void = refl
agree_inside r (ptr a) (ptr b) = refl
agree_inside r (arr n a) (arr m b) = dimensions r n m a b (nat_eq n m)
agree_inside r (struct i) (struct j) = refl
agree_inside r (union i) (union j) = refl
agree_inside r (enum i) (enum j) = refl
agree_inside r (fun a) (fun b) = refl
agree_inside r a b = refl

pub agree_of_parts : (r : ℕ → ℕ → Bool) (a b x y : CType) → Some (x, y) ≡ inside a b → agree_by r x y ≡ agree_by r a b
agree_of_parts r a b x y is = ap (λ o. by_parts r o a b) is ∙ sym (agree_inside r a b)

pub agree_of_leaves : (r : ℕ → ℕ → Bool) (a b : CType) → None ≡ inside a b → leaf_agrees r a b ≡ agree_by r a b
agree_of_leaves r a b is = ap (λ o. by_parts r o a b) is ∙ sym (agree_inside r a b)

-- the first part's depth, or 0
abbrev part_depth : Option (CType × CType) → ℕ
part_depth None = 0
part_depth (Some p) = suc (depth p.0)

chosen_depth : (n : ℕ) (a b : CType) (e : Bool) → (p : CType × CType) → Some p ≡ pick e (Some (a, b)) None → depth p.0 < suc (depth a)
chosen_depth n a b true p is = let e : suc (depth p.0) ≡ suc (depth a) = ap part_depth is in omega arith
chosen_depth n a b false p is = let e : suc (depth p.0) ≡ 0 = ap part_depth is in omega arith

pub part_is_less : (a b : CType) (p : CType × CType) → Some p ≡ inside a b → depth p.0 < depth a
part_is_less (ptr a) (ptr b) p is = let e : suc (depth p.0) ≡ suc (depth a) = ap part_depth is in omega arith
part_is_less (fun a) (fun b) p is = let e : suc (depth p.0) ≡ suc (depth a) = ap part_depth is in omega arith
part_is_less (arr n a) (arr m b) p is = chosen_depth n a b (nat_eq n m) p is
part_is_less a b p is = let e : suc (depth p.0) ≡ 0 = ap part_depth is in omega arith

and_false : (a b : Bool) → (a && (b && false)) ≡ false
and_false true true = refl
and_false true false = refl
and_false false b = refl

-- lists of two lengths don't agree
pub members_differ : (r : ℕ → ℕ → Bool) (xs ys : List Member) → (length xs ≡ length ys → ⊥) → members_agree r (members_of xs) (members_of ys) ≡ false
members_differ r [] [] h = absurd (h refl)
members_differ r [] (y ∷ ys) h = refl
members_differ r (x ∷ xs) [] h = refl
members_differ r (x ∷ xs) (y ∷ ys) h =
    ap (λ b. same_name x.name y.name && (agree_by r (type_of x.ty) (type_of y.ty) && b)) (members_differ r xs ys (λ e. h (ap suc e))) ∙
    and_false (same_name x.name y.name) (agree_by r (type_of x.ty) (type_of y.ty))
