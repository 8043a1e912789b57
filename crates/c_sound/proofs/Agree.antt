-- Types that no clash lets differ are built alike, and a function is like a function alone.
use Rattle.std.proofs.Common.{◌≡◌, ℕ, List, [], ◌∷◌, Bool, true, false, not, ◌&&◌, nat_eq, ◌⊎◌, inl, inr, refl, sym, ap, ◌∙◌, subst}
use Rattle.std.specs.List.{list_any}
use Rattle.std.proofs.lemmas.Bool.{eqb-true, or_parts, not-false}
use Rattle.c_type.specs.declared.Kind.TheVariants.{Int}
use Rattle.c_type.specs.Types.{CType, num, void, ptr, arr, struct, union, enum, fun, kind_code, is_integer}
use Rattle.c_rule.specs.RuleTypes.{is_function}
use Rattle.c_join.specs.JoinTypes.{Relation, TypeIn, between, agree_by, same_dimension, declare_alike}
use Rattle.c_join.specs.JoinChecks.{differ, some_differ}
use Rattle.c_sound.specs.HasType.{like}
use Rattle.c_sound.proofs.Listed.{IsIn, none_passes}
use Rattle.c_sound.proofs.Objects.{number_itself}

like_itself : (t : CType) → like t t ≡ true
like_itself (num k) = number_itself (kind_code k)
like_itself void = refl
like_itself (ptr t) = like_itself t
like_itself (arr n t) = like_itself t
like_itself (struct k) = refl
like_itself (union k) = refl
like_itself (enum k) = refl
like_itself (fun t) = like_itself t

like_back : (a b : CType) → like a b ≡ true → like b a ≡ true
like_back (num a) (num b) h = subst (λ n. nat_eq n (kind_code a) ≡ true) (eqb-true (kind_code a) (kind_code b) h) (number_itself (kind_code a))
like_back void void h = refl
like_back (ptr a) (ptr b) h = like_back a b h
like_back (arr n a) (arr m b) h = like_back a b h
like_back (struct i) (struct j) h = refl
like_back (union i) (union j) h = refl
like_back (enum i) (enum j) h = refl
like_back (fun a) (fun b) h = like_back a b h
like_back _ _ h = cc

second_true : (a b : Bool) → (a && b) ≡ true → b ≡ true
second_true true b h = h
second_true false b h = cc

agreed_like : (r : ℕ → ℕ → Bool) (a b : CType) → agree_by r a b ≡ true → like a b ≡ true
agreed_like r (num a) (num b) h = h
agreed_like r void void h = refl
agreed_like r (ptr a) (ptr b) h = agreed_like r a b h
agreed_like r (arr n a) (arr m b) h = agreed_like r a b (second_true (nat_eq n m) (agree_by r a b) h)
agreed_like r (struct i) (struct j) h = refl
agreed_like r (union i) (union j) h = refl
agreed_like r (enum i) (enum j) h = refl
agreed_like r (fun a) (fun b) h = agreed_like r a b h
agreed_like r _ _ h = cc

declared_like : (r : ℕ → ℕ → Bool) (a b : CType) → declare_alike r a b ≡ true → like a b ≡ true
declared_like r (arr n a) (arr m b) h = agreed_like r a b (second_true (same_dimension n m) (agree_by r a b) h)
declared_like r a b h = agreed_like r a b h

not_differ : (r : Relation) (a b : TypeIn) → differ r a b ≡ false → like a.ty b.ty ≡ true
not_differ r a b h = declared_like (between r a.unit b.unit) a.ty b.ty (not-false (declare_alike (between r a.unit b.unit) a.ty b.ty) h)

-- two types of one name
pub none_differ : (r : Relation) (ts : List TypeIn) (a b : TypeIn) → some_differ r ts ≡ false → IsIn a ts → IsIn b ts → like a.ty b.ty ≡ true
none_differ r [] a b e h g = absurd h
none_differ r (t ∷ ts) a b e h g = case_of h g (or_parts (list_any (differ r t) ts) (some_differ r ts) e) (λ e h g. none_differ r ts a b e h g)
  where
    case_of : (a ≡ t) ⊎ IsIn a ts → (b ≡ t) ⊎ IsIn b ts → (list_any (differ r t) ts ≡ false) × (some_differ r ts ≡ false) →
        (some_differ r ts ≡ false → IsIn a ts → IsIn b ts → like a.ty b.ty ≡ true) → like a.ty b.ty ≡ true
    case_of (inl p) (inl q) e more = subst (λ c. like a.ty c.ty ≡ true) (p ∙ sym q) (like_itself a.ty)
    case_of (inl p) (inr i) e more = not_differ r a b (ap (λ c. differ r c b) p ∙ none_passes (differ r t) b ts e.0 i)
    case_of (inr i) (inl q) e more = like_back b.ty a.ty (not_differ r b a (ap (λ c. differ r c a) q ∙ none_passes (differ r t) a ts e.0 i))
    case_of (inr i) (inr j) e more = more e.1 i j

-- a type like that of an object is no function's
pub like_function : (a b : CType) → like a b ≡ true → is_function a ≡ is_function b
like_function (num a) (num b) h = refl
like_function void void h = refl
like_function (ptr a) (ptr b) h = refl
like_function (arr n a) (arr m b) h = refl
like_function (struct i) (struct j) h = refl
like_function (union i) (union j) h = refl
like_function (enum i) (enum j) h = refl
like_function (fun a) (fun b) h = refl
like_function _ _ h = cc

-- what is like int is an integer
pub like_int : (t : CType) → like (num Int) t ≡ true → is_integer t ≡ true
like_int (num k) h = refl
like_int _ h = cc
