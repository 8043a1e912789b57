-- The rules on members by the member with its number and its type.
use Rattle.std.proofs.Common.{◌≡◌, ℕ, Bool, true, false, Option, Some, None, refl, ap}
use Rattle.c_type.specs.Names.{Name, at_or}
use Rattle.c_type.specs.Types.{CType, ptr, struct, is_pointer, target}
use Rattle.c_type.specs.Sizes.{no_tag}
use Rattle.c_tree.specs.TExpr as e
use Rattle.c_tree.specs.TExpr.{TExpr}
use Rattle.c_rule.specs.RuleScope.{Judged, Is, Fails, onward, provided, Env, known, is_sized}
use Rattle.c_rule.specs.RuleExprs as r
use Rattle.c_rule.specs.RuleValues.{is_place, used}
use Rattle.c_operator.specs.MemberOf.{found, member_in, pointed}

found_with : (b : Bool) (o : Option (ℕ × CType)) (make : ℕ → CType → TExpr) → provided 3 b (r.with_member o make) ≡ onward (provided 3 b (found o)) (λ p. Is (make p.0 p.1))
found_with true None make = refl
found_with true (Some p) make = refl
found_with false o make = refl

-- a member of a type, and what is made of it
pub member_is : (c : Env) (t : CType) (x : Name) (make : ℕ → CType → TExpr) → r.member_of c t x make ≡ onward (member_in c t x) (λ p. Is (make p.0 p.1))
member_is c (struct k) x make = found_with (is_sized (known c) (struct k)) (r.member_from 0 (at_or no_tag c.tags k).members x) make
member_is c _ x make = refl

pub dot_is : (c : Env) (w : TExpr) (x : Name) → r.dot c w x ≡ provided 19 (is_place w) (onward (member_in c (e.type_of w) x) (λ p. Is (e.member p.1 w p.0)))
dot_is c w x = ap (provided 19 (is_place w)) (member_is c (e.type_of w) x (λ m t. e.member t w m))

behind : (c : Env) (v : TExpr) (t : CType) (x : Name) →
    provided 19 (is_pointer t) (r.member_of c (target t) x (λ m q. e.arrow q v m)) ≡ onward (pointed t) (λ s. onward (member_in c s x) (λ p. Is (e.arrow p.1 v p.0)))
behind c v (ptr t) x = member_is c t x (λ m q. e.arrow q v m)
behind c v _ x = refl

pub arrow_is : (c : Env) (w : TExpr) (x : Name) →
    r.arrow c w x ≡ onward (used w) (λ v. onward (pointed (e.type_of v)) (λ s. onward (member_in c s x) (λ p. Is (e.arrow p.1 v p.0))))
arrow_is c w x = by_use (used w)
  where
    by_use : (j : Judged TExpr) →
        onward j (λ v. provided 19 (is_pointer (e.type_of v)) (r.member_of c (target (e.type_of v)) x (λ m t. e.arrow t v m)))
        ≡ onward j (λ v. onward (pointed (e.type_of v)) (λ s. onward (member_in c s x) (λ p. Is (e.arrow p.1 v p.0))))
    by_use (Is v) = behind c v (e.type_of v) x
    by_use (Fails n) = refl
