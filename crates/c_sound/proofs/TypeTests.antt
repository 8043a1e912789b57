-- What the tests of a type say of one another.
use Rattle.std.proofs.Common.{◌≡◌, true, refl}
use Rattle.std.specs.Prelude.{nat_eq}
use Rattle.std.proofs.lemmas.Bool.{and_from, or_left, eq-eqb}
use Rattle.c_type.specs.Types.{CType, num, void, ptr, arr, struct, union, enum, fun, same_type, is_integer, is_pointer, kind_code}
use Rattle.c_rule.specs.RuleTypes.{is_void, is_function}
use Rattle.c_rule.specs.RuleValues.{is_scalar, is_object_pointer}
use Rattle.c_sound.specs.Suits.{is_used, is_wide}
use Rattle.c_sound.proofs.Goes.{is_valued}

pub same_self : (t : CType) → same_type t t ≡ true
same_self (num k) = eq-eqb (kind_code k) (kind_code k) refl
same_self void = refl
same_self (ptr t) = same_self t
same_self (arr n t) = and_from (nat_eq n n) (same_type t t) (eq-eqb n n refl) (same_self t)
same_self (struct k) = eq-eqb k k refl
same_self (union k) = eq-eqb k k refl
same_self (enum k) = eq-eqb k k refl
same_self (fun t) = same_self t

pub wide_integer : (t : CType) → is_wide t ≡ true → is_integer t ≡ true
wide_integer (num k) h = refl
wide_integer _ h = cc

pub object_scalar : (t : CType) → is_object_pointer t ≡ true → is_scalar t ≡ true
object_scalar (ptr t) h = refl
object_scalar _ h = cc

pub integer_scalar : (t : CType) → is_integer t ≡ true → is_scalar t ≡ true
integer_scalar t h = or_left (is_integer t) (is_pointer t) h

pub scalar_used : (t : CType) → is_scalar t ≡ true → is_used t ≡ true
scalar_used t h = or_left (is_scalar t) (is_void t) h

pub integer_used : (t : CType) → is_integer t ≡ true → is_used t ≡ true
integer_used t h = scalar_used t (integer_scalar t h)

pub used_valued : (t : CType) → is_used t ≡ true → is_valued t ≡ true
used_valued t h = or_left (is_used t) (is_function t) h

pub scalar_valued : (t : CType) → is_scalar t ≡ true → is_valued t ≡ true
scalar_valued t h = used_valued t (scalar_used t h)

pub integer_valued : (t : CType) → is_integer t ≡ true → is_valued t ≡ true
integer_valued t h = scalar_valued t (integer_scalar t h)
