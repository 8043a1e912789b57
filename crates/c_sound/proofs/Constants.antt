-- A constant has an integer type.
use Rattle.std.proofs.Common.{◌≡◌, ℕ, List, Bool, true, false, ◌&&◌, refl, subst, Option, Some, None}
use Rattle.std.proofs.lemmas.Bool.{and_parts}
use Rattle.c_type.specs.Types.{CType, num, enum, Tag, same_type, is_integer, is_pointer}
use Rattle.c_tree.specs.declared.TUnary.{TUnary}
use Rattle.c_tree.specs.declared.TUnary.TheVariants.{Neg, Flip, Not}
use Rattle.c_tree.specs.declared.TBinary.{TBinary}
use Rattle.c_tree.specs.TExpr as e
use Rattle.c_tree.specs.TExpr.{Ref, TExpr, type_of}
use Rattle.c_tree.specs.Constant.{given, named, as_integer, constant, is_zero_option, is_zero}
use Rattle.c_run.specs.Context.{Context}
use Rattle.c_rule.specs.RuleValues.{is_scalar}
use Rattle.c_sound.specs.Suits.{is_wide, unary_suits, binary_suits, Suits}
use Rattle.c_sound.specs.Program.{IsBound, HasText}
use Rattle.c_sound.proofs.Operators.{both_integers}
use Rattle.c_sound.proofs.TypeTests.{wide_integer}

-- a number is there
abbrev HasNumber : Option ℕ → Type 0
HasNumber None = ⊥
HasNumber (Some n) = Unit {0}

-- what follows a number that is there
given_some : (o : Option ℕ) (go : ℕ → Option ℕ) → HasNumber (given o go) → HasNumber o × ((n : ℕ) × HasNumber (go n))
given_some None go h = absurd h
given_some (Some n) go h = (tt, (n, h))

integer_no_pointer : (t : CType) → is_integer t ≡ true → is_pointer t ≡ false
integer_no_pointer (num k) h = refl
integer_no_pointer (enum k) h = refl
integer_no_pointer _ h = cc

named_integer : (c : Context) (t : CType) (r : Ref) → IsBound c t r → HasNumber (named r) → is_integer t ≡ true
named_integer c t (e.Const n) b h = b
named_integer c t (e.Local i) b h = absurd h
named_integer c t (e.Param i) b h = absurd h
named_integer c t (e.Static k) b h = absurd h
named_integer c t (e.Ext x) b h = absurd h
named_integer c t (e.Func k) b h = absurd h
named_integer c t (e.Outer x) b h = absurd h

as_integer_is : (t : CType) (n : ℕ) → HasNumber (as_integer t n) → is_integer t ≡ true
as_integer_is (num k) n h = refl
as_integer_is (enum k) n h = refl
as_integer_is _ n h = absurd h

pub unary_wide : (t : CType) (op : TUnary) (u : CType) → unary_suits t op u ≡ true → is_wide t ≡ true
unary_wide t Neg u h = (and_parts (is_wide t) (same_type t u) h).0
unary_wide t Flip u h = (and_parts (is_wide t) (same_type t u) h).0
unary_wide t Not u h = (and_parts (is_wide t) (is_scalar u) h).0

binary_integer : (t : CType) (op : TBinary) (a b : CType) → binary_suits t op a b ≡ true → is_integer a ≡ true → is_integer b ≡ true → is_integer t ≡ true
binary_integer t op a b h ia ib =
    let q = and_parts (is_integer a) (is_integer b && is_wide t) (both_integers t op a b (integer_no_pointer a ia) (integer_no_pointer b ib) h) in
    wide_integer t (and_parts (is_integer b) (is_wide t) q.1).1

constant_integer : (calls : Bool) (c : Context) (ts : List Tag) (x : TExpr) → Suits calls (IsBound c) (HasText c) x → HasNumber (constant ts x) → is_integer (type_of x) ≡ true
constant_integer calls c ts (e.name t r) q h = named_integer c t r q.0 h
constant_integer calls c ts (e.int t n) q h = q
constant_integer calls c ts (e.text t k) q h = absurd h
constant_integer calls c ts (e.unary t op a) q h = wide_integer t (unary_wide t op (type_of a) q.1)
constant_integer calls c ts (e.deref t a) q h = absurd h
constant_integer calls c ts (e.address t a) q h = absurd h
constant_integer calls c ts (e.step t op a) q h = absurd h
constant_integer calls c ts (e.size_of a) q h = refl
constant_integer calls c ts (e.size_of_type of) q h = refl
constant_integer calls c ts (e.cast t a) q h = let g = given_some (constant ts a) (as_integer t) h in as_integer_is t g.1.0 g.1.1
constant_integer calls c ts (e.convert t a) q h = let g = given_some (constant ts a) (as_integer t) h in as_integer_is t g.1.0 g.1.1
constant_integer calls c ts (e.decay t a) q h = absurd h
constant_integer calls c ts (e.designate t a) q h = absurd h
constant_integer calls c ts (e.binary t op a b) q h =
    let g = given_some (constant ts a) _ h in
    let k = given_some (constant ts b) _ g.1.1 in
    binary_integer t op (type_of a) (type_of b) q.2 (constant_integer calls c ts a q.0 g.0) (constant_integer calls c ts b q.1 k.0)
constant_integer calls c ts (e.both a b) q h = refl
constant_integer calls c ts (e.either a b) q h = refl
constant_integer calls c ts (e.comma t a b) q h = absurd h
constant_integer calls c ts (e.choice t d a b) q h =
    let g = given_some (constant ts d) _ h in
    let k = given_some (constant ts a) _ g.1.1 in
    subst (λ u. is_integer u ≡ true) q.5 (constant_integer calls c ts a q.1 k.0)
constant_integer calls c ts (e.assign t a b) q h = absurd h
constant_integer calls c ts (e.update t op at a b) q h = absurd h
constant_integer calls c ts (e.index t a i) q h = absurd h
constant_integer calls c ts (e.call t f es) q h = absurd h
constant_integer calls c ts (e.member t a m) q h = absurd h
constant_integer calls c ts (e.arrow t a m) q h = absurd h

zero_there : (o : Option ℕ) → is_zero_option o ≡ true → HasNumber o
zero_there None h = absurd cc
zero_there (Some n) h = tt

pub zero_integer : (calls : Bool) (c : Context) (ts : List Tag) (x : TExpr) → Suits calls (IsBound c) (HasText c) x → is_zero ts x ≡ true → is_integer (type_of x) ≡ true
zero_integer calls c ts x q h = constant_integer calls c ts x q (zero_there (constant ts x) h)
