-- What the operators and conversions of the machine give is a number of 32 bits.
use Rattle.std.proofs.Common.{◌≡◌, ℕ, ◌+◌, ◌-◌, ◌*◌, ◌/◌, ◌%◌, ◌^◌, ◌<◌, ◌≤◌, Bool, true, false, nat_lt, nat_le, nat_eq, ◌&&◌, refl, sym, ap, ◌∙◌, subst, arith, div-le_self, mod-eq_of_lt, lt_of_le_of_lt}
use native.Mathlib.Nat.{mod-le}
use Rattle.std.proofs.lemmas.Bool.{leb-true}
use Rattle.std.proofs.lemmas.Nat.{mod_below, mod-mul-add, and_le_l, or_of_32, xor_of_32}
use Rattle.c_type.specs.Names.{pick}
use Rattle.c_type.specs.declared.Kind.{Kind}
use Rattle.c_type.specs.declared.Kind.TheVariants.{Char, UChar, Short, UShort, Int, UInt, Long, ULong}
use Rattle.c_type.specs.Kinds.{extend, convert}
use Rattle.c_type.specs.Types.{num}
use Rattle.c_tree.specs.declared.TUnary.{TUnary}
use Rattle.c_tree.specs.declared.TUnary.TheVariants.{Neg, Flip, Not}
use Rattle.c_tree.specs.declared.TBinary.{TBinary}
use Rattle.c_tree.specs.declared.TBinary.TheVariants.{Mul, Div, Rem, Add, Sub, Shl, Shr, Lt, Gt, Le, Ge, Eq, Ne, BitAnd, BitXor, BitOr}
use Rattle.c_tree.specs.Arith.{add32, sub32, mul32, flip32, is_negative, magnitude, signed_as, differ, quotient, remainder, shift_left, shift_right, bit, one_number, two_numbers, may_trap}
use Rattle.c_sound.specs.Suits.{is_wide}

below_of : (n m : ℕ) → 0 < m → m ≤ 4294967296 → n % m < 4294967296
below_of n m some le = let h = mod_below n m some in omega arith

again_of : (n m : ℕ) → 0 < m → n % m % m ≡ n % m
again_of n m some = mod-eq_of_lt (mod_below n m some)

-- the low bits r, their highest one repeated
repeated : (half r : ℕ) → ℕ
repeated half r = pick (nat_lt r half) r (r + (4294967296 - 2 * half))

extend_is : (half n : ℕ) → extend half n ≡ repeated half (n % (2 * half))
unfolding extend repeated
extend_is half n = refl

repeated_below : (half r : ℕ) → r < 2 * half → 2 * half ≤ 4294967296 → repeated half r < 4294967296
unfolding repeated
repeated_below half r lt le = case_of (nat_lt r half) refl
  where
    case_of : (b : Bool) → nat_lt r half ≡ b → pick b r (r + (4294967296 - 2 * half)) < 4294967296
    case_of true e = omega arith
    case_of false e = omega arith

-- the repeated bits are a multiple of the size of the kind
repeated_low : (half r k : ℕ) → r < 2 * half → 4294967296 ≡ 2 * half + k * (2 * half) → repeated half r % (2 * half) ≡ r
unfolding repeated
repeated_low half r k lt e = case_of (nat_lt r half) refl
  where
    case_of : (b : Bool) → nat_lt r half ≡ b → pick b r (r + (4294967296 - 2 * half)) % (2 * half) ≡ r
    case_of true q = mod-eq_of_lt lt
    case_of false q =
        let is : r + (4294967296 - 2 * half) ≡ k * (2 * half) + r = omega arith in
        ap (λ x. x % (2 * half)) is ∙ mod-mul-add k (2 * half) r lt

extend_below : (half n : ℕ) → 0 < 2 * half → 2 * half ≤ 4294967296 → extend half n < 4294967296
extend_below half n some le =
    subst (λ x. x < 4294967296) (sym (extend_is half n)) (repeated_below half (n % (2 * half)) (mod_below n (2 * half) some) le)

extend_again : (half n k : ℕ) → 0 < 2 * half → 4294967296 ≡ 2 * half + k * (2 * half) → extend half (extend half n) ≡ extend half n
extend_again half n k some e =
    extend_is half (extend half n)
    ∙ ap (λ x. repeated half (x % (2 * half))) (extend_is half n)
    ∙ ap (repeated half) (repeated_low half (n % (2 * half)) k (mod_below n (2 * half) some) e)
    ∙ sym (extend_is half n)

pub convert_below : (k : Kind) (n : ℕ) → convert k n < 4294967296
convert_below Char n = extend_below 128 n (omega arith) (omega arith)
convert_below UChar n = below_of n 256 (omega arith) (omega arith)
convert_below Short n = extend_below 32768 n (omega arith) (omega arith)
convert_below UShort n = below_of n 65536 (omega arith) (omega arith)
convert_below Int n = below_of n 4294967296 (omega arith) (omega arith)
convert_below UInt n = below_of n 4294967296 (omega arith) (omega arith)
convert_below Long n = below_of n 4294967296 (omega arith) (omega arith)
convert_below ULong n = below_of n 4294967296 (omega arith) (omega arith)

pub convert_again : (k : Kind) (n : ℕ) → convert k (convert k n) ≡ convert k n
convert_again Char n = extend_again 128 n 16777215 (omega arith) (omega arith)
convert_again UChar n = again_of n 256 (omega arith)
convert_again Short n = extend_again 32768 n 65535 (omega arith) (omega arith)
convert_again UShort n = again_of n 65536 (omega arith)
convert_again Int n = again_of n 4294967296 (omega arith)
convert_again UInt n = again_of n 4294967296 (omega arith)
convert_again Long n = again_of n 4294967296 (omega arith)
convert_again ULong n = again_of n 4294967296 (omega arith)

-- a kind of 32 bits keeps every number
pub wide_keeps : (k : Kind) (n : ℕ) → is_wide (num k) ≡ true → n < 4294967296 → convert k n ≡ n
wide_keeps Char n w lt = cc
wide_keeps UChar n w lt = cc
wide_keeps Short n w lt = cc
wide_keeps UShort n w lt = cc
wide_keeps Int n w lt = mod-eq_of_lt lt
wide_keeps UInt n w lt = mod-eq_of_lt lt
wide_keeps Long n w lt = mod-eq_of_lt lt
wide_keeps ULong n w lt = mod-eq_of_lt lt

pub zero_kept : (k : Kind) → convert k 0 ≡ 0
unfolding extend
zero_kept Char = refl
zero_kept UChar = refl
zero_kept Short = refl
zero_kept UShort = refl
zero_kept Int = refl
zero_kept UInt = refl
zero_kept Long = refl
zero_kept ULong = refl

pub one_kept : (k : Kind) → convert k 1 ≡ 1
unfolding extend
one_kept Char = refl
one_kept UChar = refl
one_kept Short = refl
one_kept UShort = refl
one_kept Int = refl
one_kept UInt = refl
one_kept Long = refl
one_kept ULong = refl

bit_below : (b : Bool) → bit b < 4294967296
bit_below true = omega arith
bit_below false = omega arith

pub sub_below : (a b : ℕ) → sub32 a b < 4294967296
unfolding sub32
sub_below a b = below_of (a + (4294967296 - b)) 4294967296 (omega arith) (omega arith)

flip_below : (a : ℕ) → flip32 a < 4294967296
unfolding flip32
flip_below a = omega arith

pub one_below : (op : TUnary) (x : ℕ) → one_number op x < 4294967296
one_below Neg x = sub_below 0 x
one_below Flip x = flip_below x
one_below Not x = bit_below (nat_eq x 0)

pub part_below : (a b : ℕ) → a < 4294967296 → a / b < 4294967296
part_below a b lt = lt_of_le_of_lt (div-le_self a b) lt

magnitude_below : (a : ℕ) → a < 4294967296 → magnitude a < 4294967296
unfolding magnitude
magnitude_below a lt = case_of (nat_le 2147483648 a) refl
  where
    case_of : (b : Bool) → nat_le 2147483648 a ≡ b → pick b (4294967296 - a) a < 4294967296
    case_of true e = let le = leb-true 2147483648 a e in omega arith
    case_of false e = lt

signed_below : (negative : Bool) (m : ℕ) → m < 4294967296 → signed_as negative m < 4294967296
unfolding signed_as
signed_below true m lt = sub_below 0 m
signed_below false m lt = lt

rest_below : (a b : ℕ) → a < 4294967296 → a % b < 4294967296
rest_below a b lt = lt_of_le_of_lt (mod-le a b) lt

quotient_below : (signed : Bool) (a b : ℕ) → a < 4294967296 → quotient signed a b < 4294967296
unfolding quotient
quotient_below true a b lt =
    signed_below (differ (is_negative a) (is_negative b)) (magnitude a / magnitude b) (part_below (magnitude a) (magnitude b) (magnitude_below a lt))
quotient_below false a b lt = part_below a b lt

remainder_below : (signed : Bool) (a b : ℕ) → a < 4294967296 → remainder signed a b < 4294967296
unfolding remainder
remainder_below true a b lt = signed_below (is_negative a) (magnitude a % magnitude b) (rest_below (magnitude a) (magnitude b) (magnitude_below a lt))
remainder_below false a b lt = rest_below a b lt

right_below : (signed : Bool) (a b : ℕ) → a < 4294967296 → shift_right signed a b < 4294967296
unfolding shift_right
right_below signed a b lt = case_of (signed && is_negative a)
  where
    case_of : (filled : Bool) → pick filled (flip32 (flip32 a / 2 ^ (b % 32))) (a / 2 ^ (b % 32)) < 4294967296
    case_of true = flip_below (flip32 a / 2 ^ (b % 32))
    case_of false = part_below a (2 ^ (b % 32)) lt

sum_below : (a b : ℕ) → add32 a b < 4294967296
unfolding add32
sum_below a b = below_of (a + b) 4294967296 (omega arith) (omega arith)

product_below : (a b : ℕ) → mul32 a b < 4294967296
unfolding mul32
product_below a b = below_of (a * b) 4294967296 (omega arith) (omega arith)

left_below : (a b : ℕ) → shift_left a b < 4294967296
unfolding shift_left
left_below a b = below_of (a * 2 ^ (b % 32)) 4294967296 (omega arith) (omega arith)

pub two_below : (op : TBinary) (signed : Bool) (x y : ℕ) → x < 4294967296 → y < 4294967296 → may_trap op signed x y ≡ false → two_numbers op signed x y < 4294967296
two_below Mul signed x y lx ly t = product_below x y
two_below Div signed x y lx ly t = quotient_below signed x y lx
two_below Rem signed x y lx ly t = remainder_below signed x y lx
two_below Add signed x y lx ly t = sum_below x y
two_below Sub signed x y lx ly t = sub_below x y
two_below Shl signed x y lx ly t = left_below x y
two_below Shr signed x y lx ly t = right_below signed x y lx
two_below Lt signed x y lx ly t = bit_below _
two_below Gt signed x y lx ly t = bit_below _
two_below Le signed x y lx ly t = bit_below _
two_below Ge signed x y lx ly t = bit_below _
two_below Eq signed x y lx ly t = bit_below _
two_below Ne signed x y lx ly t = bit_below _
two_below BitAnd signed x y lx ly t = lt_of_le_of_lt (and_le_l x y) lx
two_below BitXor signed x y lx ly t = xor_of_32 x y lx ly
two_below BitOr signed x y lx ly t = or_of_32 x y lx ly
