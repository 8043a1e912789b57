-- The arithmetic of 32 bits, and the operators on numbers.
-- It states docs/LANGUAGE.md, sections Types, Evaluation.
use Rattle.std.specs.Prelude.{ℕ, ◌+◌, ◌-◌, ◌*◌, ◌/◌, ◌%◌, ◌^◌, Bool, true, false, nat_lt, nat_le, nat_eq, ◌&&◌, ◌||◌, not}
use Rattle.std.specs.Prelude.{bit_and, bit_or, bit_xor}
use Rattle.c_type.specs.Names.{pick}
use Rattle.c_tree.specs.TExpr.{TUnary, Neg, Flip, Not, TBinary, Mul, Div, Rem, Add, Sub, Shl, Shr, Lt, Gt, Le, Ge, Eq, Ne, BitAnd, BitXor, BitOr}

-- sums, differences and products modulo 2 to the power of 32
unfoldable pub add32 : ℕ → ℕ → ℕ
add32 a b = (a + b) % 4294967296

-- a difference modulo 2 to the power of 32
unfoldable pub sub32 : ℕ → ℕ → ℕ
sub32 a b = (a + (4294967296 - b)) % 4294967296

-- a product modulo 2 to the power of 32
unfoldable pub mul32 : ℕ → ℕ → ℕ
mul32 a b = a * b % 4294967296

-- all bits turned
unfoldable pub flip32 : ℕ → ℕ
flip32 a = 4294967295 - a

-- whether the highest bit is set
unfoldable pub is_negative : ℕ → Bool
is_negative a = nat_le 2147483648 a

-- the size of a signed number
unfoldable pub magnitude : ℕ → ℕ
magnitude a = pick (nat_le 2147483648 a) (4294967296 - a) a

-- the number of that size and sign
unfoldable pub signed_as : Bool → ℕ → ℕ
signed_as negative m = pick negative (sub32 0 m) m

-- whether one of two is true
abbrev pub differ : Bool → Bool → Bool
differ true b = not b
differ false b = b

-- truncated toward zero; the remainder has the sign of the dividend
unfoldable pub quotient : Bool → ℕ → ℕ → ℕ
quotient true a b = signed_as (differ (is_negative a) (is_negative b)) (magnitude a / magnitude b)
quotient false a b = a / b

-- what a division leaves
unfoldable pub remainder : Bool → ℕ → ℕ → ℕ
remainder true a b = signed_as (is_negative a) (magnitude a % magnitude b)
remainder false a b = a % b

-- the divisor is 0, or the signed quotient does not fit
unfoldable pub traps : Bool → ℕ → ℕ → Bool
traps signed a b = nat_eq b 0 || (signed && (nat_eq a 2147483648 && nat_eq b 4294967295))

-- shift counts are taken modulo 32
unfoldable pub shift_left : ℕ → ℕ → ℕ
shift_left a b = a * 2 ^ (b % 32) % 4294967296

-- a negative signed number is filled with ones
unfoldable pub shift_right : Bool → ℕ → ℕ → ℕ
shift_right signed a b = pick (signed && is_negative a) (flip32 (flip32 a / 2 ^ (b % 32))) (a / 2 ^ (b % 32))

-- the order of signed numbers is that of unsigned ones moved by half the range
unfoldable pub less : Bool → ℕ → ℕ → Bool
less true a b = nat_lt ((a + 2147483648) % 4294967296) ((b + 2147483648) % 4294967296)
less false a b = nat_lt a b

-- 1 for true, 0 for false
abbrev pub bit : Bool → ℕ
bit true = 1
bit false = 0

-- the operators of one number
abbrev pub one_number : TUnary → ℕ → ℕ
one_number Neg x = sub32 0 x
one_number Flip x = flip32 x
one_number Not x = bit (nat_eq x 0)

-- the operators of two numbers; signed says how they are read
abbrev pub two_numbers : TBinary → Bool → ℕ → ℕ → ℕ
two_numbers Mul signed x y = mul32 x y
two_numbers Div signed x y = quotient signed x y
two_numbers Rem signed x y = remainder signed x y
two_numbers Add signed x y = add32 x y
two_numbers Sub signed x y = sub32 x y
two_numbers Shl signed x y = shift_left x y
two_numbers Shr signed x y = shift_right signed x y
two_numbers Lt signed x y = bit (less signed x y)
two_numbers Gt signed x y = bit (less signed y x)
two_numbers Le signed x y = bit (not (less signed y x))
two_numbers Ge signed x y = bit (not (less signed x y))
two_numbers Eq signed x y = bit (nat_eq x y)
two_numbers Ne signed x y = bit (not (nat_eq x y))
two_numbers BitAnd signed x y = bit_and x y
two_numbers BitXor signed x y = bit_xor x y
two_numbers BitOr signed x y = bit_or x y

-- signal 8 is raised by a division alone
abbrev pub may_trap : TBinary → Bool → ℕ → ℕ → Bool
may_trap Div signed x y = traps signed x y
may_trap Rem signed x y = traps signed x y
may_trap _ signed x y = false
