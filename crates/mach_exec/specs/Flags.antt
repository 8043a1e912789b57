-- The flags CF, ZF, SF and OF that the operations leave, and the conditions that read them.
use Rattle.std.specs.Prelude.{ℕ, ◌+◌, ◌-◌, ◌%◌, ◌^◌, ◌==◌, ◌&&◌, ◌||◌, nat_le, nat_lt, not, Bool, true, false, if◌then◌else◌, ℤ, pos, negsuc, ◌*ℤ◌, bit_and, bit_or, bit_xor}
use Rattle.std.specs.Int.{w32, cast_signed}
use Rattle.isa386.specs.declared.ArithOp.{ArithOp}
use Rattle.isa386.specs.declared.ArithOp.TheVariants.{Add, Or, And, Sub, Xor, Cmp}
use Rattle.isa386.specs.declared.ShiftOp.{ShiftOp}
use Rattle.isa386.specs.declared.ShiftOp.TheVariants.{Left, Right, Arithmetic}
use Rattle.isa386.specs.declared.Cond.{Cond}
use Rattle.isa386.specs.declared.Cond.TheVariants.{Overflow, NotOverflow, Below, AboveOrEqual, Equal, NotEqual, BelowOrEqual, Above, Sign, NotSign, Less, GreaterOrEqual, LessOrEqual, Greater}
use Rattle.mach_exec.specs.declared.flags.Flags.{Flags}
use Rattle.mach_exec.specs.Word.{add32, sub32, sign, left32, right32, signed_right32}

-- one of two bits, and not both
abbrev pub differ : Bool → Bool → Bool
differ true b = not b
differ false b = b

-- the flags of a result, whose carry and overflow are given
abbrev pub flags_of : ℕ → Bool → Bool → Flags
flags_of result carry overflow = record { cf = carry; zf = result == 0; sf = sign result; of = overflow }

-- addl: a carry where the sum is 2^32 or more, overflow where the terms have one sign and the sum the other
abbrev pub add_flags : ℕ → ℕ → Flags
add_flags a b = flags_of (add32 a b) (nat_le (2 ^ 32) (a + b)) (not (differ (sign a) (sign b)) && differ (sign a) (sign (add32 a b)))

-- subl, cmpl and negl: a carry where a borrow is needed, overflow where the signs differ and the difference has the sign of b
abbrev pub sub_flags : ℕ → ℕ → Flags
sub_flags a b = flags_of (sub32 a b) (nat_lt a b) (differ (sign a) (sign b) && differ (sign a) (sign (sub32 a b)))

-- andl, orl, xorl and testl: carry and overflow are cleared
abbrev pub logic_flags : ℕ → Flags
logic_flags result = flags_of result false false

-- what an operation leaves at its destination a
abbrev pub arith_result : ArithOp → ℕ → ℕ → ℕ
arith_result Add a b = add32 a b
arith_result Or a b = bit_or a b
arith_result And a b = bit_and a b
arith_result Sub a b = sub32 a b
arith_result Xor a b = bit_xor a b
arith_result Cmp a b = a

abbrev pub arith_flags : ArithOp → ℕ → ℕ → Flags
arith_flags Add a b = add_flags a b
arith_flags Or a b = logic_flags (bit_or a b)
arith_flags And a b = logic_flags (bit_and a b)
arith_flags Sub a b = sub_flags a b
arith_flags Xor a b = logic_flags (bit_xor a b)
arith_flags Cmp a b = sub_flags a b

-- whether 32 bits can hold a signed number
abbrev pub fits_signed : ℤ → Bool
fits_signed (pos n) = nat_lt n (2 ^ 31)
fits_signed (negsuc n) = nat_lt n (2 ^ 31)

-- imull: carry and overflow where the product of the signed readings doesn't fit
abbrev pub product_flags : Flags → ℕ → ℕ → Flags
product_flags old a b = let large = not (fits_signed (cast_signed w32 a *ℤ cast_signed w32 b)) in record { cf = large; zf = old.zf; sf = old.sf; of = large }

abbrev pub shift_result : ShiftOp → ℕ → ℕ → ℕ
shift_result Left a k = left32 a k
shift_result Right a k = right32 a k
shift_result Arithmetic a k = signed_right32 a k

-- the last bit that left
abbrev pub shift_carry : ShiftOp → ℕ → ℕ → Bool
shift_carry Left a k = right32 a (32 - k) % 2 == 1
shift_carry Right a k = right32 a (k - 1) % 2 == 1
shift_carry Arithmetic a k = right32 a (k - 1) % 2 == 1

-- whether a shift by 1 changed the sign
abbrev pub shift_overflow : ShiftOp → ℕ → Bool
shift_overflow Left a = differ (sign a) (sign (left32 a 1))
shift_overflow Right a = sign a
shift_overflow Arithmetic a = false

-- shll, shrl and sarl: no flag by a count of 0, overflow by a count of 1 alone
abbrev pub shift_flags : Flags → ShiftOp → ℕ → ℕ → Flags
shift_flags old op a k =
    if k == 0 then old
    else flags_of (shift_result op a k) (shift_carry op a k) (if k == 1 then shift_overflow op a else old.of)

-- whether a condition holds
abbrev pub holds : Cond → Flags → Bool
holds Overflow f = f.of
holds NotOverflow f = not f.of
holds Below f = f.cf
holds AboveOrEqual f = not f.cf
holds Equal f = f.zf
holds NotEqual f = not f.zf
holds BelowOrEqual f = f.cf || f.zf
holds Above f = not (f.cf || f.zf)
holds Sign f = f.sf
holds NotSign f = not f.sf
holds Less f = differ f.sf f.of
holds GreaterOrEqual f = not (differ f.sf f.of)
holds LessOrEqual f = f.zf || differ f.sf f.of
holds Greater f = not (f.zf || differ f.sf f.of)
