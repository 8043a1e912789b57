-- Numbers of 32 bits, which a register and an address are: arithmetic modulo 2^32.
use Rattle.std.specs.Prelude.{ℕ, ◌+◌, ◌-◌, ◌*◌, ◌/◌, ◌%◌, ◌^◌, nat_le, Bool, if◌then◌else◌}

abbrev pub add32 : ℕ → ℕ → ℕ
add32 a b = (a + b) % 2 ^ 32

abbrev pub sub32 : ℕ → ℕ → ℕ
sub32 a b = (a + (2 ^ 32 - b)) % 2 ^ 32

abbrev pub mul32 : ℕ → ℕ → ℕ
mul32 a b = (a * b) % 2 ^ 32

-- each bit turned
abbrev pub not32 : ℕ → ℕ
not32 a = 2 ^ 32 - 1 - a

-- the highest bit, which is set where the signed reading is negative
abbrev pub sign : ℕ → Bool
sign a = nat_le (2 ^ 31) a

-- the bits moved to the left or to the right by k, zeros coming in
abbrev pub left32 : ℕ → ℕ → ℕ
left32 a k = (a * 2 ^ k) % 2 ^ 32

abbrev pub right32 : ℕ → ℕ → ℕ
right32 a k = a / 2 ^ k

-- the bits moved to the right by k, copies of the sign coming in
abbrev pub signed_right32 : ℕ → ℕ → ℕ
signed_right32 a k = if sign a then not32 (right32 (not32 a) k) else right32 a k

-- a byte and a number of 16 bits widened by their sign
abbrev pub signed_byte : ℕ → ℕ
signed_byte b = if nat_le (2 ^ 7) b then b + (2 ^ 32 - 2 ^ 8) else b

abbrev pub signed_word : ℕ → ℕ
signed_word w = if nat_le (2 ^ 15) w then w + (2 ^ 32 - 2 ^ 16) else w

-- the lowest byte, the byte above it, and the low 16 bits
abbrev pub low_byte : ℕ → ℕ
low_byte x = x % 2 ^ 8

abbrev pub high_byte : ℕ → ℕ
high_byte x = x / 2 ^ 8 % 2 ^ 8

abbrev pub low_word : ℕ → ℕ
low_word x = x % 2 ^ 16

-- a number with one of these parts anew
abbrev pub with_low_byte : ℕ → ℕ → ℕ
with_low_byte x b = x / 2 ^ 8 * 2 ^ 8 + b

abbrev pub with_high_byte : ℕ → ℕ → ℕ
with_high_byte x b = x / 2 ^ 16 * 2 ^ 16 + b * 2 ^ 8 + x % 2 ^ 8

abbrev pub with_low_word : ℕ → ℕ → ℕ
with_low_word x w = x / 2 ^ 16 * 2 ^ 16 + w
