-- Numbers as they are written: decimal, octal behind a 0, hexadecimal behind 0x.
use Rattle.std.specs.Prelude.{ℕ, List, [], ◌∷◌, ◌+◌, ◌-◌, ◌*◌, ◌%◌, ◌==◌, ◌&&◌, ◌||◌, nat_lt, nat_le, if◌then◌else◌, Option, Some, None, ℤ}
use Rattle.std.specs.Int.{w32, cast_signed}
use Rattle.std.specs.Option.{option_map}
use Rattle.asm_item.specs.declared.args.Number.{Number}

-- the value of a digit, or 16
abbrev pub digit : ℕ → ℕ
digit c =
    if nat_le 48 c && nat_le c 57 then c - 48
    else (if nat_le 97 c && nat_le c 102 then c - 87
    else (if nat_le 65 c && nat_le c 70 then c - 55 else 16))

-- the number n with one more digit, if it is a digit and the number stays below 2 to the power 32
abbrev pub longer : ℕ → ℕ → ℕ → Option ℕ
longer base n d = if nat_lt d base && nat_lt (n * base + d) 4294967296 then Some (n * base + d) else None

infixl 10 ◌>>=◌
abbrev pub ◌>>=◌ : {A B : Type 0} → Option A → (A → Option B) → Option B
None >>= f = None
(Some x) >>= f = f x

-- the number of the digits behind those of n
abbrev pub digits : ℕ → ℕ → List ℕ → Option ℕ
digits base n [] = Some n
digits base n (c ∷ w) = longer base n (digit c) >>= λ m. digits base m w

-- one digit at least
abbrev pub some_digits : ℕ → List ℕ → Option ℕ
some_digits base [] = None
some_digits base (c ∷ w) = digits base 0 (c ∷ w)

-- behind a 0
abbrev pub after_zero : List ℕ → Option ℕ
after_zero [] = Some 0
after_zero (c ∷ w) = if c == 120 || c == 88 then some_digits 16 w else digits 8 0 (c ∷ w)

abbrev pub numeral : List ℕ → Option ℕ
numeral [] = None
numeral (c ∷ w) = if c == 48 then after_zero w else digits 10 0 (c ∷ w)

-- a number of so many values: from minus half of them, and below all of them, taken modulo their number
abbrev pub within : ℕ → Number → Option ℕ
within values n =
    if n.minus then (if nat_le (n.size * 2) values then Some ((values - n.size) % values) else None)
    else (if nat_lt n.size values then Some n.size else None)

abbrev pub byte_of : Number → Option ℕ
byte_of n = within 256 n

abbrev pub half_of : Number → Option ℕ
half_of n = within 65536 n

abbrev pub full_of : Number → Option ℕ
full_of n = within 4294967296 n

abbrev pub signed_of : Number → Option ℤ
signed_of n = option_map (cast_signed w32) (full_of n)
