-- Kinds of bytes in a C text, and the numbers that digits spell.
-- It states docs/LANGUAGE.md, section Tokens.
use Rattle.std.specs.Prelude.{ℕ, ◌+◌, ◌-◌, ◌*◌, List, [], ◌∷◌, Bool, true, false, ◌&&◌, ◌||◌, nat_eq, nat_le}
use Rattle.c_type.specs.Names.{pick}

-- a byte from one to another
abbrev pub is_between : ℕ → ℕ → ℕ → Bool
is_between low high b = nat_le low b && nat_le b high

-- blank, tab, newline, vertical tab, form feed, carriage return
abbrev pub is_white : ℕ → Bool
is_white b = nat_eq b 32 || is_between 9 13 b

-- a decimal digit
abbrev pub is_digit : ℕ → Bool
is_digit b = is_between 48 57 b

-- an octal digit
abbrev pub is_octal : ℕ → Bool
is_octal b = is_between 48 55 b

-- a hexadecimal digit
abbrev pub is_hexadecimal : ℕ → Bool
is_hexadecimal b = is_digit b || (is_between 97 102 b || is_between 65 70 b)

-- a letter of either case
abbrev pub is_letter : ℕ → Bool
is_letter b = is_between 97 122 b || is_between 65 90 b

-- a letter or `_`
abbrev pub begins_name : ℕ → Bool
begins_name b = is_letter b || nat_eq b 95

-- a byte that may stand in a name
abbrev pub is_name_byte : ℕ → Bool
is_name_byte b = begins_name b || is_digit b

-- a letter or digit: the bytes of a number's run
abbrev pub is_run_byte : ℕ → Bool
is_run_byte b = is_letter b || is_digit b

-- whether all the bytes are of the kind
abbrev pub are : (ℕ → Bool) → List ℕ → Bool
are p [] = true
are p (b ∷ bs) = p b && are p bs

-- whether the first byte is there and of the kind
abbrev pub begins : (ℕ → Bool) → List ℕ → Bool
begins p [] = false
begins p (b ∷ bs) = p b

-- the number that a digit stands for, hexadecimal ones too
abbrev pub digit_value : ℕ → ℕ
digit_value b = pick (is_digit b) (b - 48) (pick (is_between 97 102 b) (b - 87) (b - 55))

-- the number that the digits spell after those of n
abbrev pub value_from : (base n : ℕ) → List ℕ → ℕ
value_from base n [] = n
value_from base n (d ∷ ds) = value_from base (n * base + digit_value d) ds

-- the number of newlines
abbrev pub newlines : List ℕ → ℕ
newlines [] = 0
newlines (b ∷ bs) = pick (nat_eq b 10) 1 0 + newlines bs
