-- The words of the command line.
use Rattle.std.specs.Prelude.{ℕ, ◌+◌, ◌*◌, ◌&&◌, ◌||◌, ◌==◌, not, Bool, nat_le, nat_lt, List, [], ◌∷◌, length, Option, Some, None, if◌then◌else◌, codes, slice_index, drop, ◌-◌, fold}
use Rattle.std.specs.List.{list_all}
use Rattle.std.specs.Char.{is_ascii_digit}
use Rattle.std.specs.Str.{bytes_eq}
use Rattle.c_type.specs.Names.{Name}
use Rattle.name_set.specs.Different.{are_different}

-- letters, digits, `.`, `_`, `-` and `/`
abbrev pub is_file_byte : ℕ → Bool
is_file_byte b = (nat_le 97 b && nat_le b 122) || (nat_le 65 b && nat_le b 90) || (nat_le 48 b && nat_le b 57) || b == 46 || b == 95 || b == 45 || b == 47

-- 1 to 14 of these bytes, the first no `-`, with `.c` at the end
unfoldable pub is_c_file : List ℕ → Bool
is_c_file word =
    nat_le (length word) 14 && nat_le 2 (length word) && not (slice_index word 0 == 45) && list_all is_file_byte word
    && bytes_eq (drop (length word - 2) word) (codes ".c")

-- the value of decimal digits
abbrev pub digits_value : List ℕ → ℕ
digits_value digits = fold (λ v d. v * 10 + (d - 48)) 0 digits

-- a decimal number without sign and without a leading zero, from 1 to 9223372036854775807
unfoldable pub number_of : List ℕ → Option ℕ
number_of word =
    if length word == 0 || slice_index word 0 == 48 || not (list_all is_ascii_digit word) || nat_lt 9223372036854775807 (digits_value word) then None
    else Some (digits_value word)

-- what `run` is asked for: files, in their order, and the number of instructions that their program may execute
pub record Request : Type 0 where
  pub files : List Name
  pub most : ℕ

abbrev pub asked_for : List Name → ℕ → Request
asked_for files most = record { files = files; most = most }

-- at least one word, and all name C files
unfoldable pub are_c_files : List (List ℕ) → Bool
are_c_files words = not (length words == 0) && list_all is_c_file words

-- at least one file, all of C, and no two of one name
abbrev pub are_files : List (List ℕ) → Bool
are_files words = are_c_files words && are_different words

-- the files for which a number is given, or none
abbrev pub with_number : Option ℕ → List (List ℕ) → Option Request
with_number None words = None
with_number (Some most) words = if are_files words then Some (asked_for words most) else None

-- behind `run` the files, with `-n` and a number before them as wanted
abbrev pub asked_by_run : List (List ℕ) → Option Request
asked_by_run (option ∷ number ∷ words) =
    if bytes_eq option (codes "-n") then with_number (number_of number) words else with_number (Some 100000000) (option ∷ number ∷ words)
asked_by_run words = with_number (Some 100000000) words

-- `run` and what stands behind it
abbrev pub asked_by : List (List ℕ) → Option Request
asked_by [] = None
asked_by (command ∷ words) = if bytes_eq command (codes "run") then asked_by_run words else None

-- what at most 10,000 words ask for
unfoldable pub asked : List (List ℕ) → Option Request
asked words = if nat_le (length words) 10000 then asked_by words else None

-- the files that words name
abbrev pub files_asked : List (List ℕ) → List Name
files_asked words = of_request (asked words)
  where
    of_request : Option Request → List Name
    of_request None = []
    of_request (Some a) = a.files
