-- The memory of a program: its text, its statics and its stack.
use Rattle.std.specs.Prelude.{ℕ, ◌+◌, ◌-◌, ◌*◌, ◌%◌, ◌/◌, ◌&&◌, ◌<◌, ◌≤◌, ◌≡◌, ◌≢◌, Bool, false, nat_le, nat_lt, if◌then◌else◌, List, length, Option, Some, None, slice_get, slice_index, slice_set}
use Rattle.mach_mem.specs.Addresses.{text_start, statics_start, stack_start, stack_end, stack_room}

-- the bytes of the three regions; the statics are the data and, behind it, the bss
pub record Space : Type 0 where
  pub text : List ℕ
  pub statics : List ℕ
  pub stack : List ℕ

-- the byte at this address, in the text, in the statics or in the stack
abbrev pub byte_at : Space → ℕ → Option ℕ
byte_at m at =
    if nat_le stack_end at then None
    else if nat_le stack_start at then slice_get m.stack (at - stack_start)
    else if nat_le statics_start at then slice_get m.statics (at - statics_start)
    else if nat_le text_start at then slice_get m.text (at - text_start)
    else None

-- an address where a byte can be written: in the statics or in the stack
abbrev pub is_writable : Space → ℕ → Bool
is_writable m at =
    if nat_le stack_end at then false
    else if nat_le stack_start at then nat_lt (at - stack_start) (length m.stack)
    else if nat_le statics_start at then nat_lt (at - statics_start) (length m.statics)
    else false

-- the memory with this byte at this address, if one can be written there
abbrev pub with_byte : Space → ℕ → ℕ → Space
with_byte m at v =
    if nat_le stack_end at then m
    else if nat_le stack_start at then record { text = m.text; statics = m.statics; stack = slice_set m.stack (at - stack_start) v }
    else if nat_le statics_start at then record { text = m.text; statics = slice_set m.statics (at - statics_start) v; stack = m.stack }
    else m

-- one byte became v, and every other address tells what it told
pub record SetsByte (old new : ℕ → Option ℕ) (at v : ℕ) : Type 0 where
  pub here : new at ≡ Some v
  pub others : (k : ℕ) → k ≢ at → new k ≡ old k

-- an address where four bytes can be written
unfoldable pub is_writable4 : Space → ℕ → Bool
is_writable4 m at = is_writable m at && is_writable m (at + 1) && is_writable m (at + 2) && is_writable m (at + 3)

-- the memory with this number in the four bytes here, the lowest first
unfoldable pub with_number : Space → ℕ → ℕ → Space
with_number m at v =
    with_byte (with_byte (with_byte (with_byte m at (v % 256)) (at + 1) (v / 256 % 256)) (at + 2) (v / 65536 % 256)) (at + 3) (v / 16777216)

-- an address where two bytes can be written
unfoldable pub is_writable2 : Space → ℕ → Bool
is_writable2 m at = is_writable m at && is_writable m (at + 1)

-- the memory with this number in the two bytes here, the lowest first
unfoldable pub with_number16 : Space → ℕ → ℕ → Space
with_number16 m at v = with_byte (with_byte m at (v % 256)) (at + 1) (v / 256)

-- the number in two bytes, the lowest first, where both are there
abbrev pub number16_of : Option ℕ → Option ℕ → Option ℕ
number16_of None b = None
number16_of (Some a) None = None
number16_of (Some a) (Some b) = Some (a + 256 * b)

-- the number in the two bytes from this address on
abbrev pub number16_at : (ℕ → Option ℕ) → ℕ → Option ℕ
number16_at told at = number16_of (told at) (told (at + 1))

-- the number in four bytes, the lowest first, where all four are there
abbrev pub number_of : Option ℕ → Option ℕ → Option ℕ → Option ℕ → Option ℕ
number_of None b c d = None
number_of (Some a) None c d = None
number_of (Some a) (Some b) None d = None
number_of (Some a) (Some b) (Some c) None = None
number_of (Some a) (Some b) (Some c) (Some d) = Some (a + 256 * (b + 256 * (c + 256 * d)))

-- the number in the four bytes from this address on
abbrev pub number_at : (ℕ → Option ℕ) → ℕ → Option ℕ
number_at told at = number_of (told at) (told (at + 1)) (told (at + 2)) (told (at + 3))

-- n rounded up to a multiple of 4
abbrev pub rounded : ℕ → ℕ
rounded n = n + (4 - n % 4) % 4

-- the memory of a program that has executed nothing: zeros behind the data and in the stack
pub record IsInitial (m : Space) (text init : List ℕ) (bss : ℕ) : Type 0 where
  pub text_is : m.text ≡ text
  pub data_is : (k : ℕ) → k < length init → slice_index m.statics k ≡ slice_index init k
  pub zero_behind : (k : ℕ) → length init ≤ k → slice_index m.statics k ≡ 0
  pub statics_end : length m.statics ≡ rounded (length init) + bss
  pub stack_zero : (k : ℕ) → slice_index m.stack k ≡ 0
  pub stack_size : length m.stack ≡ stack_room
