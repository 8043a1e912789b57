-- The bytes that a repeated instruction or a system call moves. Addresses go upwards and wrap.
use Rattle.std.specs.Prelude.{ℕ, zero, suc, ◌&&◌, Bool, true, List, [], ◌∷◌, is_some, unwrap_or}
use Rattle.mach_mem.specs.Space.{Space, byte_at, with_byte}
use Rattle.mach_exec.specs.Word.{add32}

abbrev pub is_readable : Space → ℕ → Bool
is_readable m at = is_some (byte_at m at)

-- whether each of the n bytes from an address on passes a test
unfoldable pub each_byte : (ℕ → Bool) → ℕ → ℕ → Bool
each_byte test at zero = true
each_byte test at (suc n) = each_byte test at n && test (add32 at n)

-- the byte at one address is put at another
abbrev pub with_copy : Space → ℕ → ℕ → Space
with_copy m from to = with_byte m to (unwrap_or (byte_at m from) 0)

-- n bytes are moved one after the other, each as the memory stands then
unfoldable pub copied : Space → ℕ → ℕ → ℕ → Space
copied m from to zero = m
copied m from to (suc n) = with_copy (copied m from to n) (add32 from n) (add32 to n)

-- n bytes become b
unfoldable pub filled : Space → ℕ → ℕ → ℕ → Space
filled m at b zero = m
filled m at b (suc n) = with_byte (filled m at b n) (add32 at n) b

-- the n bytes from an address on
unfoldable pub bytes_from : Space → ℕ → ℕ → List ℕ
bytes_from m at zero = []
bytes_from m at (suc n) = unwrap_or (byte_at m at) 0 ∷ bytes_from m (add32 at 1) n

-- the memory with these bytes from an address on
unfoldable pub with_bytes : Space → ℕ → List ℕ → Space
with_bytes m at [] = m
with_bytes m at (b ∷ bs) = with_bytes (with_byte m at b) (add32 at 1) bs
