-- The operand that a ModRM byte and the bytes behind it spell.
use Rattle.std.specs.Prelude.{ℕ, ◌+◌, ◌/◌, ◌%◌, ◌==◌, ◌&&◌, nat_lt, not, if◌then◌else◌, ℤ, pos, List, [], ◌∷◌, length, Option, Some, None}
use Rattle.std.specs.Int.{w8, w32, cast_signed}
use Rattle.num_le.specs.Field.{field}
use Rattle.isa386.specs.declared.Dw.{Dw}
use Rattle.isa386.specs.declared.Dw.TheVariants.{D0, D8, D32}
use Rattle.isa386.specs.declared.Opnd.TheVariants.{Reg, Mem}
use Rattle.isa_dec.specs.declared.operand.OperandPart.{OperandPart}
use Rattle.isa_dec.specs.declared.operand.OperandPart.TheVariants.{Is, Cut, Wrong}

-- the number in the four bytes from this place on
abbrev pub number_at : ℕ → List ℕ → Option ℕ
number_at at bytes = if nat_lt (length bytes) (at + 4) then None else Some (field 4 at bytes)

-- the signed reading of a number, if it is there
abbrev pub signed_number : Option ℕ → Option ℤ
signed_number None = None
signed_number (Some n) = Some (cast_signed w32 n)

-- the displacement that the bytes begin with
abbrev pub displacement_at : Dw → List ℕ → Option ℤ
displacement_at D0 bytes = Some (pos 0)
displacement_at D8 [] = None
displacement_at D8 (byte ∷ bytes) = Some (cast_signed w8 byte)
displacement_at D32 bytes = signed_number (number_at 0 bytes)

-- memory with the displacement, if it is there
abbrev pub with_displacement : Option ℕ → Option (ℕ × ℕ) → Dw → Option ℤ → OperandPart
with_displacement base index width None = Cut
with_displacement base index width (Some d) = Is (Mem base index d width)

-- memory whose displacement the bytes begin with
abbrev pub memory_at : Option ℕ → Option (ℕ × ℕ) → Dw → List ℕ → OperandPart
memory_at base index width bytes = with_displacement base index width (displacement_at width bytes)

-- the width of the displacement that a mod field asks for
abbrev pub width_of : ℕ → Dw
width_of mode = if mode == 0 then D0 else if mode == 1 then D8 else D32

-- memory that a SIB byte names
abbrev pub scaled_at : ℕ → ℕ → List ℕ → OperandPart
scaled_at mode sib bytes =
    if sib / 8 % 8 == 4 && not (sib / 64 == 0) then Wrong
    else if mode == 0 && sib % 8 == 5 then memory_at None (Some (sib / 8 % 8, sib / 64)) D32 bytes
    else memory_at (Some (sib % 8)) (Some (sib / 8 % 8, sib / 64)) (width_of mode) bytes

-- memory whose SIB byte the bytes begin with
abbrev pub behind_sib : ℕ → List ℕ → OperandPart
behind_sib mode [] = Cut
behind_sib mode (sib ∷ bytes) = scaled_at mode sib bytes

-- the operand of a ModRM byte
abbrev pub operand_at : ℕ → List ℕ → OperandPart
operand_at modrm bytes =
    if modrm / 64 == 3 then Is (Reg (modrm % 8))
    else if modrm % 8 == 4 then behind_sib (modrm / 64) bytes
    else if modrm / 64 == 0 && modrm % 8 == 5 then memory_at None None D32 bytes
    else memory_at (Some (modrm % 8)) None (width_of (modrm / 64)) bytes
