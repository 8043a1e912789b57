-- Registers, and the operands that an instruction names: a register, or memory from an address on.
use Rattle.std.specs.Prelude.{ℕ, ◌-◌, ◌%◌, ◌==◌, nat_lt, if◌then◌else◌, ℤ, Option, Some, None, slice_index, slice_set}
use Rattle.std.specs.Int.{w32, cast_unsigned}
use Rattle.mach_mem.specs.Space.{Space, byte_at, number_at, number16_at}
use Rattle.isa386.specs.declared.Opnd.{Opnd}
use Rattle.isa386.specs.declared.Opnd.TheVariants.{Reg, Mem}
use Rattle.mach_exec.specs.declared.processor.Cpu.{Cpu}
use Rattle.mach_exec.specs.declared.flags.Flags.{Flags}
use Rattle.mach_exec.specs.declared.operand.Place.{Place}
use Rattle.mach_exec.specs.declared.operand.Place.TheVariants.{Register, Memory}
use Rattle.mach_exec.specs.Word.{add32, left32, low_byte, high_byte, low_word, with_low_byte, with_high_byte, with_low_word}

-- registers 0 to 7: eax, ecx, edx, ebx, esp, ebp, esi, edi; no instruction names another
abbrev pub reg : Cpu → ℕ → ℕ
reg c r = slice_index c.regs (r % 8)

abbrev pub with_reg : Cpu → ℕ → ℕ → Cpu
with_reg c r v = record { regs = slice_set c.regs (r % 8) v; eip = c.eip; cf = c.cf; zf = c.zf; sf = c.sf; of = c.of }

-- byte registers 0 to 7: al, cl, dl, bl, ah, ch, dh, bh
abbrev pub reg8 : Cpu → ℕ → ℕ
reg8 c r = if nat_lt r 4 then low_byte (reg c r) else high_byte (reg c (r - 4))

abbrev pub with_reg8 : Cpu → ℕ → ℕ → Cpu
with_reg8 c r b =
    if nat_lt r 4 then with_reg c r (with_low_byte (reg c r) b)
    else with_reg c (r - 4) (with_high_byte (reg c (r - 4)) b)

-- registers of 16 bits: ax, cx, dx, bx, sp, bp, si, di
abbrev pub reg16 : Cpu → ℕ → ℕ
reg16 c r = low_word (reg c r)

abbrev pub with_reg16 : Cpu → ℕ → ℕ → Cpu
with_reg16 c r w = with_reg c r (with_low_word (reg c r) w)

-- the flags of a processor, and the processor with others
abbrev pub flags : Cpu → Flags
flags c = record { cf = c.cf; zf = c.zf; sf = c.sf; of = c.of }

abbrev pub with_flags : Cpu → Flags → Cpu
with_flags c f = record { regs = c.regs; eip = c.eip; cf = f.cf; zf = f.zf; sf = f.sf; of = f.of }

-- eip is past the instruction
abbrev pub at_next : Cpu → ℕ → Cpu
at_next c next = record { regs = c.regs; eip = next; cf = c.cf; zf = c.zf; sf = c.sf; of = c.of }

-- what the base register and the index register add to an address; index register 4 stands for none
abbrev pub base_part : Cpu → Option ℕ → ℕ
base_part c None = 0
base_part c (Some r) = reg c r

abbrev pub index_part : Cpu → Option (ℕ × ℕ) → ℕ
index_part c None = 0
index_part c (Some index) = if index.0 == 4 then 0 else left32 (reg c index.0) (index.1 % 4)

-- the address of a memory operand: base, index times 2 to the scale, and displacement, modulo 2^32
abbrev pub address : Cpu → Option ℕ → Option (ℕ × ℕ) → ℤ → ℕ
address c base index disp = add32 (add32 (base_part c base) (index_part c index)) (cast_unsigned w32 disp)

-- where an operand lies
abbrev pub place_of : Cpu → Opnd → Place
place_of c (Reg r) = Register r
place_of c (Mem base index disp width) = Memory (address c base index disp)

-- the address of an operand in memory, which leal alone asks for
abbrev pub address_of : Place → ℕ
address_of (Register r) = r
address_of (Memory at) = at

-- the number in a place of 32, 16 or 8 bits, where each of its bytes can be read
abbrev pub value : Cpu → Space → Place → Option ℕ
value c m (Register r) = Some (reg c r)
value c m (Memory at) = number_at (byte_at m) at

abbrev pub value16 : Cpu → Space → Place → Option ℕ
value16 c m (Register r) = Some (reg16 c r)
value16 c m (Memory at) = number16_at (byte_at m) at

abbrev pub value8 : Cpu → Space → Place → Option ℕ
value8 c m (Register r) = Some (reg8 c r)
value8 c m (Memory at) = byte_at m at
