-- The effect of each row of the instruction table.
use Rattle.std.specs.Prelude.{ℕ, ◌+◌, ◌-◌, ◌*◌, ◌/◌, ◌%◌, ◌^◌, ◌==◌, ◌&&◌, nat_lt, if◌then◌else◌, ℤ, Option, Some, None, option_map, bit_and}
use Rattle.std.specs.Int.{w32, w64, cast_signed, cast_unsigned}
use Rattle.std.specs.Int.RustNames.{int_div, int_rem}
use Rattle.mach_mem.specs.Space.{Space, number_at, byte_at, is_writable}
use Rattle.isa386.specs.declared.Opnd.{Opnd}
use Rattle.isa386.specs.declared.Way.TheVariants.{ToOperand, ToRegister}
use Rattle.isa386.specs.declared.Dest.TheVariants.{Register as ToOne, Operand as ToAny}
use Rattle.isa386.specs.declared.Narrow.TheVariants.{ByteToOperand, ByteToRegister, WordToOperand}
use Rattle.isa386.specs.declared.StackOp.TheVariants.{Push, PushImm, Pop}
use Rattle.isa386.specs.declared.ArithOp.{ArithOp}
use Rattle.isa386.specs.declared.ArithOp.TheVariants.{Cmp}
use Rattle.isa386.specs.declared.UnaryOp.TheVariants.{Not, Neg}
use Rattle.isa386.specs.declared.DivideOp.{DivideOp}
use Rattle.isa386.specs.declared.DivideOp.TheVariants.{Unsigned, Signed}
use Rattle.isa386.specs.declared.WidenOp.{WidenOp}
use Rattle.isa386.specs.declared.WidenOp.TheVariants.{SignedByte, SignedWord, ZeroByte, ZeroWord}
use Rattle.isa386.specs.declared.Callee.TheVariants.{Relative, Indirect}
use Rattle.isa386.specs.declared.Target.{Target}
use Rattle.isa386.specs.declared.Target.TheVariants.{Near, Short}
use Rattle.isa386.specs.declared.PlainOp.TheVariants.{Ret, Leave, Nop}
use Rattle.isa386.specs.declared.StringOp.TheVariants.{RepMovsb, RepStosb, Cld}
use Rattle.isa386.specs.declared.Ins.{Ins}
use Rattle.isa386.specs.declared.Ins.TheVariants.{Move, MoveImm, MoveNarrow, Lea, Stack, ArithTo, ArithFrom, ArithImm, Test, Imul, Unary, Divide, Cltd, Shift, Set, Widen, Call, Jump, Branch, Plain, Int3, Str, Lcall}
use Rattle.mach_exec.specs.declared.processor.Cpu.{Cpu}
use Rattle.mach_exec.specs.declared.processor.Event.TheVariants.{Trap, System}
use Rattle.mach_exec.specs.declared.operand.Place.{Place}
use Rattle.mach_exec.specs.declared.operand.Place.TheVariants.{Register}
use Rattle.mach_exec.specs.Word.{add32, mul32, not32, sub32, sign, signed_byte, signed_word}
use Rattle.mach_exec.specs.Flags.{arith_result, arith_flags, logic_flags, sub_flags, product_flags, shift_result, shift_flags, holds, fits_signed}
use Rattle.mach_exec.specs.Registers.{eax, ecx, edx, esp, ebp, esi, edi}
use Rattle.mach_exec.specs.Operand.{reg, reg8, reg16, with_reg, with_reg8, flags, with_flags, at_next, place_of, address_of, value, value8, value16}
use Rattle.mach_exec.specs.Effect.{Outcome, done, signalled, reading, storing, storing8, storing16, pushing, popping}
use Rattle.mach_exec.specs.Strings.{is_readable, each_byte, copied, filled}

-- goes on with the number of an operand
abbrev pub reading_operand : Cpu → Space → Opnd → (ℕ → Outcome) → Outcome
reading_operand c m rm f = reading c m (value c m (place_of c rm)) f

-- addl and its kind at a place that holds a; cmpl puts nothing there
abbrev pub arith : Cpu → Space → ArithOp → Place → ℕ → ℕ → ℕ → Outcome
arith c m Cmp at a b next = done (with_flags (at_next c next) (arith_flags Cmp a b)) m
arith c m op at a b next = storing c m at (arith_result op a b) (with_flags (at_next c next) (arith_flags op a b))

-- the number in edx and eax
abbrev pub dividend : Cpu → ℕ
dividend c = reg c edx * 2 ^ 32 + reg c eax

-- divl: quotient and remainder, where the quotient fits
abbrev pub unsigned_parts : ℕ → ℕ → Option (ℕ × ℕ)
unsigned_parts n d = if nat_lt (n / d) (2 ^ 32) then Some (n / d, n % d) else None

-- a signed number in 32 bits, if they can hold it
abbrev pub narrowed : ℤ → Option ℕ
narrowed z = if fits_signed z then Some (cast_unsigned w32 z) else None

-- idivl: quotient and remainder of the signed readings, truncated towards zero; the remainder is smaller than the divisor
abbrev pub signed_quotient : ℕ → ℕ → ℤ
signed_quotient n d = int_div (cast_signed w64 n) (cast_signed w32 d)

abbrev pub signed_rest : ℕ → ℕ → ℕ
signed_rest n d = cast_unsigned w32 (int_rem (cast_signed w64 n) (cast_signed w32 d))

abbrev pub with_rest : Option ℕ → ℕ → Option (ℕ × ℕ)
with_rest None rest = None
with_rest (Some quotient) rest = Some (quotient, rest)

abbrev pub signed_parts : ℕ → ℕ → Option (ℕ × ℕ)
signed_parts n d = with_rest (narrowed (signed_quotient n d)) (signed_rest n d)

abbrev pub division_parts : DivideOp → ℕ → ℕ → Option (ℕ × ℕ)
division_parts Unsigned n d = unsigned_parts n d
division_parts Signed n d = signed_parts n d

-- quotient to eax and remainder to edx; signal 8 where the quotient doesn't fit
abbrev pub divided : Cpu → Space → Option (ℕ × ℕ) → ℕ → Outcome
divided c m None next = signalled c m 8
divided c m (Some parts) next = done (with_reg (with_reg (at_next c next) eax parts.0) edx parts.1) m

-- edx and eax by d; signal 8 for a divisor 0 too
abbrev pub divide : Cpu → Space → DivideOp → ℕ → ℕ → Outcome
divide c m op d next = if d == 0 then signalled c m 8 else divided c m (division_parts op (dividend c) d) next

-- a byte or 16 bits of an operand, widened
abbrev pub widened : Cpu → Space → WidenOp → Place → Option ℕ
widened c m SignedByte at = option_map signed_byte (value8 c m at)
widened c m SignedWord at = option_map signed_word (value16 c m at)
widened c m ZeroByte at = value8 c m at
widened c m ZeroWord at = value16 c m at

-- the address that lies at a distance from the next instruction
abbrev pub target : ℕ → Target → ℕ
target next (Near d) = add32 next (cast_unsigned w32 d)
target next (Short d) = add32 next (cast_unsigned w32 d)

-- rep movsb: ecx bytes from esi on to edi on, all of them or none
abbrev pub moving : Cpu → Space → ℕ → Outcome
moving c m next =
    let n = reg c ecx in
    if each_byte (is_readable m) (reg c esi) n && each_byte (is_writable m) (reg c edi) n
    then done (with_reg (with_reg (with_reg (at_next c next) ecx 0) esi (add32 (reg c esi) n)) edi (add32 (reg c edi) n)) (copied m (reg c esi) (reg c edi) n)
    else signalled c m 11

-- rep stosb: ecx bytes from edi on become al, all of them or none
abbrev pub filling : Cpu → Space → ℕ → Outcome
filling c m next =
    let n = reg c ecx in
    if each_byte (is_writable m) (reg c edi) n
    then done (with_reg (with_reg (at_next c next) ecx 0) edi (add32 (reg c edi) n)) (filled m (reg c edi) (reg8 c eax) n)
    else signalled c m 11

-- each row of the table, `next` being the address behind the instruction
unfoldable pub executed : Cpu → Space → Ins → ℕ → Outcome
-- movl r, rm; movl rm, r
executed c m (Move ToOperand r rm) next = storing c m (place_of c rm) (reg c r) (at_next c next)
executed c m (Move ToRegister r rm) next = reading_operand c m rm (λ v. done (with_reg (at_next c next) r v) m)
-- movl $n, r; movl $n, rm
executed c m (MoveImm (ToOne r) n) next = done (with_reg (at_next c next) r n) m
executed c m (MoveImm (ToAny rm) n) next = storing c m (place_of c rm) n (at_next c next)
-- movb r8, rm8; movb rm8, r8; movw r16, rm16
executed c m (MoveNarrow ByteToOperand r rm) next = storing8 c m (place_of c rm) (reg8 c r) (at_next c next)
executed c m (MoveNarrow ByteToRegister r rm) next = reading c m (value8 c m (place_of c rm)) (λ b. done (with_reg8 (at_next c next) r b) m)
executed c m (MoveNarrow WordToOperand r rm) next = storing16 c m (place_of c rm) (reg16 c r) (at_next c next)
-- leal m, r
executed c m (Lea r rm) next = done (with_reg (at_next c next) r (address_of (place_of c rm))) m
-- pushl r; pushl $n; popl r
executed c m (Stack (Push r)) next = pushing c m (reg c r) (at_next c next)
executed c m (Stack (PushImm n)) next = pushing c m n (at_next c next)
executed c m (Stack (Pop r)) next = popping c m (λ v up. done (with_reg (at_next up next) r v) m)
-- addl, orl, andl, subl, xorl, cmpl: r, rm; rm, r; $n, rm
executed c m (ArithTo op r rm) next = reading_operand c m rm (λ a. arith c m op (place_of c rm) a (reg c r) next)
executed c m (ArithFrom op r rm) next = reading_operand c m rm (λ b. arith c m op (Register r) (reg c r) b next)
executed c m (ArithImm op rm n) next = reading_operand c m rm (λ a. arith c m op (place_of c rm) a n next)
-- testl r, rm
executed c m (Test r rm) next = reading_operand c m rm (λ a. done (with_flags (at_next c next) (logic_flags (bit_and a (reg c r)))) m)
-- imull rm, r
executed c m (Imul r rm) next = reading_operand c m rm (λ b. done (with_reg (with_flags (at_next c next) (product_flags (flags c) (reg c r) b)) r (mul32 (reg c r) b)) m)
-- notl rm; negl rm
executed c m (Unary Not rm) next = reading_operand c m rm (λ a. storing c m (place_of c rm) (not32 a) (at_next c next))
executed c m (Unary Neg rm) next = reading_operand c m rm (λ a. storing c m (place_of c rm) (sub32 0 a) (with_flags (at_next c next) (sub_flags 0 a)))
-- divl rm; idivl rm
executed c m (Divide op rm) next = reading_operand c m rm (λ d. divide c m op d next)
-- cltd
executed c m Cltd next = done (with_reg (at_next c next) edx (if sign (reg c eax) then 2 ^ 32 - 1 else 0)) m
-- shll, shrl, sarl %cl, rm: the count is cl modulo 32
executed c m (Shift op rm) next = reading_operand c m rm (λ a. storing c m (place_of c rm) (shift_result op a (reg c ecx % 32)) (with_flags (at_next c next) (shift_flags (flags c) op a (reg c ecx % 32))))
-- setcc rm8
executed c m (Set cc rm) next = storing8 c m (place_of c rm) (if holds cc (flags c) then 1 else 0) (at_next c next)
-- movsbl, movswl, movzbl, movzwl rm, r
executed c m (Widen op r rm) next = reading c m (widened c m op (place_of c rm)) (λ v. done (with_reg (at_next c next) r v) m)
-- call l; call *rm
executed c m (Call (Relative d)) next = pushing c m next (at_next c (add32 next (cast_unsigned w32 d)))
executed c m (Call (Indirect rm)) next = reading_operand c m rm (λ to. pushing c m next (at_next c to))
-- jmp l; jcc l
executed c m (Jump to) next = done (at_next c (target next to)) m
executed c m (Branch cc to) next = done (at_next c (if holds cc (flags c) then target next to else next)) m
-- ret; leave; nop
executed c m (Plain Ret) next = popping c m (λ v up. done (at_next up v) m)
executed c m (Plain Leave) next = reading c m (number_at (byte_at m) (reg c ebp)) (λ v. done (with_reg (with_reg (at_next c next) esp (add32 (reg c ebp) 4)) ebp v) m)
executed c m (Plain Nop) next = done (at_next c next) m
-- int3
executed c m Int3 next = record { event = Trap; cpu = at_next c next; mem = m }
-- rep movsb; rep stosb; cld
executed c m (Str RepMovsb) next = moving c m next
executed c m (Str RepStosb) next = filling c m next
executed c m (Str Cld) next = done (at_next c next) m
-- lcall $7, $0
executed c m Lcall next = record { event = System; cpu = at_next c next; mem = m }
