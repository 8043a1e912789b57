-- The parts of an instruction's bytes: opcode, operand, number.
use Rattle.std.specs.Prelude.{ℕ, ◌+◌, ◌<◌, ◌*◌, List, [], ◌∷◌, Option, Some, None}
use Rattle.std.specs.Int.{w8, w32, cast_unsigned}
use Rattle.isa386.specs.Encoding.{number, operand, arith_digit, cond_code}
use Rattle.isa386.specs.declared.encoder.Opcode.{Opcode}
use Rattle.isa386.specs.declared.encoder.Opcode.TheVariants.{One, Plus, Two, FarCall}
use Rattle.isa386.specs.declared.encoder.Tail.{Tail}
use Rattle.isa386.specs.declared.encoder.Tail.TheVariants.{Nothing, Byte, Number}
use Rattle.isa386.specs.declared.ins.Opnd.{Opnd}
use Rattle.isa386.specs.declared.ins.Way.TheVariants.{ToOperand, ToRegister}
use Rattle.isa386.specs.declared.ins.Dest.TheVariants.{Register, Operand}
use Rattle.isa386.specs.declared.ins.Narrow.TheVariants.{ByteToOperand, ByteToRegister, WordToOperand}
use Rattle.isa386.specs.declared.ins.StackOp.TheVariants.{Push, PushImm, Pop}
use Rattle.isa386.specs.declared.ins.UnaryOp.TheVariants.{Not, Neg}
use Rattle.isa386.specs.declared.ins.DivideOp.TheVariants.{Unsigned, Signed}
use Rattle.isa386.specs.declared.ins.ShiftOp.TheVariants.{Left, Right, Arithmetic}
use Rattle.isa386.specs.declared.ins.WidenOp.TheVariants.{SignedByte, SignedWord, ZeroByte, ZeroWord}
use Rattle.isa386.specs.declared.ins.Callee.TheVariants.{Relative, Indirect}
use Rattle.isa386.specs.declared.ins.Target.TheVariants.{Near, Short}
use Rattle.isa386.specs.declared.ins.PlainOp.TheVariants.{Ret, Leave, Nop}
use Rattle.isa386.specs.declared.ins.StringOp.TheVariants.{RepMovsb, RepStosb, Cld}
use Rattle.isa386.specs.declared.ins.Ins.{Ins}
use Rattle.isa386.specs.declared.ins.Ins.TheVariants.{Move, MoveImm, MoveNarrow, Lea, Stack, ArithTo, ArithFrom, ArithImm, Test, Imul, Unary, Divide, Cltd, Shift, Set, Widen, Call, Jump, Branch, Plain, Int3, Str, Lcall}

-- the bytes of an opcode
abbrev pub opcode_bytes : Opcode → List ℕ
opcode_bytes (One a) = a ∷ []
opcode_bytes (Plus a r) = (a + r) ∷ []
opcode_bytes (Two a b) = a ∷ b ∷ []
opcode_bytes FarCall = 0x9A ∷ 0x00 ∷ 0x00 ∷ 0x00 ∷ 0x00 ∷ 0x07 ∷ 0x00 ∷ []

-- an opcode with a register in it fits a byte
abbrev pub IsOpcode : Opcode → Type 0
IsOpcode (One a) = Unit {0}
IsOpcode (Plus a r) = a + r < 256
IsOpcode (Two a b) = Unit {0}
IsOpcode FarCall = Unit {0}

-- the opcode of an instruction
abbrev pub opcode_of : Ins → Opcode
opcode_of (Move ToOperand r rm) = One 0x89
opcode_of (Move ToRegister r rm) = One 0x8B
opcode_of (MoveImm (Register r) n) = Plus 0xB8 r
opcode_of (MoveImm (Operand rm) n) = One 0xC7
opcode_of (MoveNarrow ByteToOperand r rm) = One 0x88
opcode_of (MoveNarrow ByteToRegister r rm) = One 0x8A
opcode_of (MoveNarrow WordToOperand r rm) = Two 0x66 0x89
opcode_of (Lea r rm) = One 0x8D
opcode_of (Stack (Push r)) = Plus 0x50 r
opcode_of (Stack (PushImm n)) = One 0x68
opcode_of (Stack (Pop r)) = Plus 0x58 r
opcode_of (ArithTo op r rm) = One (8 * arith_digit op + 1)
opcode_of (ArithFrom op r rm) = One (8 * arith_digit op + 3)
opcode_of (ArithImm op rm n) = One 0x81
opcode_of (Test r rm) = One 0x85
opcode_of (Imul r rm) = Two 0x0F 0xAF
opcode_of (Unary Not rm) = One 0xF7
opcode_of (Unary Neg rm) = One 0xF7
opcode_of (Divide Unsigned rm) = One 0xF7
opcode_of (Divide Signed rm) = One 0xF7
opcode_of Cltd = One 0x99
opcode_of (Shift Left rm) = One 0xD3
opcode_of (Shift Right rm) = One 0xD3
opcode_of (Shift Arithmetic rm) = One 0xD3
opcode_of (Set c rm) = Two 0x0F (0x90 + cond_code c)
opcode_of (Widen SignedByte r rm) = Two 0x0F 0xBE
opcode_of (Widen SignedWord r rm) = Two 0x0F 0xBF
opcode_of (Widen ZeroByte r rm) = Two 0x0F 0xB6
opcode_of (Widen ZeroWord r rm) = Two 0x0F 0xB7
opcode_of (Call (Relative d)) = One 0xE8
opcode_of (Call (Indirect rm)) = One 0xFF
opcode_of (Jump (Near d)) = One 0xE9
opcode_of (Jump (Short d)) = One 0xEB
opcode_of (Branch c (Near d)) = Two 0x0F (0x80 + cond_code c)
opcode_of (Branch c (Short d)) = One (0x70 + cond_code c)
opcode_of (Plain Ret) = One 0xC3
opcode_of (Plain Leave) = One 0xC9
opcode_of (Plain Nop) = One 0x90
opcode_of Int3 = One 0xCC
opcode_of (Str RepMovsb) = Two 0xF3 0xA4
opcode_of (Str RepStosb) = Two 0xF3 0xAA
opcode_of (Str Cld) = One 0xFC
opcode_of Lcall = FarCall

-- the operand of an instruction, behind the number or register that stands beside it in the ModRM byte
abbrev pub operand_of : Ins → Option (ℕ × Opnd)
operand_of (Move ToOperand r rm) = Some (r, rm)
operand_of (Move ToRegister r rm) = Some (r, rm)
operand_of (MoveImm (Register r) n) = None
operand_of (MoveImm (Operand rm) n) = Some (0, rm)
operand_of (MoveNarrow ByteToOperand r rm) = Some (r, rm)
operand_of (MoveNarrow ByteToRegister r rm) = Some (r, rm)
operand_of (MoveNarrow WordToOperand r rm) = Some (r, rm)
operand_of (Lea r rm) = Some (r, rm)
operand_of (Stack (Push r)) = None
operand_of (Stack (PushImm n)) = None
operand_of (Stack (Pop r)) = None
operand_of (ArithTo op r rm) = Some (r, rm)
operand_of (ArithFrom op r rm) = Some (r, rm)
operand_of (ArithImm op rm n) = Some (arith_digit op, rm)
operand_of (Test r rm) = Some (r, rm)
operand_of (Imul r rm) = Some (r, rm)
operand_of (Unary Not rm) = Some (2, rm)
operand_of (Unary Neg rm) = Some (3, rm)
operand_of (Divide Unsigned rm) = Some (6, rm)
operand_of (Divide Signed rm) = Some (7, rm)
operand_of Cltd = None
operand_of (Shift Left rm) = Some (4, rm)
operand_of (Shift Right rm) = Some (5, rm)
operand_of (Shift Arithmetic rm) = Some (7, rm)
operand_of (Set c rm) = Some (0, rm)
operand_of (Widen SignedByte r rm) = Some (r, rm)
operand_of (Widen SignedWord r rm) = Some (r, rm)
operand_of (Widen ZeroByte r rm) = Some (r, rm)
operand_of (Widen ZeroWord r rm) = Some (r, rm)
operand_of (Call (Relative d)) = None
operand_of (Call (Indirect rm)) = Some (2, rm)
operand_of (Jump (Near d)) = None
operand_of (Jump (Short d)) = None
operand_of (Branch c (Near d)) = None
operand_of (Branch c (Short d)) = None
operand_of (Plain Ret) = None
operand_of (Plain Leave) = None
operand_of (Plain Nop) = None
operand_of Int3 = None
operand_of (Str RepMovsb) = None
operand_of (Str RepStosb) = None
operand_of (Str Cld) = None
operand_of Lcall = None

abbrev pub operand_bytes : Option (ℕ × Opnd) → List ℕ
operand_bytes None = []
operand_bytes (Some p) = operand p.0 p.1

-- the number at the end of an instruction
abbrev pub tail_of : Ins → Tail
tail_of (Move ToOperand r rm) = Nothing
tail_of (Move ToRegister r rm) = Nothing
tail_of (MoveImm (Register r) n) = Number n
tail_of (MoveImm (Operand rm) n) = Number n
tail_of (MoveNarrow ByteToOperand r rm) = Nothing
tail_of (MoveNarrow ByteToRegister r rm) = Nothing
tail_of (MoveNarrow WordToOperand r rm) = Nothing
tail_of (Lea r rm) = Nothing
tail_of (Stack (Push r)) = Nothing
tail_of (Stack (PushImm n)) = Number n
tail_of (Stack (Pop r)) = Nothing
tail_of (ArithTo op r rm) = Nothing
tail_of (ArithFrom op r rm) = Nothing
tail_of (ArithImm op rm n) = Number n
tail_of (Test r rm) = Nothing
tail_of (Imul r rm) = Nothing
tail_of (Unary Not rm) = Nothing
tail_of (Unary Neg rm) = Nothing
tail_of (Divide Unsigned rm) = Nothing
tail_of (Divide Signed rm) = Nothing
tail_of Cltd = Nothing
tail_of (Shift Left rm) = Nothing
tail_of (Shift Right rm) = Nothing
tail_of (Shift Arithmetic rm) = Nothing
tail_of (Set c rm) = Nothing
tail_of (Widen SignedByte r rm) = Nothing
tail_of (Widen SignedWord r rm) = Nothing
tail_of (Widen ZeroByte r rm) = Nothing
tail_of (Widen ZeroWord r rm) = Nothing
tail_of (Call (Relative d)) = Number (cast_unsigned w32 d)
tail_of (Call (Indirect rm)) = Nothing
tail_of (Jump (Near d)) = Number (cast_unsigned w32 d)
tail_of (Jump (Short d)) = Byte d
tail_of (Branch c (Near d)) = Number (cast_unsigned w32 d)
tail_of (Branch c (Short d)) = Byte d
tail_of (Plain Ret) = Nothing
tail_of (Plain Leave) = Nothing
tail_of (Plain Nop) = Nothing
tail_of Int3 = Nothing
tail_of (Str RepMovsb) = Nothing
tail_of (Str RepStosb) = Nothing
tail_of (Str Cld) = Nothing
tail_of Lcall = Nothing

abbrev pub tail_bytes : Tail → List ℕ
tail_bytes Nothing = []
tail_bytes (Byte d) = cast_unsigned w8 d ∷ []
tail_bytes (Number n) = number n
