-- The bytes of each instruction: opcode, ModRM byte, SIB byte, displacement, number.
use Rattle.std.specs.Prelude.{ℕ, ◌+◌, ◌*◌, ℤ, List, [], ◌∷◌, ◌++◌, Some, None}
use Rattle.std.specs.Int.{w8, w32, cast_unsigned}
use Rattle.byteorder.specs.Endian.{little_bytes}
use Rattle.isa386.specs.declared.ins.Dw.{Dw}
use Rattle.isa386.specs.declared.ins.Dw.TheVariants.{D0, D8, D32}
use Rattle.isa386.specs.declared.ins.Opnd.{Opnd}
use Rattle.isa386.specs.declared.ins.Opnd.TheVariants.{Reg, Mem}
use Rattle.isa386.specs.declared.ins.Way.TheVariants.{ToOperand, ToRegister}
use Rattle.isa386.specs.declared.ins.Dest.TheVariants.{Register, Operand}
use Rattle.isa386.specs.declared.ins.Narrow.TheVariants.{ByteToOperand, ByteToRegister, WordToOperand}
use Rattle.isa386.specs.declared.ins.StackOp.TheVariants.{Push, PushImm, Pop}
use Rattle.isa386.specs.declared.ins.ArithOp.{ArithOp}
use Rattle.isa386.specs.declared.ins.ArithOp.TheVariants.{Add, Or, And, Sub, Xor, Cmp}
use Rattle.isa386.specs.declared.ins.UnaryOp.TheVariants.{Not, Neg}
use Rattle.isa386.specs.declared.ins.DivideOp.TheVariants.{Unsigned, Signed}
use Rattle.isa386.specs.declared.ins.ShiftOp.TheVariants.{Left, Right, Arithmetic}
use Rattle.isa386.specs.declared.ins.Cond.{Cond}
use Rattle.isa386.specs.declared.ins.Cond.TheVariants.{Overflow, NotOverflow, Below, AboveOrEqual, Equal, NotEqual, BelowOrEqual, Above, Sign, NotSign, Less, GreaterOrEqual, LessOrEqual, Greater}
use Rattle.isa386.specs.declared.ins.WidenOp.TheVariants.{SignedByte, SignedWord, ZeroByte, ZeroWord}
use Rattle.isa386.specs.declared.ins.Callee.TheVariants.{Relative, Indirect}
use Rattle.isa386.specs.declared.ins.Target.TheVariants.{Near, Short}
use Rattle.isa386.specs.declared.ins.PlainOp.TheVariants.{Ret, Leave, Nop}
use Rattle.isa386.specs.declared.ins.StringOp.TheVariants.{RepMovsb, RepStosb, Cld}
use Rattle.isa386.specs.declared.ins.Ins.{Ins}
use Rattle.isa386.specs.declared.ins.Ins.TheVariants.{Move, MoveImm, MoveNarrow, Lea, Stack, ArithTo, ArithFrom, ArithImm, Test, Imul, Unary, Divide, Cltd, Shift, Set, Widen, Call, Jump, Branch, Plain, Int3, Str, Lcall}

-- the ModRM byte of these fields
abbrev pub modrm : ℕ → ℕ → ℕ → ℕ
modrm mode reg rm = mode * 64 + reg * 8 + rm

-- the SIB byte of an index register with its scale, and a base
abbrev pub sib : ℕ × ℕ → ℕ → ℕ
sib index base = index.1 * 64 + index.0 * 8 + base

-- the mod field of a displacement's width, behind a base register
abbrev pub mode : Dw → ℕ
mode D0 = 0
mode D8 = 1
mode D32 = 2

-- the bytes of a number
abbrev pub number : ℕ → List ℕ
number n = little_bytes 4 n

-- the bytes of a displacement
abbrev pub displacement : Dw → ℤ → List ℕ
displacement D0 d = []
displacement D8 d = cast_unsigned w8 d ∷ []
displacement D32 d = number (cast_unsigned w32 d)

-- an operand behind /reg: the ModRM byte, the SIB byte where one stands, the displacement
abbrev pub operand : ℕ → Opnd → List ℕ
operand reg (Reg r) = modrm 3 reg r ∷ []
operand reg (Mem None None d w) = modrm 0 reg 5 ∷ displacement w d
operand reg (Mem (Some base) None d w) = modrm (mode w) reg base ∷ displacement w d
operand reg (Mem None (Some index) d w) = modrm 0 reg 4 ∷ (sib index 5 ∷ displacement w d)
operand reg (Mem (Some base) (Some index) d w) = modrm (mode w) reg 4 ∷ (sib index base ∷ displacement w d)

-- the digit of an arithmetic operation: opcodes 8 * digit + 1 and 8 * digit + 3, and 81 /digit
abbrev pub arith_digit : ArithOp → ℕ
arith_digit Add = 0
arith_digit Or = 1
arith_digit And = 4
arith_digit Sub = 5
arith_digit Xor = 6
arith_digit Cmp = 7

-- the number of a condition
abbrev pub cond_code : Cond → ℕ
cond_code Overflow = 0x0
cond_code NotOverflow = 0x1
cond_code Below = 0x2
cond_code AboveOrEqual = 0x3
cond_code Equal = 0x4
cond_code NotEqual = 0x5
cond_code BelowOrEqual = 0x6
cond_code Above = 0x7
cond_code Sign = 0x8
cond_code NotSign = 0x9
cond_code Less = 0xC
cond_code GreaterOrEqual = 0xD
cond_code LessOrEqual = 0xE
cond_code Greater = 0xF

-- the bytes of an instruction
abbrev pub encoding : Ins → List ℕ
encoding (Move ToOperand r rm) = 0x89 ∷ operand r rm
encoding (Move ToRegister r rm) = 0x8B ∷ operand r rm
encoding (MoveImm (Register r) n) = (0xB8 + r) ∷ number n
encoding (MoveImm (Operand rm) n) = 0xC7 ∷ (operand 0 rm ++ number n)
encoding (MoveNarrow ByteToOperand r rm) = 0x88 ∷ operand r rm
encoding (MoveNarrow ByteToRegister r rm) = 0x8A ∷ operand r rm
encoding (MoveNarrow WordToOperand r rm) = 0x66 ∷ 0x89 ∷ operand r rm
encoding (Lea r m) = 0x8D ∷ operand r m
encoding (Stack (Push r)) = (0x50 + r) ∷ []
encoding (Stack (PushImm n)) = 0x68 ∷ number n
encoding (Stack (Pop r)) = (0x58 + r) ∷ []
encoding (ArithTo op r rm) = (8 * arith_digit op + 1) ∷ operand r rm
encoding (ArithFrom op r rm) = (8 * arith_digit op + 3) ∷ operand r rm
encoding (ArithImm op rm n) = 0x81 ∷ (operand (arith_digit op) rm ++ number n)
encoding (Test r rm) = 0x85 ∷ operand r rm
encoding (Imul r rm) = 0x0F ∷ 0xAF ∷ operand r rm
encoding (Unary Not rm) = 0xF7 ∷ operand 2 rm
encoding (Unary Neg rm) = 0xF7 ∷ operand 3 rm
encoding (Divide Unsigned rm) = 0xF7 ∷ operand 6 rm
encoding (Divide Signed rm) = 0xF7 ∷ operand 7 rm
encoding Cltd = 0x99 ∷ []
encoding (Shift Left rm) = 0xD3 ∷ operand 4 rm
encoding (Shift Right rm) = 0xD3 ∷ operand 5 rm
encoding (Shift Arithmetic rm) = 0xD3 ∷ operand 7 rm
encoding (Set c rm) = 0x0F ∷ (0x90 + cond_code c) ∷ operand 0 rm
encoding (Widen SignedByte r rm) = 0x0F ∷ 0xBE ∷ operand r rm
encoding (Widen SignedWord r rm) = 0x0F ∷ 0xBF ∷ operand r rm
encoding (Widen ZeroByte r rm) = 0x0F ∷ 0xB6 ∷ operand r rm
encoding (Widen ZeroWord r rm) = 0x0F ∷ 0xB7 ∷ operand r rm
encoding (Call (Relative d)) = 0xE8 ∷ number (cast_unsigned w32 d)
encoding (Call (Indirect rm)) = 0xFF ∷ operand 2 rm
encoding (Jump (Near d)) = 0xE9 ∷ number (cast_unsigned w32 d)
encoding (Jump (Short d)) = 0xEB ∷ cast_unsigned w8 d ∷ []
encoding (Branch c (Near d)) = 0x0F ∷ (0x80 + cond_code c) ∷ number (cast_unsigned w32 d)
encoding (Branch c (Short d)) = (0x70 + cond_code c) ∷ cast_unsigned w8 d ∷ []
encoding (Plain Ret) = 0xC3 ∷ []
encoding (Plain Leave) = 0xC9 ∷ []
encoding (Plain Nop) = 0x90 ∷ []
encoding Int3 = 0xCC ∷ []
encoding (Str RepMovsb) = 0xF3 ∷ 0xA4 ∷ []
encoding (Str RepStosb) = 0xF3 ∷ 0xAA ∷ []
encoding (Str Cld) = 0xFC ∷ []
encoding Lcall = 0x9A ∷ 0x00 ∷ 0x00 ∷ 0x00 ∷ 0x00 ∷ 0x07 ∷ 0x00 ∷ []
