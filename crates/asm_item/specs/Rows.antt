-- The statement of each instruction: its word and its operands, source first.
use Rattle.std.specs.Prelude.{ℕ, zero, suc, List, codes, ℤ, pos, negsuc, Option, Some, None}
use Rattle.std.specs.Int.{w32, cast_signed}
use Rattle.isa386.specs.declared.ins.Opnd.{Opnd}
use Rattle.isa386.specs.declared.ins.WidenOp.{WidenOp}
use Rattle.isa386.specs.declared.ins.Target.{Target}
use Rattle.isa386.specs.declared.ins.Ins.{Ins}
use Rattle.isa386.specs.declared.ins.Opnd.TheVariants.{Reg, Mem}
use Rattle.isa386.specs.declared.ins.Way.TheVariants.{ToOperand, ToRegister}
use Rattle.isa386.specs.declared.ins.Dest.TheVariants.{Register, Operand}
use Rattle.isa386.specs.declared.ins.Narrow.TheVariants.{ByteToOperand, ByteToRegister, WordToOperand}
use Rattle.isa386.specs.declared.ins.StackOp.TheVariants.{Push, PushImm, Pop}
use Rattle.isa386.specs.declared.ins.UnaryOp.TheVariants.{Not, Neg}
use Rattle.isa386.specs.declared.ins.DivideOp.TheVariants.{Unsigned, Signed}
use Rattle.isa386.specs.declared.ins.WidenOp.TheVariants.{SignedByte, SignedWord, ZeroByte, ZeroWord}
use Rattle.isa386.specs.declared.ins.Callee.TheVariants.{Relative, Indirect}
use Rattle.isa386.specs.declared.ins.Target.TheVariants.{Near, Short}
use Rattle.isa386.specs.declared.ins.PlainOp.TheVariants.{Ret, Leave, Nop}
use Rattle.isa386.specs.declared.ins.StringOp.TheVariants.{RepMovsb, RepStosb, Cld}
use Rattle.isa386.specs.declared.ins.Ins.TheVariants.{Move, MoveImm, MoveNarrow, Lea, Stack, ArithTo, ArithFrom, ArithImm, Test, Imul, Unary, Divide, Cltd, Shift, Set, Widen, Call, Jump, Branch, Plain, Int3, Str, Lcall}
use Rattle.asm_item.specs.declared.args.Size.{Size}
use Rattle.asm_item.specs.declared.args.Size.TheVariants as sizes
use Rattle.isa386.specs.declared.field.Field.{Field}
use Rattle.isa386.specs.declared.field.Field.TheVariants as fields
use Rattle.asm_item.specs.declared.model.Label.{Label}
use Rattle.asm_item.specs.declared.words.Keyword.TheVariants as words
use Rattle.asm_item.specs.Args.{Op, register, number, name, plus, base, Argument, plain, star, imm, imm_name, unsigned, signed}
use Rattle.asm_item.specs.Statements.{Statement, bare, with_one, with_two}

-- the label, if it stands in this field
abbrev pub held_in : Field → Field → Label → Option Label
held_in fields.Disp fields.Disp l = Some l
held_in fields.Imm fields.Imm l = Some l
held_in fields.Target fields.Target l = Some l
held_in f g l = None

abbrev pub label_in : Field → Option Label → Option Label
label_in f None = None
label_in f (Some l) = held_in f l.field l

-- a name, and a number other than 0 that is added to it
abbrev pub name_and : List ℕ → ℤ → Op
name_and k (pos zero) = name k
name_and k (pos (suc n)) = plus k (signed (pos (suc n)))
name_and k (negsuc n) = plus k (signed (negsuc n))

-- memory without a base register
abbrev pub absolute : ℤ → Option Label → Op
absolute d None = number (signed d)
absolute d (Some l) = name_and l.name l.add

abbrev pub operand : Size → Opnd → Option Label → Op
operand size (Reg r) l = register size r
operand size (Mem None index d w) l = absolute d (label_in fields.Disp l)
operand size (Mem (Some b) index d w) l = base (signed d) b

abbrev pub immediate_by : ℕ → Option Label → Argument
immediate_by n None = imm (signed (cast_signed w32 n))
immediate_by n (Some l) = imm_name l.name

abbrev pub immediate : ℕ → Option Label → Argument
immediate n l = immediate_by n (label_in fields.Imm l)

abbrev pub destination_by : ℤ → Option Label → Argument
destination_by d None = plain (number (signed d))
destination_by d (Some l) = plain (name l.name)

-- where a direct jump or call goes
abbrev pub destination : ℤ → Option Label → Argument
destination d l = destination_by d (label_in fields.Target l)

-- the distance of a jump in either form
abbrev pub distance : Target → ℤ
distance (Near d) = d
distance (Short d) = d

-- the size of what a move widens
abbrev pub source_size : WidenOp → Size
source_size SignedByte = sizes.Byte
source_size SignedWord = sizes.Short
source_size ZeroByte = sizes.Byte
source_size ZeroWord = sizes.Short

abbrev pub full : ℕ → Argument
full r = plain (register sizes.Full r)

abbrev pub byte : ℕ → Argument
byte r = plain (register sizes.Byte r)

abbrev pub short : ℕ → Argument
short r = plain (register sizes.Short r)

-- an operand of four bytes, of two, of one
abbrev pub rm : Opnd → Option Label → Argument
rm o l = plain (operand sizes.Full o l)

abbrev pub rm16 : Opnd → Option Label → Argument
rm16 o l = plain (operand sizes.Short o l)

abbrev pub rm8 : Opnd → Option Label → Argument
rm8 o l = plain (operand sizes.Byte o l)

-- the statement of an instruction, with the label that a field of it holds
abbrev pub row : Ins → Option Label → Statement
row (Move ToOperand r o) l = with_two words.Movl (full r) (rm o l)
row (Move ToRegister r o) l = with_two words.Movl (rm o l) (full r)
row (MoveImm (Register r) n) l = with_two words.Movl (immediate n l) (full r)
row (MoveImm (Operand o) n) l = with_two words.Movl (immediate n l) (rm o l)
row (MoveNarrow ByteToOperand r o) l = with_two words.Movb (byte r) (rm8 o l)
row (MoveNarrow ByteToRegister r o) l = with_two words.Movb (rm8 o l) (byte r)
row (MoveNarrow WordToOperand r o) l = with_two words.Movw (short r) (rm16 o l)
row (Lea r m) l = with_two words.Leal (rm m l) (full r)
row (Stack (Push r)) l = with_one words.Pushl (full r)
row (Stack (PushImm n)) l = with_one words.Pushl (immediate n l)
row (Stack (Pop r)) l = with_one words.Popl (full r)
row (ArithTo op r o) l = with_two (words.Arith op) (full r) (rm o l)
row (ArithFrom op r o) l = with_two (words.Arith op) (rm o l) (full r)
row (ArithImm op o n) l = with_two (words.Arith op) (immediate n l) (rm o l)
row (Test r o) l = with_two words.Testl (full r) (rm o l)
row (Imul r o) l = with_two words.Imull (rm o l) (full r)
row (Unary Not o) l = with_one words.Notl (rm o l)
row (Unary Neg o) l = with_one words.Negl (rm o l)
row (Divide Unsigned o) l = with_one words.Divl (rm o l)
row (Divide Signed o) l = with_one words.Idivl (rm o l)
row Cltd l = bare words.Cltd
row (Shift op o) l = with_two (words.Shift op) (byte 1) (rm o l)
row (Set c o) l = with_one (words.Set c) (rm8 o l)
row (Widen op r o) l = with_two (words.Widen op) (plain (operand (source_size op) o l)) (full r)
row (Call (Relative d)) l = with_one words.Call (destination d l)
row (Call (Indirect o)) l = with_one words.Call (star (operand sizes.Full o l))
row (Jump t) l = with_one words.Jmp (destination (distance t) l)
row (Branch c t) l = with_one (words.Jump c) (destination (distance t) l)
row (Plain Ret) l = bare words.Ret
row (Plain Leave) l = bare words.Leave
row (Plain Nop) l = bare words.Nop
row Int3 l = bare words.Int3
row (Str RepMovsb) l = with_one words.Rep (plain (name (codes "movsb")))
row (Str RepStosb) l = with_one words.Rep (plain (name (codes "stosb")))
row (Str Cld) l = bare words.Cld
row Lcall l = with_two words.Lcall (imm (unsigned 7)) (imm (unsigned 0))
