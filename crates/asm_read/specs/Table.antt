-- The instruction of a word and its arguments.
use Rattle.std.specs.Prelude.{ℕ, List, ℤ, pos, Bool, true, false, ◌==◌, ◌&&◌, if◌then◌else◌, Option, Some, None, codes}
use Rattle.std.specs.Str.{bytes_eq}
use Rattle.std.specs.Option.{option_map}
use Rattle.isa386.specs.declared.ins.StackOp.{StackOp}
use Rattle.isa386.specs.declared.ins.WidenOp.{WidenOp}
use Rattle.isa386.specs.declared.ins.Dw.TheVariants.{D32}
use Rattle.isa386.specs.declared.ins.Opnd.{Opnd}
use Rattle.isa386.specs.declared.ins.Opnd.TheVariants.{Reg, Mem}
use Rattle.isa386.specs.declared.ins.Way.TheVariants.{ToOperand, ToRegister}
use Rattle.isa386.specs.declared.ins.Dest.TheVariants.{Register, Operand}
use Rattle.isa386.specs.declared.ins.Narrow.TheVariants.{ByteToOperand, ByteToRegister, WordToOperand}
use Rattle.isa386.specs.declared.ins.StackOp.TheVariants.{Push, PushImm, Pop}
use Rattle.isa386.specs.declared.ins.ArithOp.{ArithOp}
use Rattle.isa386.specs.declared.ins.UnaryOp.TheVariants.{Not, Neg}
use Rattle.isa386.specs.declared.ins.DivideOp.TheVariants.{Unsigned, Signed}
use Rattle.isa386.specs.declared.ins.Callee.TheVariants.{Relative, Indirect}
use Rattle.isa386.specs.declared.ins.Target.TheVariants.{Near}
use Rattle.isa386.specs.declared.ins.PlainOp.TheVariants.{Ret, Leave, Nop}
use Rattle.isa386.specs.declared.ins.StringOp.TheVariants.{RepMovsb, RepStosb, Cld}
use Rattle.isa386.specs.declared.ins.Ins.{Ins}
use Rattle.isa386.specs.declared.ins.Ins.TheVariants.{Move, MoveImm, MoveNarrow, Lea, Stack, ArithTo, ArithFrom, ArithImm, Test, Imul, Unary, Divide, Cltd, Shift, Set, Widen, Call, Jump, Branch, Plain, Int3, Str, Lcall}
use Rattle.asm_item.specs.declared.args.Size.{Size}
use Rattle.asm_item.specs.declared.args.Size.TheVariants as sizes
use Rattle.isa386.specs.declared.field.Field.{Field}
use Rattle.isa386.specs.declared.field.Field.TheVariants as fields
use Rattle.asm_item.specs.declared.model.Label.{Label}
use Rattle.asm_item.specs.declared.words.Keyword.{Keyword}
use Rattle.asm_item.specs.declared.words.Keyword.TheVariants as words
use Rattle.asm_item.specs.Args.{Op, register, number, name, plus, minus, base, Argument, plain, star, imm, imm_name}
use Rattle.asm_item.specs.Rows.{source_size}
use Rattle.asm_read.specs.Numerals.{◌>>=◌, full_of, signed_of}

-- an instruction and the label that a field of it holds
pub record Coded : Type 0 where
  pub ins : Ins
  pub label : Option Label

-- an operand and the label in its displacement
pub record Placed : Type 0 where
  pub operand : Opnd
  pub label : Option Label

-- a number and the label that stands for it
pub record Valued : Type 0 where
  pub value : ℕ
  pub label : Option Label

abbrev pub coded : Ins → Option Label → Option Coded
coded i l = Some record { ins = i; label = l }

abbrev pub placed : Opnd → Option Label → Option Placed
placed o l = Some record { operand = o; label = l }

abbrev pub named : Field → List ℕ → ℤ → Option Label
named f k add = Some record { field = f; name = k; add = add }

-- memory without a base register, and behind one: esp alone takes a SIB byte
abbrev pub absolute : ℤ → Opnd
absolute d = Mem None None d D32

abbrev pub behind : ℕ → ℤ → Opnd
behind b d = Mem (Some b) (if b == 4 then Some (4, 0) else None) d D32

abbrev pub is_size : Size → Size → Bool
is_size sizes.Byte sizes.Byte = true
is_size sizes.Short sizes.Short = true
is_size sizes.Full sizes.Full = true
is_size s t = false

-- an operand of this size
abbrev pub operand_of : Size → Op → Option Placed
operand_of s (register t r) = if is_size s t then placed (Reg r) None else None
operand_of s (number n) = signed_of n >>= λ d. placed (absolute d) None
operand_of s (name k) = placed (absolute (pos 0)) (named fields.Disp k (pos 0))
operand_of s (plus k n) = signed_of n >>= λ d. placed (absolute (pos 0)) (named fields.Disp k d)
operand_of s (minus k n) = None
operand_of s (base n r) = signed_of n >>= λ d. placed (behind r d) None

abbrev pub operand : Size → Argument → Option Placed
operand s (plain o) = operand_of s o
operand s a = None

-- a register of this size
abbrev pub register_of : Size → Argument → Option ℕ
register_of s (plain (register t r)) = if is_size s t then Some r else None
register_of s a = None

-- `$n` and `$name`
abbrev pub immediate : Argument → Option Valued
immediate (imm n) = full_of n >>= λ x. Some record { value = x; label = None }
immediate (imm_name k) = Some record { value = 0; label = named fields.Imm k (pos 0) }
immediate a = None

-- two operands: from a register, from memory to a register, from a number
pub data Pair : Type 0 where
  stored : (r : ℕ) (o : Opnd) → Pair
  loaded : (o : Opnd) (r : ℕ) → Pair
  given : (n : ℕ) (o : Opnd) → Pair

pub record Paired : Type 0 where
  pub pair : Pair
  pub label : Option Label

-- at most one operand holds a name
abbrev pub one_label : Option Label → Option Label → Option (Option Label)
one_label None m = Some m
one_label (Some l) None = Some (Some l)
one_label (Some l) (Some m) = None

abbrev pub from_register : Option ℕ → Option Placed → Option Paired
from_register r o = r >>= λ r. o >>= λ o. Some record { pair = stored r o.operand; label = o.label }

abbrev pub to_register : Option Placed → Option ℕ → Option Paired
to_register o r = o >>= λ o. r >>= λ r. Some record { pair = loaded o.operand r; label = o.label }

abbrev pub from_number : Option Valued → Option Placed → Option Paired
from_number n o = n >>= λ n. o >>= λ o. one_label n.label o.label >>= λ l. Some record { pair = given n.value o.operand; label = l }

-- the two operands of this size, source first
abbrev pub pair : Size → Argument → Argument → Option Paired
pair s (plain (register t r)) b = from_register (register_of s (plain (register t r))) (operand s b)
pair s (imm n) b = from_number (immediate (imm n)) (operand s b)
pair s (imm_name k) b = from_number (immediate (imm_name k)) (operand s b)
pair s a b = to_register (operand s a) (register_of s b)

abbrev pub movl : Pair → Option Ins
movl (stored r o) = Some (Move ToOperand r o)
movl (loaded o r) = Some (Move ToRegister r o)
movl (given n (Reg r)) = Some (MoveImm (Register r) n)
movl (given n (Mem b index d w)) = Some (MoveImm (Operand (Mem b index d w)) n)

abbrev pub movb : Pair → Option Ins
movb (stored r o) = Some (MoveNarrow ByteToOperand r o)
movb (loaded o r) = Some (MoveNarrow ByteToRegister r o)
movb (given n o) = None

abbrev pub movw : Pair → Option Ins
movw (stored r o) = Some (MoveNarrow WordToOperand r o)
movw (loaded o r) = None
movw (given n o) = None

abbrev pub leal : Pair → Option Ins
leal (stored r o) = None
leal (loaded o r) = Some (Lea r o)
leal (given n o) = None

abbrev pub arith : ArithOp → Pair → Option Ins
arith op (stored r o) = Some (ArithTo op r o)
arith op (loaded o r) = Some (ArithFrom op r o)
arith op (given n o) = Some (ArithImm op o n)

abbrev pub testl : Pair → Option Ins
testl (stored r o) = Some (Test r o)
testl (loaded o r) = None
testl (given n o) = None

-- the instruction of a word with two operands of one size
abbrev pub of_pair : Keyword → Pair → Option Ins
of_pair words.Movl p = movl p
of_pair words.Movb p = movb p
of_pair words.Movw p = movw p
of_pair words.Leal p = leal p
of_pair (words.Arith op) p = arith op p
of_pair words.Testl p = testl p
of_pair w p = None

abbrev pub paired : Keyword → Option Paired → Option Coded
paired w p = p >>= λ p. of_pair w p.pair >>= λ i. coded i p.label

abbrev pub multiplied : Option Placed → Option ℕ → Option Coded
multiplied o r = o >>= λ o. r >>= λ r. coded (Imul r o.operand) o.label

abbrev pub widened : WidenOp → Option Placed → Option ℕ → Option Coded
widened op o r = o >>= λ o. r >>= λ r. coded (Widen op r o.operand) o.label

-- the instruction of a word with one operand
abbrev pub of_operand : Keyword → Opnd → Option Ins
of_operand words.Notl o = Some (Unary Not o)
of_operand words.Negl o = Some (Unary Neg o)
of_operand words.Divl o = Some (Divide Unsigned o)
of_operand words.Idivl o = Some (Divide Signed o)
of_operand (words.Shift op) o = Some (Shift op o)
of_operand (words.Set c) o = Some (Set c o)
of_operand words.Call o = Some (Call (Indirect o))
of_operand w o = None

abbrev pub single : Keyword → Option Placed → Option Coded
single w o = o >>= λ o. of_operand w o.operand >>= λ i. coded i o.label

-- `%cl` and an operand
abbrev pub shifted : Keyword → Option ℕ → Option Placed → Option Coded
shifted w c o = c >>= λ c. if c == 1 then single w o else None

abbrev pub is_number : ℕ → Option ℕ → Bool
is_number n None = false
is_number n (Some m) = m == n

-- `$` and this number
abbrev pub is_value : ℕ → Argument → Bool
is_value n (imm m) = is_number n (full_of m)
is_value n a = false

abbrev pub lcall : Argument → Argument → Option Coded
lcall a b = if is_value 7 a && is_value 0 b then coded Lcall None else None

-- the instruction of two arguments
abbrev pub two : Keyword → Argument → Argument → Option Coded
two words.Movl a b = paired words.Movl (pair sizes.Full a b)
two words.Movb a b = paired words.Movb (pair sizes.Byte a b)
two words.Movw a b = paired words.Movw (pair sizes.Short a b)
two words.Leal a b = paired words.Leal (pair sizes.Full a b)
two (words.Arith op) a b = paired (words.Arith op) (pair sizes.Full a b)
two words.Testl a b = paired words.Testl (pair sizes.Full a b)
two words.Imull a b = multiplied (operand sizes.Full a) (register_of sizes.Full b)
two (words.Widen op) a b = widened op (operand (source_size op) a) (register_of sizes.Full b)
two (words.Shift op) a b = shifted (words.Shift op) (register_of sizes.Byte a) (operand sizes.Full b)
two words.Lcall a b = lcall a b
two w a b = None

-- a jump or call that goes to a name
abbrev pub jump : Ins → Argument → Option Coded
jump i (plain (name k)) = coded i (named fields.Target k (pos 0))
jump i a = None

abbrev pub call : Argument → Option Coded
call (star o) = single words.Call (operand_of sizes.Full o)
call a = jump (Call (Relative (pos 0))) a

abbrev pub stack : Option StackOp → Option Coded
stack op = op >>= λ op. coded (Stack op) None

abbrev pub push_number : Option Valued → Option Coded
push_number n = n >>= λ n. coded (Stack (PushImm n.value)) n.label

abbrev pub pushl : Argument → Option Coded
pushl (plain o) = stack (option_map (λ r. Push r) (register_of sizes.Full (plain o)))
pushl a = push_number (immediate a)

abbrev pub rep : Argument → Option Coded
rep (plain (name k)) = if bytes_eq k (codes "movsb") then coded (Str RepMovsb) None else (if bytes_eq k (codes "stosb") then coded (Str RepStosb) None else None)
rep a = None

-- the instruction of one argument
abbrev pub one : Keyword → Argument → Option Coded
one words.Pushl a = pushl a
one words.Popl a = stack (option_map (λ r. Pop r) (register_of sizes.Full a))
one words.Notl a = single words.Notl (operand sizes.Full a)
one words.Negl a = single words.Negl (operand sizes.Full a)
one words.Divl a = single words.Divl (operand sizes.Full a)
one words.Idivl a = single words.Idivl (operand sizes.Full a)
one (words.Set c) a = single (words.Set c) (operand sizes.Byte a)
one words.Call a = call a
one words.Jmp a = jump (Jump (Near (pos 0))) a
one (words.Jump c) a = jump (Branch c (Near (pos 0))) a
one words.Rep a = rep a
one w a = None

-- the instruction without arguments
abbrev pub alone : Keyword → Option Coded
alone words.Cltd = coded Cltd None
alone words.Ret = coded (Plain Ret) None
alone words.Leave = coded (Plain Leave) None
alone words.Nop = coded (Plain Nop) None
alone words.Int3 = coded Int3 None
alone words.Cld = coded (Str Cld) None
alone w = None
