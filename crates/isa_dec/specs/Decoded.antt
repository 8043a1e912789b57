-- What bytes begin with, as a function that goes over them from the front.
use Rattle.std.specs.Prelude.{ℕ, ◌+◌, ◌/◌, ◌%◌, ◌==◌, ◌&&◌, ◌||◌, nat_eq, nat_lt, not, Bool, true, if◌then◌else◌, List, [], ◌∷◌, length, Option, Some, None}
use Rattle.std.specs.Int.{w8, w32, cast_signed}
use Rattle.std.specs.List.{starts_with}
use Rattle.isa386.specs.Encoding.{encoding}
use Rattle.isa386.specs.declared.ArithOp.{ArithOp}
use Rattle.isa386.specs.declared.ArithOp.TheVariants.{Cmp}
use Rattle.isa386.specs.declared.Dw.{Dw}
use Rattle.isa386.specs.declared.Dw.TheVariants.{D0, D8, D32}
use Rattle.isa386.specs.declared.Opnd.{Opnd}
use Rattle.isa386.specs.declared.Opnd.TheVariants.{Reg, Mem}
use Rattle.isa386.specs.declared.Dest.TheVariants.{Register, Operand as ToMemory}
use Rattle.isa386.specs.declared.StackOp.TheVariants.{Push, PushImm, Pop}
use Rattle.isa386.specs.declared.UnaryOp.TheVariants.{Not, Neg}
use Rattle.isa386.specs.declared.DivideOp.TheVariants.{Unsigned, Signed}
use Rattle.isa386.specs.declared.ShiftOp.TheVariants.{Left, Right, Arithmetic}
use Rattle.isa386.specs.declared.Callee.TheVariants.{Relative, Indirect}
use Rattle.isa386.specs.declared.PlainOp.TheVariants.{Ret, Leave, Nop}
use Rattle.isa386.specs.declared.StringOp.TheVariants.{RepMovsb, RepStosb, Cld}
use Rattle.isa386.specs.declared.Narrow.TheVariants.{ByteToOperand, ByteToRegister, WordToOperand}
use Rattle.isa386.specs.declared.Target.TheVariants.{Near, Short as Close}
use Rattle.isa386.specs.declared.Ins.{Ins}
use Rattle.isa386.specs.declared.Ins.TheVariants.{Move, MoveImm, MoveNarrow, Lea, Stack, ArithTo, ArithFrom, ArithImm, Test, Imul, Unary, Divide, Cltd, Shift, Set, Widen, Call, Jump, Branch, Plain, Int3, Str, Lcall}
use Rattle.isa_dec.specs.declared.form.Form.{Form}
use Rattle.isa_dec.specs.declared.form.Form.TheVariants.{Whole, Byte, Number, Operand, Numbered}
use Rattle.isa_dec.specs.declared.form.WholeForm.{WholeForm}
use Rattle.isa_dec.specs.declared.form.WholeForm.TheVariants.{PushForm, PopForm, CltdForm, RetForm, LeaveForm, NopForm, Int3Form, MovsbForm, StosbForm, CldForm}
use Rattle.isa_dec.specs.declared.form.ByteForm.{ByteForm}
use Rattle.isa_dec.specs.declared.form.ByteForm.TheVariants.{ShortJump, ShortBranch}
use Rattle.isa_dec.specs.declared.form.NumberForm.{NumberForm}
use Rattle.isa_dec.specs.declared.form.NumberForm.TheVariants.{MoveNumber, PushNumber, CallNear, JumpNear, BranchNear}
use Rattle.isa_dec.specs.declared.form.OperandForm.{OperandForm}
use Rattle.isa_dec.specs.declared.form.OperandForm.TheVariants.{MoveForm, NarrowForm, LeaForm, ToForm, FromForm, TestForm, ImulForm, GroupForm, ShiftForm, SetForm, WidenForm, CallForm}
use Rattle.isa_dec.specs.declared.form.NumberedForm.{NumberedForm}
use Rattle.isa_dec.specs.declared.form.NumberedForm.TheVariants.{MoveNumbered, ArithNumbered}
use Rattle.isa_dec.specs.declared.operand.OperandPart.{OperandPart}
use Rattle.isa_dec.specs.declared.operand.OperandPart.TheVariants.{Is, Cut, Wrong}
use Rattle.isa_dec.specs.declared.dec.Dec.{Dec}
use Rattle.isa_dec.specs.declared.dec.Dec.TheVariants.{Ins as IsIns, Short, Unknown}
use Rattle.isa_dec.specs.declared.dec.Page.{Page}
use Rattle.isa_dec.specs.declared.dec.Page.TheVariants.{TwoBytes, Word, Repeated}
use Rattle.isa_dec.specs.OperandAt.{number_at, operand_at}
use Rattle.isa_dec.specs.OpcodeAt.{arith_at, one_byte, two_bytes, word_form, repeated_form}

-- an instruction and the number of its bytes
abbrev pub found : Ins → Dec
found i = IsIns i (length (encoding i))

-- rows that are an opcode alone
abbrev pub whole_ins : WholeForm → Ins
whole_ins (PushForm r) = Stack (Push r)
whole_ins (PopForm r) = Stack (Pop r)
whole_ins CltdForm = Cltd
whole_ins RetForm = Plain Ret
whole_ins LeaveForm = Plain Leave
whole_ins NopForm = Plain Nop
whole_ins Int3Form = Int3
whole_ins MovsbForm = Str RepMovsb
whole_ins StosbForm = Str RepStosb
whole_ins CldForm = Str Cld

-- rows that end with a signed byte
abbrev pub byte_ins : ByteForm → ℕ → Ins
byte_ins ShortJump b = Jump (Close (cast_signed w8 b))
byte_ins (ShortBranch c) b = Branch c (Close (cast_signed w8 b))

-- what such a row and the bytes behind its opcode make
abbrev pub byte_row : ByteForm → List ℕ → Dec
byte_row form [] = Short
byte_row form (b ∷ rest) = found (byte_ins form b)

-- rows that are an opcode and a number
abbrev pub number_ins : NumberForm → ℕ → Ins
number_ins (MoveNumber r) n = MoveImm (Register r) n
number_ins PushNumber n = Stack (PushImm n)
number_ins CallNear n = Call (Relative (cast_signed w32 n))
number_ins JumpNear n = Jump (Near (cast_signed w32 n))
number_ins (BranchNear c) n = Branch c (Near (cast_signed w32 n))

-- such a row with the number, if it is there
abbrev pub number_found : NumberForm → Option ℕ → Dec
number_found form None = Short
number_found form (Some n) = found (number_ins form n)

-- what such a row and the bytes behind its opcode make
abbrev pub number_row : NumberForm → List ℕ → Dec
number_row form rest = number_found form (number_at 0 rest)

-- the digit in a ModRM byte
abbrev pub digit_of : ℕ → ℕ
digit_of modrm = modrm / 8 % 8

-- whether a ModRM byte can stand behind an opcode
abbrev pub accepts : OperandForm → ℕ → Bool
accepts (MoveForm way) modrm = true
accepts (NarrowForm op) modrm = true
accepts LeaForm modrm = nat_lt modrm 192
accepts (ToForm op) modrm = true
accepts (FromForm op) modrm = true
accepts TestForm modrm = true
accepts ImulForm modrm = true
accepts GroupForm modrm = digit_of modrm == 2 || digit_of modrm == 3 || digit_of modrm == 6 || digit_of modrm == 7
accepts ShiftForm modrm = digit_of modrm == 4 || digit_of modrm == 5 || digit_of modrm == 7
accepts (SetForm c) modrm = digit_of modrm == 0
accepts (WidenForm op) modrm = true
accepts CallForm modrm = digit_of modrm == 2

-- the row of an opcode and a digit
abbrev pub row_of : OperandForm → ℕ → Opnd → Ins
row_of (MoveForm way) reg rm = Move way reg rm
row_of (NarrowForm op) reg rm = MoveNarrow op reg rm
row_of LeaForm reg rm = Lea reg rm
row_of (ToForm op) reg rm = ArithTo op reg rm
row_of (FromForm op) reg rm = ArithFrom op reg rm
row_of TestForm reg rm = Test reg rm
row_of ImulForm reg rm = Imul reg rm
row_of GroupForm reg rm =
    if reg == 2 then Unary Not rm
    else if reg == 3 then Unary Neg rm
    else if reg == 6 then Divide Unsigned rm
    else Divide Signed rm
row_of ShiftForm reg rm =
    if reg == 4 then Shift Left rm
    else if reg == 5 then Shift Right rm
    else Shift Arithmetic rm
row_of (SetForm c) reg rm = Set c rm
row_of (WidenForm op) reg rm = Widen op reg rm
row_of CallForm reg rm = Call (Indirect rm)

-- the number of bytes of an opcode that an operand follows
abbrev pub opcode_size : OperandForm → ℕ
opcode_size (MoveForm way) = 1
opcode_size (NarrowForm ByteToOperand) = 1
opcode_size (NarrowForm ByteToRegister) = 1
opcode_size (NarrowForm WordToOperand) = 2
opcode_size LeaForm = 1
opcode_size (ToForm op) = 1
opcode_size (FromForm op) = 1
opcode_size TestForm = 1
opcode_size ImulForm = 2
opcode_size GroupForm = 1
opcode_size ShiftForm = 1
opcode_size (SetForm c) = 2
opcode_size (WidenForm op) = 2
opcode_size CallForm = 1

-- such a row with the operand, if it is there
abbrev pub operand_found : OperandForm → ℕ → OperandPart → Dec
operand_found form reg (Is rm) = found (row_of form reg rm)
operand_found form reg Cut = Short
operand_found form reg Wrong = Unknown

-- rows that end with an operand
abbrev pub operand_row : OperandForm → List ℕ → Dec
operand_row form [] = Short
operand_row form (modrm ∷ rest) =
    if accepts form modrm then operand_found form (digit_of modrm) (operand_at modrm rest) else Unknown

-- whether a ModRM byte can stand behind an opcode whose operand a number follows
abbrev pub accepts_numbered : NumberedForm → ℕ → Bool
accepts_numbered MoveNumbered modrm = digit_of modrm == 0
accepts_numbered ArithNumbered modrm = not (digit_of modrm == 2) && not (digit_of modrm == 3)

-- the operation of a digit; only the digits of operations are accepted
abbrev pub or_compare : Option ArithOp → ArithOp
or_compare None = Cmp
or_compare (Some op) = op

-- the row of such an opcode and a digit
abbrev pub numbered_of : NumberedForm → ℕ → Opnd → ℕ → Ins
numbered_of MoveNumbered reg rm n = MoveImm (ToMemory rm) n
numbered_of ArithNumbered reg rm n = ArithImm (or_compare (arith_at reg)) rm n

-- the number of bytes of a displacement
abbrev pub width_bytes : Dw → ℕ
width_bytes D0 = 0
width_bytes D8 = 1
width_bytes D32 = 4

-- the number of an operand's bytes behind its ModRM byte
abbrev pub extra : Opnd → ℕ
extra (Reg r) = 0
extra (Mem base None d width) = width_bytes width
extra (Mem base (Some index) d width) = 1 + width_bytes width

-- such a row with the number, if it is there
abbrev pub numbered_found : NumberedForm → ℕ → Opnd → Option ℕ → Dec
numbered_found form reg rm None = Short
numbered_found form reg rm (Some n) = found (numbered_of form reg rm n)

-- such a row with the operand and the number, if they are there
abbrev pub numbered_operand : NumberedForm → ℕ → OperandPart → List ℕ → Dec
numbered_operand form reg (Is rm) rest = numbered_found form reg rm (number_at (extra rm) rest)
numbered_operand form reg Cut rest = Short
numbered_operand form reg Wrong rest = Unknown

-- rows that end with an operand and a number
abbrev pub numbered_row : NumberedForm → List ℕ → Dec
numbered_row form [] = Short
numbered_row form (modrm ∷ rest) =
    if accepts_numbered form modrm then numbered_operand form (digit_of modrm) (operand_at modrm rest) rest else Unknown

-- what the bytes behind an opcode make
abbrev pub with_form : Option Form → List ℕ → Dec
with_form None rest = Unknown
with_form (Some (Whole form)) rest = found (whole_ins form)
with_form (Some (Byte form)) rest = byte_row form rest
with_form (Some (Number form)) rest = number_row form rest
with_form (Some (Operand form)) rest = operand_row form rest
with_form (Some (Numbered form)) rest = numbered_row form rest

-- the page of the opcodes that begin with a byte
abbrev pub page_at : ℕ → Option Page
page_at first =
    if first == 0x0F then Some TwoBytes
    else if first == 0x66 then Some Word
    else if first == 0xF3 then Some Repeated
    else None

-- what the second byte of an opcode asks for
abbrev pub page_form : Page → ℕ → Option Form
page_form TwoBytes b = two_bytes b
page_form Word b = word_form b
page_form Repeated b = repeated_form b

-- rows whose opcode has a second byte
abbrev pub behind : Page → List ℕ → Dec
behind page [] = Short
behind page (b ∷ rest) = with_form (page_form page b) rest

-- the bytes of the system call behind its opcode
abbrev pub far_pointer : List ℕ
far_pointer = 0 ∷ 0 ∷ 0 ∷ 0 ∷ 7 ∷ 0 ∷ []

-- the system call behind its opcode
abbrev pub far_call_at : List ℕ → Dec
far_call_at rest =
    if starts_with nat_eq rest far_pointer then found Lcall
    else if starts_with nat_eq far_pointer rest then Short
    else Unknown

-- what the bytes begin with
unfoldable pub decoded : List ℕ → Dec
decoded [] = Short
decoded (b ∷ rest) =
    if b == 0x0F then behind TwoBytes rest
    else if b == 0x66 then behind Word rest
    else if b == 0xF3 then behind Repeated rest
    else if b == 0x9A then far_call_at rest
    else with_form (one_byte b) rest
