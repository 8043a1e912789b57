-- The opcode map.
use Rattle.std.specs.Prelude.{ℕ, ◌-◌, ◌/◌, ◌%◌, ◌==◌, ◌&&◌, nat_lt, nat_le, if◌then◌else◌, Option, Some, None}
use Rattle.isa386.specs.declared.ArithOp.{ArithOp}
use Rattle.isa386.specs.declared.ArithOp.TheVariants.{Add, Or, And, Sub, Xor, Cmp}
use Rattle.isa386.specs.declared.Cond.{Cond}
use Rattle.isa386.specs.declared.Cond.TheVariants.{Overflow, NotOverflow, Below, AboveOrEqual, Equal, NotEqual, BelowOrEqual, Above, Sign, NotSign, Less, GreaterOrEqual, LessOrEqual, Greater}
use Rattle.isa386.specs.declared.Way.TheVariants.{ToOperand, ToRegister}
use Rattle.isa386.specs.declared.Narrow.TheVariants.{ByteToOperand, ByteToRegister, WordToOperand}
use Rattle.isa386.specs.declared.WidenOp.TheVariants.{SignedByte, SignedWord, ZeroByte, ZeroWord}
use Rattle.isa_dec.specs.declared.form.Form.{Form}
use Rattle.isa_dec.specs.declared.form.Form.TheVariants.{Whole, Byte, Number, Operand, Numbered}
use Rattle.isa_dec.specs.declared.form.WholeForm.TheVariants.{PushForm, PopForm, CltdForm, RetForm, LeaveForm, NopForm, Int3Form, MovsbForm, StosbForm, CldForm}
use Rattle.isa_dec.specs.declared.form.ByteForm.TheVariants.{ShortJump, ShortBranch}
use Rattle.isa_dec.specs.declared.form.NumberForm.TheVariants.{MoveNumber, PushNumber, CallNear, JumpNear, BranchNear}
use Rattle.isa_dec.specs.declared.form.OperandForm.TheVariants.{MoveForm, NarrowForm, LeaForm, ToForm, FromForm, TestForm, ImulForm, GroupForm, ShiftForm, SetForm, WidenForm, CallForm}
use Rattle.isa_dec.specs.declared.form.NumberedForm.TheVariants.{MoveNumbered, ArithNumbered}

-- the condition of a number
abbrev pub cond_at : ℕ → Option Cond
cond_at code =
    if code == 0x0 then Some Overflow else
    if code == 0x1 then Some NotOverflow else
    if code == 0x2 then Some Below else
    if code == 0x3 then Some AboveOrEqual else
    if code == 0x4 then Some Equal else
    if code == 0x5 then Some NotEqual else
    if code == 0x6 then Some BelowOrEqual else
    if code == 0x7 then Some Above else
    if code == 0x8 then Some Sign else
    if code == 0x9 then Some NotSign else
    if code == 0xC then Some Less else
    if code == 0xD then Some GreaterOrEqual else
    if code == 0xE then Some LessOrEqual else
    if code == 0xF then Some Greater else
    None

-- the operation of a digit
abbrev pub arith_at : ℕ → Option ArithOp
arith_at digit =
    if digit == 0 then Some Add else
    if digit == 1 then Some Or else
    if digit == 4 then Some And else
    if digit == 5 then Some Sub else
    if digit == 6 then Some Xor else
    if digit == 7 then Some Cmp else
    None

-- the form of an operation and the low digit of its opcode
abbrev pub arith_opcode : ℕ → Option ArithOp → Option Form
arith_opcode low None = None
arith_opcode low (Some op) = if low == 1 then Some (Operand (ToForm op)) else if low == 3 then Some (Operand (FromForm op)) else None

-- opcodes 8 * digit + 1 and 8 * digit + 3
abbrev pub arith_form : ℕ → Option Form
arith_form b = arith_opcode (b % 8) (arith_at (b / 8))

-- opcodes that stand alone in the map
abbrev pub single_form : ℕ → Option Form
single_form b =
    if b == 0x68 then Some (Number PushNumber) else
    if b == 0x81 then Some (Numbered ArithNumbered) else
    if b == 0x85 then Some (Operand TestForm) else
    if b == 0x88 then Some (Operand (NarrowForm ByteToOperand)) else
    if b == 0x89 then Some (Operand (MoveForm ToOperand)) else
    if b == 0x8A then Some (Operand (NarrowForm ByteToRegister)) else
    if b == 0x8B then Some (Operand (MoveForm ToRegister)) else
    if b == 0x8D then Some (Operand LeaForm) else
    if b == 0x90 then Some (Whole NopForm) else
    if b == 0x99 then Some (Whole CltdForm) else
    if b == 0xC3 then Some (Whole RetForm) else
    if b == 0xC7 then Some (Numbered MoveNumbered) else
    if b == 0xC9 then Some (Whole LeaveForm) else
    if b == 0xCC then Some (Whole Int3Form) else
    if b == 0xD3 then Some (Operand ShiftForm) else
    if b == 0xE8 then Some (Number CallNear) else
    if b == 0xE9 then Some (Number JumpNear) else
    if b == 0xEB then Some (Byte ShortJump) else
    if b == 0xF7 then Some (Operand GroupForm) else
    if b == 0xFC then Some (Whole CldForm) else
    if b == 0xFF then Some (Operand CallForm) else
    None

-- a jump of this condition over a signed byte
abbrev pub short_branch : Option Cond → Option Form
short_branch None = None
short_branch (Some c) = Some (Byte (ShortBranch c))

-- the opcodes of one byte
abbrev pub one_byte : ℕ → Option Form
one_byte b =
    if nat_lt b 0x40 then arith_form b
    else if nat_le 0x50 b && nat_lt b 0x58 then Some (Whole (PushForm (b - 0x50)))
    else if nat_le 0x58 b && nat_lt b 0x60 then Some (Whole (PopForm (b - 0x58)))
    else if nat_le 0x70 b && nat_lt b 0x80 then short_branch (cond_at (b - 0x70))
    else if nat_le 0xB8 b && nat_lt b 0xC0 then Some (Number (MoveNumber (b - 0xB8)))
    else single_form b

-- a jump of this condition over a number
abbrev pub near_branch : Option Cond → Option Form
near_branch None = None
near_branch (Some c) = Some (Number (BranchNear c))

-- a byte set by this condition
abbrev pub set_form : Option Cond → Option Form
set_form None = None
set_form (Some c) = Some (Operand (SetForm c))

-- the opcodes behind 0F
abbrev pub two_bytes : ℕ → Option Form
two_bytes b =
    if nat_le 0x80 b && nat_lt b 0x90 then near_branch (cond_at (b - 0x80))
    else if nat_le 0x90 b && nat_lt b 0xA0 then set_form (cond_at (b - 0x90))
    else if b == 0xAF then Some (Operand ImulForm)
    else if b == 0xB6 then Some (Operand (WidenForm ZeroByte))
    else if b == 0xB7 then Some (Operand (WidenForm ZeroWord))
    else if b == 0xBE then Some (Operand (WidenForm SignedByte))
    else if b == 0xBF then Some (Operand (WidenForm SignedWord))
    else None

-- the opcode behind 66
abbrev pub word_form : ℕ → Option Form
word_form b = if b == 0x89 then Some (Operand (NarrowForm WordToOperand)) else None

-- the opcodes behind F3
abbrev pub repeated_form : ℕ → Option Form
repeated_form b = if b == 0xA4 then Some (Whole MovsbForm) else if b == 0xAA then Some (Whole StosbForm) else None
