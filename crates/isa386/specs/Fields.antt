-- The four-byte fields of an instruction that can hold an address.
use Rattle.std.specs.Prelude.{ℕ, List, [], ◌∷◌, ◌++◌, Option, Some, None, Bool, true, false}
use Rattle.std.specs.Int.{w32, cast_signed}
use Rattle.isa386.specs.Encoding.{modrm, sib, mode}
use Rattle.isa386.specs.Parts.{opcode_of, opcode_bytes, operand_of, operand_bytes, tail_of, tail_bytes}
use Rattle.isa386.specs.declared.field.Field.{Field}
use Rattle.isa386.specs.declared.field.Field.TheVariants.{Disp, Imm, Target as Distance}
use Rattle.isa386.specs.declared.ins.Dw.TheVariants.{D0, D8, D32}
use Rattle.isa386.specs.declared.ins.Opnd.{Opnd}
use Rattle.isa386.specs.declared.ins.Opnd.TheVariants.{Reg, Mem}
use Rattle.isa386.specs.declared.ins.Dest.{Dest}
use Rattle.isa386.specs.declared.ins.Dest.TheVariants.{Register, Operand}
use Rattle.isa386.specs.declared.ins.StackOp.TheVariants.{PushImm}
use Rattle.isa386.specs.declared.ins.Callee.TheVariants.{Relative, Indirect}
use Rattle.isa386.specs.declared.ins.Target.TheVariants.{Near}
use Rattle.isa386.specs.declared.ins.Ins.{Ins}
use Rattle.isa386.specs.declared.ins.Ins.TheVariants.{Move, MoveImm, MoveNarrow, Lea, Stack, ArithTo, ArithFrom, ArithImm, Test, Imul, Unary, Divide, Shift, Set, Widen, Call, Jump, Branch}

-- whether an operand has a displacement of four bytes
abbrev pub has_displacement : Opnd → Bool
has_displacement (Reg r) = false
has_displacement (Mem base index d D0) = false
has_displacement (Mem base index d D8) = false
has_displacement (Mem base index d D32) = true

abbrev pub some_displacement : Option (ℕ × Opnd) → Bool
some_displacement None = false
some_displacement (Some p) = has_displacement p.1

-- whether an instruction has this field
abbrev pub has_field : Field → Ins → Bool
has_field Disp i = some_displacement (operand_of i)
has_field Imm (MoveImm dest n) = true
has_field Imm (Stack (PushImm n)) = true
has_field Imm (ArithImm op rm n) = true
has_field Imm _ = false
has_field Distance (Call (Relative d)) = true
has_field Distance (Jump (Near d)) = true
has_field Distance (Branch c (Near d)) = true
has_field Distance _ = false

-- an operand with this number as its displacement of four bytes, if it has one
abbrev pub displaced : ℕ → Opnd → Opnd
displaced x (Reg r) = Reg r
displaced x (Mem base index d D0) = Mem base index d D0
displaced x (Mem base index d D8) = Mem base index d D8
displaced x (Mem base index d D32) = Mem base index (cast_signed w32 x) D32

abbrev pub dest_displaced : ℕ → Dest → Dest
dest_displaced x (Register r) = Register r
dest_displaced x (Operand rm) = Operand (displaced x rm)

-- an instruction with this number in this field, if it has the field
abbrev pub put : Field → ℕ → Ins → Ins
put Disp x (Move way r rm) = Move way r (displaced x rm)
put Disp x (MoveImm dest n) = MoveImm (dest_displaced x dest) n
put Disp x (MoveNarrow op r rm) = MoveNarrow op r (displaced x rm)
put Disp x (Lea r m) = Lea r (displaced x m)
put Disp x (ArithTo op r rm) = ArithTo op r (displaced x rm)
put Disp x (ArithFrom op r rm) = ArithFrom op r (displaced x rm)
put Disp x (ArithImm op rm n) = ArithImm op (displaced x rm) n
put Disp x (Test r rm) = Test r (displaced x rm)
put Disp x (Imul r rm) = Imul r (displaced x rm)
put Disp x (Unary op rm) = Unary op (displaced x rm)
put Disp x (Divide op rm) = Divide op (displaced x rm)
put Disp x (Shift op rm) = Shift op (displaced x rm)
put Disp x (Set c rm) = Set c (displaced x rm)
put Disp x (Widen op r rm) = Widen op r (displaced x rm)
put Disp x (Call (Indirect rm)) = Call (Indirect (displaced x rm))
put Disp x i = i
put Imm x (MoveImm dest n) = MoveImm dest x
put Imm x (Stack (PushImm n)) = Stack (PushImm x)
put Imm x (ArithImm op rm n) = ArithImm op rm x
put Imm x i = i
put Distance x (Call (Relative d)) = Call (Relative (cast_signed w32 x))
put Distance x (Jump (Near d)) = Jump (Near (cast_signed w32 x))
put Distance x (Branch c (Near d)) = Branch c (Near (cast_signed w32 x))
put Distance x i = i

-- the bytes of an operand before its displacement
abbrev pub operand_front : ℕ → Opnd → List ℕ
operand_front reg (Reg r) = modrm 3 reg r ∷ []
operand_front reg (Mem None None d w) = modrm 0 reg 5 ∷ []
operand_front reg (Mem (Some base) None d w) = modrm (mode w) reg base ∷ []
operand_front reg (Mem None (Some index) d w) = modrm 0 reg 4 ∷ sib index 5 ∷ []
operand_front reg (Mem (Some base) (Some index) d w) = modrm (mode w) reg 4 ∷ sib index base ∷ []

abbrev pub some_front : Option (ℕ × Opnd) → List ℕ
some_front None = []
some_front (Some p) = operand_front p.0 p.1

-- the bytes of an instruction before a field
abbrev pub front : Field → Ins → List ℕ
front Disp i = opcode_bytes (opcode_of i) ++ some_front (operand_of i)
front Imm i = opcode_bytes (opcode_of i) ++ operand_bytes (operand_of i)
front Distance i = opcode_bytes (opcode_of i) ++ operand_bytes (operand_of i)

-- the bytes of an instruction behind a field
abbrev pub back : Field → Ins → List ℕ
back Disp i = tail_bytes (tail_of i)
back Imm i = []
back Distance i = []
