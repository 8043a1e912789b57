-- Which instructions are rows of the table: the fields that have an encoding.
use Rattle.std.specs.Prelude.{ℕ, ◌<◌, ◌^◌, ◌≡◌, ◌≢◌, ℤ, pos, Option, Some, None}
use Rattle.std.specs.Int.{w8, w32}
use Rattle.std.specs.Int.RustNames.{FitsSigned}
use Rattle.isa386.specs.declared.ins.Dw.{Dw}
use Rattle.isa386.specs.declared.ins.Dw.TheVariants.{D0, D8, D32}
use Rattle.isa386.specs.declared.ins.Opnd.{Opnd}
use Rattle.isa386.specs.declared.ins.Opnd.TheVariants.{Reg, Mem}
use Rattle.isa386.specs.declared.ins.Dest.TheVariants.{Register, Operand}
use Rattle.isa386.specs.declared.ins.StackOp.TheVariants.{Push, PushImm, Pop}
use Rattle.isa386.specs.declared.ins.Callee.TheVariants.{Relative, Indirect}
use Rattle.isa386.specs.declared.ins.Target.{Target}
use Rattle.isa386.specs.declared.ins.Target.TheVariants.{Near, Short}
use Rattle.isa386.specs.declared.ins.Ins.{Ins}
use Rattle.isa386.specs.declared.ins.Ins.TheVariants.{Move, MoveImm, MoveNarrow, Lea, Stack, ArithTo, ArithFrom, ArithImm, Test, Imul, Unary, Divide, Cltd, Shift, Set, Widen, Call, Jump, Branch, Plain, Int3, Str, Lcall}

-- a displacement that its width can hold
abbrev pub IsDisplacement : Dw → ℤ → Type 0
IsDisplacement D0 d = d ≡ pos 0
IsDisplacement D8 d = FitsSigned w8 d
IsDisplacement D32 d = FitsSigned w32 d

-- a displacement behind a base register: ebp can't stand without one
abbrev pub IsBased : ℕ → Dw → ℤ → Type 0
IsBased base w d = (base < 8) × (base ≡ 5 → w ≢ D0) × IsDisplacement w d

-- a displacement without a base register has four bytes
abbrev pub IsAbsolute : Dw → ℤ → Type 0
IsAbsolute w d = (w ≡ D32) × FitsSigned w32 d

-- an index register and its scale: register 4 stands for none, and has scale 0
abbrev pub IsIndex : ℕ × ℕ → Type 0
IsIndex index = (index.0 < 8) × (index.1 < 4) × (index.0 ≡ 4 → index.1 ≡ 0)

-- memory: base esp needs a SIB byte
abbrev pub IsMemory : Option ℕ → Option (ℕ × ℕ) → ℤ → Dw → Type 0
IsMemory None None d w = IsAbsolute w d
IsMemory (Some base) None d w = (base ≢ 4) × IsBased base w d
IsMemory None (Some index) d w = IsIndex index × IsAbsolute w d
IsMemory (Some base) (Some index) d w = IsIndex index × IsBased base w d

abbrev pub IsOperand : Opnd → Type 0
IsOperand (Reg r) = r < 8
IsOperand (Mem base index d w) = IsMemory base index d w

-- an operand of leal: memory alone
abbrev pub IsAddress : Opnd → Type 0
IsAddress (Reg r) = ⊥
IsAddress (Mem base index d w) = IsMemory base index d w

abbrev pub IsTarget : Target → Type 0
IsTarget (Near d) = FitsSigned w32 d
IsTarget (Short d) = FitsSigned w8 d

-- a row of the table
abbrev pub IsRow : Ins → Type 0
IsRow (Move way r rm) = (r < 8) × IsOperand rm
IsRow (MoveImm (Register r) n) = (r < 8) × (n < 2 ^ 32)
IsRow (MoveImm (Operand rm) n) = IsOperand rm × (n < 2 ^ 32)
IsRow (MoveNarrow op r rm) = (r < 8) × IsOperand rm
IsRow (Lea r m) = (r < 8) × IsAddress m
IsRow (Stack (Push r)) = r < 8
IsRow (Stack (PushImm n)) = n < 2 ^ 32
IsRow (Stack (Pop r)) = r < 8
IsRow (ArithTo op r rm) = (r < 8) × IsOperand rm
IsRow (ArithFrom op r rm) = (r < 8) × IsOperand rm
IsRow (ArithImm op rm n) = IsOperand rm × (n < 2 ^ 32)
IsRow (Test r rm) = (r < 8) × IsOperand rm
IsRow (Imul r rm) = (r < 8) × IsOperand rm
IsRow (Unary op rm) = IsOperand rm
IsRow (Divide op rm) = IsOperand rm
IsRow Cltd = Unit {0}
IsRow (Shift op rm) = IsOperand rm
IsRow (Set c rm) = IsOperand rm
IsRow (Widen op r rm) = (r < 8) × IsOperand rm
IsRow (Call (Relative d)) = FitsSigned w32 d
IsRow (Call (Indirect rm)) = IsOperand rm
IsRow (Jump target) = IsTarget target
IsRow (Branch c target) = IsTarget target
IsRow (Plain op) = Unit {0}
IsRow Int3 = Unit {0}
IsRow (Str op) = Unit {0}
IsRow Lcall = Unit {0}
