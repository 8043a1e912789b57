-- An instruction's bytes are its parts.
use Rattle.std.proofs.Common.{◌≡◌, ℕ, ◌+◌, ◌*◌, List, [], ◌∷◌, ◌++◌, length, refl, ap, arith, length-append}
use Rattle.isa386.specs.Encoding.{operand, encoding, arith_digit, cond_code}
use Rattle.isa386.specs.Parts.{opcode_of, opcode_bytes, operand_of, operand_bytes, tail_of, tail_bytes}
use Rattle.isa386.specs.declared.ins.Way.TheVariants.{ToOperand, ToRegister}
use Rattle.isa386.specs.declared.ins.Dest.TheVariants.{Register, Operand}
use Rattle.isa386.specs.declared.ins.Narrow.TheVariants.{ByteToOperand, ByteToRegister, WordToOperand}
use Rattle.isa386.specs.declared.ins.StackOp.TheVariants.{Push, PushImm, Pop}
use Rattle.isa386.specs.declared.ins.UnaryOp.TheVariants.{Not, Neg}
use Rattle.isa386.specs.declared.ins.DivideOp.TheVariants.{Unsigned, Signed}
use Rattle.isa386.specs.declared.ins.ShiftOp.TheVariants.{Left, Right, Arithmetic}
use Rattle.isa386.specs.declared.ins.WidenOp.TheVariants.{SignedByte, SignedWord, ZeroByte, ZeroWord}
use Rattle.isa386.specs.declared.ins.Callee.TheVariants.{Relative, Indirect}
use Rattle.isa386.specs.declared.ins.Target.TheVariants.{Near, Short}
use Rattle.isa386.specs.declared.ins.PlainOp.TheVariants.{Ret, Leave, Nop}
use Rattle.isa386.specs.declared.ins.StringOp.TheVariants.{RepMovsb, RepStosb, Cld}
use Rattle.isa386.specs.declared.ins.Ins.{Ins}
use Rattle.isa386.specs.declared.ins.Ins.TheVariants.{Move, MoveImm, MoveNarrow, Lea, Stack, ArithTo, ArithFrom, ArithImm, Test, Imul, Unary, Divide, Cltd, Shift, Set, Widen, Call, Jump, Branch, Plain, Int3, Str, Lcall}

append_nil : (xs : List ℕ) → xs ≡ xs ++ []
append_nil [] = refl
append_nil (x ∷ xs) = ap (λ l. x ∷ l) (append_nil xs)

pub encoding-parts : (i : Ins) → encoding i ≡ opcode_bytes (opcode_of i) ++ (operand_bytes (operand_of i) ++ tail_bytes (tail_of i))
encoding-parts (Move ToOperand r rm) = ap (λ l. 0x89 ∷ l) (append_nil (operand r rm))
encoding-parts (Move ToRegister r rm) = ap (λ l. 0x8B ∷ l) (append_nil (operand r rm))
encoding-parts (MoveImm (Register r) n) = refl
encoding-parts (MoveImm (Operand rm) n) = refl
encoding-parts (MoveNarrow ByteToOperand r rm) = ap (λ l. 0x88 ∷ l) (append_nil (operand r rm))
encoding-parts (MoveNarrow ByteToRegister r rm) = ap (λ l. 0x8A ∷ l) (append_nil (operand r rm))
encoding-parts (MoveNarrow WordToOperand r rm) = ap (λ l. 0x66 ∷ 0x89 ∷ l) (append_nil (operand r rm))
encoding-parts (Lea r rm) = ap (λ l. 0x8D ∷ l) (append_nil (operand r rm))
encoding-parts (Stack (Push r)) = refl
encoding-parts (Stack (PushImm n)) = refl
encoding-parts (Stack (Pop r)) = refl
encoding-parts (ArithTo op r rm) = ap (λ l. (8 * arith_digit op + 1) ∷ l) (append_nil (operand r rm))
encoding-parts (ArithFrom op r rm) = ap (λ l. (8 * arith_digit op + 3) ∷ l) (append_nil (operand r rm))
encoding-parts (ArithImm op rm n) = refl
encoding-parts (Test r rm) = ap (λ l. 0x85 ∷ l) (append_nil (operand r rm))
encoding-parts (Imul r rm) = ap (λ l. 0x0F ∷ 0xAF ∷ l) (append_nil (operand r rm))
encoding-parts (Unary Not rm) = ap (λ l. 0xF7 ∷ l) (append_nil (operand 2 rm))
encoding-parts (Unary Neg rm) = ap (λ l. 0xF7 ∷ l) (append_nil (operand 3 rm))
encoding-parts (Divide Unsigned rm) = ap (λ l. 0xF7 ∷ l) (append_nil (operand 6 rm))
encoding-parts (Divide Signed rm) = ap (λ l. 0xF7 ∷ l) (append_nil (operand 7 rm))
encoding-parts Cltd = refl
encoding-parts (Shift Left rm) = ap (λ l. 0xD3 ∷ l) (append_nil (operand 4 rm))
encoding-parts (Shift Right rm) = ap (λ l. 0xD3 ∷ l) (append_nil (operand 5 rm))
encoding-parts (Shift Arithmetic rm) = ap (λ l. 0xD3 ∷ l) (append_nil (operand 7 rm))
encoding-parts (Set c rm) = ap (λ l. 0x0F ∷ (0x90 + cond_code c) ∷ l) (append_nil (operand 0 rm))
encoding-parts (Widen SignedByte r rm) = ap (λ l. 0x0F ∷ 0xBE ∷ l) (append_nil (operand r rm))
encoding-parts (Widen SignedWord r rm) = ap (λ l. 0x0F ∷ 0xBF ∷ l) (append_nil (operand r rm))
encoding-parts (Widen ZeroByte r rm) = ap (λ l. 0x0F ∷ 0xB6 ∷ l) (append_nil (operand r rm))
encoding-parts (Widen ZeroWord r rm) = ap (λ l. 0x0F ∷ 0xB7 ∷ l) (append_nil (operand r rm))
encoding-parts (Call (Relative d)) = refl
encoding-parts (Call (Indirect rm)) = ap (λ l. 0xFF ∷ l) (append_nil (operand 2 rm))
encoding-parts (Jump (Near d)) = refl
encoding-parts (Jump (Short d)) = refl
encoding-parts (Branch c (Near d)) = refl
encoding-parts (Branch c (Short d)) = refl
encoding-parts (Plain Ret) = refl
encoding-parts (Plain Leave) = refl
encoding-parts (Plain Nop) = refl
encoding-parts Int3 = refl
encoding-parts (Str RepMovsb) = refl
encoding-parts (Str RepStosb) = refl
encoding-parts (Str Cld) = refl
encoding-parts Lcall = refl

pub length-encoding : (i : Ins) → length (encoding i) ≡ length (opcode_bytes (opcode_of i)) + length (operand_bytes (operand_of i)) + length (tail_bytes (tail_of i))
length-encoding i =
    let a = length-append (opcode_bytes (opcode_of i)) (operand_bytes (operand_of i) ++ tail_bytes (tail_of i)) in
    let b = length-append (operand_bytes (operand_of i)) (tail_bytes (tail_of i)) in
    let e = ap length (encoding-parts i) in
    omega (arith, a, b, e)

pub ruleset lengths = (length-encoding)

pub ruleset parts = (encoding-parts)
