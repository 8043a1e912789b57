-- The bytes of an instruction with a number in a field.
use Rattle.std.proofs.Common.{◌≡◌, ℕ, ◌+◌, ◌<◌, ◌^◌, List, [], ◌∷◌, ◌++◌, Some, None, IsTrue, length, refl, sym, ap, ◌∙◌, append_assoc, length-append}
use Rattle.std.specs.Int.{w32, cast_unsigned, cast_signed}
use Rattle.std.proofs.lemmas.Int.{of_z-to_z}
use Rattle.isa386.specs.Encoding.{number, operand, encoding, arith_digit}
use Rattle.isa386.specs.Parts.{opcode_of, opcode_bytes, operand_of, operand_bytes, tail_of, tail_bytes}
use Rattle.isa386.specs.Fields.{has_displacement, some_displacement, has_field, displaced, put, operand_front, some_front, front, back}
use Rattle.isa386.proofs.Sums.{encoding-parts}
use Rattle.isa386.specs.declared.field.Field.{Field}
use Rattle.isa386.specs.declared.field.Field.TheVariants.{Disp, Imm, Target as Distance}
use Rattle.isa386.specs.declared.ins.Dw.TheVariants.{D0, D8, D32}
use Rattle.isa386.specs.declared.ins.Opnd.{Opnd}
use Rattle.isa386.specs.declared.ins.Opnd.TheVariants.{Reg, Mem}
use Rattle.isa386.specs.declared.ins.Way.TheVariants.{ToOperand, ToRegister}
use Rattle.isa386.specs.declared.ins.Dest.TheVariants.{Register, Operand}
use Rattle.isa386.specs.declared.ins.Narrow.TheVariants.{ByteToOperand, ByteToRegister, WordToOperand}
use Rattle.isa386.specs.declared.ins.StackOp.TheVariants.{Push, PushImm, Pop}
use Rattle.isa386.specs.declared.ins.UnaryOp.TheVariants.{Not, Neg}
use Rattle.isa386.specs.declared.ins.DivideOp.TheVariants.{Unsigned, Signed}
use Rattle.isa386.specs.declared.ins.ShiftOp.TheVariants.{Left, Right, Arithmetic}
use Rattle.isa386.specs.declared.ins.WidenOp.TheVariants.{SignedByte, SignedWord, ZeroByte, ZeroWord}
use Rattle.isa386.specs.declared.ins.Callee.TheVariants.{Relative, Indirect}
use Rattle.isa386.specs.declared.ins.Target.TheVariants.{Near, Short}
use Rattle.isa386.specs.declared.ins.PlainOp.TheVariants.{Ret, Leave, Nop}
use Rattle.isa386.specs.declared.ins.StringOp.TheVariants.{RepMovsb, RepStosb, Cld}
use Rattle.isa386.specs.declared.ins.Ins.{Ins}
use Rattle.isa386.specs.declared.ins.Ins.TheVariants.{Move, MoveImm, MoveNarrow, Lea, Stack, ArithTo, ArithFrom, ArithImm, Test, Imul, Unary, Divide, Cltd, Shift, Set, Widen, Call, Jump, Branch, Plain, Int3, Str, Lcall}

distance_back : (x : ℕ) → x < 2 ^ 32 → number (cast_unsigned w32 (cast_signed w32 x)) ≡ number x
distance_back x h = ap number (of_z-to_z w32 x h)

-- an operand with a number for its displacement
operand_displaced : (reg x : ℕ) (rm : Opnd) → x < 2 ^ 32 → IsTrue (has_displacement rm) → operand reg (displaced x rm) ≡ operand_front reg rm ++ number x
operand_displaced reg x (Reg r) h t = absurd (cc)
operand_displaced reg x (Mem base index d D0) h t = absurd (cc)
operand_displaced reg x (Mem base index d D8) h t = absurd (cc)
operand_displaced reg x (Mem None None d D32) h t = ap (λ l. operand_front reg (Mem None None d D32) ++ l) (distance_back x h)
operand_displaced reg x (Mem (Some base) None d D32) h t = ap (λ l. operand_front reg (Mem (Some base) None d D32) ++ l) (distance_back x h)
operand_displaced reg x (Mem None (Some index) d D32) h t = ap (λ l. operand_front reg (Mem None (Some index) d D32) ++ l) (distance_back x h)
operand_displaced reg x (Mem (Some base) (Some index) d D32) h t = ap (λ l. operand_front reg (Mem (Some base) (Some index) d D32) ++ l) (distance_back x h)

-- the parts of an instruction whose displacement was put in
record Displaces (x : ℕ) (i : Ins) : Type 0 where
  opcode : opcode_of (put Disp x i) ≡ opcode_of i
  tail : tail_of (put Disp x i) ≡ tail_of i
  operands : IsTrue (some_displacement (operand_of i)) → operand_bytes (operand_of (put Disp x i)) ≡ some_front (operand_of i) ++ number x

displaces : (x : ℕ) (i : Ins) → x < 2 ^ 32 → Displaces x i
displaces x (Move ToOperand r rm) h = record { opcode = refl; tail = refl; operands = λ t. operand_displaced r x rm h t }
displaces x (Move ToRegister r rm) h = record { opcode = refl; tail = refl; operands = λ t. operand_displaced r x rm h t }
displaces x (MoveImm (Register r) n) h = record { opcode = refl; tail = refl; operands = λ t. absurd (cc) }
displaces x (MoveImm (Operand rm) n) h = record { opcode = refl; tail = refl; operands = λ t. operand_displaced 0 x rm h t }
displaces x (MoveNarrow ByteToOperand r rm) h = record { opcode = refl; tail = refl; operands = λ t. operand_displaced r x rm h t }
displaces x (MoveNarrow ByteToRegister r rm) h = record { opcode = refl; tail = refl; operands = λ t. operand_displaced r x rm h t }
displaces x (MoveNarrow WordToOperand r rm) h = record { opcode = refl; tail = refl; operands = λ t. operand_displaced r x rm h t }
displaces x (Lea r rm) h = record { opcode = refl; tail = refl; operands = λ t. operand_displaced r x rm h t }
displaces x (Stack (Push r)) h = record { opcode = refl; tail = refl; operands = λ t. absurd (cc) }
displaces x (Stack (PushImm n)) h = record { opcode = refl; tail = refl; operands = λ t. absurd (cc) }
displaces x (Stack (Pop r)) h = record { opcode = refl; tail = refl; operands = λ t. absurd (cc) }
displaces x (ArithTo op r rm) h = record { opcode = refl; tail = refl; operands = λ t. operand_displaced r x rm h t }
displaces x (ArithFrom op r rm) h = record { opcode = refl; tail = refl; operands = λ t. operand_displaced r x rm h t }
displaces x (ArithImm op rm n) h = record { opcode = refl; tail = refl; operands = λ t. operand_displaced (arith_digit op) x rm h t }
displaces x (Test r rm) h = record { opcode = refl; tail = refl; operands = λ t. operand_displaced r x rm h t }
displaces x (Imul r rm) h = record { opcode = refl; tail = refl; operands = λ t. operand_displaced r x rm h t }
displaces x (Unary Not rm) h = record { opcode = refl; tail = refl; operands = λ t. operand_displaced 2 x rm h t }
displaces x (Unary Neg rm) h = record { opcode = refl; tail = refl; operands = λ t. operand_displaced 3 x rm h t }
displaces x (Divide Unsigned rm) h = record { opcode = refl; tail = refl; operands = λ t. operand_displaced 6 x rm h t }
displaces x (Divide Signed rm) h = record { opcode = refl; tail = refl; operands = λ t. operand_displaced 7 x rm h t }
displaces x Cltd h = record { opcode = refl; tail = refl; operands = λ t. absurd (cc) }
displaces x (Shift Left rm) h = record { opcode = refl; tail = refl; operands = λ t. operand_displaced 4 x rm h t }
displaces x (Shift Right rm) h = record { opcode = refl; tail = refl; operands = λ t. operand_displaced 5 x rm h t }
displaces x (Shift Arithmetic rm) h = record { opcode = refl; tail = refl; operands = λ t. operand_displaced 7 x rm h t }
displaces x (Set c rm) h = record { opcode = refl; tail = refl; operands = λ t. operand_displaced 0 x rm h t }
displaces x (Widen SignedByte r rm) h = record { opcode = refl; tail = refl; operands = λ t. operand_displaced r x rm h t }
displaces x (Widen SignedWord r rm) h = record { opcode = refl; tail = refl; operands = λ t. operand_displaced r x rm h t }
displaces x (Widen ZeroByte r rm) h = record { opcode = refl; tail = refl; operands = λ t. operand_displaced r x rm h t }
displaces x (Widen ZeroWord r rm) h = record { opcode = refl; tail = refl; operands = λ t. operand_displaced r x rm h t }
displaces x (Call (Relative d)) h = record { opcode = refl; tail = refl; operands = λ t. absurd (cc) }
displaces x (Call (Indirect rm)) h = record { opcode = refl; tail = refl; operands = λ t. operand_displaced 2 x rm h t }
displaces x (Jump (Near d)) h = record { opcode = refl; tail = refl; operands = λ t. absurd (cc) }
displaces x (Jump (Short d)) h = record { opcode = refl; tail = refl; operands = λ t. absurd (cc) }
displaces x (Branch c (Near d)) h = record { opcode = refl; tail = refl; operands = λ t. absurd (cc) }
displaces x (Branch c (Short d)) h = record { opcode = refl; tail = refl; operands = λ t. absurd (cc) }
displaces x (Plain Ret) h = record { opcode = refl; tail = refl; operands = λ t. absurd (cc) }
displaces x (Plain Leave) h = record { opcode = refl; tail = refl; operands = λ t. absurd (cc) }
displaces x (Plain Nop) h = record { opcode = refl; tail = refl; operands = λ t. absurd (cc) }
displaces x Int3 h = record { opcode = refl; tail = refl; operands = λ t. absurd (cc) }
displaces x (Str RepMovsb) h = record { opcode = refl; tail = refl; operands = λ t. absurd (cc) }
displaces x (Str RepStosb) h = record { opcode = refl; tail = refl; operands = λ t. absurd (cc) }
displaces x (Str Cld) h = record { opcode = refl; tail = refl; operands = λ t. absurd (cc) }
displaces x Lcall h = record { opcode = refl; tail = refl; operands = λ t. absurd (cc) }

split_field : (a b c n : List ℕ) → a ++ ((b ++ n) ++ c) ≡ (a ++ b) ++ (n ++ c)
split_field a b c n = simp append_assoc

displaced_law : (x : ℕ) (i : Ins) → x < 2 ^ 32 → IsTrue (has_field Disp i) → encoding (put Disp x i) ≡ front Disp i ++ (number x ++ back Disp i)
displaced_law x i h t =
    let d = displaces x i h in
    encoding-parts (put Disp x i)
    ∙ ap (λ o. opcode_bytes o ++ (operand_bytes (operand_of (put Disp x i)) ++ tail_bytes (tail_of (put Disp x i)))) d.opcode
    ∙ ap (λ o. opcode_bytes (opcode_of i) ++ (operand_bytes (operand_of (put Disp x i)) ++ tail_bytes o)) d.tail
    ∙ ap (λ o. opcode_bytes (opcode_of i) ++ (o ++ tail_bytes (tail_of i))) (d.operands t)
    ∙ split_field (opcode_bytes (opcode_of i)) (some_front (operand_of i)) (tail_bytes (tail_of i)) (number x)

number_last : (a b n : List ℕ) → a ++ (b ++ n) ≡ (a ++ b) ++ (n ++ [])
number_last a b n = simp (append_assoc, append_nil)
  where
    append_nil : (xs : List ℕ) → xs ++ [] ≡ xs
    append_nil [] = refl
    append_nil (x ∷ xs) = ap (λ l. x ∷ l) (append_nil xs)

-- an instruction that ends with a number
ends_with : (x : ℕ) (i j : Ins) → opcode_of j ≡ opcode_of i → operand_of j ≡ operand_of i → tail_bytes (tail_of j) ≡ number x → encoding j ≡ (opcode_bytes (opcode_of i) ++ operand_bytes (operand_of i)) ++ (number x ++ [])
ends_with x i j e f g =
    encoding-parts j
    ∙ ap (λ o. opcode_bytes o ++ (operand_bytes (operand_of j) ++ tail_bytes (tail_of j))) e
    ∙ ap (λ o. opcode_bytes (opcode_of i) ++ (operand_bytes o ++ tail_bytes (tail_of j))) f
    ∙ ap (λ o. opcode_bytes (opcode_of i) ++ (operand_bytes (operand_of i) ++ o)) g
    ∙ number_last (opcode_bytes (opcode_of i)) (operand_bytes (operand_of i)) (number x)

imm_law : (x : ℕ) (i : Ins) → IsTrue (has_field Imm i) → encoding (put Imm x i) ≡ front Imm i ++ (number x ++ back Imm i)
imm_law x (Move ToOperand r rm) t = absurd (cc)
imm_law x (Move ToRegister r rm) t = absurd (cc)
imm_law x (MoveImm (Register r) n) t = ends_with x (MoveImm (Register r) n) (put Imm x (MoveImm (Register r) n)) refl refl refl
imm_law x (MoveImm (Operand rm) n) t = ends_with x (MoveImm (Operand rm) n) (put Imm x (MoveImm (Operand rm) n)) refl refl refl
imm_law x (MoveNarrow ByteToOperand r rm) t = absurd (cc)
imm_law x (MoveNarrow ByteToRegister r rm) t = absurd (cc)
imm_law x (MoveNarrow WordToOperand r rm) t = absurd (cc)
imm_law x (Lea r rm) t = absurd (cc)
imm_law x (Stack (Push r)) t = absurd (cc)
imm_law x (Stack (PushImm n)) t = ends_with x (Stack (PushImm n)) (put Imm x (Stack (PushImm n))) refl refl refl
imm_law x (Stack (Pop r)) t = absurd (cc)
imm_law x (ArithTo op r rm) t = absurd (cc)
imm_law x (ArithFrom op r rm) t = absurd (cc)
imm_law x (ArithImm op rm n) t = ends_with x (ArithImm op rm n) (put Imm x (ArithImm op rm n)) refl refl refl
imm_law x (Test r rm) t = absurd (cc)
imm_law x (Imul r rm) t = absurd (cc)
imm_law x (Unary Not rm) t = absurd (cc)
imm_law x (Unary Neg rm) t = absurd (cc)
imm_law x (Divide Unsigned rm) t = absurd (cc)
imm_law x (Divide Signed rm) t = absurd (cc)
imm_law x Cltd t = absurd (cc)
imm_law x (Shift Left rm) t = absurd (cc)
imm_law x (Shift Right rm) t = absurd (cc)
imm_law x (Shift Arithmetic rm) t = absurd (cc)
imm_law x (Set c rm) t = absurd (cc)
imm_law x (Widen SignedByte r rm) t = absurd (cc)
imm_law x (Widen SignedWord r rm) t = absurd (cc)
imm_law x (Widen ZeroByte r rm) t = absurd (cc)
imm_law x (Widen ZeroWord r rm) t = absurd (cc)
imm_law x (Call (Relative d)) t = absurd (cc)
imm_law x (Call (Indirect rm)) t = absurd (cc)
imm_law x (Jump (Near d)) t = absurd (cc)
imm_law x (Jump (Short d)) t = absurd (cc)
imm_law x (Branch c (Near d)) t = absurd (cc)
imm_law x (Branch c (Short d)) t = absurd (cc)
imm_law x (Plain Ret) t = absurd (cc)
imm_law x (Plain Leave) t = absurd (cc)
imm_law x (Plain Nop) t = absurd (cc)
imm_law x Int3 t = absurd (cc)
imm_law x (Str RepMovsb) t = absurd (cc)
imm_law x (Str RepStosb) t = absurd (cc)
imm_law x (Str Cld) t = absurd (cc)
imm_law x Lcall t = absurd (cc)

distance_law : (x : ℕ) (i : Ins) → x < 2 ^ 32 → IsTrue (has_field Distance i) → encoding (put Distance x i) ≡ front Distance i ++ (number x ++ back Distance i)
distance_law x (Move ToOperand r rm) h t = absurd (cc)
distance_law x (Move ToRegister r rm) h t = absurd (cc)
distance_law x (MoveImm (Register r) n) h t = absurd (cc)
distance_law x (MoveImm (Operand rm) n) h t = absurd (cc)
distance_law x (MoveNarrow ByteToOperand r rm) h t = absurd (cc)
distance_law x (MoveNarrow ByteToRegister r rm) h t = absurd (cc)
distance_law x (MoveNarrow WordToOperand r rm) h t = absurd (cc)
distance_law x (Lea r rm) h t = absurd (cc)
distance_law x (Stack (Push r)) h t = absurd (cc)
distance_law x (Stack (PushImm n)) h t = absurd (cc)
distance_law x (Stack (Pop r)) h t = absurd (cc)
distance_law x (ArithTo op r rm) h t = absurd (cc)
distance_law x (ArithFrom op r rm) h t = absurd (cc)
distance_law x (ArithImm op rm n) h t = absurd (cc)
distance_law x (Test r rm) h t = absurd (cc)
distance_law x (Imul r rm) h t = absurd (cc)
distance_law x (Unary Not rm) h t = absurd (cc)
distance_law x (Unary Neg rm) h t = absurd (cc)
distance_law x (Divide Unsigned rm) h t = absurd (cc)
distance_law x (Divide Signed rm) h t = absurd (cc)
distance_law x Cltd h t = absurd (cc)
distance_law x (Shift Left rm) h t = absurd (cc)
distance_law x (Shift Right rm) h t = absurd (cc)
distance_law x (Shift Arithmetic rm) h t = absurd (cc)
distance_law x (Set c rm) h t = absurd (cc)
distance_law x (Widen SignedByte r rm) h t = absurd (cc)
distance_law x (Widen SignedWord r rm) h t = absurd (cc)
distance_law x (Widen ZeroByte r rm) h t = absurd (cc)
distance_law x (Widen ZeroWord r rm) h t = absurd (cc)
distance_law x (Call (Relative d)) h t = ends_with x (Call (Relative d)) (put Distance x (Call (Relative d))) refl refl (distance_back x h)
distance_law x (Call (Indirect rm)) h t = absurd (cc)
distance_law x (Jump (Near d)) h t = ends_with x (Jump (Near d)) (put Distance x (Jump (Near d))) refl refl (distance_back x h)
distance_law x (Jump (Short d)) h t = absurd (cc)
distance_law x (Branch c (Near d)) h t = ends_with x (Branch c (Near d)) (put Distance x (Branch c (Near d))) refl refl (distance_back x h)
distance_law x (Branch c (Short d)) h t = absurd (cc)
distance_law x (Plain Ret) h t = absurd (cc)
distance_law x (Plain Leave) h t = absurd (cc)
distance_law x (Plain Nop) h t = absurd (cc)
distance_law x Int3 h t = absurd (cc)
distance_law x (Str RepMovsb) h t = absurd (cc)
distance_law x (Str RepStosb) h t = absurd (cc)
distance_law x (Str Cld) h t = absurd (cc)
distance_law x Lcall h t = absurd (cc)

-- a field's bytes stand between its front and its back
pub encoding-put : (f : Field) (x : ℕ) (i : Ins) → x < 2 ^ 32 → IsTrue (has_field f i) → encoding (put f x i) ≡ front f i ++ (number x ++ back f i)
encoding-put Disp x i h t = displaced_law x i h t
encoding-put Imm x i h t = imm_law x i t
encoding-put Distance x i h t = distance_law x i h t

-- the same for an instruction that is known to be so
pub encoding_of_put : (f g : Field) (x : ℕ) (i j : Ins) → g ≡ f → j ≡ put f x i → x < 2 ^ 32 → IsTrue (has_field g i) → encoding j ≡ front g i ++ (number x ++ back g i)
encoding_of_put f g x i j same made h t =
    ap encoding made
    ∙ ap (λ k. encoding (put k x i)) (sym same)
    ∙ encoding-put g x i h t

pub length-front : (i : Ins) → length (front Imm i) ≡ length (opcode_bytes (opcode_of i)) + length (operand_bytes (operand_of i))
length-front i = length-append (opcode_bytes (opcode_of i)) (operand_bytes (operand_of i))

pub length-front_disp : (i : Ins) → length (front Disp i) ≡ length (opcode_bytes (opcode_of i)) + length (some_front (operand_of i))
length-front_disp i = length-append (opcode_bytes (opcode_of i)) (some_front (operand_of i))

pub ruleset fronts = (length-front, length-front_disp)
