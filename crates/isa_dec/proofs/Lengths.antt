-- The number of bytes of the rows that an operand ends, or an operand and a number.
use Rattle.std.proofs.Common.{◌≡◌, ℕ, ◌+◌, ◌++◌, length, ap, arith, length-append}
use Rattle.std.specs.Prelude.{nat_eq}
use Rattle.std.proofs.lemmas.Bool.{cond_both}
use Rattle.isa386.specs.Encoding.{number, operand, arith_digit, encoding}
use Rattle.isa386.specs.declared.Opnd.{Opnd}
use Rattle.isa386.specs.declared.Ins.{Ins}
use Rattle.isa386.specs.declared.Way.TheVariants.{ToOperand, ToRegister}
use Rattle.isa386.specs.declared.Narrow.TheVariants.{ByteToOperand, ByteToRegister, WordToOperand}
use Rattle.isa386.specs.declared.WidenOp.TheVariants.{SignedByte, SignedWord, ZeroByte, ZeroWord}
use Rattle.isa_dec.specs.declared.form.OperandForm.{OperandForm}
use Rattle.isa_dec.specs.declared.form.OperandForm.TheVariants.{MoveForm, NarrowForm, LeaForm, ToForm, FromForm, TestForm, ImulForm, GroupForm, ShiftForm, SetForm, WidenForm, CallForm}
use Rattle.isa_dec.specs.declared.form.NumberedForm.{NumberedForm}
use Rattle.isa_dec.specs.declared.form.NumberedForm.TheVariants.{MoveNumbered, ArithNumbered}
use Rattle.isa_dec.specs.OpcodeAt.{arith_at}
use Rattle.isa_dec.specs.Decoded.{row_of, opcode_size, numbered_of, or_compare, extra}
use Rattle.isa_dec.proofs.Operands.{operand-split, length-tail}

operand_length : (reg : ℕ) (rm : Opnd) → length (operand reg rm) ≡ 1 + extra rm
operand_length reg rm = let split = ap length (operand-split reg rm) in let tail = length-tail rm in omega arith

numbered_length : (reg n : ℕ) (rm : Opnd) → length (operand reg rm ++ number n) ≡ 5 + extra rm
numbered_length reg n rm = let both = length-append (operand reg rm) (number n) in let front = operand_length reg rm in omega arith

pub row_length : (f : OperandForm) (reg : ℕ) (rm : Opnd) → length (encoding (row_of f reg rm)) ≡ opcode_size f + 1 + extra rm
row_length (MoveForm ToOperand) reg rm = let e = operand_length reg rm in omega arith
row_length (MoveForm ToRegister) reg rm = let e = operand_length reg rm in omega arith
row_length (NarrowForm ByteToOperand) reg rm = let e = operand_length reg rm in omega arith
row_length (NarrowForm ByteToRegister) reg rm = let e = operand_length reg rm in omega arith
row_length (NarrowForm WordToOperand) reg rm = let e = operand_length reg rm in omega arith
row_length LeaForm reg rm = let e = operand_length reg rm in omega arith
row_length (ToForm op) reg rm = let e = operand_length reg rm in omega arith
row_length (FromForm op) reg rm = let e = operand_length reg rm in omega arith
row_length TestForm reg rm = let e = operand_length reg rm in omega arith
row_length ImulForm reg rm = let e = operand_length reg rm in omega arith
row_length GroupForm reg rm =
    let P = λ (i : Ins). length (encoding i) ≡ 2 + extra rm in
    cond_both (nat_eq reg 2) _ _ P (λ e. let l = operand_length 2 rm in omega arith) (λ n1.
    cond_both (nat_eq reg 3) _ _ P (λ e. let l = operand_length 3 rm in omega arith) (λ n2.
    cond_both (nat_eq reg 6) _ _ P (λ e. let l = operand_length 6 rm in omega arith) (λ n3. let l = operand_length 7 rm in omega arith)))
row_length ShiftForm reg rm =
    let P = λ (i : Ins). length (encoding i) ≡ 2 + extra rm in
    cond_both (nat_eq reg 4) _ _ P (λ e. let l = operand_length 4 rm in omega arith) (λ n1.
    cond_both (nat_eq reg 5) _ _ P (λ e. let l = operand_length 5 rm in omega arith) (λ n2. let l = operand_length 7 rm in omega arith))
row_length (SetForm c) reg rm = let e = operand_length 0 rm in omega arith
row_length (WidenForm SignedByte) reg rm = let e = operand_length reg rm in omega arith
row_length (WidenForm SignedWord) reg rm = let e = operand_length reg rm in omega arith
row_length (WidenForm ZeroByte) reg rm = let e = operand_length reg rm in omega arith
row_length (WidenForm ZeroWord) reg rm = let e = operand_length reg rm in omega arith
row_length CallForm reg rm = let e = operand_length 2 rm in omega arith

pub numbered_row_length : (f : NumberedForm) (reg n : ℕ) (rm : Opnd) → length (encoding (numbered_of f reg rm n)) ≡ 6 + extra rm
numbered_row_length MoveNumbered reg n rm = let e = numbered_length 0 n rm in omega arith
numbered_row_length ArithNumbered reg n rm = let e = numbered_length (arith_digit (or_compare (arith_at reg))) n rm in omega arith
