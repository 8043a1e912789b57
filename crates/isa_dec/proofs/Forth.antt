-- An instruction's bytes are decoded as the instruction.
use Rattle.std.proofs.Common.{◌≡◌, ℕ, zero, suc, ◌^◌, ◌<◌, List, ◌∷◌, ◌++◌, true, cond, refl, sym, ap, ◌∙◌, arith, append_assoc}
use Rattle.std.specs.Prelude.{nat_eq, not, ◌==◌, ◌&&◌, ◌||◌, ℤ}
use Rattle.std.specs.Int.{w8, w32, cast_unsigned, cast_signed}
use Rattle.std.specs.Int.RustNames.{FitsSigned}
use Rattle.std.proofs.lemmas.Bool.{eq-eqb, lt-ltb, cond-true}
use Rattle.isa_dec.proofs.Numbers.{number_forth, number_past, signed_small}
use Rattle.isa_dec.proofs.Operands.{operand_head, operand_tail, operand-split, length-tail, operand_forth, digit-head, memory-head}
use Rattle.isa386.specs.declared.ArithOp.{ArithOp}
use Rattle.isa386.specs.declared.ArithOp.TheVariants.{Add, Or, And, Sub, Xor, Cmp}
use Rattle.isa386.specs.declared.Cond.{Cond}
use Rattle.isa386.specs.declared.Cond.TheVariants.{Overflow, NotOverflow, Below, AboveOrEqual, Equal, NotEqual, BelowOrEqual, Above, Sign, NotSign, Less, GreaterOrEqual, LessOrEqual, Greater}
use Rattle.isa386.specs.declared.Way.TheVariants.{ToOperand, ToRegister}
use Rattle.isa386.specs.declared.Narrow.TheVariants.{ByteToOperand, ByteToRegister, WordToOperand}
use Rattle.isa386.specs.declared.WidenOp.TheVariants.{SignedByte, SignedWord, ZeroByte, ZeroWord}
use Rattle.isa386.specs.declared.Opnd.{Opnd}
use Rattle.isa386.specs.declared.Opnd.TheVariants.{Reg, Mem}
use Rattle.isa386.specs.declared.Dest.TheVariants.{Register, Operand as ToMemory}
use Rattle.isa386.specs.declared.StackOp.TheVariants.{Push, PushImm, Pop}
use Rattle.isa386.specs.declared.UnaryOp.TheVariants.{Not, Neg}
use Rattle.isa386.specs.declared.DivideOp.TheVariants.{Unsigned, Signed}
use Rattle.isa386.specs.declared.ShiftOp.TheVariants.{Left, Right, Arithmetic}
use Rattle.isa386.specs.declared.Callee.TheVariants.{Relative, Indirect}
use Rattle.isa386.specs.declared.Target.TheVariants.{Near, Short as Close}
use Rattle.isa386.specs.declared.PlainOp.TheVariants.{Ret, Leave, Nop}
use Rattle.isa386.specs.declared.StringOp.TheVariants.{RepMovsb, RepStosb, Cld}
use Rattle.isa386.specs.declared.Ins.{Ins}
use Rattle.isa386.specs.declared.Ins.TheVariants.{Move, MoveImm, MoveNarrow, Lea, Stack, ArithTo, ArithFrom, ArithImm, Test, Imul, Unary, Divide, Cltd, Shift, Set, Widen, Call, Jump, Branch, Plain, Int3, Str, Lcall}
use Rattle.isa_dec.specs.declared.form.ByteForm.{ByteForm}
use Rattle.isa_dec.specs.declared.form.ByteForm.TheVariants.{ShortJump, ShortBranch}
use Rattle.isa_dec.specs.declared.form.NumberForm.{NumberForm}
use Rattle.isa_dec.specs.declared.form.NumberForm.TheVariants.{MoveNumber, PushNumber, CallNear, JumpNear, BranchNear}
use Rattle.isa_dec.specs.declared.form.OperandForm.{OperandForm}
use Rattle.isa_dec.specs.declared.form.OperandForm.TheVariants.{MoveForm, NarrowForm, LeaForm, ToForm, FromForm, TestForm, ImulForm, GroupForm, ShiftForm, SetForm, WidenForm, CallForm}
use Rattle.isa_dec.specs.declared.form.NumberedForm.{NumberedForm}
use Rattle.isa_dec.specs.declared.form.NumberedForm.TheVariants.{MoveNumbered, ArithNumbered}
use Rattle.isa_dec.specs.declared.dec.Dec.TheVariants.{Short, Unknown}
use Rattle.isa_dec.specs.OperandAt.{number_at, operand_at}
use Rattle.isa_dec.specs.Decoded.{found, byte_ins, byte_row, number_ins, number_found, number_row, digit_of, accepts, row_of, operand_found, operand_row, accepts_numbered, numbered_of, numbered_found, numbered_operand, numbered_row, far_pointer, far_call_at, decoded}
use Rattle.isa386.specs.Encoding.{number, operand, arith_digit, encoding}
use Rattle.isa386.specs.Row.{IsOperand, IsAddress, IsRow}
use Rattle.std.proofs.lemmas.Int.{to_z-of_z}
use Rattle.std.specs.List.{starts_with}
use Rattle.std.proofs.lemmas.Slice.Eq.{starts_is}
use Rattle.std.proofs.lemmas.Bool.Decides.{Decides-eqb}

each8 : (P : ℕ → Type 0) → P 0 → P 1 → P 2 → P 3 → P 4 → P 5 → P 6 → P 7 → (r : ℕ) → r < 8 → P r
each8 P a b c d e f g h zero lt = a
each8 P a b c d e f g h (suc zero) lt = b
each8 P a b c d e f g h (suc (suc zero)) lt = c
each8 P a b c d e f g h (suc (suc (suc zero))) lt = d
each8 P a b c d e f g h (suc (suc (suc (suc zero)))) lt = e
each8 P a b c d e f g h (suc (suc (suc (suc (suc zero))))) lt = f
each8 P a b c d e f g h (suc (suc (suc (suc (suc (suc zero)))))) lt = g
each8 P a b c d e f g h (suc (suc (suc (suc (suc (suc (suc zero))))))) lt = h
each8 P a b c d e f g h (suc (suc (suc (suc (suc (suc (suc (suc n)))))))) lt = absurd (omega arith)

operand_row_forth : (f : OperandForm) (reg : ℕ) (rm : Opnd) (rest : List ℕ) → reg < 8 → IsOperand rm → accepts f (operand_head reg rm) ≡ true → operand_row f (operand reg rm ++ rest) ≡ found (row_of f reg rm)
operand_row_forth f reg rm rest hr ok acc =
    ap (λ l. operand_row f (l ++ rest)) (operand-split reg rm)
    ∙ cond-true (accepts f (operand_head reg rm)) (operand_found f (digit_of (operand_head reg rm)) (operand_at (operand_head reg rm) (operand_tail rm ++ rest))) Unknown acc
    ∙ ap (operand_found f (digit_of (operand_head reg rm))) (operand_forth reg rm rest hr ok)
    ∙ ap (λ d. found (row_of f d rm)) (digit-head reg rm hr ok)

numbered_row_forth : (f : NumberedForm) (reg : ℕ) (rm : Opnd) (n : ℕ) (rest : List ℕ) → reg < 8 → IsOperand rm → n < 2 ^ 32 → accepts_numbered f (operand_head reg rm) ≡ true → numbered_row f ((operand reg rm ++ number n) ++ rest) ≡ found (numbered_of f reg rm n)
numbered_row_forth f reg rm n rest hr ok hn acc =
    let head = operand_head reg rm in
    let behind = operand_tail rm ++ (number n ++ rest) in
    ap (numbered_row f) (append_assoc (operand reg rm) (number n) rest)
    ∙ ap (λ l. numbered_row f (l ++ (number n ++ rest))) (operand-split reg rm)
    ∙ cond-true (accepts_numbered f head) (numbered_operand f (digit_of head) (operand_at head behind) behind) Unknown acc
    ∙ ap (λ o. numbered_operand f (digit_of head) o behind) (operand_forth reg rm (number n ++ rest) hr ok)
    ∙ ap (λ k. numbered_found f (digit_of head) rm (number_at k behind)) (sym (length-tail rm))
    ∙ ap (numbered_found f (digit_of head) rm) (number_past (operand_tail rm) (number n ++ rest) ∙ number_forth n rest hn)
    ∙ ap (λ d. found (numbered_of f d rm n)) (digit-head reg rm hr ok)

number_row_forth : (f : NumberForm) (n : ℕ) (rest : List ℕ) → n < 2 ^ 32 → number_row f (number n ++ rest) ≡ found (number_ins f n)
number_row_forth f n rest h = ap (number_found f) (number_forth n rest h)

-- a distance in a number
distance_forth : (f : NumberForm) (make : ℤ → Ins) (d : ℤ) (rest : List ℕ) → FitsSigned w32 d → ((n : ℕ) → number_ins f n ≡ make (cast_signed w32 n)) → number_row f (number (cast_unsigned w32 d) ++ rest) ≡ found (make d)
distance_forth f make d rest h e =
    number_row_forth f (cast_unsigned w32 d) rest (signed_small d h)
    ∙ ap found (e (cast_unsigned w32 d))
    ∙ ap (λ z. found (make z)) (to_z-of_z w32 d h)

byte_row_forth : (f : ByteForm) (make : ℤ → Ins) (d : ℤ) (rest : List ℕ) → FitsSigned w8 d → ((b : ℕ) → byte_ins f b ≡ make (cast_signed w8 b)) → byte_row f (cast_unsigned w8 d ∷ rest) ≡ found (make d)
byte_row_forth f make d rest h e = ap found (e (cast_unsigned w8 d)) ∙ ap (λ z. found (make z)) (to_z-of_z w8 d h)

group_accepts : (k : ℕ) (rm : Opnd) → k < 8 → IsOperand rm → (k == 2 || k == 3 || k == 6 || k == 7) ≡ true → accepts GroupForm (operand_head k rm) ≡ true
group_accepts k rm hk ok e = ap (λ d. d == 2 || d == 3 || d == 6 || d == 7) (digit-head k rm hk ok) ∙ e

shift_accepts : (k : ℕ) (rm : Opnd) → k < 8 → IsOperand rm → (k == 4 || k == 5 || k == 7) ≡ true → accepts ShiftForm (operand_head k rm) ≡ true
shift_accepts k rm hk ok e = ap (λ d. d == 4 || d == 5 || d == 7) (digit-head k rm hk ok) ∙ e

digit_is : (k : ℕ) (rm : Opnd) → k < 8 → IsOperand rm → (digit_of (operand_head k rm) == k) ≡ true
digit_is k rm hk ok = eq-eqb _ _ (digit-head k rm hk ok)

arith_accepts : (op : ArithOp) (rm : Opnd) → IsOperand rm → accepts_numbered ArithNumbered (operand_head (arith_digit op) rm) ≡ true
arith_accepts Add rm ok = ap (λ d. not (d == 2) && not (d == 3)) (digit-head (arith_digit Add) rm (omega arith) ok)
arith_accepts Or rm ok = ap (λ d. not (d == 2) && not (d == 3)) (digit-head (arith_digit Or) rm (omega arith) ok)
arith_accepts And rm ok = ap (λ d. not (d == 2) && not (d == 3)) (digit-head (arith_digit And) rm (omega arith) ok)
arith_accepts Sub rm ok = ap (λ d. not (d == 2) && not (d == 3)) (digit-head (arith_digit Sub) rm (omega arith) ok)
arith_accepts Xor rm ok = ap (λ d. not (d == 2) && not (d == 3)) (digit-head (arith_digit Xor) rm (omega arith) ok)
arith_accepts Cmp rm ok = ap (λ d. not (d == 2) && not (d == 3)) (digit-head (arith_digit Cmp) rm (omega arith) ok)

address_accepts : (r : ℕ) (rm : Opnd) → r < 8 → IsAddress rm → accepts LeaForm (operand_head r rm) ≡ true
address_accepts r (Reg q) hr h = absurd h
address_accepts r (Mem base index d w) hr h = lt-ltb _ _ (memory-head r base index d w hr h)

address_operand : (rm : Opnd) → IsAddress rm → IsOperand rm
address_operand (Reg q) h = absurd h
address_operand (Mem base index d w) h = h

to_forth : (op : ArithOp) (r : ℕ) (rm : Opnd) (rest : List ℕ) → IsRow (ArithTo op r rm) → decoded (encoding (ArithTo op r rm) ++ rest) ≡ found (ArithTo op r rm)
unfolding decoded
to_forth Add r rm rest h = operand_row_forth (ToForm Add) r rm rest h.0 h.1 refl
to_forth Or r rm rest h = operand_row_forth (ToForm Or) r rm rest h.0 h.1 refl
to_forth And r rm rest h = operand_row_forth (ToForm And) r rm rest h.0 h.1 refl
to_forth Sub r rm rest h = operand_row_forth (ToForm Sub) r rm rest h.0 h.1 refl
to_forth Xor r rm rest h = operand_row_forth (ToForm Xor) r rm rest h.0 h.1 refl
to_forth Cmp r rm rest h = operand_row_forth (ToForm Cmp) r rm rest h.0 h.1 refl

from_forth : (op : ArithOp) (r : ℕ) (rm : Opnd) (rest : List ℕ) → IsRow (ArithFrom op r rm) → decoded (encoding (ArithFrom op r rm) ++ rest) ≡ found (ArithFrom op r rm)
unfolding decoded
from_forth Add r rm rest h = operand_row_forth (FromForm Add) r rm rest h.0 h.1 refl
from_forth Or r rm rest h = operand_row_forth (FromForm Or) r rm rest h.0 h.1 refl
from_forth And r rm rest h = operand_row_forth (FromForm And) r rm rest h.0 h.1 refl
from_forth Sub r rm rest h = operand_row_forth (FromForm Sub) r rm rest h.0 h.1 refl
from_forth Xor r rm rest h = operand_row_forth (FromForm Xor) r rm rest h.0 h.1 refl
from_forth Cmp r rm rest h = operand_row_forth (FromForm Cmp) r rm rest h.0 h.1 refl

imm_forth : (op : ArithOp) (rm : Opnd) (n : ℕ) (rest : List ℕ) → IsRow (ArithImm op rm n) → decoded (encoding (ArithImm op rm n) ++ rest) ≡ found (ArithImm op rm n)
unfolding decoded
imm_forth Add rm n rest h = numbered_row_forth ArithNumbered (arith_digit Add) rm n rest (omega arith) h.0 h.1 (arith_accepts Add rm h.0)
imm_forth Or rm n rest h = numbered_row_forth ArithNumbered (arith_digit Or) rm n rest (omega arith) h.0 h.1 (arith_accepts Or rm h.0)
imm_forth And rm n rest h = numbered_row_forth ArithNumbered (arith_digit And) rm n rest (omega arith) h.0 h.1 (arith_accepts And rm h.0)
imm_forth Sub rm n rest h = numbered_row_forth ArithNumbered (arith_digit Sub) rm n rest (omega arith) h.0 h.1 (arith_accepts Sub rm h.0)
imm_forth Xor rm n rest h = numbered_row_forth ArithNumbered (arith_digit Xor) rm n rest (omega arith) h.0 h.1 (arith_accepts Xor rm h.0)
imm_forth Cmp rm n rest h = numbered_row_forth ArithNumbered (arith_digit Cmp) rm n rest (omega arith) h.0 h.1 (arith_accepts Cmp rm h.0)

set_forth : (c : Cond) (rm : Opnd) (rest : List ℕ) → IsRow (Set c rm) → decoded (encoding (Set c rm) ++ rest) ≡ found (Set c rm)
unfolding decoded
set_forth Overflow rm rest h = operand_row_forth (SetForm Overflow) 0 rm rest (omega arith) h (digit_is 0 rm (omega arith) h)
set_forth NotOverflow rm rest h = operand_row_forth (SetForm NotOverflow) 0 rm rest (omega arith) h (digit_is 0 rm (omega arith) h)
set_forth Below rm rest h = operand_row_forth (SetForm Below) 0 rm rest (omega arith) h (digit_is 0 rm (omega arith) h)
set_forth AboveOrEqual rm rest h = operand_row_forth (SetForm AboveOrEqual) 0 rm rest (omega arith) h (digit_is 0 rm (omega arith) h)
set_forth Equal rm rest h = operand_row_forth (SetForm Equal) 0 rm rest (omega arith) h (digit_is 0 rm (omega arith) h)
set_forth NotEqual rm rest h = operand_row_forth (SetForm NotEqual) 0 rm rest (omega arith) h (digit_is 0 rm (omega arith) h)
set_forth BelowOrEqual rm rest h = operand_row_forth (SetForm BelowOrEqual) 0 rm rest (omega arith) h (digit_is 0 rm (omega arith) h)
set_forth Above rm rest h = operand_row_forth (SetForm Above) 0 rm rest (omega arith) h (digit_is 0 rm (omega arith) h)
set_forth Sign rm rest h = operand_row_forth (SetForm Sign) 0 rm rest (omega arith) h (digit_is 0 rm (omega arith) h)
set_forth NotSign rm rest h = operand_row_forth (SetForm NotSign) 0 rm rest (omega arith) h (digit_is 0 rm (omega arith) h)
set_forth Less rm rest h = operand_row_forth (SetForm Less) 0 rm rest (omega arith) h (digit_is 0 rm (omega arith) h)
set_forth GreaterOrEqual rm rest h = operand_row_forth (SetForm GreaterOrEqual) 0 rm rest (omega arith) h (digit_is 0 rm (omega arith) h)
set_forth LessOrEqual rm rest h = operand_row_forth (SetForm LessOrEqual) 0 rm rest (omega arith) h (digit_is 0 rm (omega arith) h)
set_forth Greater rm rest h = operand_row_forth (SetForm Greater) 0 rm rest (omega arith) h (digit_is 0 rm (omega arith) h)

near_forth : (c : Cond) (d : ℤ) (rest : List ℕ) → IsRow (Branch c (Near d)) → decoded (encoding (Branch c (Near d)) ++ rest) ≡ found (Branch c (Near d))
unfolding decoded
near_forth Overflow d rest h = distance_forth (BranchNear Overflow) (λ z. Branch Overflow (Near z)) d rest h (λ n. refl)
near_forth NotOverflow d rest h = distance_forth (BranchNear NotOverflow) (λ z. Branch NotOverflow (Near z)) d rest h (λ n. refl)
near_forth Below d rest h = distance_forth (BranchNear Below) (λ z. Branch Below (Near z)) d rest h (λ n. refl)
near_forth AboveOrEqual d rest h = distance_forth (BranchNear AboveOrEqual) (λ z. Branch AboveOrEqual (Near z)) d rest h (λ n. refl)
near_forth Equal d rest h = distance_forth (BranchNear Equal) (λ z. Branch Equal (Near z)) d rest h (λ n. refl)
near_forth NotEqual d rest h = distance_forth (BranchNear NotEqual) (λ z. Branch NotEqual (Near z)) d rest h (λ n. refl)
near_forth BelowOrEqual d rest h = distance_forth (BranchNear BelowOrEqual) (λ z. Branch BelowOrEqual (Near z)) d rest h (λ n. refl)
near_forth Above d rest h = distance_forth (BranchNear Above) (λ z. Branch Above (Near z)) d rest h (λ n. refl)
near_forth Sign d rest h = distance_forth (BranchNear Sign) (λ z. Branch Sign (Near z)) d rest h (λ n. refl)
near_forth NotSign d rest h = distance_forth (BranchNear NotSign) (λ z. Branch NotSign (Near z)) d rest h (λ n. refl)
near_forth Less d rest h = distance_forth (BranchNear Less) (λ z. Branch Less (Near z)) d rest h (λ n. refl)
near_forth GreaterOrEqual d rest h = distance_forth (BranchNear GreaterOrEqual) (λ z. Branch GreaterOrEqual (Near z)) d rest h (λ n. refl)
near_forth LessOrEqual d rest h = distance_forth (BranchNear LessOrEqual) (λ z. Branch LessOrEqual (Near z)) d rest h (λ n. refl)
near_forth Greater d rest h = distance_forth (BranchNear Greater) (λ z. Branch Greater (Near z)) d rest h (λ n. refl)

short_forth : (c : Cond) (d : ℤ) (rest : List ℕ) → IsRow (Branch c (Close d)) → decoded (encoding (Branch c (Close d)) ++ rest) ≡ found (Branch c (Close d))
unfolding decoded
short_forth Overflow d rest h = byte_row_forth (ShortBranch Overflow) (λ z. Branch Overflow (Close z)) d rest h (λ n. refl)
short_forth NotOverflow d rest h = byte_row_forth (ShortBranch NotOverflow) (λ z. Branch NotOverflow (Close z)) d rest h (λ n. refl)
short_forth Below d rest h = byte_row_forth (ShortBranch Below) (λ z. Branch Below (Close z)) d rest h (λ n. refl)
short_forth AboveOrEqual d rest h = byte_row_forth (ShortBranch AboveOrEqual) (λ z. Branch AboveOrEqual (Close z)) d rest h (λ n. refl)
short_forth Equal d rest h = byte_row_forth (ShortBranch Equal) (λ z. Branch Equal (Close z)) d rest h (λ n. refl)
short_forth NotEqual d rest h = byte_row_forth (ShortBranch NotEqual) (λ z. Branch NotEqual (Close z)) d rest h (λ n. refl)
short_forth BelowOrEqual d rest h = byte_row_forth (ShortBranch BelowOrEqual) (λ z. Branch BelowOrEqual (Close z)) d rest h (λ n. refl)
short_forth Above d rest h = byte_row_forth (ShortBranch Above) (λ z. Branch Above (Close z)) d rest h (λ n. refl)
short_forth Sign d rest h = byte_row_forth (ShortBranch Sign) (λ z. Branch Sign (Close z)) d rest h (λ n. refl)
short_forth NotSign d rest h = byte_row_forth (ShortBranch NotSign) (λ z. Branch NotSign (Close z)) d rest h (λ n. refl)
short_forth Less d rest h = byte_row_forth (ShortBranch Less) (λ z. Branch Less (Close z)) d rest h (λ n. refl)
short_forth GreaterOrEqual d rest h = byte_row_forth (ShortBranch GreaterOrEqual) (λ z. Branch GreaterOrEqual (Close z)) d rest h (λ n. refl)
short_forth LessOrEqual d rest h = byte_row_forth (ShortBranch LessOrEqual) (λ z. Branch LessOrEqual (Close z)) d rest h (λ n. refl)
short_forth Greater d rest h = byte_row_forth (ShortBranch Greater) (λ z. Branch Greater (Close z)) d rest h (λ n. refl)

far_forth : (rest : List ℕ) → far_call_at (far_pointer ++ rest) ≡ found Lcall
far_forth rest = cond-true (starts_with nat_eq (far_pointer ++ rest) far_pointer) (found Lcall) (cond (starts_with nat_eq far_pointer (far_pointer ++ rest)) Short Unknown) ((starts_is Decides-eqb (far_pointer ++ rest) far_pointer (starts_with nat_eq (far_pointer ++ rest) far_pointer) refl).1 rest refl)

pub decoded-encoding : (i : Ins) (rest : List ℕ) → IsRow i → decoded (encoding i ++ rest) ≡ found i
unfolding decoded
decoded-encoding (Move ToOperand r rm) rest h = operand_row_forth (MoveForm ToOperand) r rm rest h.0 h.1 refl
decoded-encoding (Move ToRegister r rm) rest h = operand_row_forth (MoveForm ToRegister) r rm rest h.0 h.1 refl
decoded-encoding (MoveImm (Register r) n) rest h = each8 (λ r. (n : ℕ) → n < 2 ^ 32 → decoded (encoding (MoveImm (Register r) n) ++ rest) ≡ found (MoveImm (Register r) n)) (λ n hn. number_row_forth (MoveNumber 0) n rest hn) (λ n hn. number_row_forth (MoveNumber 1) n rest hn) (λ n hn. number_row_forth (MoveNumber 2) n rest hn) (λ n hn. number_row_forth (MoveNumber 3) n rest hn) (λ n hn. number_row_forth (MoveNumber 4) n rest hn) (λ n hn. number_row_forth (MoveNumber 5) n rest hn) (λ n hn. number_row_forth (MoveNumber 6) n rest hn) (λ n hn. number_row_forth (MoveNumber 7) n rest hn) r h.0 n h.1
decoded-encoding (MoveImm (ToMemory rm) n) rest h = numbered_row_forth MoveNumbered 0 rm n rest (omega arith) h.0 h.1 (digit_is 0 rm (omega arith) h.0)
decoded-encoding (MoveNarrow ByteToOperand r rm) rest h = operand_row_forth (NarrowForm ByteToOperand) r rm rest h.0 h.1 refl
decoded-encoding (MoveNarrow ByteToRegister r rm) rest h = operand_row_forth (NarrowForm ByteToRegister) r rm rest h.0 h.1 refl
decoded-encoding (MoveNarrow WordToOperand r rm) rest h = operand_row_forth (NarrowForm WordToOperand) r rm rest h.0 h.1 refl
decoded-encoding (Lea r rm) rest h = operand_row_forth LeaForm r rm rest h.0 (address_operand rm h.1) (address_accepts r rm h.0 h.1)
decoded-encoding (Stack (Push r)) rest h = each8 (λ r. decoded (encoding (Stack (Push r)) ++ rest) ≡ found (Stack (Push r))) refl refl refl refl refl refl refl refl r h
decoded-encoding (Stack (PushImm n)) rest h = number_row_forth PushNumber n rest h
decoded-encoding (Stack (Pop r)) rest h = each8 (λ r. decoded (encoding (Stack (Pop r)) ++ rest) ≡ found (Stack (Pop r))) refl refl refl refl refl refl refl refl r h
decoded-encoding (ArithTo op r rm) rest h = to_forth op r rm rest h
decoded-encoding (ArithFrom op r rm) rest h = from_forth op r rm rest h
decoded-encoding (ArithImm op rm n) rest h = imm_forth op rm n rest h
decoded-encoding (Test r rm) rest h = operand_row_forth TestForm r rm rest h.0 h.1 refl
decoded-encoding (Imul r rm) rest h = operand_row_forth ImulForm r rm rest h.0 h.1 refl
decoded-encoding (Unary Not rm) rest h = operand_row_forth GroupForm 2 rm rest (omega arith) h (group_accepts 2 rm (omega arith) h refl)
decoded-encoding (Unary Neg rm) rest h = operand_row_forth GroupForm 3 rm rest (omega arith) h (group_accepts 3 rm (omega arith) h refl)
decoded-encoding (Divide Unsigned rm) rest h = operand_row_forth GroupForm 6 rm rest (omega arith) h (group_accepts 6 rm (omega arith) h refl)
decoded-encoding (Divide Signed rm) rest h = operand_row_forth GroupForm 7 rm rest (omega arith) h (group_accepts 7 rm (omega arith) h refl)
decoded-encoding Cltd rest h = refl
decoded-encoding (Shift Left rm) rest h = operand_row_forth ShiftForm 4 rm rest (omega arith) h (shift_accepts 4 rm (omega arith) h refl)
decoded-encoding (Shift Right rm) rest h = operand_row_forth ShiftForm 5 rm rest (omega arith) h (shift_accepts 5 rm (omega arith) h refl)
decoded-encoding (Shift Arithmetic rm) rest h = operand_row_forth ShiftForm 7 rm rest (omega arith) h (shift_accepts 7 rm (omega arith) h refl)
decoded-encoding (Set c rm) rest h = set_forth c rm rest h
decoded-encoding (Widen SignedByte r rm) rest h = operand_row_forth (WidenForm SignedByte) r rm rest h.0 h.1 refl
decoded-encoding (Widen SignedWord r rm) rest h = operand_row_forth (WidenForm SignedWord) r rm rest h.0 h.1 refl
decoded-encoding (Widen ZeroByte r rm) rest h = operand_row_forth (WidenForm ZeroByte) r rm rest h.0 h.1 refl
decoded-encoding (Widen ZeroWord r rm) rest h = operand_row_forth (WidenForm ZeroWord) r rm rest h.0 h.1 refl
decoded-encoding (Call (Relative d)) rest h = distance_forth CallNear (λ z. Call (Relative z)) d rest h (λ n. refl)
decoded-encoding (Call (Indirect rm)) rest h = operand_row_forth CallForm 2 rm rest (omega arith) h (digit_is 2 rm (omega arith) h)
decoded-encoding (Jump (Near d)) rest h = distance_forth JumpNear (λ z. Jump (Near z)) d rest h (λ n. refl)
decoded-encoding (Jump (Close d)) rest h = byte_row_forth ShortJump (λ z. Jump (Close z)) d rest h (λ n. refl)
decoded-encoding (Branch c (Near d)) rest h = near_forth c d rest h
decoded-encoding (Branch c (Close d)) rest h = short_forth c d rest h
decoded-encoding (Plain Ret) rest h = refl
decoded-encoding (Plain Leave) rest h = refl
decoded-encoding (Plain Nop) rest h = refl
decoded-encoding Int3 rest h = refl
decoded-encoding (Str RepMovsb) rest h = refl
decoded-encoding (Str RepStosb) rest h = refl
decoded-encoding (Str Cld) rest h = refl
decoded-encoding Lcall rest h = far_forth rest
