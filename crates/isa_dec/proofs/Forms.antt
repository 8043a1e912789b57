-- What the opcode map says: each form begins with the bytes that it was found at.
use Rattle.std.proofs.Common.{◌≡◌, ℕ, ◌+◌, ◌-◌, ◌*◌, ◌/◌, ◌%◌, ◌<◌, ◌≤◌, List, [], ◌∷◌, Option, Some, None, sym, ap, arith}
use Rattle.std.specs.Prelude.{nat_lt, nat_le, nat_eq, ◌&&◌}
use Rattle.std.proofs.lemmas.Bool.{ltb-true, leb-true, eqb-true, and_parts, cond_both}
use Rattle.isa386.specs.declared.ArithOp.{ArithOp}
use Rattle.isa386.specs.declared.Cond.{Cond}
use Rattle.isa386.specs.declared.Way.TheVariants.{ToOperand, ToRegister}
use Rattle.isa386.specs.declared.Narrow.TheVariants.{ByteToOperand, ByteToRegister, WordToOperand}
use Rattle.isa386.specs.declared.WidenOp.TheVariants.{SignedByte, SignedWord, ZeroByte, ZeroWord}
use Rattle.isa_dec.specs.declared.form.Form.{Form}
use Rattle.isa_dec.specs.declared.form.Form.TheVariants.{Whole, Byte, Number, Operand, Numbered}
use Rattle.isa_dec.specs.declared.form.ByteForm.{ByteForm}
use Rattle.isa_dec.specs.declared.form.ByteForm.TheVariants.{ShortJump, ShortBranch}
use Rattle.isa_dec.specs.declared.form.NumberForm.{NumberForm}
use Rattle.isa_dec.specs.declared.form.NumberForm.TheVariants.{MoveNumber, PushNumber, CallNear, JumpNear, BranchNear}
use Rattle.isa_dec.specs.declared.form.OperandForm.{OperandForm}
use Rattle.isa_dec.specs.declared.form.OperandForm.TheVariants.{MoveForm, NarrowForm, LeaForm, ToForm, FromForm, TestForm, ImulForm, GroupForm, ShiftForm, SetForm, WidenForm, CallForm}
use Rattle.isa_dec.specs.declared.form.NumberedForm.{NumberedForm}
use Rattle.isa_dec.specs.declared.form.NumberedForm.TheVariants.{MoveNumbered, ArithNumbered}
use Rattle.isa_dec.specs.declared.dec.Page.{Page}
use Rattle.isa_dec.specs.declared.dec.Page.TheVariants.{TwoBytes, Word, Repeated}
use Rattle.isa_dec.specs.OpcodeAt.{cond_at, arith_at, arith_opcode, arith_form, single_form, short_branch, one_byte, near_branch, set_form, two_bytes}
use Rattle.isa_dec.specs.Decoded.{whole_ins, page_form}
use Rattle.isa386.specs.Encoding.{arith_digit, cond_code, encoding}
use Rattle.isa386.specs.Row.{IsRow}

-- the bytes of a form's opcode
abbrev pub number_bytes : NumberForm → List ℕ
number_bytes (MoveNumber r) = (0xB8 + r) ∷ []
number_bytes PushNumber = 0x68 ∷ []
number_bytes CallNear = 0xE8 ∷ []
number_bytes JumpNear = 0xE9 ∷ []
number_bytes (BranchNear c) = 0x0F ∷ (0x80 + cond_code c) ∷ []

abbrev pub byte_bytes : ByteForm → List ℕ
byte_bytes ShortJump = 0xEB ∷ []
byte_bytes (ShortBranch c) = (0x70 + cond_code c) ∷ []

abbrev pub opcode_bytes : OperandForm → List ℕ
opcode_bytes (MoveForm ToOperand) = 0x89 ∷ []
opcode_bytes (MoveForm ToRegister) = 0x8B ∷ []
opcode_bytes (NarrowForm ByteToOperand) = 0x88 ∷ []
opcode_bytes (NarrowForm ByteToRegister) = 0x8A ∷ []
opcode_bytes (NarrowForm WordToOperand) = 0x66 ∷ 0x89 ∷ []
opcode_bytes LeaForm = 0x8D ∷ []
opcode_bytes (ToForm op) = (8 * arith_digit op + 1) ∷ []
opcode_bytes (FromForm op) = (8 * arith_digit op + 3) ∷ []
opcode_bytes TestForm = 0x85 ∷ []
opcode_bytes ImulForm = 0x0F ∷ 0xAF ∷ []
opcode_bytes GroupForm = 0xF7 ∷ []
opcode_bytes ShiftForm = 0xD3 ∷ []
opcode_bytes (SetForm c) = 0x0F ∷ (0x90 + cond_code c) ∷ []
opcode_bytes (WidenForm SignedByte) = 0x0F ∷ 0xBE ∷ []
opcode_bytes (WidenForm SignedWord) = 0x0F ∷ 0xBF ∷ []
opcode_bytes (WidenForm ZeroByte) = 0x0F ∷ 0xB6 ∷ []
opcode_bytes (WidenForm ZeroWord) = 0x0F ∷ 0xB7 ∷ []
opcode_bytes CallForm = 0xFF ∷ []

abbrev pub numbered_bytes : NumberedForm → List ℕ
numbered_bytes MoveNumbered = 0xC7 ∷ []
numbered_bytes ArithNumbered = 0x81 ∷ []

abbrev pub form_bytes : Form → List ℕ
form_bytes (Whole f) = encoding (whole_ins f)
form_bytes (Byte f) = byte_bytes f
form_bytes (Number f) = number_bytes f
form_bytes (Operand f) = opcode_bytes f
form_bytes (Numbered f) = numbered_bytes f

-- a register in an opcode exists
abbrev pub IsNumberForm : NumberForm → Type 0
IsNumberForm (MoveNumber r) = r < 8
IsNumberForm PushNumber = Unit {0}
IsNumberForm CallNear = Unit {0}
IsNumberForm JumpNear = Unit {0}
IsNumberForm (BranchNear c) = Unit {0}

abbrev pub IsForm : Form → Type 0
IsForm (Whole f) = IsRow (whole_ins f)
IsForm (Byte f) = Unit {0}
IsForm (Number f) = IsNumberForm f
IsForm (Operand f) = Unit {0}
IsForm (Numbered f) = Unit {0}

-- a form stands at these bytes
abbrev pub FormAt : List ℕ → Option Form → Type 0
FormAt bs None = Unit {0}
FormAt bs (Some f) = (form_bytes f ≡ bs) × IsForm f

abbrev CondAt : ℕ → Option Cond → Type 0
CondAt k None = Unit {0}
CondAt k (Some c) = cond_code c ≡ k

cond_back : (k : ℕ) → CondAt k (cond_at k)
cond_back k = cond_both (nat_eq k 0x0) _ _ (CondAt k) (λ e. sym (eqb-true _ _ e)) (λ ne. cond_both (nat_eq k 0x1) _ _ (CondAt k) (λ e. sym (eqb-true _ _ e)) (λ ne. cond_both (nat_eq k 0x2) _ _ (CondAt k) (λ e. sym (eqb-true _ _ e)) (λ ne. cond_both (nat_eq k 0x3) _ _ (CondAt k) (λ e. sym (eqb-true _ _ e)) (λ ne. cond_both (nat_eq k 0x4) _ _ (CondAt k) (λ e. sym (eqb-true _ _ e)) (λ ne. cond_both (nat_eq k 0x5) _ _ (CondAt k) (λ e. sym (eqb-true _ _ e)) (λ ne. cond_both (nat_eq k 0x6) _ _ (CondAt k) (λ e. sym (eqb-true _ _ e)) (λ ne. cond_both (nat_eq k 0x7) _ _ (CondAt k) (λ e. sym (eqb-true _ _ e)) (λ ne. cond_both (nat_eq k 0x8) _ _ (CondAt k) (λ e. sym (eqb-true _ _ e)) (λ ne. cond_both (nat_eq k 0x9) _ _ (CondAt k) (λ e. sym (eqb-true _ _ e)) (λ ne. cond_both (nat_eq k 0xC) _ _ (CondAt k) (λ e. sym (eqb-true _ _ e)) (λ ne. cond_both (nat_eq k 0xD) _ _ (CondAt k) (λ e. sym (eqb-true _ _ e)) (λ ne. cond_both (nat_eq k 0xE) _ _ (CondAt k) (λ e. sym (eqb-true _ _ e)) (λ ne. cond_both (nat_eq k 0xF) _ _ (CondAt k) (λ e. sym (eqb-true _ _ e)) (λ ne. tt))))))))))))))

abbrev pub ArithAt : ℕ → Option ArithOp → Type 0
ArithAt k None = Unit {0}
ArithAt k (Some op) = arith_digit op ≡ k

pub arith_back : (k : ℕ) → ArithAt k (arith_at k)
arith_back k = cond_both (nat_eq k 0) _ _ (ArithAt k) (λ e. sym (eqb-true _ _ e)) (λ ne. cond_both (nat_eq k 1) _ _ (ArithAt k) (λ e. sym (eqb-true _ _ e)) (λ ne. cond_both (nat_eq k 4) _ _ (ArithAt k) (λ e. sym (eqb-true _ _ e)) (λ ne. cond_both (nat_eq k 5) _ _ (ArithAt k) (λ e. sym (eqb-true _ _ e)) (λ ne. cond_both (nat_eq k 6) _ _ (ArithAt k) (λ e. sym (eqb-true _ _ e)) (λ ne. cond_both (nat_eq k 7) _ _ (ArithAt k) (λ e. sym (eqb-true _ _ e)) (λ ne. tt))))))

single_back : (b : ℕ) → FormAt (b ∷ []) (single_form b)
single_back b = cond_both (nat_eq b 0x68) _ _ (FormAt (b ∷ [])) (λ e. (ap (λ x. x ∷ []) (sym (eqb-true _ _ e)), tt)) (λ ne. cond_both (nat_eq b 0x81) _ _ (FormAt (b ∷ [])) (λ e. (ap (λ x. x ∷ []) (sym (eqb-true _ _ e)), tt)) (λ ne. cond_both (nat_eq b 0x85) _ _ (FormAt (b ∷ [])) (λ e. (ap (λ x. x ∷ []) (sym (eqb-true _ _ e)), tt)) (λ ne. cond_both (nat_eq b 0x88) _ _ (FormAt (b ∷ [])) (λ e. (ap (λ x. x ∷ []) (sym (eqb-true _ _ e)), tt)) (λ ne. cond_both (nat_eq b 0x89) _ _ (FormAt (b ∷ [])) (λ e. (ap (λ x. x ∷ []) (sym (eqb-true _ _ e)), tt)) (λ ne. cond_both (nat_eq b 0x8A) _ _ (FormAt (b ∷ [])) (λ e. (ap (λ x. x ∷ []) (sym (eqb-true _ _ e)), tt)) (λ ne. cond_both (nat_eq b 0x8B) _ _ (FormAt (b ∷ [])) (λ e. (ap (λ x. x ∷ []) (sym (eqb-true _ _ e)), tt)) (λ ne. cond_both (nat_eq b 0x8D) _ _ (FormAt (b ∷ [])) (λ e. (ap (λ x. x ∷ []) (sym (eqb-true _ _ e)), tt)) (λ ne. cond_both (nat_eq b 0x90) _ _ (FormAt (b ∷ [])) (λ e. (ap (λ x. x ∷ []) (sym (eqb-true _ _ e)), tt)) (λ ne. cond_both (nat_eq b 0x99) _ _ (FormAt (b ∷ [])) (λ e. (ap (λ x. x ∷ []) (sym (eqb-true _ _ e)), tt)) (λ ne. cond_both (nat_eq b 0xC3) _ _ (FormAt (b ∷ [])) (λ e. (ap (λ x. x ∷ []) (sym (eqb-true _ _ e)), tt)) (λ ne. cond_both (nat_eq b 0xC7) _ _ (FormAt (b ∷ [])) (λ e. (ap (λ x. x ∷ []) (sym (eqb-true _ _ e)), tt)) (λ ne. cond_both (nat_eq b 0xC9) _ _ (FormAt (b ∷ [])) (λ e. (ap (λ x. x ∷ []) (sym (eqb-true _ _ e)), tt)) (λ ne. cond_both (nat_eq b 0xCC) _ _ (FormAt (b ∷ [])) (λ e. (ap (λ x. x ∷ []) (sym (eqb-true _ _ e)), tt)) (λ ne. cond_both (nat_eq b 0xD3) _ _ (FormAt (b ∷ [])) (λ e. (ap (λ x. x ∷ []) (sym (eqb-true _ _ e)), tt)) (λ ne. cond_both (nat_eq b 0xE8) _ _ (FormAt (b ∷ [])) (λ e. (ap (λ x. x ∷ []) (sym (eqb-true _ _ e)), tt)) (λ ne. cond_both (nat_eq b 0xE9) _ _ (FormAt (b ∷ [])) (λ e. (ap (λ x. x ∷ []) (sym (eqb-true _ _ e)), tt)) (λ ne. cond_both (nat_eq b 0xEB) _ _ (FormAt (b ∷ [])) (λ e. (ap (λ x. x ∷ []) (sym (eqb-true _ _ e)), tt)) (λ ne. cond_both (nat_eq b 0xF7) _ _ (FormAt (b ∷ [])) (λ e. (ap (λ x. x ∷ []) (sym (eqb-true _ _ e)), tt)) (λ ne. cond_both (nat_eq b 0xFC) _ _ (FormAt (b ∷ [])) (λ e. (ap (λ x. x ∷ []) (sym (eqb-true _ _ e)), tt)) (λ ne. cond_both (nat_eq b 0xFF) _ _ (FormAt (b ∷ [])) (λ e. (ap (λ x. x ∷ []) (sym (eqb-true _ _ e)), tt)) (λ ne. tt)))))))))))))))))))))

arith_form_back : (b : ℕ) → FormAt (b ∷ []) (arith_form b)
arith_form_back b = from (arith_at (b / 8)) (arith_back (b / 8))
  where
    from : (o : Option ArithOp) → ArithAt (b / 8) o → FormAt (b ∷ []) (arith_opcode (b % 8) o)
    from None h = tt
    from (Some op) h =
        cond_both (nat_eq (b % 8) 1) _ _ (FormAt (b ∷ [])) (λ e. let low = eqb-true _ _ e in let same : 8 * arith_digit op + 1 ≡ b = omega arith in (ap (λ x. x ∷ []) same, tt)) (λ ne.
        cond_both (nat_eq (b % 8) 3) _ _ (FormAt (b ∷ [])) (λ e. let low = eqb-true _ _ e in let same : 8 * arith_digit op + 3 ≡ b = omega arith in (ap (λ x. x ∷ []) same, tt)) (λ ne2. tt))

short_back : (b : ℕ) (o : Option Cond) → 0x70 ≤ b → CondAt (b - 0x70) o → FormAt (b ∷ []) (short_branch o)
short_back b None lo h = tt
short_back b (Some c) lo h = let same : 0x70 + cond_code c ≡ b = omega arith in (ap (λ x. x ∷ []) same, tt)

pub one_byte_back : (b : ℕ) → FormAt (b ∷ []) (one_byte b)
one_byte_back b =
    let P = FormAt (b ∷ []) in
    cond_both (nat_lt b 0x40) _ _ P (λ e. arith_form_back b) (λ n1.
    cond_both (nat_le 0x50 b && nat_lt b 0x58) _ _ P (λ e. let h = and_parts (nat_le 0x50 b) (nat_lt b 0x58) e in let lo = leb-true _ _ h.0 in let hi = ltb-true _ _ h.1 in let same : 0x50 + (b - 0x50) ≡ b = omega arith in (ap (λ x. x ∷ []) same, omega arith)) (λ n2.
    cond_both (nat_le 0x58 b && nat_lt b 0x60) _ _ P (λ e. let h = and_parts (nat_le 0x58 b) (nat_lt b 0x60) e in let lo = leb-true _ _ h.0 in let hi = ltb-true _ _ h.1 in let same : 0x58 + (b - 0x58) ≡ b = omega arith in (ap (λ x. x ∷ []) same, omega arith)) (λ n3.
    cond_both (nat_le 0x70 b && nat_lt b 0x80) _ _ P (λ e. let h = and_parts (nat_le 0x70 b) (nat_lt b 0x80) e in short_back b (cond_at (b - 0x70)) (leb-true _ _ h.0) (cond_back (b - 0x70))) (λ n4.
    cond_both (nat_le 0xB8 b && nat_lt b 0xC0) _ _ P (λ e. let h = and_parts (nat_le 0xB8 b) (nat_lt b 0xC0) e in let lo = leb-true _ _ h.0 in let hi = ltb-true _ _ h.1 in let same : 0xB8 + (b - 0xB8) ≡ b = omega arith in (ap (λ x. x ∷ []) same, omega arith)) (λ n5.
    single_back b)))))

near_back : (b : ℕ) (o : Option Cond) → 0x80 ≤ b → CondAt (b - 0x80) o → FormAt (0x0F ∷ b ∷ []) (near_branch o)
near_back b None lo h = tt
near_back b (Some c) lo h = let same : 0x80 + cond_code c ≡ b = omega arith in (ap (λ x. 0x0F ∷ x ∷ []) same, tt)

set_back : (b : ℕ) (o : Option Cond) → 0x90 ≤ b → CondAt (b - 0x90) o → FormAt (0x0F ∷ b ∷ []) (set_form o)
set_back b None lo h = tt
set_back b (Some c) lo h = let same : 0x90 + cond_code c ≡ b = omega arith in (ap (λ x. 0x0F ∷ x ∷ []) same, tt)

two_bytes_back : (b : ℕ) → FormAt (0x0F ∷ b ∷ []) (two_bytes b)
two_bytes_back b =
    let P = FormAt (0x0F ∷ b ∷ []) in
    cond_both (nat_le 0x80 b && nat_lt b 0x90) _ _ P (λ e. let h = and_parts (nat_le 0x80 b) (nat_lt b 0x90) e in near_back b (cond_at (b - 0x80)) (leb-true _ _ h.0) (cond_back (b - 0x80))) (λ n1.
    cond_both (nat_le 0x90 b && nat_lt b 0xA0) _ _ P (λ e. let h = and_parts (nat_le 0x90 b) (nat_lt b 0xA0) e in set_back b (cond_at (b - 0x90)) (leb-true _ _ h.0) (cond_back (b - 0x90))) (λ n2.
    cond_both (nat_eq b 0xAF) _ _ (P) (λ e. (ap (λ x. 0x0F ∷ x ∷ []) (sym (eqb-true _ _ e)), tt)) (λ ne. cond_both (nat_eq b 0xB6) _ _ (P) (λ e. (ap (λ x. 0x0F ∷ x ∷ []) (sym (eqb-true _ _ e)), tt)) (λ ne. cond_both (nat_eq b 0xB7) _ _ (P) (λ e. (ap (λ x. 0x0F ∷ x ∷ []) (sym (eqb-true _ _ e)), tt)) (λ ne. cond_both (nat_eq b 0xBE) _ _ (P) (λ e. (ap (λ x. 0x0F ∷ x ∷ []) (sym (eqb-true _ _ e)), tt)) (λ ne. cond_both (nat_eq b 0xBF) _ _ (P) (λ e. (ap (λ x. 0x0F ∷ x ∷ []) (sym (eqb-true _ _ e)), tt)) (λ ne. tt)))))))

-- the first byte of the opcodes of a page
abbrev pub page_byte : Page → ℕ
page_byte TwoBytes = 0x0F
page_byte Word = 0x66
page_byte Repeated = 0xF3

pub page_back : (p : Page) (b : ℕ) → FormAt (page_byte p ∷ b ∷ []) (page_form p b)
page_back TwoBytes b = two_bytes_back b
page_back Word b = cond_both (nat_eq b 0x89) _ _ (FormAt (0x66 ∷ b ∷ [])) (λ e. (ap (λ x. 0x66 ∷ x ∷ []) (sym (eqb-true _ _ e)), tt)) (λ ne. tt)
page_back Repeated b = cond_both (nat_eq b 0xA4) _ _ (FormAt (0xF3 ∷ b ∷ [])) (λ e. (ap (λ x. 0xF3 ∷ x ∷ []) (sym (eqb-true _ _ e)), tt)) (λ ne. cond_both (nat_eq b 0xAA) _ _ (FormAt (0xF3 ∷ b ∷ [])) (λ e. (ap (λ x. 0xF3 ∷ x ∷ []) (sym (eqb-true _ _ e)), tt)) (λ ne. tt))
