-- What the decoder gives is spelled so.
use Rattle.std.proofs.Common.{◌≡◌, ℕ, zero, suc, ◌+◌, ◌^◌, ◌<◌, List, [], ◌∷◌, ◌++◌, true, Option, Some, None, length, drop, refl, sym, ap, subst, ◌∙◌, arith, inl, inr, append_assoc}
use Rattle.std.specs.Prelude.{nat_lt, nat_eq, not, ◌==◌, ◌&&◌, ◌||◌, pos}
use Rattle.std.proofs.lemmas.Bool.{ltb-true, ltb-false, leb-true, eqb-true, eqb-false, eq-eqb, lt-ltb, and_parts, or_cases, cond_both, cond-true, cond-false, not-true}
use Rattle.isa_dec.proofs.Numbers.{AllBytes, bytes_behind, append_nil, NumberReads, number_back, number_past, byte_fits, word_fits, byte_again, number_again}
use Rattle.isa_dec.proofs.Operands.{operand_head, operand_tail, operand-split, length-tail, OperandReads, operand_back}
use Rattle.isa386.specs.declared.ArithOp.TheVariants.{Add}
use Rattle.isa386.specs.declared.Way.TheVariants.{ToOperand, ToRegister}
use Rattle.isa386.specs.declared.Narrow.TheVariants.{ByteToOperand, ByteToRegister, WordToOperand}
use Rattle.isa386.specs.declared.WidenOp.TheVariants.{SignedByte, SignedWord, ZeroByte, ZeroWord}
use Rattle.isa386.specs.declared.Dw.TheVariants.{D0}
use Rattle.isa386.specs.declared.Opnd.{Opnd}
use Rattle.isa386.specs.declared.Opnd.TheVariants.{Reg, Mem}
use Rattle.isa386.specs.declared.Dest.TheVariants.{Operand as ToMemory}
use Rattle.isa386.specs.declared.UnaryOp.TheVariants.{Not}
use Rattle.isa386.specs.declared.ShiftOp.TheVariants.{Left}
use Rattle.isa386.specs.declared.Callee.TheVariants.{Indirect}
use Rattle.isa386.specs.declared.StringOp.TheVariants.{RepMovsb}
use Rattle.isa386.specs.declared.Ins.{Ins}
use Rattle.isa386.specs.declared.Ins.TheVariants.{Move, MoveImm, MoveNarrow, Lea, ArithTo, ArithFrom, ArithImm, Test, Imul, Unary, Cltd, Shift, Set, Widen, Call, Str, Lcall}
use Rattle.isa_dec.specs.declared.form.Form.{Form}
use Rattle.isa_dec.specs.declared.form.Form.TheVariants.{Whole, Byte, Number, Operand, Numbered}
use Rattle.isa_dec.specs.declared.form.ByteForm.{ByteForm}
use Rattle.isa_dec.specs.declared.form.ByteForm.TheVariants.{ShortJump, ShortBranch}
use Rattle.isa_dec.specs.declared.form.NumberForm.{NumberForm}
use Rattle.isa_dec.specs.declared.form.NumberForm.TheVariants.{MoveNumber, PushNumber, CallNear, JumpNear, BranchNear}
use Rattle.isa_dec.specs.declared.form.OperandForm.{OperandForm}
use Rattle.isa_dec.specs.declared.form.OperandForm.TheVariants.{MoveForm, NarrowForm, LeaForm, ToForm, FromForm, TestForm, ImulForm, GroupForm, ShiftForm, SetForm, WidenForm, CallForm}
use Rattle.isa_dec.specs.declared.form.NumberedForm.{NumberedForm}
use Rattle.isa_dec.specs.declared.form.NumberedForm.TheVariants.{MoveNumbered, ArithNumbered}
use Rattle.isa_dec.specs.declared.operand.OperandPart.{OperandPart}
use Rattle.isa_dec.specs.declared.operand.OperandPart.TheVariants.{Is, Cut, Wrong}
use Rattle.isa_dec.specs.declared.dec.Dec.{Dec}
use Rattle.isa_dec.specs.declared.dec.Dec.TheVariants.{Ins as IsIns, Short, Unknown}
use Rattle.isa_dec.specs.declared.dec.Page.{Page}
use Rattle.isa_dec.specs.declared.dec.Page.TheVariants.{TwoBytes, Word, Repeated}
use Rattle.isa_dec.specs.OperandAt.{number_at, operand_at}
use Rattle.isa_dec.specs.OpcodeAt.{arith_at, one_byte}
use Rattle.isa_dec.specs.Decoded.{byte_ins, byte_row, number_ins, number_found, number_row, digit_of, accepts, row_of, operand_found, operand_row, accepts_numbered, or_compare, numbered_of, extra, numbered_found, numbered_operand, numbered_row, with_form, page_form, behind, far_pointer, far_call_at, decoded}
use Rattle.isa386.specs.Encoding.{number, operand, arith_digit, cond_code, encoding}
use Rattle.isa386.specs.Row.{IsOperand, IsAddress, IsRow}
use Rattle.isa_dec.proofs.Forms.{number_bytes, byte_bytes, opcode_bytes, numbered_bytes, IsNumberForm, FormAt, one_byte_back, page_byte, page_back}
use Rattle.std.specs.List.{starts_with}
use Rattle.std.proofs.lemmas.Slice.Eq.{starts_is}
use Rattle.std.proofs.lemmas.Bool.Decides.{Decides-eqb}

-- a decoder's answer is right, but for Unknown
abbrev pub DecReads : List ℕ → Dec → Type 0
DecReads b (IsIns i k) = IsRow i × (k ≡ length (encoding i)) × ((rest : List ℕ) × (b ≡ encoding i ++ rest))
DecReads b Short = (i : Ins) × (c : ℕ) × (cs : List ℕ) × IsRow i × (encoding i ≡ b ++ c ∷ cs)
DecReads b Unknown = Unit {0}

-- a row with an operand
record RowAt (f : OperandForm) (m : ℕ) (rm : Opnd) : Type 0 where
  row : IsRow (row_of f (digit_of m) rm)
  bytes : encoding (row_of f (digit_of m) rm) ≡ opcode_bytes f ++ operand (digit_of m) rm

abbrev GroupRow : Opnd → ℕ → Type 0
GroupRow rm d = IsRow (row_of GroupForm d rm) × (encoding (row_of GroupForm d rm) ≡ 0xF7 ∷ operand d rm)

group_rows : (d : ℕ) (rm : Opnd) → IsOperand rm → (d == 2 || d == 3 || d == 6 || d == 7) ≡ true → GroupRow rm d
group_rows d rm h e = elim (or_cases (d == 2 || d == 3 || d == 6) (d == 7) e) [
  | inr e7 ↦ subst (GroupRow rm) (sym (eqb-true d 7 e7)) (h, refl)
  | inl f ↦ elim (or_cases (d == 2 || d == 3) (d == 6) f) [
    | inr e6 ↦ subst (GroupRow rm) (sym (eqb-true d 6 e6)) (h, refl)
    | inl g ↦ elim (or_cases (d == 2) (d == 3) g) [
      | inr e3 ↦ subst (GroupRow rm) (sym (eqb-true d 3 e3)) (h, refl)
      | inl e2 ↦ subst (GroupRow rm) (sym (eqb-true d 2 e2)) (h, refl)
    ]
  ]
]

abbrev ShiftRow : Opnd → ℕ → Type 0
ShiftRow rm d = IsRow (row_of ShiftForm d rm) × (encoding (row_of ShiftForm d rm) ≡ 0xD3 ∷ operand d rm)

shift_rows : (d : ℕ) (rm : Opnd) → IsOperand rm → (d == 4 || d == 5 || d == 7) ≡ true → ShiftRow rm d
shift_rows d rm h e = elim (or_cases (d == 4 || d == 5) (d == 7) e) [
  | inr e7 ↦ subst (ShiftRow rm) (sym (eqb-true d 7 e7)) (h, refl)
  | inl f ↦ elim (or_cases (d == 4) (d == 5) f) [
    | inr e5 ↦ subst (ShiftRow rm) (sym (eqb-true d 5 e5)) (h, refl)
    | inl e4 ↦ subst (ShiftRow rm) (sym (eqb-true d 4 e4)) (h, refl)
  ]
]

is_address : (m : ℕ) (rm : Opnd) → nat_lt m 192 ≡ true → m ≡ operand_head (digit_of m) rm → IsOperand rm → IsAddress rm
is_address m (Reg r) e same h = let lt = ltb-true m 192 e in absurd (omega arith)
is_address m (Mem base index d w) e same h = h

row_at : (f : OperandForm) (m : ℕ) (rm : Opnd) → m < 256 → accepts f m ≡ true → IsOperand rm → m ≡ operand_head (digit_of m) rm → RowAt f m rm
row_at (MoveForm ToOperand) m rm hm acc h same = record { row = (omega arith, h); bytes = refl }
row_at (MoveForm ToRegister) m rm hm acc h same = record { row = (omega arith, h); bytes = refl }
row_at (NarrowForm ByteToOperand) m rm hm acc h same = record { row = (omega arith, h); bytes = refl }
row_at (NarrowForm ByteToRegister) m rm hm acc h same = record { row = (omega arith, h); bytes = refl }
row_at (NarrowForm WordToOperand) m rm hm acc h same = record { row = (omega arith, h); bytes = refl }
row_at (ToForm op) m rm hm acc h same = record { row = (omega arith, h); bytes = refl }
row_at (FromForm op) m rm hm acc h same = record { row = (omega arith, h); bytes = refl }
row_at TestForm m rm hm acc h same = record { row = (omega arith, h); bytes = refl }
row_at ImulForm m rm hm acc h same = record { row = (omega arith, h); bytes = refl }
row_at (WidenForm SignedByte) m rm hm acc h same = record { row = (omega arith, h); bytes = refl }
row_at (WidenForm SignedWord) m rm hm acc h same = record { row = (omega arith, h); bytes = refl }
row_at (WidenForm ZeroByte) m rm hm acc h same = record { row = (omega arith, h); bytes = refl }
row_at (WidenForm ZeroWord) m rm hm acc h same = record { row = (omega arith, h); bytes = refl }
row_at LeaForm m rm hm acc h same = record { row = (omega arith, is_address m rm acc same h); bytes = refl }
row_at GroupForm m rm hm acc h same = let g = group_rows (digit_of m) rm h acc in record { row = g.0; bytes = g.1 }
row_at ShiftForm m rm hm acc h same = let g = shift_rows (digit_of m) rm h acc in record { row = g.0; bytes = g.1 }
row_at (SetForm c) m rm hm acc h same = record { row = h; bytes = ap (λ d. 0x0F ∷ (0x90 + cond_code c) ∷ operand d rm) (sym (eqb-true _ _ acc)) }
row_at CallForm m rm hm acc h same = record { row = h; bytes = ap (λ d. 0xFF ∷ operand d rm) (sym (eqb-true _ _ acc)) }

operand_short : (f : OperandForm) → DecReads (opcode_bytes f ++ []) Short
operand_short (MoveForm ToOperand) = (Move ToOperand 0 (Reg 0), 192, [], (omega arith, omega arith), refl)
operand_short (MoveForm ToRegister) = (Move ToRegister 0 (Reg 0), 192, [], (omega arith, omega arith), refl)
operand_short (NarrowForm ByteToOperand) = (MoveNarrow ByteToOperand 0 (Reg 0), 192, [], (omega arith, omega arith), refl)
operand_short (NarrowForm ByteToRegister) = (MoveNarrow ByteToRegister 0 (Reg 0), 192, [], (omega arith, omega arith), refl)
operand_short (NarrowForm WordToOperand) = (MoveNarrow WordToOperand 0 (Reg 0), 192, [], (omega arith, omega arith), refl)
operand_short (ToForm op) = (ArithTo op 0 (Reg 0), 192, [], (omega arith, omega arith), refl)
operand_short (FromForm op) = (ArithFrom op 0 (Reg 0), 192, [], (omega arith, omega arith), refl)
operand_short TestForm = (Test 0 (Reg 0), 192, [], (omega arith, omega arith), refl)
operand_short ImulForm = (Imul 0 (Reg 0), 192, [], (omega arith, omega arith), refl)
operand_short (WidenForm SignedByte) = (Widen SignedByte 0 (Reg 0), 192, [], (omega arith, omega arith), refl)
operand_short (WidenForm SignedWord) = (Widen SignedWord 0 (Reg 0), 192, [], (omega arith, omega arith), refl)
operand_short (WidenForm ZeroByte) = (Widen ZeroByte 0 (Reg 0), 192, [], (omega arith, omega arith), refl)
operand_short (WidenForm ZeroWord) = (Widen ZeroWord 0 (Reg 0), 192, [], (omega arith, omega arith), refl)
operand_short LeaForm = (Lea 0 (Mem (Some 0) None (pos 0) D0), 0, [], (omega arith, ((λ e. absurd (omega arith)), (omega arith, (λ e. absurd (omega arith)), refl))), refl)
operand_short GroupForm = (Unary Not (Reg 0), 208, [], omega arith, refl)
operand_short ShiftForm = (Shift Left (Reg 0), 224, [], omega arith, refl)
operand_short (SetForm c) = (Set c (Reg 0), 192, [], omega arith, refl)
operand_short CallForm = (Call (Indirect (Reg 0)), 208, [], omega arith, refl)

-- the operand's bytes, from its ModRM byte on
whole_operand : (m : ℕ) (rm : Opnd) → m ≡ operand_head (digit_of m) rm → operand (digit_of m) rm ≡ m ∷ operand_tail rm
whole_operand m rm same = operand-split (digit_of m) rm ∙ ap (λ x. x ∷ operand_tail rm) (sym same)

operand_row_back : (f : OperandForm) (bs : List ℕ) → AllBytes bs → DecReads (opcode_bytes f ++ bs) (operand_row f bs)
operand_row_back f [] all = operand_short f
operand_row_back f (m ∷ rs) all =
    cond_both (accepts f m) _ _ (DecReads (opcode_bytes f ++ m ∷ rs)) (λ acc. from acc (operand_at m rs) (operand_back m rs all.0 all.1)) (λ no. tt)
  where
    from : accepts f m ≡ true → (o : OperandPart) → OperandReads m rs o → DecReads (opcode_bytes f ++ m ∷ rs) (operand_found f (digit_of m) o)
    from acc Wrong h = tt
    from acc (Is rm) h =
        let r = row_at f m rm all.0 acc h.0 h.1 in
        let op = whole_operand m rm h.1 in (
          r.row,
          refl,
          (
            h.2.0,
            ap (λ l. opcode_bytes f ++ m ∷ l) h.2.1
                ∙ sym (append_assoc (opcode_bytes f) (m ∷ operand_tail rm) h.2.0)
                ∙ ap (λ l. (opcode_bytes f ++ l) ++ h.2.0) (sym op)
                ∙ ap (λ l. l ++ h.2.0) (sym r.bytes),
          ),
        )
    from acc Cut h =
        let r = row_at f m h.0 all.0 acc h.3 h.4 in
        let op = whole_operand m h.0 h.4 in (
          row_of f (digit_of m) h.0,
          h.1,
          h.2,
          r.row,
          r.bytes ∙ ap (λ l. opcode_bytes f ++ l) op ∙ ap (λ l. opcode_bytes f ++ m ∷ l) h.5 ∙ sym (append_assoc (opcode_bytes f) (m ∷ rs) (h.1 ∷ h.2)),
        )

-- a row with an operand and a number
record NumberedAt (f : NumberedForm) (m : ℕ) (rm : Opnd) (n : ℕ) : Type 0 where
  row : IsRow (numbered_of f (digit_of m) rm n)
  bytes : encoding (numbered_of f (digit_of m) rm n) ≡ numbered_bytes f ++ (operand (digit_of m) rm ++ number n)

digit_again : (d : ℕ) → d < 8 → (not (d == 2) && not (d == 3)) ≡ true → arith_digit (or_compare (arith_at d)) ≡ d
digit_again zero h e = refl
digit_again (suc zero) h e = refl
digit_again (suc (suc zero)) h e = absurd (cc)
digit_again (suc (suc (suc zero))) h e = absurd (cc)
digit_again (suc (suc (suc (suc zero)))) h e = refl
digit_again (suc (suc (suc (suc (suc zero))))) h e = refl
digit_again (suc (suc (suc (suc (suc (suc zero)))))) h e = refl
digit_again (suc (suc (suc (suc (suc (suc (suc zero))))))) h e = refl
digit_again (suc (suc (suc (suc (suc (suc (suc (suc n)))))))) h e = absurd (omega arith)

numbered_row_at : (f : NumberedForm) (m : ℕ) (rm : Opnd) (n : ℕ) → m < 256 → accepts_numbered f m ≡ true → IsOperand rm → n < 2 ^ 32 → NumberedAt f m rm n
numbered_row_at MoveNumbered m rm n hm acc h hn = record { row = (h, hn); bytes = ap (λ d. 0xC7 ∷ (operand d rm ++ number n)) (sym (eqb-true _ _ acc)) }
numbered_row_at ArithNumbered m rm n hm acc h hn = record { row = (h, hn); bytes = ap (λ d. 0x81 ∷ (operand d rm ++ number n)) (digit_again (digit_of m) (omega arith) acc) }

numbered_short : (f : NumberedForm) → DecReads (numbered_bytes f ++ []) Short
numbered_short MoveNumbered = (MoveImm (ToMemory (Reg 0)) 0, 192, number 0, (omega arith, omega arith), refl)
numbered_short ArithNumbered = (ArithImm Add (Reg 0) 0, 192, number 0, (omega arith, omega arith), refl)

regroup : (a b c d : List ℕ) → a ++ (b ++ (c ++ d)) ≡ (a ++ (b ++ c)) ++ d
regroup a b c d = simp append_assoc

regroup2 : (a b c d : List ℕ) → a ++ (b ++ (c ++ d)) ≡ (a ++ (b ++ c)) ++ d
regroup2 a b c d = simp append_assoc

regroup3 : (a b c d : List ℕ) → a ++ ((b ++ c) ++ d) ≡ (a ++ b) ++ (c ++ d)
regroup3 a b c d = simp append_assoc

numbered_row_back : (f : NumberedForm) (bs : List ℕ) → AllBytes bs → DecReads (numbered_bytes f ++ bs) (numbered_row f bs)
numbered_row_back f [] all = numbered_short f
numbered_row_back f (m ∷ rs) all =
    cond_both (accepts_numbered f m) _ _ (DecReads (numbered_bytes f ++ m ∷ rs)) (λ acc. from acc (operand_at m rs) (operand_back m rs all.0 all.1)) (λ no. tt)
  where
    last : accepts_numbered f m ≡ true → (rm : Opnd) (r : List ℕ) → IsOperand rm → m ≡ operand_head (digit_of m) rm → rs ≡ operand_tail rm ++ r
        → (o : Option ℕ) → NumberReads r o → DecReads (numbered_bytes f ++ m ∷ rs) (numbered_found f (digit_of m) rm o)
    last acc rm r ok same split (Some n) g =
        let q = numbered_row_at f m rm n all.0 acc ok g.0 in
        let op = whole_operand m rm same in (
          q.row,
          refl,
          (
            g.1.0,
            ap (λ l. numbered_bytes f ++ m ∷ l) split
                ∙ ap (λ l. numbered_bytes f ++ ((m ∷ operand_tail rm) ++ l)) g.1.1
                ∙ ap (λ l. numbered_bytes f ++ (l ++ (number n ++ g.1.0))) (sym op)
                ∙ regroup (numbered_bytes f) (operand (digit_of m) rm) (number n) g.1.0
                ∙ ap (λ l. l ++ g.1.0) (sym q.bytes),
          ),
        )
    last acc rm r ok same split None g =
        let q = numbered_row_at f m rm g.0 all.0 acc ok g.3 in
        let op = whole_operand m rm same in (
          numbered_of f (digit_of m) rm g.0,
          g.1,
          g.2,
          q.row,
          q.bytes
              ∙ ap (λ l. numbered_bytes f ++ (l ++ number g.0)) op
              ∙ ap (λ l. numbered_bytes f ++ ((m ∷ operand_tail rm) ++ l)) g.4
              ∙ regroup2 (numbered_bytes f) (m ∷ operand_tail rm) r (g.1 ∷ g.2)
              ∙ ap (λ l. (numbered_bytes f ++ m ∷ l) ++ (g.1 ∷ g.2)) (sym split),
        )

    from : accepts_numbered f m ≡ true → (o : OperandPart) → OperandReads m rs o → DecReads (numbered_bytes f ++ m ∷ rs) (numbered_operand f (digit_of m) o rs)
    from acc Wrong h = tt
    from acc (Is rm) h =
        let e : number_at (extra rm) rs ≡ number_at 0 h.2.0 =
        ap (λ l. number_at (extra rm) l) h.2.1
        ∙ ap (λ k. number_at k (operand_tail rm ++ h.2.0)) (sym (length-tail rm))
        ∙ number_past (operand_tail rm) h.2.0 in
        subst (λ o. DecReads (numbered_bytes f ++ m ∷ rs) (numbered_found f (digit_of m) rm o)) (sym e)
        (last acc rm h.2.0 h.0 h.1 h.2.1 (number_at 0 h.2.0) (number_back h.2.0 (bytes_behind (operand_tail rm) h.2.0 (subst AllBytes h.2.1 all.1))))
    from acc Cut h =
        let q = numbered_row_at f m h.0 0 all.0 acc h.3 (omega arith) in
        let op = whole_operand m h.0 h.4 in (
          numbered_of f (digit_of m) h.0 0,
          h.1,
          h.2 ++ number 0,
          q.row,
          q.bytes
              ∙ ap (λ l. numbered_bytes f ++ (l ++ number 0)) op
              ∙ ap (λ l. numbered_bytes f ++ ((m ∷ l) ++ number 0)) h.5
              ∙ regroup3 (numbered_bytes f) (m ∷ rs) (h.1 ∷ h.2) (number 0),
        )

-- a row that is an opcode and a number
number_ins_row : (f : NumberForm) (n : ℕ) → IsNumberForm f → n < 2 ^ 32 → IsRow (number_ins f n) × (encoding (number_ins f n) ≡ number_bytes f ++ number n)
number_ins_row (MoveNumber r) n h hn = ((h, hn), refl)
number_ins_row PushNumber n h hn = (hn, refl)
number_ins_row CallNear n h hn = (word_fits n hn, ap (λ l. 0xE8 ∷ l) (number_again n hn))
number_ins_row JumpNear n h hn = (word_fits n hn, ap (λ l. 0xE9 ∷ l) (number_again n hn))
number_ins_row (BranchNear c) n h hn = (word_fits n hn, ap (λ l. 0x0F ∷ (0x80 + cond_code c) ∷ l) (number_again n hn))

number_row_back : (f : NumberForm) (bs : List ℕ) → IsNumberForm f → AllBytes bs → DecReads (number_bytes f ++ bs) (number_row f bs)
number_row_back f bs h all = from (number_at 0 bs) (number_back bs all)
  where
    from : (o : Option ℕ) → NumberReads bs o → DecReads (number_bytes f ++ bs) (number_found f o)
    from (Some n) g =
        let q = number_ins_row f n h g.0 in
        (q.0, refl, (g.1.0, ap (λ l. number_bytes f ++ l) g.1.1 ∙ sym (append_assoc (number_bytes f) (number n) g.1.0) ∙ ap (λ l. l ++ g.1.0) (sym q.1)))
    from None g =
        let q = number_ins_row f g.0 h g.3 in
        (number_ins f g.0, g.1, g.2, q.0, q.1 ∙ ap (λ l. number_bytes f ++ l) g.4 ∙ sym (append_assoc (number_bytes f) bs (g.1 ∷ g.2)))

byte_ins_row : (f : ByteForm) (b : ℕ) → b < 256 → IsRow (byte_ins f b) × (encoding (byte_ins f b) ≡ byte_bytes f ++ b ∷ [])
byte_ins_row ShortJump b h = (byte_fits b h, ap (λ x. 0xEB ∷ x ∷ []) (byte_again b h))
byte_ins_row (ShortBranch c) b h = (byte_fits b h, ap (λ x. (0x70 + cond_code c) ∷ x ∷ []) (byte_again b h))

byte_row_back : (f : ByteForm) (bs : List ℕ) → AllBytes bs → DecReads (byte_bytes f ++ bs) (byte_row f bs)
byte_row_back f [] all =
    let q = byte_ins_row f 0 (omega arith) in
    (byte_ins f 0, 0, [], q.0, q.1 ∙ ap (λ l. l ++ 0 ∷ []) (sym (append_nil (byte_bytes f))))
byte_row_back f (b ∷ bs) all =
    let q = byte_ins_row f b all.0 in
    (q.0, refl, (bs, sym (append_assoc (byte_bytes f) (b ∷ []) bs) ∙ ap (λ l. l ++ bs) (sym q.1)))

with_form_back : (o : Option Form) (front bs : List ℕ) → FormAt front o → AllBytes bs → DecReads (front ++ bs) (with_form o bs)
with_form_back None front bs h all = tt
with_form_back (Some (Whole f)) front bs h all = (h.1, refl, (bs, ap (λ l. l ++ bs) (sym h.0)))
with_form_back (Some (Byte f)) front bs h all = subst (λ l. DecReads (l ++ bs) (byte_row f bs)) h.0 (byte_row_back f bs all)
with_form_back (Some (Number f)) front bs h all = subst (λ l. DecReads (l ++ bs) (number_row f bs)) h.0 (number_row_back f bs h.1 all)
with_form_back (Some (Operand f)) front bs h all = subst (λ l. DecReads (l ++ bs) (operand_row f bs)) h.0 (operand_row_back f bs all)
with_form_back (Some (Numbered f)) front bs h all = subst (λ l. DecReads (l ++ bs) (numbered_row f bs)) h.0 (numbered_row_back f bs all)

behind_back : (p : Page) (bs : List ℕ) → AllBytes bs → DecReads (page_byte p ∷ bs) (behind p bs)
behind_back TwoBytes [] all = (Imul 0 (Reg 0), 0xAF, 192 ∷ [], (omega arith, omega arith), refl)
behind_back Word [] all = (MoveNarrow WordToOperand 0 (Reg 0), 0x89, 192 ∷ [], (omega arith, omega arith), refl)
behind_back Repeated [] all = (Str RepMovsb, 0xA4, [], tt, refl)
behind_back p (b ∷ bs) all = with_form_back (page_form p b) (page_byte p ∷ b ∷ []) bs (page_back p b) all.1

-- the bytes that are still missing
missing : (r l : List ℕ) → (r ≡ l → ⊥) → l ≡ r ++ drop (length r) l → (c : ℕ) × (cs : List ℕ) × (l ≡ r ++ c ∷ cs)
missing r l ne e = from (drop (length r) l) e
  where
    from : (d : List ℕ) → l ≡ r ++ d → (c : ℕ) × (cs : List ℕ) × (l ≡ r ++ c ∷ cs)
    from [] f = absurd (ne (sym (f ∙ append_nil r)))
    from (c ∷ cs) f = (c, cs, f)

far_back : (bs : List ℕ) → DecReads (0x9A ∷ bs) (far_call_at bs)
far_back bs =
    let whole = starts_is Decides-eqb bs far_pointer (starts_with nat_eq bs far_pointer) refl in
    let part = starts_is Decides-eqb far_pointer bs (starts_with nat_eq far_pointer bs) refl in
    cond_both (starts_with nat_eq bs far_pointer) _ _ (DecReads (0x9A ∷ bs)) (λ yes. (tt, refl, (drop (length far_pointer) bs, ap (λ l. 0x9A ∷ l) (whole.0 yes)))) (λ no.
    cond_both (starts_with nat_eq far_pointer bs) _ _ (DecReads (0x9A ∷ bs)) (λ yes.
    let ne : bs ≡ far_pointer → ⊥ = λ e. Rattle.std.proofs.lemmas.Bool.both_ways (starts_with nat_eq bs far_pointer) no (whole.1 [] (e ∙ sym (append_nil far_pointer))) in
    let m = missing bs far_pointer ne (part.0 yes) in
    (Lcall, m.0, m.1, tt, ap (λ l. 0x9A ∷ l) m.2)) (λ no2. tt))

pub decoded_back : (b : List ℕ) → AllBytes b → DecReads b (decoded b)
unfolding decoded
decoded_back [] all = (Cltd, 0x99, [], tt, refl)
decoded_back (b ∷ bs) all =
    let P = DecReads (b ∷ bs) in
    cond_both (nat_eq b 0x0F) _ _ P (λ e. subst (λ x. DecReads (x ∷ bs) (behind TwoBytes bs)) (sym (eqb-true _ _ e)) (behind_back TwoBytes bs all.1)) (λ n1.
    cond_both (nat_eq b 0x66) _ _ P (λ e. subst (λ x. DecReads (x ∷ bs) (behind Word bs)) (sym (eqb-true _ _ e)) (behind_back Word bs all.1)) (λ n2.
    cond_both (nat_eq b 0xF3) _ _ P (λ e. subst (λ x. DecReads (x ∷ bs) (behind Repeated bs)) (sym (eqb-true _ _ e)) (behind_back Repeated bs all.1)) (λ n3.
    cond_both (nat_eq b 0x9A) _ _ P (λ e. subst (λ x. DecReads (x ∷ bs) (far_call_at bs)) (sym (eqb-true _ _ e)) (far_back bs)) (λ n4.
    with_form_back (one_byte b) (b ∷ []) bs (one_byte_back b) all.1))))
