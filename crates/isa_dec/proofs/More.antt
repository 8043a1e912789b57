-- More bytes do not make an instruction of what was none.
use Rattle.std.proofs.Common.{◌≡◌, ℕ, ◌/◌, ◌%◌, ◌⊎◌, List, [], ◌∷◌, ◌++◌, Bool, true, false, cond, Option, Some, None, length, drop, refl, ap, ◌∙◌, inl, inr, append_assoc}
use Rattle.std.specs.Prelude.{nat_eq, not, ◌==◌, ◌&&◌, ℤ}
use Rattle.std.proofs.lemmas.Bool.{ltb-true, ltb-false, leb-true, eqb-true, eqb-false, eq-eqb, lt-ltb, and_parts, or_cases, cond_both, cond-true, cond-false, not-true}
use Rattle.isa386.specs.declared.Dw.TheVariants.{D32}
use Rattle.isa386.specs.declared.Opnd.{Opnd}
use Rattle.isa386.specs.declared.Ins.TheVariants.{Lcall}
use Rattle.isa_dec.specs.declared.form.Form.{Form}
use Rattle.isa_dec.specs.declared.form.Form.TheVariants.{Whole, Byte, Number, Operand, Numbered}
use Rattle.isa_dec.specs.declared.form.ByteForm.{ByteForm}
use Rattle.isa_dec.specs.declared.form.NumberForm.{NumberForm}
use Rattle.isa_dec.specs.declared.form.OperandForm.{OperandForm}
use Rattle.isa_dec.specs.declared.form.NumberedForm.{NumberedForm}
use Rattle.isa_dec.specs.declared.operand.OperandPart.{OperandPart}
use Rattle.isa_dec.specs.declared.operand.OperandPart.TheVariants.{Is, Cut, Wrong}
use Rattle.isa_dec.specs.declared.dec.Dec.TheVariants.{Short, Unknown}
use Rattle.isa_dec.specs.declared.dec.Page.{Page}
use Rattle.isa_dec.specs.declared.dec.Page.TheVariants.{TwoBytes, Word, Repeated}
use Rattle.isa_dec.specs.OperandAt.{number_at, with_displacement, memory_at, width_of, behind_sib, operand_at, displacement_at}
use Rattle.isa_dec.specs.OpcodeAt.{one_byte}
use Rattle.isa_dec.specs.Decoded.{found, byte_row, number_found, digit_of, accepts, operand_found, operand_row, accepts_numbered, extra, numbered_found, numbered_operand, numbered_row, with_form, page_form, behind, far_pointer, far_call_at, decoded}
use Rattle.isa386.specs.declared.Dw.{Dw}
use Rattle.std.specs.List.{starts_with}
use Rattle.std.proofs.lemmas.Slice.Eq.{starts_is}
use Rattle.std.proofs.lemmas.Bool.{both_ways, cases_Bool}
use Rattle.std.proofs.lemmas.Bool.Decides.{Decides-eqb}

-- one test on both sides
both : {A : Type 0} (w : A) (t : Bool) (x1 y1 x2 y2 : A) → (x1 ≡ w → x2 ≡ w) → (y1 ≡ w → y2 ≡ w) → cond t x1 y1 ≡ w → cond t x2 y2 ≡ w
both w true x1 y1 x2 y2 f g h = f h
both w false x1 y1 x2 y2 f g h = g h

not_wrong : (base : Option ℕ) (index : Option (ℕ × ℕ)) (w : Dw) (o : Option ℤ) → with_displacement base index w o ≡ Wrong → ⊥
not_wrong base index w None h = cc
not_wrong base index w (Some d) h = cc

memory_wrong : (base : Option ℕ) (index : Option (ℕ × ℕ)) (w : Dw) (bs more : List ℕ) → memory_at base index w bs ≡ Wrong → memory_at base index w more ≡ Wrong
memory_wrong base index w bs more h = absurd (not_wrong base index w (displacement_at w bs) h)

behind_wrong : (top : ℕ) (bs p : List ℕ) → behind_sib top bs ≡ Wrong → behind_sib top (bs ++ p) ≡ Wrong
behind_wrong top [] p h = absurd (cc)
behind_wrong top (s ∷ bs) p h =
    both Wrong (s / 8 % 8 == 4 && not (s / 64 == 0)) _ _ _ _ (λ e. e)
    (both Wrong (top == 0 && s % 8 == 5) _ _ _ _ (memory_wrong None (Some (s / 8 % 8, s / 64)) D32 bs (bs ++ p)) (memory_wrong (Some (s % 8)) (Some (s / 8 % 8, s / 64)) (width_of top) bs (bs ++ p))) h

operand_wrong : (m : ℕ) (bs p : List ℕ) → operand_at m bs ≡ Wrong → operand_at m (bs ++ p) ≡ Wrong
operand_wrong m bs p h =
    both Wrong (m / 64 == 3) _ _ _ _ (λ e. e)
    (both Wrong (m % 8 == 4) _ _ _ _ (behind_wrong (m / 64) bs p)
    (both Wrong (m / 64 == 0 && m % 8 == 5) _ _ _ _ (memory_wrong None None D32 bs (bs ++ p)) (memory_wrong (Some (m % 8)) None (width_of (m / 64)) bs (bs ++ p)))) h

operand_unknown : (f : OperandForm) (d : ℕ) (o q : OperandPart) → (o ≡ Wrong → q ≡ Wrong) → operand_found f d o ≡ Unknown → operand_found f d q ≡ Unknown
operand_unknown f d (Is rm) q g h = absurd (cc)
operand_unknown f d Cut q g h = absurd (cc)
operand_unknown f d Wrong q g h = ap (operand_found f d) (g refl)

operand_row_more : (f : OperandForm) (bs p : List ℕ) → operand_row f bs ≡ Unknown → operand_row f (bs ++ p) ≡ Unknown
operand_row_more f [] p h = absurd (cc)
operand_row_more f (m ∷ bs) p h =
    both Unknown (accepts f m) _ _ _ _ (operand_unknown f (digit_of m) (operand_at m bs) (operand_at m (bs ++ p)) (operand_wrong m bs p)) (λ e. e) h

not_numbered : (f : NumberedForm) (d : ℕ) (rm : Opnd) (o : Option ℕ) → numbered_found f d rm o ≡ Unknown → ⊥
not_numbered f d rm None h = cc
not_numbered f d rm (Some n) h = cc

numbered_unknown : (f : NumberedForm) (d : ℕ) (o q : OperandPart) (bs more : List ℕ) → (o ≡ Wrong → q ≡ Wrong) → numbered_operand f d o bs ≡ Unknown → numbered_operand f d q more ≡ Unknown
numbered_unknown f d (Is rm) q bs more g h = absurd (not_numbered f d rm (number_at (extra rm) bs) h)
numbered_unknown f d Cut q bs more g h = absurd (cc)
numbered_unknown f d Wrong q bs more g h = ap (λ z. numbered_operand f d z more) (g refl)

numbered_row_more : (f : NumberedForm) (bs p : List ℕ) → numbered_row f bs ≡ Unknown → numbered_row f (bs ++ p) ≡ Unknown
numbered_row_more f [] p h = absurd (cc)
numbered_row_more f (m ∷ bs) p h =
    both Unknown (accepts_numbered f m) _ _ _ _ (numbered_unknown f (digit_of m) (operand_at m bs) (operand_at m (bs ++ p)) bs (bs ++ p) (operand_wrong m bs p)) (λ e. e) h

number_known : (f : NumberForm) (o : Option ℕ) → number_found f o ≡ Unknown → ⊥
number_known f None h = cc
number_known f (Some n) h = cc

byte_known : (f : ByteForm) (bs : List ℕ) → byte_row f bs ≡ Unknown → ⊥
byte_known f [] h = cc
byte_known f (b ∷ bs) h = cc

with_form_more : (o : Option Form) (bs p : List ℕ) → with_form o bs ≡ Unknown → with_form o (bs ++ p) ≡ Unknown
with_form_more None bs p h = refl
with_form_more (Some (Whole f)) bs p h = absurd (cc)
with_form_more (Some (Byte f)) bs p h = absurd (byte_known f bs h)
with_form_more (Some (Number f)) bs p h = absurd (number_known f (number_at 0 bs) h)
with_form_more (Some (Operand f)) bs p h = operand_row_more f bs p h
with_form_more (Some (Numbered f)) bs p h = numbered_row_more f bs p h

behind_more : (g : Page) (bs p : List ℕ) → behind g bs ≡ Unknown → behind g (bs ++ p) ≡ Unknown
behind_more g [] p h = absurd (cc)
behind_more g (b ∷ bs) p h = with_form_more (page_form g b) bs p h

-- of two fronts of one list, one is a front of the other
compare_fronts : (a p b q : List ℕ) → a ++ p ≡ b ++ q → ((t : List ℕ) × (a ≡ b ++ t)) ⊎ ((t : List ℕ) × (b ≡ a ++ t))
compare_fronts [] p b q e = inr (b, refl)
compare_fronts (x ∷ a) p [] q e = inl (x ∷ a, refl)
compare_fronts (x ∷ a) p (y ∷ b) q e =
    let head : x ≡ y = cc in
    let tail : a ++ p ≡ b ++ q = cc in
    elim (compare_fronts a p b q tail) [ inl h ↦ inl (h.0, let e1 = h.1 in cc) | inr h ↦ inr (h.0, let e1 = h.1 in cc) ]

-- neither begins with the other, whatever follows
far_apart : (bs p : List ℕ) → starts_with nat_eq bs far_pointer ≡ false → starts_with nat_eq far_pointer bs ≡ false → far_call_at (bs ++ p) ≡ Unknown
far_apart bs p lacks lacks2 =
    let whole = starts_is Decides-eqb bs far_pointer (starts_with nat_eq bs far_pointer) refl in
    let part = starts_is Decides-eqb far_pointer bs (starts_with nat_eq far_pointer bs) refl in
    let whole2 = starts_is Decides-eqb (bs ++ p) far_pointer (starts_with nat_eq (bs ++ p) far_pointer) refl in
    let part2 = starts_is Decides-eqb far_pointer (bs ++ p) (starts_with nat_eq far_pointer (bs ++ p)) refl in
    let f1 : starts_with nat_eq (bs ++ p) far_pointer ≡ true → ⊥ = λ yes.
    elim (compare_fronts bs p far_pointer (drop (length far_pointer) (bs ++ p)) (whole2.0 yes)) [
      | inl h ↦ both_ways _ lacks (whole.1 h.0 h.1)
      | inr h ↦ both_ways _ lacks2 (part.1 h.0 h.1)
    ] in
    let f2 : starts_with nat_eq far_pointer (bs ++ p) ≡ true → ⊥ = λ yes.
    both_ways _ lacks2 (part.1 (p ++ drop (length (bs ++ p)) far_pointer) (part2.0 yes ∙ append_assoc bs p (drop (length (bs ++ p)) far_pointer))) in
    cond-false (starts_with nat_eq (bs ++ p) far_pointer) (found Lcall) (cond (starts_with nat_eq far_pointer (bs ++ p)) Short Unknown) (Rattle.std.proofs.lemmas.Bool.false_from_ne_true _ f1)
    ∙ cond-false (starts_with nat_eq far_pointer (bs ++ p)) Short Unknown (Rattle.std.proofs.lemmas.Bool.false_from_ne_true _ f2)

far_more : (bs p : List ℕ) → far_call_at bs ≡ Unknown → far_call_at (bs ++ p) ≡ Unknown
far_more bs p h = from (starts_with nat_eq bs far_pointer) (starts_with nat_eq far_pointer bs) refl refl h
  where
    from : (s t : Bool) → starts_with nat_eq bs far_pointer ≡ s → starts_with nat_eq far_pointer bs ≡ t → cond s (found Lcall) (cond t Short Unknown) ≡ Unknown → far_call_at (bs ++ p) ≡ Unknown
    from true t e f g = absurd (cc)
    from false true e f g = absurd (cc)
    from false false e f g = far_apart bs p e f

pub decoded_more : (b p : List ℕ) → decoded b ≡ Unknown → decoded (b ++ p) ≡ Unknown
unfolding decoded
decoded_more [] p h = absurd (cc)
decoded_more (b ∷ bs) p h =
    both Unknown (b == 0x0F) _ _ _ _ (behind_more TwoBytes bs p)
    (both Unknown (b == 0x66) _ _ _ _ (behind_more Word bs p)
    (both Unknown (b == 0xF3) _ _ _ _ (behind_more Repeated bs p)
    (both Unknown (b == 0x9A) _ _ _ _ (far_more bs p) (with_form_more (one_byte b) bs p)))) h
