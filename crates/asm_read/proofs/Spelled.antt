-- The arguments of normal items have a spelling.
use Rattle.std.proofs.Common.{◌≡◌, ℕ, zero, suc, ◌<◌, ◌≤◌, ◌⊎◌, inl, inr, List, true, false, cond, Option, Some, None, refl, sym, ap, subst, arith, ℤ, pos, negsuc, w32}
use Rattle.std.specs.Prelude.{nat_eq, nat_lt, ◌&&◌}
use Rattle.std.specs.Int.{cast_signed}
use Rattle.std.proofs.lemmas.Bool.{eqb-true, cases_lt}
use Rattle.std.proofs.lemmas.Int.{to_z_pos}
use Rattle.isa386.specs.declared.ins.Opnd.{Opnd}
use Rattle.isa386.specs.declared.ins.Opnd.TheVariants.{Reg, Mem}
use Rattle.isa386.specs.declared.ins.Way.TheVariants.{ToOperand, ToRegister}
use Rattle.isa386.specs.declared.ins.Dest.TheVariants.{Register, Operand}
use Rattle.isa386.specs.declared.ins.Narrow.TheVariants.{ByteToOperand, ByteToRegister, WordToOperand}
use Rattle.isa386.specs.declared.ins.StackOp.TheVariants.{Push, PushImm, Pop}
use Rattle.isa386.specs.declared.ins.UnaryOp.TheVariants.{Not, Neg}
use Rattle.isa386.specs.declared.ins.DivideOp.TheVariants.{Unsigned, Signed}
use Rattle.isa386.specs.declared.ins.Callee.TheVariants.{Relative, Indirect}
use Rattle.isa386.specs.declared.ins.Target.TheVariants.{Near, Short}
use Rattle.isa386.specs.declared.ins.PlainOp.TheVariants.{Ret, Leave, Nop}
use Rattle.isa386.specs.declared.ins.StringOp.TheVariants.{RepMovsb, RepStosb, Cld}
use Rattle.isa386.specs.declared.ins.Ins.{Ins}
use Rattle.isa386.specs.declared.ins.Ins.TheVariants.{Move, MoveImm, MoveNarrow, Lea, Stack, ArithTo, ArithFrom, ArithImm, Test, Imul, Unary, Divide, Cltd, Shift, Set, Widen, Call, Jump, Branch, Plain, Int3, Str, Lcall}
use Rattle.asm_item.specs.declared.args.Size.{Size}
use Rattle.asm_item.specs.declared.args.Size.TheVariants as sizes
use Rattle.isa386.specs.declared.field.Field.{Field}
use Rattle.isa386.specs.declared.field.Field.TheVariants as fields
use Rattle.asm_item.specs.declared.model.Label.{Label}
use Rattle.asm_item.specs.Args.{signed, registers}
use Rattle.asm_item.specs.Rows as rows
use Rattle.asm_item.specs.Normal as normal
use Rattle.asm_item.specs.Normal.{is_full, is_signed, is_zero, is_operand, is_memory, is_base, is_based, is_wide, is_free_memory, is_free_number, is_free_distance, is_labelled, is_first, is_name, is_place}
use Rattle.asm_read.proofs.Joined.{and_left, and_right}
use Rattle.asm_read.proofs.Printed.{IsOp, IsArgument, AreArguments}
use Rattle.asm_read.proofs.Inverse.{label, below, labelled, not_true, to_high, memory_operand}

abbrev pub LabelText : Option Label → Type 0
LabelText None = Unit {0}
LabelText (Some l) = (is_name l.name ≡ true) × (is_signed l.add ≡ true)

zero_signed : (z : ℤ) → is_zero z ≡ true → is_signed z ≡ true
zero_signed (pos n) h = ap (λ k. nat_lt k 2147483648) (eqb-true n 0 h)
zero_signed (negsuc n) h = absurd cc

added : (i : Ins) (f : Field) (z : ℤ) → is_place i f z ≡ true → is_signed z ≡ true
added i fields.Disp z h = and_right (is_free_memory (normal.operand_of i)) (is_signed z) h
added i fields.Imm z h = zero_signed z (and_right (is_free_number (normal.number_of i)) (is_zero z) h)
added i fields.Target z h = zero_signed z (and_right (is_free_distance (normal.distance_of i)) (is_zero z) h)

label_text : (i : Ins) (l : Option Label) → is_labelled i l ≡ true → LabelText l
label_text i None h = tt
label_text i (Some l) h = (and_left (is_name l.name) (is_place i l.field l.add) h, added i l.field l.add (and_right (is_name l.name) (is_place i l.field l.add) h))

held_text : (f g : Field) (l : Label) → (is_name l.name ≡ true) × (is_signed l.add ≡ true) → LabelText (rows.held_in f g l)
held_text fields.Disp fields.Disp l h = h
held_text fields.Disp fields.Imm l h = tt
held_text fields.Disp fields.Target l h = tt
held_text fields.Imm fields.Disp l h = tt
held_text fields.Imm fields.Imm l h = h
held_text fields.Imm fields.Target l h = tt
held_text fields.Target fields.Disp l h = tt
held_text fields.Target fields.Imm l h = tt
held_text fields.Target fields.Target l h = h

in_text : (f : Field) (l : Option Label) → LabelText l → LabelText (rows.label_in f l)
in_text f None h = tt
in_text f (Some l) h = held_text f l.field l h

pub signed_size : (z : ℤ) → is_signed z ≡ true → (signed z).size < 4294967296
signed_size (pos n) h = let lt = below n 2147483648 h in omega arith
signed_size (negsuc n) h = let lt = below n 2147483648 h in omega arith

pub name_spelled : (k : List ℕ) (z : ℤ) → is_name k ≡ true → is_signed z ≡ true → IsOp (rows.name_and k z)
name_spelled k (pos zero) h fits = h
name_spelled k (pos (suc n)) h fits = (h, signed_size (pos (suc n)) fits)
name_spelled k (negsuc n) h fits = (h, signed_size (negsuc n) fits)

absolute_spelled : (d : ℤ) (l : Option Label) → is_signed d ≡ true → LabelText l → IsOp (rows.absolute d l)
absolute_spelled d None fits h = signed_size d fits
absolute_spelled d (Some l) fits h = name_spelled l.name l.add h.0 h.1

based_below : (b : ℕ) (index : Option (ℕ × ℕ)) → is_based b index ≡ true → b < 8
based_below b None h = below b 8 (and_left (nat_lt b 8) (cond (nat_eq b 4) false true) h)
based_below b (Some i) h = let e = eqb-true b 4 (and_left (nat_eq b 4) (nat_eq i.0 4) (and_left (nat_eq b 4 && nat_eq i.0 4) (nat_eq i.1 0) h)) in omega arith

operand_spelled : (s : Size) (o : Opnd) (l : Option Label) → is_operand s o ≡ true → LabelText l → IsOp (rows.operand s o l)
operand_spelled s (Reg r) l h t = below r (registers s) h
operand_spelled s (Mem None index d w) l h t = absolute_spelled d (rows.label_in fields.Disp l) (and_right (is_base None index && is_wide w) (is_signed d) h) (in_text fields.Disp l t)
operand_spelled s (Mem (Some b) index d w) l h t =
    (signed_size d (and_right (is_base (Some b) index && is_wide w) (is_signed d) h), based_below b index (and_left (is_based b index) (is_wide w) (and_left (is_base (Some b) index && is_wide w) (is_signed d) h)))

number_spelled : (n : ℕ) → n < 4294967296 → (signed (cast_signed w32 n)).size < 4294967296
number_spelled n h = by (cases_lt n 2147483648)
  where
    by : (n < 2147483648) ⊎ (2147483648 ≤ n) → (signed (cast_signed w32 n)).size < 4294967296
    by (inl low) = let P : ℤ → Type 0 = λ z. (signed z).size < 4294967296 in subst P (sym (to_z_pos w32 n low)) h
    by (inr up) = let P : ℤ → Type 0 = λ z. (signed z).size < 4294967296 in subst P (sym (to_high n up)) (omega arith)

immediate_spelled : (n : ℕ) (l : Option Label) → is_full n ≡ true → LabelText l → IsArgument (rows.immediate n l)
immediate_spelled n l h t = by (rows.label_in fields.Imm l) (in_text fields.Imm l t)
  where
    by : (m : Option Label) → LabelText m → IsArgument (rows.immediate_by n m)
    by None t = number_spelled n (below n 4294967296 h)
    by (Some l) t = t.0

-- a jump or call to a name
destination_spelled : (f : ℤ → Ins) (d : ℤ) (l : Option Label) → normal.distance_of (f d) ≡ Some d → normal.operand_of (f d) ≡ None → normal.number_of (f d) ≡ None → is_labelled (f d) l ≡ true → IsArgument (rows.destination d l)
destination_spelled f d None distance operand numbered fits = absurd (not_true (normal.has_no_distance (normal.distance_of (f d))) fits (ap normal.has_no_distance distance))
destination_spelled f d (Some l) distance operand numbered fits = by l.field l.name l.add fits
  where
    by : (g : Field) (k : List ℕ) (z : ℤ) → is_labelled (f d) (label g k z) ≡ true → IsArgument (rows.destination d (label g k z))
    by fields.Disp k z fits = absurd (not_true (is_free_memory (normal.operand_of (f d))) (and_left (is_free_memory (normal.operand_of (f d))) (is_signed z) (labelled (f d) fields.Disp k z fits)) (ap is_free_memory operand))
    by fields.Imm k z fits = absurd (not_true (is_free_number (normal.number_of (f d))) (and_left (is_free_number (normal.number_of (f d))) (is_zero z) (labelled (f d) fields.Imm k z fits)) (ap is_free_number numbered))
    by fields.Target k z fits = and_left (is_name k) (is_place (f d) fields.Target z) fits

-- a register and an operand
both_spelled : (s : Size) (r : ℕ) (o : Opnd) (i : Ins) (l : Option Label) → (normal.is_register s r && is_operand s o) ≡ true → is_labelled i l ≡ true → (r < registers s) × IsOp (rows.operand s o l)
both_spelled s r o i l h fits = (below r (registers s) (and_left (normal.is_register s r) (is_operand s o) h), operand_spelled s o l (and_right (normal.is_register s r) (is_operand s o) h) (label_text i l fits))

loaded_spelled : (s : Size) (r : ℕ) (o : Opnd) (i : Ins) (l : Option Label) → (normal.is_register s r && is_memory o) ≡ true → is_labelled i l ≡ true → IsOp (rows.operand s o l) × (r < registers s)
loaded_spelled s r o i l h fits = (operand_spelled s o l (memory_operand s o (and_right (normal.is_register s r) (is_memory o) h)) (label_text i l fits), below r (registers s) (and_left (normal.is_register s r) (is_memory o) h))

pub row_spelled : (i : Ins) (l : Option Label) → is_first i ≡ true → is_labelled i l ≡ true → AreArguments (rows.row i l).args
row_spelled (Move ToOperand r o) l h fits = let x = both_spelled sizes.Full r o (Move ToOperand r o) l h fits in (x.0, (x.1, tt))
row_spelled (Move ToRegister r o) l h fits = let x = loaded_spelled sizes.Full r o (Move ToRegister r o) l h fits in (x.0, (x.1, tt))
row_spelled (MoveImm (Register r) n) l h fits =
    (immediate_spelled n l (and_right (normal.is_register sizes.Full r) (is_full n) h) (label_text (MoveImm (Register r) n) l fits), (below r 8 (and_left (normal.is_register sizes.Full r) (is_full n) h), tt))
row_spelled (MoveImm (Operand o) n) l h fits =
    let t = label_text (MoveImm (Operand o) n) l fits in
    (immediate_spelled n l (and_right (is_memory o) (is_full n) h) t, (operand_spelled sizes.Full o l (memory_operand sizes.Full o (and_left (is_memory o) (is_full n) h)) t, tt))
row_spelled (MoveNarrow ByteToOperand r o) l h fits = let x = both_spelled sizes.Byte r o (MoveNarrow ByteToOperand r o) l h fits in (x.0, (x.1, tt))
row_spelled (MoveNarrow ByteToRegister r o) l h fits = let x = loaded_spelled sizes.Byte r o (MoveNarrow ByteToRegister r o) l h fits in (x.0, (x.1, tt))
row_spelled (MoveNarrow WordToOperand r o) l h fits = let x = both_spelled sizes.Short r o (MoveNarrow WordToOperand r o) l h fits in (x.0, (x.1, tt))
row_spelled (Lea r o) l h fits = let x = loaded_spelled sizes.Full r o (Lea r o) l h fits in (x.0, (x.1, tt))
row_spelled (Stack (Push r)) l h fits = (below r 8 h, tt)
row_spelled (Stack (PushImm n)) l h fits = (immediate_spelled n l h (label_text (Stack (PushImm n)) l fits), tt)
row_spelled (Stack (Pop r)) l h fits = (below r 8 h, tt)
row_spelled (ArithTo op r o) l h fits = let x = both_spelled sizes.Full r o (ArithTo op r o) l h fits in (x.0, (x.1, tt))
row_spelled (ArithFrom op r o) l h fits = let x = loaded_spelled sizes.Full r o (ArithFrom op r o) l h fits in (x.0, (x.1, tt))
row_spelled (ArithImm op o n) l h fits =
    let t = label_text (ArithImm op o n) l fits in
    (immediate_spelled n l (and_right (is_operand sizes.Full o) (is_full n) h) t, (operand_spelled sizes.Full o l (and_left (is_operand sizes.Full o) (is_full n) h) t, tt))
row_spelled (Test r o) l h fits = let x = both_spelled sizes.Full r o (Test r o) l h fits in (x.0, (x.1, tt))
row_spelled (Imul r o) l h fits = let x = both_spelled sizes.Full r o (Imul r o) l h fits in (x.1, (x.0, tt))
row_spelled (Unary Not o) l h fits = (operand_spelled sizes.Full o l h (label_text (Unary Not o) l fits), tt)
row_spelled (Unary Neg o) l h fits = (operand_spelled sizes.Full o l h (label_text (Unary Neg o) l fits), tt)
row_spelled (Divide Unsigned o) l h fits = (operand_spelled sizes.Full o l h (label_text (Divide Unsigned o) l fits), tt)
row_spelled (Divide Signed o) l h fits = (operand_spelled sizes.Full o l h (label_text (Divide Signed o) l fits), tt)
row_spelled Cltd l h fits = tt
row_spelled (Shift op o) l h fits = (omega arith, (operand_spelled sizes.Full o l h (label_text (Shift op o) l fits), tt))
row_spelled (Set c o) l h fits = (operand_spelled sizes.Byte o l h (label_text (Set c o) l fits), tt)
row_spelled (Widen op r o) l h fits =
    (operand_spelled (rows.source_size op) o l (and_right (normal.is_register sizes.Full r) (is_operand (rows.source_size op) o) h) (label_text (Widen op r o) l fits), (below r 8 (and_left (normal.is_register sizes.Full r) (is_operand (rows.source_size op) o) h), tt))
row_spelled (Call (Relative d)) l h fits = (destination_spelled (λ d. Call (Relative d)) d l refl refl refl fits, tt)
row_spelled (Call (Indirect o)) l h fits = (operand_spelled sizes.Full o l h (label_text (Call (Indirect o)) l fits), tt)
row_spelled (Jump (Near d)) l h fits = (destination_spelled (λ d. Jump (Near d)) d l refl refl refl fits, tt)
row_spelled (Jump (Short d)) l h fits = absurd cc
row_spelled (Branch c (Near d)) l h fits = (destination_spelled (λ d. Branch c (Near d)) d l refl refl refl fits, tt)
row_spelled (Branch c (Short d)) l h fits = absurd cc
row_spelled (Plain Ret) l h fits = tt
row_spelled (Plain Leave) l h fits = tt
row_spelled (Plain Nop) l h fits = tt
row_spelled Int3 l h fits = tt
row_spelled (Str RepMovsb) l h fits = (refl, tt)
row_spelled (Str RepStosb) l h fits = (refl, tt)
row_spelled (Str Cld) l h fits = tt
row_spelled Lcall l h fits = (omega arith, (omega arith, tt))
