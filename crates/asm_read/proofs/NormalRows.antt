-- Each row that is read makes a normal instruction.
use Rattle.std.proofs.Common.{◌≡◌, ℕ, ◌-◌, ◌*◌, ◌%◌, ◌<◌, ◌≤◌, ◌⊎◌, suc, inl, inr, Bool, true, false, cond, Option, Some, None, refl, ap, ◌∙◌, arith, ℤ, pos, w32}
use Rattle.std.specs.Prelude.{nat_eq, nat_lt, nat_le, ◌&&◌, codes}
use Rattle.std.specs.Int.{cast_signed}
use Rattle.std.specs.Option.{option_map}
use Rattle.std.specs.Str.{bytes_eq}
use Rattle.std.proofs.lemmas.Bool.{cases_lt, and_from}
use Rattle.std.proofs.lemmas.Bool.Decides.{nat_tests}
use Rattle.std.proofs.lemmas.Int.{to_z_pos}
use Rattle.std.proofs.lemmas.Nat.{mod_below}
use Rattle.isa386.specs.declared.ins.WidenOp.{WidenOp}
use Rattle.isa386.specs.declared.ins.Opnd.{Opnd}
use Rattle.isa386.specs.declared.ins.Opnd.TheVariants.{Reg, Mem}
use Rattle.isa386.specs.declared.ins.Way.TheVariants.{ToOperand, ToRegister}
use Rattle.isa386.specs.declared.ins.Dest.TheVariants.{Register, Operand}
use Rattle.isa386.specs.declared.ins.Narrow.TheVariants.{ByteToOperand, ByteToRegister, WordToOperand}
use Rattle.isa386.specs.declared.ins.StackOp.TheVariants.{Push, PushImm, Pop}
use Rattle.isa386.specs.declared.ins.ArithOp.{ArithOp}
use Rattle.isa386.specs.declared.ins.UnaryOp.TheVariants.{Not, Neg}
use Rattle.isa386.specs.declared.ins.DivideOp.TheVariants.{Unsigned, Signed}
use Rattle.isa386.specs.declared.ins.Callee.TheVariants.{Relative, Indirect}
use Rattle.isa386.specs.declared.ins.Target.TheVariants.{Near}
use Rattle.isa386.specs.declared.ins.StringOp.TheVariants.{RepMovsb, RepStosb}
use Rattle.isa386.specs.declared.ins.Ins.{Ins}
use Rattle.isa386.specs.declared.ins.Ins.TheVariants.{Move, MoveImm, MoveNarrow, Lea, Stack, ArithTo, ArithFrom, ArithImm, Test, Imul, Unary, Divide, Shift, Set, Widen, Call, Jump, Branch, Str, Lcall}
use Rattle.asm_item.specs.declared.args.Number.{Number}
use Rattle.asm_item.specs.declared.args.Size.{Size}
use Rattle.asm_item.specs.declared.args.Size.TheVariants as sizes
use Rattle.isa386.specs.declared.field.Field.TheVariants as fields
use Rattle.asm_item.specs.declared.model.Label.{Label}
use Rattle.asm_item.specs.declared.model.Item.TheVariants as items
use Rattle.asm_item.specs.declared.words.Keyword.{Keyword}
use Rattle.asm_item.specs.declared.words.Keyword.TheVariants as words
use Rattle.asm_item.specs.Args.{Op, register, number, name, plus, minus, base, Argument, plain, star, imm, imm_name}
use Rattle.asm_item.specs.Rows.{source_size}
use Rattle.asm_item.specs.Normal as normal
use Rattle.asm_item.specs.Normal.{is_name, is_full, is_signed, is_zero, is_register, is_operand, is_memory, is_base, is_based, is_free_memory, is_free_number, is_free_distance, is_place, has_no_distance, distance_of, is_labelled, is_first, is_item}
use Rattle.asm_read.specs.Numerals.{◌>>=◌, within, full_of, signed_of}
use Rattle.asm_read.specs.Table as table
use Rattle.asm_read.specs.Table.{Coded, Placed, Valued, Paired, Pair, stored, loaded, given, coded, placed, named, absolute, is_size, register_of, immediate, one_label, from_register, to_register, from_number, pair, of_pair, paired, multiplied, widened, single, shifted, is_value, lcall, two, jump, call, stack, push_number, pushl, rep, one, alone}
use Rattle.asm_read.proofs.Inverse.{to_high, below}
use Rattle.asm_read.proofs.Holds.{Holds, behind, behind_any, mapped, either_way, if_so}
use Rattle.asm_read.proofs.WrittenArguments.{IsWrittenOp, IsWritten}

-- ---- numbers

pub number_within : (values : ℕ) (n : Number) → 0 < values → Holds (λ x. nat_lt x values ≡ true) (within values n)
number_within values n some =
    let P : ℕ → Type 0 = λ x. nat_lt x values ≡ true in
    let small : nat_lt ((values - n.size) % values) values ≡ true = let h = mod_below (values - n.size) values some in grind (arith, nat_tests) in
    either_way P n.minus (cond (nat_le (n.size * 2) values) (Some ((values - n.size) % values)) None) (cond (nat_lt n.size values) (Some n.size) None)
    (λ m. if_so P (nat_le (n.size * 2) values) (Some ((values - n.size) % values)) (λ e. small))
    (λ m. if_so P (nat_lt n.size values) (Some n.size) (λ e. e))

pub full_is : (n : Number) → Holds (λ x. is_full x ≡ true) (full_of n)
full_is n = number_within 4294967296 n (omega arith)

-- the signed reading of a number of 32 bits has 32 bits
pub cast_is : (x : ℕ) → is_full x ≡ true → is_signed (cast_signed w32 x) ≡ true
cast_is x h = by (cases_lt x 2147483648)
  where
    small : x < 4294967296
    small = below x 4294967296 h

    low_is : x < 2147483648 → nat_lt x 2147483648 ≡ true
    low_is low = grind (arith, nat_tests)

    high_is : 2147483648 ≤ x → nat_lt (4294967296 - suc x) 2147483648 ≡ true
    high_is up = let lt : 4294967296 - suc x < 2147483648 = omega arith in grind (arith, nat_tests)

    by : (x < 2147483648) ⊎ (2147483648 ≤ x) → is_signed (cast_signed w32 x) ≡ true
    by (inl low) = ap is_signed (to_z_pos w32 x low) ∙ low_is low
    by (inr up) = ap is_signed (to_high x up) ∙ high_is up

pub signed_is : (n : Number) → Holds (λ z. is_signed z ≡ true) (signed_of n)
signed_is n = mapped (λ x. is_full x ≡ true) (λ z. is_signed z ≡ true) (full_of n) (cast_signed w32) (full_is n) cast_is

-- ---- operands

-- a label that stands in an operand's displacement
abbrev pub IsHeld : Opnd → Option Label → Type 0
IsHeld o None = Unit {0}
IsHeld o (Some l) = (l.field ≡ fields.Disp) × (is_name l.name ≡ true) × (is_free_memory (Some o) ≡ true) × (is_signed l.add ≡ true)

-- a label that stands for a number
abbrev pub IsNamed : ℕ → Option Label → Type 0
IsNamed n None = Unit {0}
IsNamed n (Some l) = (l.field ≡ fields.Imm) × (is_name l.name ≡ true) × (is_free_number (Some n) ≡ true) × (is_zero l.add ≡ true)

abbrev pub IsPlaced : Size → Placed → Type 0
IsPlaced s p = (is_operand s p.operand ≡ true) × IsHeld p.operand p.label

abbrev pub IsMemory : Placed → Type 0
IsMemory p = (is_memory p.operand ≡ true) × IsHeld p.operand p.label

memory_operand : (s : Size) (o : Opnd) → is_memory o ≡ true → is_operand s o ≡ true
memory_operand s (Reg r) h = absurd cc
memory_operand s (Mem b index d w) h = h

abbrev IsOther : Op → Type 0
IsOther (register t r) = ⊥
IsOther (number n) = Unit {0}
IsOther (name k) = Unit {0}
IsOther (plus k n) = Unit {0}
IsOther (minus k n) = Unit {0}
IsOther (base n r) = Unit {0}

based_is : (r : ℕ) (b : Bool) → nat_eq r 4 ≡ b → nat_lt r 8 ≡ true → is_based r (cond b (Some (4, 0)) None) ≡ true
based_is r true e h = ap (λ x. x && true && true) e
based_is r false e h = and_from (nat_lt r 8) (cond (nat_eq r 4) false true) h (ap (λ x. cond x false true) e)

behind_is : (r : ℕ) (d : ℤ) → nat_lt r 8 ≡ true → is_signed d ≡ true → is_memory (table.behind r d) ≡ true
behind_is r d h e = and_from _ (is_signed d) (and_from (is_based r (cond (nat_eq r 4) (Some (4, 0)) None)) true (based_is r (nat_eq r 4) refl h) refl) e

memory_of : (s : Size) (o : Op) → IsWrittenOp o → IsOther o → Holds IsMemory (table.operand_of s o)
memory_of s (register t r) h x = absurd x
memory_of s (number n) h x = behind (λ d. is_signed d ≡ true) IsMemory (signed_of n) (λ d. placed (absolute d) None) (signed_is n) (λ d e. (e, tt))
memory_of s (name k) h x = (refl, (refl, h, refl, refl))
memory_of s (plus k n) h x = behind (λ d. is_signed d ≡ true) IsMemory (signed_of n) (λ d. placed (absolute (pos 0)) (named fields.Disp k d)) (signed_is n) (λ d e. (refl, (refl, h, refl, e)))
memory_of s (minus k n) h x = tt
memory_of s (base n r) h x = behind (λ d. is_signed d ≡ true) IsMemory (signed_of n) (λ d. placed (table.behind r d) None) (signed_is n) (λ d e. (behind_is r d h e, tt))

same_size : (s t : Size) → is_size s t ≡ true → s ≡ t
same_size sizes.Byte sizes.Byte e = refl
same_size sizes.Short sizes.Short e = refl
same_size sizes.Full sizes.Full e = refl
same_size s t e = absurd cc

-- a register of another size can't stand there
sized_register : (s t : Size) (r : ℕ) → is_register t r ≡ true → is_size s t ≡ true → is_register s r ≡ true
sized_register s t r h e = ap (λ u. is_register u r) (same_size s t e) ∙ h

operand_other : (s : Size) (o : Op) → IsWrittenOp o → IsOther o → Holds (IsPlaced s) (table.operand_of s o)
operand_other s o h x = Rattle.asm_read.proofs.Holds.weaker IsMemory (IsPlaced s) (table.operand_of s o) (memory_of s o h x) (λ p m. (memory_operand s p.operand m.0, m.1))

operand_of_is : (s : Size) (o : Op) → IsWrittenOp o → Holds (IsPlaced s) (table.operand_of s o)
operand_of_is s (register t r) h = if_so (IsPlaced s) (is_size s t) (placed (Reg r) None) (λ e. (sized_register s t r h e, tt))
operand_of_is s (number n) h = operand_other s (number n) h tt
operand_of_is s (name k) h = operand_other s (name k) h tt
operand_of_is s (plus k n) h = operand_other s (plus k n) h tt
operand_of_is s (minus k n) h = operand_other s (minus k n) h tt
operand_of_is s (base n r) h = operand_other s (base n r) h tt

operand_is : (s : Size) (a : Argument) → IsWritten a → Holds (IsPlaced s) (table.operand s a)
operand_is s (plain o) h = operand_of_is s o h
operand_is s a h = tt

register_is : (s : Size) (a : Argument) → IsWritten a → Holds (λ r. is_register s r ≡ true) (register_of s a)
register_is s (plain (register t r)) h = if_so (λ r. is_register s r ≡ true) (is_size s t) (Some r) (λ e. sized_register s t r h e)
register_is s a h = tt

-- a number of 32 bits, or the label that stands for it
abbrev pub IsValued : Valued → Type 0
IsValued v = (is_full v.value ≡ true) × IsNamed v.value v.label

immediate_is : (a : Argument) → IsWritten a → Holds IsValued (immediate a)
immediate_is (imm n) h = behind (λ x. is_full x ≡ true) IsValued (full_of n) (λ x. Some record { value = x; label = None }) (full_is n) (λ x e. (e, tt))
immediate_is (imm_name k) h = (refl, (refl, h, refl, refl))
immediate_is a h = tt

-- ---- labels

abbrev pub IsCode : Ins → Option Label → Type 0
IsCode i l = is_item (items.Code i l) ≡ true

abbrev pub IsCoded : Coded → Type 0
IsCoded c = IsCode c.ins c.label

code_is : (i : Ins) (l : Option Label) → is_first i ≡ true → is_labelled i l ≡ true → IsCode i l
code_is i l h g = and_from (is_first i) (is_labelled i l) h g

-- a label in the displacement, where there is one
held : (i : Ins) (o : Opnd) (l : Option Label) → normal.operand_of i ≡ Some o → distance_of i ≡ None → IsHeld o l → is_labelled i l ≡ true
held i o None eo ed h = ap has_no_distance ed
held i o (Some l) eo ed h =
    and_from (is_name l.name) (is_place i l.field l.add) h.1
    (ap (λ f. is_place i f l.add) h.0 ∙ and_from (is_free_memory (normal.operand_of i)) (is_signed l.add) (ap is_free_memory eo ∙ h.2) h.3)

-- a label in place of the number, where there is one
named_is : (i : Ins) (n : ℕ) (l : Option Label) → normal.number_of i ≡ Some n → distance_of i ≡ None → IsNamed n l → is_labelled i l ≡ true
named_is i n None en ed h = ap has_no_distance ed
named_is i n (Some l) en ed h =
    and_from (is_name l.name) (is_place i l.field l.add) h.1
    (ap (λ f. is_place i f l.add) h.0 ∙ and_from (is_free_number (normal.number_of i)) (is_zero l.add) (ap is_free_number en ∙ h.2) h.3)

-- ---- two operands

-- at most one of an operand and a number holds a label
abbrev IsEither : ℕ → Opnd → Option Label → Type 0
IsEither n o None = Unit {0}
IsEither n o (Some l) = IsNamed n (Some l) ⊎ IsHeld o (Some l)

abbrev IsPair : Size → Pair → Option Label → Type 0
IsPair s (stored r o) l = (is_register s r ≡ true) × (is_operand s o ≡ true) × IsHeld o l
IsPair s (loaded o r) l = (is_register s r ≡ true) × (is_memory o ≡ true) × IsHeld o l
IsPair s (given n o) l = (is_full n ≡ true) × (is_operand s o ≡ true) × IsEither n o l

abbrev IsPaired : Size → Paired → Type 0
IsPaired s p = IsPair s p.pair p.label

from_register_is : (s : Size) (r : Option ℕ) (o : Option Placed) → Holds (λ r. is_register s r ≡ true) r → Holds (IsPlaced s) o → Holds (IsPaired s) (from_register r o)
from_register_is s None o h g = tt
from_register_is s (Some r) None h g = tt
from_register_is s (Some r) (Some o) h g = (h, g.0, g.1)

to_register_is : (s : Size) (o : Option Placed) (r : Option ℕ) → Holds IsMemory o → Holds (λ r. is_register s r ≡ true) r → Holds (IsPaired s) (to_register o r)
to_register_is s None r g h = tt
to_register_is s (Some o) None g h = tt
to_register_is s (Some o) (Some r) g h = (h, g.0, g.1)

one_label_is : (n : ℕ) (o : Opnd) (l m : Option Label) → IsNamed n l → IsHeld o m → Holds (IsEither n o) (one_label l m)
one_label_is n o None None h g = tt
one_label_is n o None (Some m) h g = inr g
one_label_is n o (Some l) None h g = inl h
one_label_is n o (Some l) (Some m) h g = tt

from_number_is : (s : Size) (n : Option Valued) (o : Option Placed) → Holds IsValued n → Holds (IsPlaced s) o → Holds (IsPaired s) (from_number n o)
from_number_is s None o h g = tt
from_number_is s (Some n) None h g = tt
from_number_is s (Some n) (Some o) h g =
    behind (IsEither n.value o.operand) (IsPaired s) (one_label n.label o.label) (λ l. Some record { pair = given n.value o.operand; label = l })
    (one_label_is n.value o.operand n.label o.label h.1 g.1) (λ l e. (h.0, g.0, e))

loaded_is : (s : Size) (o : Op) (b : Argument) → IsWrittenOp o → IsOther o → IsWritten b → Holds (IsPaired s) (to_register (table.operand_of s o) (register_of s b))
loaded_is s o b h x g = to_register_is s (table.operand_of s o) (register_of s b) (memory_of s o h x) (register_is s b g)

pair_is : (s : Size) (a b : Argument) → IsWritten a → IsWritten b → Holds (IsPaired s) (pair s a b)
pair_is s (plain (register t r)) b h g = from_register_is s (register_of s (plain (register t r))) (table.operand s b) (register_is s (plain (register t r)) h) (operand_is s b g)
pair_is s (plain (number n)) b h g = loaded_is s (number n) b h tt g
pair_is s (plain (name k)) b h g = loaded_is s (name k) b h tt g
pair_is s (plain (plus k n)) b h g = loaded_is s (plus k n) b h tt g
pair_is s (plain (minus k n)) b h g = loaded_is s (minus k n) b h tt g
pair_is s (plain (base n r)) b h g = loaded_is s (base n r) b h tt g
pair_is s (imm n) b h g = from_number_is s (immediate (imm n)) (table.operand s b) (immediate_is (imm n) h) (operand_is s b g)
pair_is s (imm_name k) b h g = from_number_is s (immediate (imm_name k)) (table.operand s b) (immediate_is (imm_name k) h) (operand_is s b g)
pair_is s a b h g = tt

-- the instruction that a pair makes is normal
abbrev Makes : (Pair → Option Ins) → Size → Type 0
Makes make s = (p : Pair) (l : Option Label) → IsPair s p l → Holds (λ i. IsCode i l) (make p)

-- a register and an operand
with_both : (i : Ins) (r : Bool) (o : Bool) (l : Option Label) → is_first i ≡ (r && o) → r ≡ true → o ≡ true → is_labelled i l ≡ true → IsCode i l
with_both i r o l e hr ho g = code_is i l (e ∙ and_from r o hr ho) g

given_held : (i : Ins) (n : ℕ) (o : Opnd) (l : Option Label) → normal.number_of i ≡ Some n → normal.operand_of i ≡ Some o → distance_of i ≡ None → IsEither n o l → is_labelled i l ≡ true
given_held i n o None en eo ed h = ap has_no_distance ed
given_held i n o (Some l) en eo ed (inl h) = named_is i n (Some l) en ed h
given_held i n o (Some l) en eo ed (inr h) = held i o (Some l) eo ed h

given_register : (n r : ℕ) (l : Option Label) → IsEither n (Reg r) l → is_labelled (MoveImm (Register r) n) l ≡ true
given_register n r None h = refl
given_register n r (Some l) (inl h) = named_is (MoveImm (Register r) n) n (Some l) refl refl h
given_register n r (Some l) (inr h) = let no = h.2 in absurd cc

movl_is : Makes table.movl sizes.Full
movl_is (stored r o) l h = with_both (Move ToOperand r o) _ _ l refl h.0 h.1 (held (Move ToOperand r o) o l refl refl h.2)
movl_is (loaded o r) l h = with_both (Move ToRegister r o) _ _ l refl h.0 h.1 (held (Move ToRegister r o) o l refl refl h.2)
movl_is (given n (Reg r)) l h = with_both (MoveImm (Register r) n) _ _ l refl h.1 h.0 (given_register n r l h.2)
movl_is (given n (Mem b index d w)) l h = with_both (MoveImm (Operand (Mem b index d w)) n) _ _ l refl h.1 h.0 (given_held (MoveImm (Operand (Mem b index d w)) n) n (Mem b index d w) l refl refl refl h.2)

movb_is : Makes table.movb sizes.Byte
movb_is (stored r o) l h = with_both (MoveNarrow ByteToOperand r o) _ _ l refl h.0 h.1 (held (MoveNarrow ByteToOperand r o) o l refl refl h.2)
movb_is (loaded o r) l h = with_both (MoveNarrow ByteToRegister r o) _ _ l refl h.0 h.1 (held (MoveNarrow ByteToRegister r o) o l refl refl h.2)
movb_is (given n o) l h = tt

movw_is : Makes table.movw sizes.Short
movw_is (stored r o) l h = with_both (MoveNarrow WordToOperand r o) _ _ l refl h.0 h.1 (held (MoveNarrow WordToOperand r o) o l refl refl h.2)
movw_is (loaded o r) l h = tt
movw_is (given n o) l h = tt

leal_is : Makes table.leal sizes.Full
leal_is (stored r o) l h = tt
leal_is (loaded o r) l h = with_both (Lea r o) _ _ l refl h.0 h.1 (held (Lea r o) o l refl refl h.2)
leal_is (given n o) l h = tt

arith_is : (op : ArithOp) → Makes (table.arith op) sizes.Full
arith_is op (stored r o) l h = with_both (ArithTo op r o) _ _ l refl h.0 h.1 (held (ArithTo op r o) o l refl refl h.2)
arith_is op (loaded o r) l h = with_both (ArithFrom op r o) _ _ l refl h.0 h.1 (held (ArithFrom op r o) o l refl refl h.2)
arith_is op (given n o) l h = with_both (ArithImm op o n) _ _ l refl h.1 h.0 (given_held (ArithImm op o n) n o l refl refl refl h.2)

testl_is : Makes table.testl sizes.Full
testl_is (stored r o) l h = with_both (Test r o) _ _ l refl h.0 h.1 (held (Test r o) o l refl refl h.2)
testl_is (loaded o r) l h = tt
testl_is (given n o) l h = tt

paired_is : (w : Keyword) (s : Size) (a b : Argument) → IsWritten a → IsWritten b → Makes (of_pair w) s → Holds IsCoded (paired w (pair s a b))
paired_is w s a b h g makes =
    behind (IsPaired s) IsCoded (pair s a b) (λ p. of_pair w p.pair >>= λ i. coded i p.label) (pair_is s a b h g)
    (λ p e. behind (λ i. IsCode i p.label) IsCoded (of_pair w p.pair) (λ i. coded i p.label) (makes p.pair p.label e) (λ i x. x))

multiplied_is : (o : Option Placed) (r : Option ℕ) → Holds (IsPlaced sizes.Full) o → Holds (λ r. is_register sizes.Full r ≡ true) r → Holds IsCoded (multiplied o r)
multiplied_is None r h g = tt
multiplied_is (Some o) None h g = tt
multiplied_is (Some o) (Some r) h g = with_both (Imul r o.operand) _ _ o.label refl g h.0 (held (Imul r o.operand) o.operand o.label refl refl h.1)

widened_is : (op : WidenOp) (o : Option Placed) (r : Option ℕ) → Holds (IsPlaced (source_size op)) o → Holds (λ r. is_register sizes.Full r ≡ true) r → Holds IsCoded (widened op o r)
widened_is op None r h g = tt
widened_is op (Some o) None h g = tt
widened_is op (Some o) (Some r) h g = with_both (Widen op r o.operand) _ _ o.label refl g h.0 (held (Widen op r o.operand) o.operand o.label refl refl h.1)

-- ---- one operand

-- the size of the operand of a word
abbrev single_size : Keyword → Size
single_size (words.Set c) = sizes.Byte
single_size w = sizes.Full

single_code : (w : Keyword) (o : Opnd) (l : Option Label) → is_operand (single_size w) o ≡ true → IsHeld o l → Holds (λ i. IsCode i l) (table.of_operand w o)
single_code words.Notl o l h g = code_is (Unary Not o) l h (held (Unary Not o) o l refl refl g)
single_code words.Negl o l h g = code_is (Unary Neg o) l h (held (Unary Neg o) o l refl refl g)
single_code words.Divl o l h g = code_is (Divide Unsigned o) l h (held (Divide Unsigned o) o l refl refl g)
single_code words.Idivl o l h g = code_is (Divide Signed o) l h (held (Divide Signed o) o l refl refl g)
single_code (words.Shift op) o l h g = code_is (Shift op o) l h (held (Shift op o) o l refl refl g)
single_code (words.Set c) o l h g = code_is (Set c o) l h (held (Set c o) o l refl refl g)
single_code words.Call o l h g = code_is (Call (Indirect o)) l h (held (Call (Indirect o)) o l refl refl g)
single_code w o l h g = tt

single_is : (w : Keyword) (o : Option Placed) → Holds (IsPlaced (single_size w)) o → Holds IsCoded (single w o)
single_is w o h =
    behind (IsPlaced (single_size w)) IsCoded o (λ o. table.of_operand w o.operand >>= λ i. coded i o.label) h
    (λ o e. behind (λ i. IsCode i o.label) IsCoded (table.of_operand w o.operand) (λ i. coded i o.label) (single_code w o.operand o.label e.0 e.1) (λ i x. x))

shifted_is : (w : Keyword) (c : Option ℕ) (o : Option Placed) → Holds (IsPlaced (single_size w)) o → Holds IsCoded (shifted w c o)
shifted_is w c o h = behind_any IsCoded c (λ c. cond (nat_eq c 1) (single w o) None) (λ c. if_so IsCoded (nat_eq c 1) (single w o) (λ e. single_is w o h))

lcall_is : (a b : Argument) → Holds IsCoded (lcall a b)
lcall_is a b = if_so IsCoded (is_value 7 a && is_value 0 b) (coded Lcall None) (λ e. refl)

-- ---- rows

pub two_is : (w : Keyword) (a b : Argument) → IsWritten a → IsWritten b → Holds IsCoded (two w a b)
two_is words.Movl a b h g = paired_is words.Movl sizes.Full a b h g movl_is
two_is words.Movb a b h g = paired_is words.Movb sizes.Byte a b h g movb_is
two_is words.Movw a b h g = paired_is words.Movw sizes.Short a b h g movw_is
two_is words.Leal a b h g = paired_is words.Leal sizes.Full a b h g leal_is
two_is (words.Arith op) a b h g = paired_is (words.Arith op) sizes.Full a b h g (arith_is op)
two_is words.Testl a b h g = paired_is words.Testl sizes.Full a b h g testl_is
two_is words.Imull a b h g = multiplied_is (table.operand sizes.Full a) (register_of sizes.Full b) (operand_is sizes.Full a h) (register_is sizes.Full b g)
two_is (words.Widen op) a b h g = widened_is op (table.operand (source_size op) a) (register_of sizes.Full b) (operand_is (source_size op) a h) (register_is sizes.Full b g)
two_is (words.Shift op) a b h g = shifted_is (words.Shift op) (register_of sizes.Byte a) (table.operand sizes.Full b) (operand_is sizes.Full b g)
two_is words.Lcall a b h g = lcall_is a b
two_is w a b h g = tt

call_to : (a : Argument) → IsWritten a → Holds IsCoded (jump (Call (Relative (pos 0))) a)
call_to (plain (name k)) h = and_from (is_name k) true h refl
call_to a h = tt

call_is : (a : Argument) → IsWritten a → Holds IsCoded (call a)
call_is (star o) h = single_is words.Call (table.operand_of sizes.Full o) (operand_of_is sizes.Full o h)
call_is a h = call_to a h

jump_is : (a : Argument) → IsWritten a → Holds IsCoded (jump (Jump (Near (pos 0))) a)
jump_is (plain (name k)) h = and_from (is_name k) true h refl
jump_is a h = tt

branch_is : (c : Rattle.isa386.specs.declared.ins.Cond.Cond) (a : Argument) → IsWritten a → Holds IsCoded (jump (Branch c (Near (pos 0))) a)
branch_is c (plain (name k)) h = and_from (is_name k) true h refl
branch_is c a h = tt

push_is : (r : Option ℕ) → Holds (λ r. is_register sizes.Full r ≡ true) r → Holds IsCoded (stack (option_map (λ r. Push r) r))
push_is None h = tt
push_is (Some r) h = and_from (is_register sizes.Full r) true h refl

pop_is : (r : Option ℕ) → Holds (λ r. is_register sizes.Full r ≡ true) r → Holds IsCoded (stack (option_map (λ r. Pop r) r))
pop_is None h = tt
pop_is (Some r) h = and_from (is_register sizes.Full r) true h refl

push_number_is : (n : Option Valued) → Holds IsValued n → Holds IsCoded (push_number n)
push_number_is None h = tt
push_number_is (Some n) h = code_is (Stack (PushImm n.value)) n.label h.0 (named_is (Stack (PushImm n.value)) n.value n.label refl refl h.1)

pushl_is : (a : Argument) → IsWritten a → Holds IsCoded (pushl a)
pushl_is (plain o) h = push_is (register_of sizes.Full (plain o)) (register_is sizes.Full (plain o) h)
pushl_is a h = push_number_is (immediate a) (immediate_is a h)

rep_is : (a : Argument) → Holds IsCoded (rep a)
rep_is (plain (name k)) =
    either_way IsCoded (bytes_eq k (codes "movsb")) (coded (Str RepMovsb) None) (cond (bytes_eq k (codes "stosb")) (coded (Str RepStosb) None) None)
    (λ e. refl) (λ ne. if_so IsCoded (bytes_eq k (codes "stosb")) (coded (Str RepStosb) None) (λ e. refl))
rep_is a = tt

pub one_is : (w : Keyword) (a : Argument) → IsWritten a → Holds IsCoded (one w a)
one_is words.Pushl a h = pushl_is a h
one_is words.Popl a h = pop_is (register_of sizes.Full a) (register_is sizes.Full a h)
one_is words.Notl a h = single_is words.Notl (table.operand sizes.Full a) (operand_is sizes.Full a h)
one_is words.Negl a h = single_is words.Negl (table.operand sizes.Full a) (operand_is sizes.Full a h)
one_is words.Divl a h = single_is words.Divl (table.operand sizes.Full a) (operand_is sizes.Full a h)
one_is words.Idivl a h = single_is words.Idivl (table.operand sizes.Full a) (operand_is sizes.Full a h)
one_is (words.Set c) a h = single_is (words.Set c) (table.operand sizes.Byte a) (operand_is sizes.Byte a h)
one_is words.Call a h = call_is a h
one_is words.Jmp a h = jump_is a h
one_is (words.Jump c) a h = branch_is c a h
one_is words.Rep a h = rep_is a
one_is w a h = tt

pub alone_is : (w : Keyword) → Holds IsCoded (alone w)
alone_is words.Cltd = refl
alone_is words.Ret = refl
alone_is words.Leave = refl
alone_is words.Nop = refl
alone_is words.Int3 = refl
alone_is words.Cld = refl
alone_is w = tt
