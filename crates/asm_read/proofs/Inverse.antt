-- The row of a normal instruction makes this instruction.
use Rattle.std.proofs.Common.{◌≡◌, ℕ, zero, suc, ◌-◌, ◌<◌, ◌≤◌, ◌⊎◌, inl, inr, List, [], ◌∷◌, Bool, true, false, cond, Option, Some, None, refl, sym, ap, ◌∙◌, arith, ℤ, pos, negsuc, w32}
use Rattle.std.specs.Prelude.{nat_eq, nat_lt, ◌&&◌}
use Rattle.std.specs.Int.{cast_signed}
use Rattle.std.specs.Option.{option_map}
use Rattle.std.proofs.lemmas.Bool.{eqb-true, cases_lt}
use Rattle.std.proofs.lemmas.Bool.Decides.{nat_tests}
use Rattle.std.proofs.lemmas.Int.{to_z_pos}
use mir.Val.{sel}
use Rattle.isa386.specs.declared.ins.Dw.{Dw}
use Rattle.isa386.specs.declared.ins.Dw.TheVariants.{D0, D8, D32}
use Rattle.isa386.specs.declared.ins.Opnd.{Opnd}
use Rattle.isa386.specs.declared.ins.Opnd.TheVariants.{Reg, Mem}
use Rattle.isa386.specs.declared.ins.Way.TheVariants.{ToOperand, ToRegister}
use Rattle.isa386.specs.declared.ins.Dest.TheVariants.{Register, Operand}
use Rattle.isa386.specs.declared.ins.Narrow.TheVariants.{ByteToOperand, ByteToRegister, WordToOperand}
use Rattle.isa386.specs.declared.ins.StackOp.TheVariants.{Push, PushImm, Pop}
use Rattle.isa386.specs.declared.ins.UnaryOp.TheVariants.{Not, Neg}
use Rattle.isa386.specs.declared.ins.DivideOp.TheVariants.{Unsigned, Signed}
use Rattle.isa386.specs.declared.ins.Callee.TheVariants.{Relative, Indirect}
use Rattle.isa386.specs.declared.ins.Target.TheVariants.{Near, Short}
use Rattle.isa386.specs.declared.ins.PlainOp.TheVariants.{Ret, Leave, Nop}
use Rattle.isa386.specs.declared.ins.StringOp.TheVariants.{RepMovsb, RepStosb, Cld}
use Rattle.isa386.specs.declared.ins.Ins.{Ins}
use Rattle.isa386.specs.declared.ins.Ins.TheVariants.{Move, MoveImm, MoveNarrow, Lea, Stack, ArithTo, ArithFrom, ArithImm, Test, Imul, Unary, Divide, Cltd, Shift, Set, Widen, Call, Jump, Branch, Plain, Int3, Str, Lcall}
use Rattle.asm_item.specs.declared.args.Size.{Size}
use Rattle.asm_item.specs.declared.args.Size.TheVariants as sizes
use Rattle.isa386.specs.declared.field.Field.{Field}
use Rattle.isa386.specs.declared.field.Field.TheVariants as fields
use Rattle.asm_item.specs.declared.model.Label.{Label}
use Rattle.asm_item.specs.declared.model.Item.TheVariants as items
use Rattle.asm_item.specs.declared.words.Keyword.TheVariants as words
use Rattle.asm_item.specs.Args.{Op, register, number, name, plus, minus, base, Argument, plain, imm, unsigned, signed}
use Rattle.asm_item.specs.Rows as rows
use Rattle.asm_item.specs.Normal as normal
use Rattle.asm_item.specs.Normal.{is_full, is_signed, is_zero, is_operand, is_memory, is_base, is_based, is_wide, is_free_memory, is_free_number, is_free_distance, is_labelled, is_first, is_name}
use Rattle.asm_read.specs.Numerals.{◌>>=◌, full_of, signed_of}
use Rattle.asm_read.specs.Table.{Coded, Placed, Valued, Paired, Pair, stored, loaded, given, coded, placed, named, absolute, behind, is_size, operand_of, register_of, immediate, one_label, from_register, to_register, from_number, pair, of_pair, paired, multiplied, widened, single, shifted, two, jump, call, stack, push_number, pushl, one, alone}
use Rattle.asm_read.specs.Table as table
use Rattle.asm_read.specs.Stmts.{item, code, make}
use Rattle.asm_read.proofs.Joined.{and_left, and_right}

-- ---- numbers

pub full_unsigned : (n : ℕ) → is_full n ≡ true → full_of (unsigned n) ≡ Some n
full_unsigned n h = ap (λ b. cond b (Some n) None) h

within_negative : (n : ℕ) → n < 2147483648 → full_of record { minus = true; size = suc n } ≡ Some (4294967296 - suc n)
within_negative n h = grind (arith, nat_tests)

high : (n : ℕ) → 2147483648 ≤ n → nat_lt n 2147483648 ≡ false
high n h = grind (arith, nat_tests)

pub to_high : (n : ℕ) → 2147483648 ≤ n → cast_signed w32 n ≡ negsuc (4294967296 - suc n)
to_high n h = ap (λ b. sel b (pos n) (negsuc (4294967296 - suc n))) (high n h)

to_negative : (n : ℕ) → n < 2147483648 → cast_signed w32 (4294967296 - suc n) ≡ negsuc n
to_negative n h = to_high (4294967296 - suc n) (omega arith) ∙ ap negsuc (omega arith)

pub below : (n k : ℕ) → nat_lt n k ≡ true → n < k
below n k h = grind (arith, nat_tests)

full_small : (n : ℕ) → n < 4294967296 → is_full n ≡ true
full_small n h = grind (arith, nat_tests)

pub signed_again : (d : ℤ) → is_signed d ≡ true → signed_of (signed d) ≡ Some d
signed_again (pos n) h =
    let lt = below n 2147483648 h in
    ap (option_map (cast_signed w32)) (full_unsigned n (full_small n (omega arith))) ∙ ap Some (to_z_pos w32 n lt)
signed_again (negsuc n) h =
    let lt = below n 2147483648 h in
    ap (option_map (cast_signed w32)) (within_negative n lt) ∙ ap Some (to_negative n lt)

cast_low : (n : ℕ) → n < 2147483648 → full_of (signed (cast_signed w32 n)) ≡ Some n
cast_low n h = ap (λ z. full_of (signed z)) (to_z_pos w32 n h) ∙ full_unsigned n (full_small n (omega arith))

cast_high : (n : ℕ) → n < 4294967296 → 2147483648 ≤ n → full_of (signed (cast_signed w32 n)) ≡ Some n
cast_high n h high_is =
    let small : 4294967296 - suc n < 2147483648 = omega arith in
    ap (λ z. full_of (signed z)) (to_high n high_is) ∙ within_negative (4294967296 - suc n) small ∙ ap Some (omega arith)

pub full_again : (n : ℕ) → is_full n ≡ true → full_of (signed (cast_signed w32 n)) ≡ Some n
full_again n h = by (cases_lt n 2147483648)
  where
    small : n < 4294967296
    small = below n 4294967296 h

    by : (n < 2147483648) ⊎ (2147483648 ≤ n) → full_of (signed (cast_signed w32 n)) ≡ Some n
    by (inl low) = cast_low n low
    by (inr up) = cast_high n small up

-- ---- operands

same_size : (s : Size) → is_size s s ≡ true
same_size sizes.Byte = refl
same_size sizes.Short = refl
same_size sizes.Full = refl

wide : (w : Dw) → is_wide w ≡ true → D32 ≡ w
wide D0 h = absurd cc
wide D8 h = absurd cc
wide D32 h = refl

zero_of : (d : ℤ) → is_zero d ≡ true → pos 0 ≡ d
zero_of (pos n) h = ap pos (sym (eqb-true n 0 h))
zero_of (negsuc n) h = absurd cc

no_base : (index : Option (ℕ × ℕ)) → is_base None index ≡ true → None ≡ index
no_base None h = refl
no_base (Some i) h = absurd cc

off_bool : (b : Bool) → cond b false true ≡ true → b ≡ false
off_bool true h = absurd cc
off_bool false h = refl

-- the SIB byte that stands behind a base
sib_is : (b : ℕ) (index : Option (ℕ × ℕ)) → is_based b index ≡ true → cond (nat_eq b 4) (Some (4, 0)) None ≡ index
sib_is b None h = ap (λ x. cond x (Some (4, 0)) None) (off_bool (nat_eq b 4) (and_right (nat_lt b 8) (cond (nat_eq b 4) false true) h))
sib_is b (Some i) h =
    let front = and_left (nat_eq b 4 && nat_eq i.0 4) (nat_eq i.1 0) h in
    let four = eqb-true i.0 4 (and_right (nat_eq b 4) (nat_eq i.0 4) front) in
    let none = eqb-true i.1 0 (and_right (nat_eq b 4 && nat_eq i.0 4) (nat_eq i.1 0) h) in
    ap (λ x. cond x (Some (4, 0)) None) (and_left (nat_eq b 4) (nat_eq i.0 4) front) ∙ ap (λ (x : ℕ). Some (x, 0)) (sym four) ∙ ap (λ (y : ℕ). Some (i.0, y)) (sym none)

-- an operand of memory, by its parts
memory_is : (b : Option ℕ) (index : Option (ℕ × ℕ)) (d : ℤ) (w : Dw) → is_memory (Mem b index d w) ≡ true → (is_base b index ≡ true) × (is_wide w ≡ true) × (is_signed d ≡ true)
memory_is b index d w h =
    let front = and_left (is_base b index && is_wide w) (is_signed d) h in
    (and_left (is_base b index) (is_wide w) front, and_right (is_base b index) (is_wide w) front, and_right (is_base b index && is_wide w) (is_signed d) h)

placed_memory : (s : Size) (b : Option ℕ) (index : Option (ℕ × ℕ)) (d : ℤ) (w : Dw) → is_memory (Mem b index d w) ≡ true → operand_of s (rows.operand s (Mem b index d w) None) ≡ placed (Mem b index d w) None
placed_memory s None index d w h =
    let m = memory_is None index d w h in
    ap (λ o. o >>= λ d. placed (absolute d) None) (signed_again d m.2) ∙ ap (λ i. placed (Mem None i d D32) None) (no_base index m.0) ∙ ap (λ w. placed (Mem None index d w) None) (wide w m.1)
placed_memory s (Some b) index d w h =
    let m = memory_is (Some b) index d w h in
    ap (λ o. o >>= λ d. placed (behind b d) None) (signed_again d m.2) ∙ ap (λ i. placed (Mem (Some b) i d D32) None) (sib_is b index m.0) ∙ ap (λ w. placed (Mem (Some b) index d w) None) (wide w m.1)

placed_none : (s : Size) (o : Opnd) → is_operand s o ≡ true → operand_of s (rows.operand s o None) ≡ placed o None
placed_none s (Reg r) h = ap (λ b. cond b (placed (Reg r) None) None) (same_size s)
placed_none s (Mem b index d w) h = placed_memory s b index d w h

abbrev pub label : Field → List ℕ → ℤ → Option Label
label f k z = Some record { field = f; name = k; add = z }

name_placed : (s : Size) (k : List ℕ) (z : ℤ) → is_signed z ≡ true → operand_of s (rows.name_and k z) ≡ placed (absolute (pos 0)) (label fields.Disp k z)
name_placed s k (pos zero) h = refl
name_placed s k (pos (suc n)) h = ap (λ o. o >>= λ d. placed (absolute (pos 0)) (named fields.Disp k d)) (signed_again (pos (suc n)) h)
name_placed s k (negsuc n) h = ap (λ o. o >>= λ d. placed (absolute (pos 0)) (named fields.Disp k d)) (signed_again (negsuc n) h)

placed_disp : (s : Size) (o : Opnd) (k : List ℕ) (z : ℤ) → is_operand s o ≡ true → is_free_memory (Some o) ≡ true → is_signed z ≡ true → operand_of s (rows.operand s o (label fields.Disp k z)) ≡ placed o (label fields.Disp k z)
placed_disp s (Reg r) k z h free fits = absurd cc
placed_disp s (Mem (Some b) index d w) k z h free fits = absurd cc
placed_disp s (Mem None index d w) k z h free fits =
    let m = memory_is None index d w h in
    name_placed s k z fits
    ∙ ap (λ d. placed (Mem None None d D32) (label fields.Disp k z)) (zero_of d free)
    ∙ ap (λ i. placed (Mem None i d D32) (label fields.Disp k z)) (no_base index m.0)
    ∙ ap (λ w. placed (Mem None index d w) (label fields.Disp k z)) (wide w m.1)

-- an instruction with an operand, and no number and no distance
pub record HasOperand (i : Ins) (o : Opnd) : Type 0 where
  pub operand : normal.operand_of i ≡ Some o
  pub number : normal.number_of i ≡ None
  pub distance : normal.distance_of i ≡ None

pub not_true : (b : Bool) → b ≡ true → b ≡ false → ⊥
not_true b h e = let no1 : true ≡ false = sym h ∙ e in cc

pub labelled : (i : Ins) (f : Field) (k : List ℕ) (z : ℤ) → is_labelled i (label f k z) ≡ true → normal.is_place i f z ≡ true
labelled i f k z h = and_right (is_name k) (normal.is_place i f z) h

only_operand : (s : Size) (i : Ins) (o : Opnd) (l : Option Label) → HasOperand i o → is_operand s o ≡ true → is_labelled i l ≡ true → operand_of s (rows.operand s o l) ≡ placed o l
only_operand s i o None has h fits = placed_none s o h
only_operand s i o (Some l) has h fits = by l.field l.name l.add fits
  where
    by : (f : Field) (k : List ℕ) (z : ℤ) → is_labelled i (label f k z) ≡ true → operand_of s (rows.operand s o (label f k z)) ≡ placed o (label f k z)
    by fields.Disp k z fits =
        let at = labelled i fields.Disp k z fits in
        let free = ap is_free_memory (sym has.operand) ∙ and_left (is_free_memory (normal.operand_of i)) (is_signed z) at in
        placed_disp s o k z h free (and_right (is_free_memory (normal.operand_of i)) (is_signed z) at)
    by fields.Imm k z fits =
        let at = labelled i fields.Imm k z fits in
        absurd (not_true (is_free_number (normal.number_of i)) (and_left (is_free_number (normal.number_of i)) (is_zero z) at) (ap is_free_number has.number))
    by fields.Target k z fits =
        let at = labelled i fields.Target k z fits in
        absurd (not_true (is_free_distance (normal.distance_of i)) (and_left (is_free_distance (normal.distance_of i)) (is_zero z) at) (ap is_free_distance has.distance))

-- ---- two operands

abbrev pub is_register_text : Op → Bool
is_register_text (register s r) = true
is_register_text (number n) = false
is_register_text (name k) = false
is_register_text (plus k n) = false
is_register_text (minus k n) = false
is_register_text (base n r) = false

pair_plain : (s : Size) (x : Op) (b : Argument) → is_register_text x ≡ false → pair s (plain x) b ≡ to_register (operand_of s x) (register_of s b)
pair_plain s (register t r) b h = absurd cc
pair_plain s (number n) b h = refl
pair_plain s (name k) b h = refl
pair_plain s (plus k n) b h = refl
pair_plain s (minus k n) b h = refl
pair_plain s (base n r) b h = refl

name_is_memory : (k : List ℕ) (z : ℤ) → is_register_text (rows.name_and k z) ≡ false
name_is_memory k (pos zero) = refl
name_is_memory k (pos (suc n)) = refl
name_is_memory k (negsuc n) = refl

absolute_is_memory : (d : ℤ) (l : Option Label) → is_register_text (rows.absolute d l) ≡ false
absolute_is_memory d None = refl
absolute_is_memory d (Some l) = name_is_memory l.name l.add

memory_text : (s : Size) (o : Opnd) (l : Option Label) → is_memory o ≡ true → is_register_text (rows.operand s o l) ≡ false
memory_text s (Reg r) l h = absurd cc
memory_text s (Mem None index d w) l h = absolute_is_memory d (rows.label_in fields.Disp l)
memory_text s (Mem (Some b) index d w) l h = refl

pub memory_operand : (s : Size) (o : Opnd) → is_memory o ≡ true → is_operand s o ≡ true
memory_operand s (Reg r) h = absurd cc
memory_operand s (Mem b index d w) h = h

size_again : (s : Size) (r : ℕ) → register_of s (plain (register s r)) ≡ Some r
size_again s r = ap (λ b. cond b (Some r) None) (same_size s)

stored_pair : (s : Size) (i : Ins) (r : ℕ) (o : Opnd) (l : Option Label) → HasOperand i o → is_operand s o ≡ true → is_labelled i l ≡ true
    → pair s (plain (register s r)) (plain (rows.operand s o l)) ≡ Some record { pair = stored r o; label = l }
stored_pair s i r o l has h fits =
    ap (λ q. from_register q (operand_of s (rows.operand s o l))) (size_again s r) ∙ ap (λ p. from_register (Some r) p) (only_operand s i o l has h fits)

loaded_pair : (s : Size) (i : Ins) (r : ℕ) (o : Opnd) (l : Option Label) → HasOperand i o → is_memory o ≡ true → is_labelled i l ≡ true
    → pair s (plain (rows.operand s o l)) (plain (register s r)) ≡ Some record { pair = loaded o r; label = l }
loaded_pair s i r o l has h fits =
    pair_plain s (rows.operand s o l) (plain (register s r)) (memory_text s o l h)
    ∙ ap (λ q. to_register (operand_of s (rows.operand s o l)) q) (size_again s r) ∙ ap (λ p. to_register p (Some r)) (only_operand s i o l has (memory_operand s o h) fits)

-- a number and an operand, of which one may have the label
pub record HasBoth (i : Ins) (o : Opnd) (n : ℕ) : Type 0 where
  pub operand : normal.operand_of i ≡ Some o
  pub number : normal.number_of i ≡ Some n
  pub distance : normal.distance_of i ≡ None

number_valued : (n : ℕ) → is_full n ≡ true → immediate (imm (signed (cast_signed w32 n))) ≡ Some record { value = n; label = None }
number_valued n h = ap (λ o. o >>= λ x. Some record { value = x; label = None }) (full_again n h)

-- the label of the number is not the operand's
without_name : (s : Size) (o : Opnd) (k : List ℕ) (z : ℤ) → rows.operand s o (label fields.Imm k z) ≡ rows.operand s o None
without_name s (Reg r) k z = refl
without_name s (Mem None index d w) k z = refl
without_name s (Mem (Some b) index d w) k z = refl

given_pair : (s : Size) (i : Ins) (n : ℕ) (o : Opnd) (l : Option Label) → HasBoth i o n → is_operand s o ≡ true → is_full n ≡ true → is_labelled i l ≡ true
    → pair s (rows.immediate n l) (plain (rows.operand s o l)) ≡ Some record { pair = given n o; label = l }
given_pair s i n o None has h full fits =
    ap (λ v. from_number v (operand_of s (rows.operand s o None))) (number_valued n full) ∙ ap (λ p. from_number (Some record { value = n; label = None }) p) (placed_none s o h)
given_pair s i n o (Some l) has h full fits = by l.field l.name l.add fits
  where
    by : (f : Field) (k : List ℕ) (z : ℤ) → is_labelled i (label f k z) ≡ true → pair s (rows.immediate n (label f k z)) (plain (rows.operand s o (label f k z))) ≡ Some record { pair = given n o; label = label f k z }
    by fields.Disp k z fits =
        let at = labelled i fields.Disp k z fits in
        let free = ap is_free_memory (sym has.operand) ∙ and_left (is_free_memory (normal.operand_of i)) (is_signed z) at in
        ap (λ v. from_number v (operand_of s (rows.operand s o (label fields.Disp k z)))) (number_valued n full)
        ∙ ap (λ p. from_number (Some record { value = n; label = None }) p) (placed_disp s o k z h free (and_right (is_free_memory (normal.operand_of i)) (is_signed z) at))
    by fields.Imm k z fits =
        let at = labelled i fields.Imm k z fits in
        let free : nat_eq n 0 ≡ true = ap is_free_number (sym has.number) ∙ and_left (is_free_number (normal.number_of i)) (is_zero z) at in
        let none = zero_of z (and_right (is_free_number (normal.number_of i)) (is_zero z) at) in
        let first : pair s (rows.immediate n (label fields.Imm k z)) (plain (rows.operand s o (label fields.Imm k z))) ≡ Some record { pair = given 0 o; label = label fields.Imm k (pos 0) } = ap (λ x. from_number (Some record { value = 0; label = label fields.Imm k (pos 0) }) (operand_of s x)) (without_name s o k z) ∙ ap (λ p. from_number (Some record { value = 0; label = label fields.Imm k (pos 0) }) p) (placed_none s o h) in
        first
        ∙ ap (λ (x : ℕ). Some record { pair = given x o; label = label fields.Imm k (pos 0) }) (sym (eqb-true n 0 free))
        ∙ ap (λ z. Some record { pair = given n o; label = label fields.Imm k z }) none
    by fields.Target k z fits =
        let at = labelled i fields.Target k z fits in
        absurd (not_true (is_free_distance (normal.distance_of i)) (and_left (is_free_distance (normal.distance_of i)) (is_zero z) at) (ap is_free_distance has.distance))

-- a number alone
pub record HasNumber (i : Ins) (n : ℕ) : Type 0 where
  pub operand : normal.operand_of i ≡ None
  pub number : normal.number_of i ≡ Some n
  pub distance : normal.distance_of i ≡ None

only_number : (i : Ins) (n : ℕ) (l : Option Label) → HasNumber i n → is_full n ≡ true → is_labelled i l ≡ true → immediate (rows.immediate n l) ≡ Some record { value = n; label = l }
only_number i n None has full fits = number_valued n full
only_number i n (Some l) has full fits = by l.field l.name l.add fits
  where
    by : (f : Field) (k : List ℕ) (z : ℤ) → is_labelled i (label f k z) ≡ true → immediate (rows.immediate n (label f k z)) ≡ Some record { value = n; label = label f k z }
    by fields.Disp k z fits =
        let at = labelled i fields.Disp k z fits in
        absurd (not_true (is_free_memory (normal.operand_of i)) (and_left (is_free_memory (normal.operand_of i)) (is_signed z) at) (ap is_free_memory has.operand))
    by fields.Imm k z fits =
        let at = labelled i fields.Imm k z fits in
        let free : nat_eq n 0 ≡ true = ap is_free_number (sym has.number) ∙ and_left (is_free_number (normal.number_of i)) (is_zero z) at in
        let none = zero_of z (and_right (is_free_number (normal.number_of i)) (is_zero z) at) in
        ap (λ (x : ℕ). Some record { value = x; label = label fields.Imm k (pos 0) }) (sym (eqb-true n 0 free)) ∙ ap (λ z. Some record { value = n; label = label fields.Imm k z }) none
    by fields.Target k z fits =
        let at = labelled i fields.Target k z fits in
        absurd (not_true (is_free_distance (normal.distance_of i)) (and_left (is_free_distance (normal.distance_of i)) (is_zero z) at) (ap is_free_distance has.distance))

-- no field that could hold a label
pub record HasNone (i : Ins) : Type 0 where
  pub operand : normal.operand_of i ≡ None
  pub number : normal.number_of i ≡ None
  pub distance : normal.distance_of i ≡ None

no_label : (i : Ins) (l : Option Label) → HasNone i → is_labelled i l ≡ true → None ≡ l
no_label i None has fits = refl
no_label i (Some l) has fits = by l.field l.name l.add fits
  where
    by : (f : Field) (k : List ℕ) (z : ℤ) → is_labelled i (label f k z) ≡ true → None ≡ label f k z
    by fields.Disp k z fits = absurd (not_true (is_free_memory (normal.operand_of i)) (and_left (is_free_memory (normal.operand_of i)) (is_signed z) (labelled i fields.Disp k z fits)) (ap is_free_memory has.operand))
    by fields.Imm k z fits = absurd (not_true (is_free_number (normal.number_of i)) (and_left (is_free_number (normal.number_of i)) (is_zero z) (labelled i fields.Imm k z fits)) (ap is_free_number has.number))
    by fields.Target k z fits = absurd (not_true (is_free_distance (normal.distance_of i)) (and_left (is_free_distance (normal.distance_of i)) (is_zero z) (labelled i fields.Target k z fits)) (ap is_free_distance has.distance))

-- a jump or call to a name
jumped : (f : ℤ → Ins) (d : ℤ) (l : Option Label) → normal.distance_of (f d) ≡ Some d → normal.operand_of (f d) ≡ None → normal.number_of (f d) ≡ None → is_labelled (f d) l ≡ true
    → jump (f (pos 0)) (rows.destination d l) ≡ coded (f d) l
jumped f d None distance operand numbered fits = absurd (not_true (normal.has_no_distance (normal.distance_of (f d))) fits (ap normal.has_no_distance distance))
jumped f d (Some l) distance operand numbered fits = by l.field l.name l.add fits
  where
    by : (g : Field) (k : List ℕ) (z : ℤ) → is_labelled (f d) (label g k z) ≡ true → jump (f (pos 0)) (rows.destination d (label g k z)) ≡ coded (f d) (label g k z)
    by fields.Disp k z fits = absurd (not_true (is_free_memory (normal.operand_of (f d))) (and_left (is_free_memory (normal.operand_of (f d))) (is_signed z) (labelled (f d) fields.Disp k z fits)) (ap is_free_memory operand))
    by fields.Imm k z fits = absurd (not_true (is_free_number (normal.number_of (f d))) (and_left (is_free_number (normal.number_of (f d))) (is_zero z) (labelled (f d) fields.Imm k z fits)) (ap is_free_number numbered))
    by fields.Target k z fits =
        let at = labelled (f d) fields.Target k z fits in
        let free : is_zero d ≡ true = ap is_free_distance (sym distance) ∙ and_left (is_free_distance (normal.distance_of (f d))) (is_zero z) at in
        let none = zero_of z (and_right (is_free_distance (normal.distance_of (f d))) (is_zero z) at) in
        ap (λ d. coded (f d) (label fields.Target k (pos 0))) (zero_of d free) ∙ ap (λ z. coded (f d) (label fields.Target k z)) none

-- ---- rows

-- a number to a register, to memory, on the stack
call_destination : (d : ℤ) (l : Option Label) → call (rows.destination d l) ≡ jump (Call (Relative (pos 0))) (rows.destination d l)
call_destination d l = by (rows.label_in fields.Target l)
  where
    by : (m : Option Label) → call (rows.destination_by d m) ≡ jump (Call (Relative (pos 0))) (rows.destination_by d m)
    by None = refl
    by (Some l) = refl

push_immediate : (n : ℕ) (l : Option Label) → pushl (rows.immediate n l) ≡ push_number (immediate (rows.immediate n l))
push_immediate n l = by (rows.label_in fields.Imm l)
  where
    by : (m : Option Label) → pushl (rows.immediate_by n m) ≡ push_number (immediate (rows.immediate_by n m))
    by None = refl
    by (Some l) = refl

pair_immediate : (s : Size) (n : ℕ) (l : Option Label) (b : Argument) → pair s (rows.immediate n l) b ≡ from_number (immediate (rows.immediate n l)) (table.operand s b)
pair_immediate s n l b = by (rows.label_in fields.Imm l)
  where
    by : (m : Option Label) → pair s (rows.immediate_by n m) b ≡ from_number (immediate (rows.immediate_by n m)) (table.operand s b)
    by None = refl
    by (Some l) = refl

abbrev pub valued : ℕ → Option Label → Valued
valued n l = record { value = n; label = l }

abbrev pub second : Pair → Option Label → Paired
second p l = record { pair = p; label = l }

no_second : (n : ℕ) (l : Option Label) (o : Opnd) → from_number (Some (valued n l)) (placed o None) ≡ Some (second (given n o) l)
no_second n None o = refl
no_second n (Some l) o = refl

made_move_register : (r n : ℕ) (l : Option Label) → is_first (MoveImm (Register r) n) ≡ true → is_labelled (MoveImm (Register r) n) l ≡ true → make words.Movl (rows.immediate n l ∷ (rows.full r ∷ [])) ≡ Some (item (items.Code (MoveImm (Register r) n) l))
made_move_register r n l h fits =
    ap (λ p. code (paired words.Movl p)) (pair_immediate sizes.Full n l (rows.full r) ∙ ap (λ v. from_number v (placed (Reg r) None)) (only_number (MoveImm (Register r) n) n l (record { operand = refl; number = refl; distance = refl }) (and_right (normal.is_register sizes.Full r) (is_full n) h) fits) ∙ no_second n l (Reg r))

memory_move : (n : ℕ) (o : Opnd) (l : Option Label) → is_memory o ≡ true → code (paired words.Movl (Some record { pair = given n o; label = l })) ≡ Some (item (items.Code (MoveImm (Operand o) n) l))
memory_move n (Reg r) l h = absurd cc
memory_move n (Mem b index d w) l h = refl

made_move_memory : (o : Opnd) (n : ℕ) (l : Option Label) → is_first (MoveImm (Operand o) n) ≡ true → is_labelled (MoveImm (Operand o) n) l ≡ true → make words.Movl (rows.immediate n l ∷ (rows.rm o l ∷ [])) ≡ Some (item (items.Code (MoveImm (Operand o) n) l))
made_move_memory o n l h fits =
    let memory = and_left (is_memory o) (is_full n) h in
    ap (λ p. code (paired words.Movl p)) (given_pair sizes.Full (MoveImm (Operand o) n) n o l (record { operand = refl; number = refl; distance = refl }) (memory_operand sizes.Full o memory) (and_right (is_memory o) (is_full n) h) fits) ∙ memory_move n o l memory

made_push : (n : ℕ) (l : Option Label) → is_first (Stack (PushImm n)) ≡ true → is_labelled (Stack (PushImm n)) l ≡ true → make words.Pushl (rows.immediate n l ∷ []) ≡ Some (item (items.Code (Stack (PushImm n)) l))
made_push n l h fits = ap code (push_immediate n l ∙ ap push_number (only_number (Stack (PushImm n)) n l (record { operand = refl; number = refl; distance = refl }) h fits))

abbrev pub Made : Ins → Option Label → Type 0
Made i l = make (rows.row i l).word (rows.row i l).args ≡ Some (item (items.Code i l))

pub made_row : (i : Ins) (l : Option Label) → is_first i ≡ true → is_labelled i l ≡ true → Made i l
made_row (Move ToOperand r o) l h fits = ap (λ p. code (paired words.Movl p)) (stored_pair sizes.Full (Move ToOperand r o) r o l (record { operand = refl; number = refl; distance = refl }) (and_right (normal.is_register sizes.Full r) (is_operand sizes.Full o) h) fits)
made_row (Move ToRegister r o) l h fits = ap (λ p. code (paired words.Movl p)) (loaded_pair sizes.Full (Move ToRegister r o) r o l (record { operand = refl; number = refl; distance = refl }) (and_right (normal.is_register sizes.Full r) (is_memory o) h) fits)
made_row (MoveImm (Register r) n) l h fits = made_move_register r n l h fits
made_row (MoveImm (Operand o) n) l h fits = made_move_memory o n l h fits
made_row (MoveNarrow ByteToOperand r o) l h fits = ap (λ p. code (paired words.Movb p)) (stored_pair sizes.Byte (MoveNarrow ByteToOperand r o) r o l (record { operand = refl; number = refl; distance = refl }) (and_right (normal.is_register sizes.Byte r) (is_operand sizes.Byte o) h) fits)
made_row (MoveNarrow ByteToRegister r o) l h fits = ap (λ p. code (paired words.Movb p)) (loaded_pair sizes.Byte (MoveNarrow ByteToRegister r o) r o l (record { operand = refl; number = refl; distance = refl }) (and_right (normal.is_register sizes.Byte r) (is_memory o) h) fits)
made_row (MoveNarrow WordToOperand r o) l h fits = ap (λ p. code (paired words.Movw p)) (stored_pair sizes.Short (MoveNarrow WordToOperand r o) r o l (record { operand = refl; number = refl; distance = refl }) (and_right (normal.is_register sizes.Short r) (is_operand sizes.Short o) h) fits)
made_row (Lea r o) l h fits = ap (λ p. code (paired words.Leal p)) (loaded_pair sizes.Full (Lea r o) r o l (record { operand = refl; number = refl; distance = refl }) (and_right (normal.is_register sizes.Full r) (is_memory o) h) fits)
made_row (Stack (Push r)) l h fits = ap (λ l. Some (item (items.Code (Stack (Push r)) l))) (no_label (Stack (Push r)) l (record { operand = refl; number = refl; distance = refl }) fits)
made_row (Stack (PushImm n)) l h fits = made_push n l h fits
made_row (Stack (Pop r)) l h fits = ap (λ l. Some (item (items.Code (Stack (Pop r)) l))) (no_label (Stack (Pop r)) l (record { operand = refl; number = refl; distance = refl }) fits)
made_row (ArithTo op r o) l h fits = ap (λ p. code (paired (words.Arith op) p)) (stored_pair sizes.Full (ArithTo op r o) r o l (record { operand = refl; number = refl; distance = refl }) (and_right (normal.is_register sizes.Full r) (is_operand sizes.Full o) h) fits)
made_row (ArithFrom op r o) l h fits = ap (λ p. code (paired (words.Arith op) p)) (loaded_pair sizes.Full (ArithFrom op r o) r o l (record { operand = refl; number = refl; distance = refl }) (and_right (normal.is_register sizes.Full r) (is_memory o) h) fits)
made_row (ArithImm op o n) l h fits =
    ap (λ p. code (paired (words.Arith op) p)) (given_pair sizes.Full (ArithImm op o n) n o l (record { operand = refl; number = refl; distance = refl }) (and_left (is_operand sizes.Full o) (is_full n) h) (and_right (is_operand sizes.Full o) (is_full n) h) fits)
made_row (Test r o) l h fits = ap (λ p. code (paired words.Testl p)) (stored_pair sizes.Full (Test r o) r o l (record { operand = refl; number = refl; distance = refl }) (and_right (normal.is_register sizes.Full r) (is_operand sizes.Full o) h) fits)
made_row (Imul r o) l h fits = ap (λ p. code (multiplied p (Some r))) (only_operand sizes.Full (Imul r o) o l (record { operand = refl; number = refl; distance = refl }) (and_right (normal.is_register sizes.Full r) (is_operand sizes.Full o) h) fits)
made_row (Unary Not o) l h fits = ap (λ p. code (single words.Notl p)) (only_operand sizes.Full (Unary Not o) o l (record { operand = refl; number = refl; distance = refl }) h fits)
made_row (Unary Neg o) l h fits = ap (λ p. code (single words.Negl p)) (only_operand sizes.Full (Unary Neg o) o l (record { operand = refl; number = refl; distance = refl }) h fits)
made_row (Divide Unsigned o) l h fits = ap (λ p. code (single words.Divl p)) (only_operand sizes.Full (Divide Unsigned o) o l (record { operand = refl; number = refl; distance = refl }) h fits)
made_row (Divide Signed o) l h fits = ap (λ p. code (single words.Idivl p)) (only_operand sizes.Full (Divide Signed o) o l (record { operand = refl; number = refl; distance = refl }) h fits)
made_row Cltd l h fits = ap (λ l. Some (item (items.Code Cltd l))) (no_label Cltd l (record { operand = refl; number = refl; distance = refl }) fits)
made_row (Shift op o) l h fits = ap (λ p. code (shifted (words.Shift op) (Some 1) p)) (only_operand sizes.Full (Shift op o) o l (record { operand = refl; number = refl; distance = refl }) h fits)
made_row (Set c o) l h fits = ap (λ p. code (single (words.Set c) p)) (only_operand sizes.Byte (Set c o) o l (record { operand = refl; number = refl; distance = refl }) h fits)
made_row (Widen op r o) l h fits = ap (λ p. code (widened op p (Some r))) (only_operand (rows.source_size op) (Widen op r o) o l (record { operand = refl; number = refl; distance = refl }) (and_right (normal.is_register sizes.Full r) (is_operand (rows.source_size op) o) h) fits)
made_row (Call (Relative d)) l h fits = ap code (call_destination d l ∙ jumped (λ d. Call (Relative d)) d l refl refl refl fits)
made_row (Call (Indirect o)) l h fits = ap (λ p. code (single words.Call p)) (only_operand sizes.Full (Call (Indirect o)) o l (record { operand = refl; number = refl; distance = refl }) h fits)
made_row (Jump (Near d)) l h fits = ap code (jumped (λ d. Jump (Near d)) d l refl refl refl fits)
made_row (Jump (Short d)) l h fits = absurd cc
made_row (Branch c (Near d)) l h fits = ap code (jumped (λ d. Branch c (Near d)) d l refl refl refl fits)
made_row (Branch c (Short d)) l h fits = absurd cc
made_row (Plain Ret) l h fits = ap (λ l. Some (item (items.Code (Plain Ret) l))) (no_label (Plain Ret) l (record { operand = refl; number = refl; distance = refl }) fits)
made_row (Plain Leave) l h fits = ap (λ l. Some (item (items.Code (Plain Leave) l))) (no_label (Plain Leave) l (record { operand = refl; number = refl; distance = refl }) fits)
made_row (Plain Nop) l h fits = ap (λ l. Some (item (items.Code (Plain Nop) l))) (no_label (Plain Nop) l (record { operand = refl; number = refl; distance = refl }) fits)
made_row Int3 l h fits = ap (λ l. Some (item (items.Code Int3 l))) (no_label Int3 l (record { operand = refl; number = refl; distance = refl }) fits)
made_row (Str RepMovsb) l h fits = ap (λ l. Some (item (items.Code (Str RepMovsb) l))) (no_label (Str RepMovsb) l (record { operand = refl; number = refl; distance = refl }) fits)
made_row (Str RepStosb) l h fits = ap (λ l. Some (item (items.Code (Str RepStosb) l))) (no_label (Str RepStosb) l (record { operand = refl; number = refl; distance = refl }) fits)
made_row (Str Cld) l h fits = ap (λ l. Some (item (items.Code (Str Cld) l))) (no_label (Str Cld) l (record { operand = refl; number = refl; distance = refl }) fits)
made_row Lcall l h fits = ap (λ l. Some (item (items.Code Lcall l))) (no_label Lcall l (record { operand = refl; number = refl; distance = refl }) fits)
