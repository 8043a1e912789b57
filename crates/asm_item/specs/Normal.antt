-- Items that are normal: what print writes of them is read as the same items.
use Rattle.std.specs.Prelude.{ℕ, ◌+◌, List, [], ◌∷◌, length, ℤ, pos, negsuc, Option, Some, None, Bool, true, false, ◌==◌, ◌&&◌, ◌||◌, nat_lt, nat_le, if◌then◌else◌}
use Rattle.std.specs.List.{list_all}
use Rattle.isa386.specs.declared.ins.Dw.{Dw}
use Rattle.isa386.specs.declared.ins.Dw.TheVariants.{D0, D8, D32}
use Rattle.isa386.specs.declared.ins.Opnd.{Opnd}
use Rattle.isa386.specs.declared.ins.Ins.{Ins}
use Rattle.isa386.specs.declared.ins.Opnd.TheVariants.{Reg, Mem}
use Rattle.isa386.specs.declared.ins.Way.TheVariants.{ToOperand, ToRegister}
use Rattle.isa386.specs.declared.ins.Dest.TheVariants.{Register, Operand}
use Rattle.isa386.specs.declared.ins.Narrow.TheVariants.{ByteToOperand, ByteToRegister, WordToOperand}
use Rattle.isa386.specs.declared.ins.StackOp.TheVariants.{Push, PushImm, Pop}
use Rattle.isa386.specs.declared.ins.Callee.TheVariants.{Relative, Indirect}
use Rattle.isa386.specs.declared.ins.Target.TheVariants as targets
use Rattle.isa386.specs.declared.ins.Ins.TheVariants.{Move, MoveImm, MoveNarrow, Lea, Stack, ArithTo, ArithFrom, ArithImm, Test, Imul, Unary, Divide, Cltd, Shift, Set, Widen, Call, Jump, Branch, Plain, Int3, Str, Lcall}
use Rattle.asm_item.specs.declared.args.Size.{Size}
use Rattle.asm_item.specs.declared.args.Size.TheVariants as sizes
use Rattle.isa386.specs.declared.field.Field.{Field}
use Rattle.isa386.specs.declared.field.Field.TheVariants as fields
use Rattle.asm_item.specs.declared.model.Label.{Label}
use Rattle.asm_item.specs.declared.model.Word.{Word}
use Rattle.asm_item.specs.declared.model.Word.TheVariants as datum
use Rattle.asm_item.specs.declared.model.Val.{Val}
use Rattle.asm_item.specs.declared.model.Val.TheVariants as values
use Rattle.asm_item.specs.declared.model.DefGroup.{DefGroup}
use Rattle.asm_item.specs.declared.model.Item.{Item}
use Rattle.asm_item.specs.declared.model.Item.TheVariants as items
use Rattle.asm_item.specs.Args.{registers}
use Rattle.asm_item.specs.Rows.{source_size}

-- ---- names and numbers

abbrev pub is_digit : ℕ → Bool
is_digit c = nat_le 48 c && nat_le c 57

-- letters, digits, `_` and `.` make names
abbrev pub is_name_byte : ℕ → Bool
is_name_byte c = is_digit c || (nat_le 65 c && nat_le c 90) || (nat_le 97 c && nat_le c 122) || c == 95 || c == 46

-- a name doesn't begin with a digit, and `.` alone is none
abbrev pub is_name : List ℕ → Bool
is_name [] = false
is_name (c ∷ []) = is_name_byte c && (if is_digit c || c == 46 then false else true)
is_name (c ∷ (d ∷ k)) = is_name_byte c && (if is_digit c then false else true) && list_all is_name_byte (d ∷ k)

-- a number of 16 or 32 bits, without and with a sign
abbrev pub is_half : ℕ → Bool
is_half n = nat_lt n 65536

abbrev pub is_full : ℕ → Bool
is_full n = nat_lt n 4294967296

abbrev pub is_signed : ℤ → Bool
is_signed (pos n) = nat_lt n 2147483648
is_signed (negsuc n) = nat_lt n 2147483648

abbrev pub is_zero : ℤ → Bool
is_zero (pos n) = n == 0
is_zero (negsuc n) = false

-- ---- operands

abbrev pub is_register : Size → ℕ → Bool
is_register size r = nat_lt r (registers size)

abbrev pub is_wide : Dw → Bool
is_wide D0 = false
is_wide D8 = false
is_wide D32 = true

-- a SIB byte stands exactly where the base is esp, and names no index register
abbrev pub is_based : ℕ → Option (ℕ × ℕ) → Bool
is_based b None = nat_lt b 8 && (if b == 4 then false else true)
is_based b (Some index) = b == 4 && index.0 == 4 && index.1 == 0

abbrev pub is_base : Option ℕ → Option (ℕ × ℕ) → Bool
is_base None None = true
is_base None (Some index) = false
is_base (Some b) index = is_based b index

-- memory, with a displacement of four bytes
abbrev pub is_memory : Opnd → Bool
is_memory (Reg r) = false
is_memory (Mem b index d w) = is_base b index && is_wide w && is_signed d

abbrev pub is_operand : Size → Opnd → Bool
is_operand size (Reg r) = is_register size r
is_operand size (Mem b index d w) = is_memory (Mem b index d w)

-- ---- instructions

-- of the forms with one text, the first; its registers and operands have a text
abbrev pub is_first : Ins → Bool
is_first (Move ToOperand r o) = is_register sizes.Full r && is_operand sizes.Full o
is_first (Move ToRegister r o) = is_register sizes.Full r && is_memory o
is_first (MoveImm (Register r) n) = is_register sizes.Full r && is_full n
is_first (MoveImm (Operand o) n) = is_memory o && is_full n
is_first (MoveNarrow ByteToOperand r o) = is_register sizes.Byte r && is_operand sizes.Byte o
is_first (MoveNarrow ByteToRegister r o) = is_register sizes.Byte r && is_memory o
is_first (MoveNarrow WordToOperand r o) = is_register sizes.Short r && is_operand sizes.Short o
is_first (Lea r o) = is_register sizes.Full r && is_memory o
is_first (Stack (Push r)) = is_register sizes.Full r
is_first (Stack (PushImm n)) = is_full n
is_first (Stack (Pop r)) = is_register sizes.Full r
is_first (ArithTo op r o) = is_register sizes.Full r && is_operand sizes.Full o
is_first (ArithFrom op r o) = is_register sizes.Full r && is_memory o
is_first (ArithImm op o n) = is_operand sizes.Full o && is_full n
is_first (Test r o) = is_register sizes.Full r && is_operand sizes.Full o
is_first (Imul r o) = is_register sizes.Full r && is_operand sizes.Full o
is_first (Unary op o) = is_operand sizes.Full o
is_first (Divide op o) = is_operand sizes.Full o
is_first Cltd = true
is_first (Shift op o) = is_operand sizes.Full o
is_first (Set c o) = is_operand sizes.Byte o
is_first (Widen op r o) = is_register sizes.Full r && is_operand (source_size op) o
is_first (Call (Relative d)) = true
is_first (Call (Indirect o)) = is_operand sizes.Full o
is_first (Jump (targets.Near d)) = true
is_first (Jump (targets.Short d)) = false
is_first (Branch c (targets.Near d)) = true
is_first (Branch c (targets.Short d)) = false
is_first (Plain op) = true
is_first Int3 = true
is_first (Str op) = true
is_first Lcall = true

-- the operand that a ModRM byte names, the number, and the distance, where the instruction has them
abbrev pub operand_of : Ins → Option Opnd
operand_of (Move way r o) = Some o
operand_of (MoveImm (Register r) n) = None
operand_of (MoveImm (Operand o) n) = Some o
operand_of (MoveNarrow op r o) = Some o
operand_of (Lea r o) = Some o
operand_of (Stack op) = None
operand_of (ArithTo op r o) = Some o
operand_of (ArithFrom op r o) = Some o
operand_of (ArithImm op o n) = Some o
operand_of (Test r o) = Some o
operand_of (Imul r o) = Some o
operand_of (Unary op o) = Some o
operand_of (Divide op o) = Some o
operand_of Cltd = None
operand_of (Shift op o) = Some o
operand_of (Set c o) = Some o
operand_of (Widen op r o) = Some o
operand_of (Call (Relative d)) = None
operand_of (Call (Indirect o)) = Some o
operand_of (Jump t) = None
operand_of (Branch c t) = None
operand_of (Plain op) = None
operand_of Int3 = None
operand_of (Str op) = None
operand_of Lcall = None

abbrev pub number_of : Ins → Option ℕ
number_of (MoveImm d n) = Some n
number_of (Stack (PushImm n)) = Some n
number_of (ArithImm op o n) = Some n
number_of i = None

abbrev pub distance_of : Ins → Option ℤ
distance_of (Call (Relative d)) = Some d
distance_of (Jump (targets.Near d)) = Some d
distance_of (Jump (targets.Short d)) = Some d
distance_of (Branch c (targets.Near d)) = Some d
distance_of (Branch c (targets.Short d)) = Some d
distance_of i = None

-- memory without a base register, whose own number is 0
abbrev pub is_free_memory : Option Opnd → Bool
is_free_memory (Some (Mem None index d w)) = is_zero d
is_free_memory o = false

abbrev pub is_free_number : Option ℕ → Bool
is_free_number None = false
is_free_number (Some n) = n == 0

abbrev pub is_free_distance : Option ℤ → Bool
is_free_distance None = false
is_free_distance (Some d) = is_zero d

-- the field is one of the instruction's, is 0 in it, and may hold this number beside the name
abbrev pub is_place : Ins → Field → ℤ → Bool
is_place i fields.Disp add = is_free_memory (operand_of i) && is_signed add
is_place i fields.Imm add = is_free_number (number_of i) && is_zero add
is_place i fields.Target add = is_free_distance (distance_of i) && is_zero add

abbrev pub has_no_distance : Option ℤ → Bool
has_no_distance None = true
has_no_distance (Some d) = false

-- a direct jump or call has a label, and any other instruction may have one
abbrev pub is_labelled : Ins → Option Label → Bool
is_labelled i None = has_no_distance (distance_of i)
is_labelled i (Some l) = is_name l.name && is_place i l.field l.add

-- ---- groups and other items

abbrev pub is_value : Val → Bool
is_value (values.Number n) = is_full n
is_value (values.Label k) = is_name k
is_value values.Here = true

abbrev pub is_tag : Option (List ℕ) → Bool
is_tag None = true
is_tag (Some k) = is_name k

-- four numbers of 16 bits
abbrev pub are_dimensions : List ℕ → Bool
are_dimensions ns = length ns == 4 && list_all is_half ns

abbrev pub is_group : DefGroup → Bool
is_group g = is_name g.name && is_value g.val && is_signed g.scl && is_half g.ty && is_tag g.tag && is_half g.line && is_half g.size && are_dimensions g.dims

abbrev pub is_datum : Word → Bool
is_datum (datum.Number n) = is_full n
is_datum (datum.Label k add) = is_name k && is_signed add

-- a byte of a source file's name: not `"`, not a newline, not zero
abbrev pub is_file_byte : ℕ → Bool
is_file_byte c = nat_lt c 256 && (if c == 34 || c == 10 || c == 0 then false else true)

abbrev pub is_file : List ℕ → Bool
is_file k = nat_le 1 (length k) && nat_le (length k) 14 && list_all is_file_byte k

abbrev pub is_item : Item → Bool
is_item (items.Code i l) = is_first i && is_labelled i l
is_item (items.Label k) = is_name k
is_item (items.Byte n) = nat_lt n 256
is_item (items.Value n) = is_half n
is_item (items.Long w) = is_datum w
is_item (items.Zero n) = is_full n
is_item items.Align = true
is_item (items.Section s) = s == 1 || s == 2
is_item (items.Globl k) = is_name k
is_item (items.Comm k n) = is_name k && is_full n
is_item (items.Lcomm k n) = is_name k && is_full n
is_item (items.Def g) = is_group g
is_item (items.Ln n) = nat_le 1 n && is_half n
is_item (items.File k) = is_file k

abbrev pub files_in : Item → ℕ
files_in (items.File k) = 1
files_in i = 0

-- how many .file statements
abbrev pub files : List Item → ℕ
files [] = 0
files (i ∷ is) = files_in i + files is

-- each item is normal, and at most one names the source file
abbrev pub are_normal : List Item → Bool
are_normal is = list_all is_item is && nat_lt (files is) 2
