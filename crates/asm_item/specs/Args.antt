-- The arguments of a statement and their text.
use Rattle.std.specs.Prelude.{ℕ, zero, suc, List, [], ◌∷◌, ◌++◌, codes, decimal, ℤ, pos, negsuc, true, false, if◌then◌else◌}
use Rattle.asm_item.specs.declared.args.Number.{Number}
use Rattle.asm_item.specs.declared.args.Size.{Size}
use Rattle.asm_item.specs.declared.args.Size.TheVariants.{Byte, Short, Full}
use Rattle.asm_item.specs.declared.args.Operand.{Operand}
use Rattle.asm_item.specs.declared.args.Operand.TheVariants as operands
use Rattle.asm_item.specs.declared.args.Arg.{Arg}
use Rattle.asm_item.specs.declared.args.Arg.TheVariants as args

-- what may stand alone or behind `*`
pub data Op : Type 0 where
  register : (size : Size) (r : ℕ) → Op
  number : (n : Number) → Op
  name : (k : List ℕ) → Op
  plus : (k : List ℕ) (n : Number) → Op
  minus : (k : List ℕ) (n : Number) → Op
  base : (n : Number) (r : ℕ) → Op

-- an argument of a statement
pub data Argument : Type 0 where
  plain : (o : Op) → Argument
  star : (o : Op) → Argument
  imm : (n : Number) → Argument
  imm_name : (k : List ℕ) → Argument
  text : (q : List ℕ) → Argument
  here : Argument

-- the code's operands and arguments, which borrow their names
abbrev pub shown_operand : Operand → Op
shown_operand (operands.Register size r) = register size r
shown_operand (operands.Number n) = number n
shown_operand (operands.Name k) = name k.now
shown_operand (operands.Plus k n) = plus k.now n
shown_operand (operands.Minus k n) = minus k.now n
shown_operand (operands.Base n r) = base n r

abbrev pub shown : Arg → Argument
shown (args.Plain o) = plain (shown_operand o)
shown (args.Star o) = star (shown_operand o)
shown (args.Imm n) = imm n
shown (args.ImmName k) = imm_name k.now
shown (args.Text q) = text q.now
shown args.Here = here

-- the names of the registers, by number
abbrev pub full_register : ℕ → List ℕ
full_register zero = codes "eax"
full_register (suc zero) = codes "ecx"
full_register (suc (suc zero)) = codes "edx"
full_register (suc (suc (suc zero))) = codes "ebx"
full_register (suc (suc (suc (suc zero)))) = codes "esp"
full_register (suc (suc (suc (suc (suc zero))))) = codes "ebp"
full_register (suc (suc (suc (suc (suc (suc zero)))))) = codes "esi"
full_register (suc (suc (suc (suc (suc (suc (suc r))))))) = codes "edi"

abbrev pub short_register : ℕ → List ℕ
short_register zero = codes "ax"
short_register (suc zero) = codes "cx"
short_register (suc (suc zero)) = codes "dx"
short_register (suc (suc (suc zero))) = codes "bx"
short_register (suc (suc (suc (suc zero)))) = codes "sp"
short_register (suc (suc (suc (suc (suc zero))))) = codes "bp"
short_register (suc (suc (suc (suc (suc (suc zero)))))) = codes "si"
short_register (suc (suc (suc (suc (suc (suc (suc r))))))) = codes "di"

abbrev pub byte_register : ℕ → List ℕ
byte_register zero = codes "al"
byte_register (suc zero) = codes "cl"
byte_register (suc (suc zero)) = codes "dl"
byte_register (suc (suc (suc r))) = codes "bl"

abbrev pub register_text : Size → ℕ → List ℕ
register_text Full r = full_register r
register_text Short r = short_register r
register_text Byte r = byte_register r

-- how many registers of this size have a name
abbrev pub registers : Size → ℕ
registers Full = 8
registers Short = 8
registers Byte = 4

-- decimal, behind a minus sign or none
abbrev pub number_text : Number → List ℕ
number_text n = (if n.minus then 45 ∷ [] else []) ++ decimal n.size

abbrev pub operand_text : Op → List ℕ
operand_text (register size r) = 37 ∷ register_text size r
operand_text (number n) = number_text n
operand_text (name k) = k
operand_text (plus k n) = k ++ (codes " + " ++ number_text n)
operand_text (minus k n) = k ++ (codes " - " ++ number_text n)
operand_text (base n r) = number_text n ++ (codes "(%" ++ (full_register r ++ codes ")"))

abbrev pub argument_text : Argument → List ℕ
argument_text (plain o) = operand_text o
argument_text (star o) = 42 ∷ operand_text o
argument_text (imm n) = 36 ∷ number_text n
argument_text (imm_name k) = 36 ∷ k
argument_text (text q) = 34 ∷ (q ++ (34 ∷ []))
argument_text here = codes "."

-- numbers with and without a sign
abbrev pub unsigned : ℕ → Number
unsigned n = record { minus = false; size = n }

abbrev pub signed : ℤ → Number
signed (pos n) = record { minus = false; size = n }
signed (negsuc n) = record { minus = true; size = suc n }
