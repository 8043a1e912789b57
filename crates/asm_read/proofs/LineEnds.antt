-- Words and lines: each word is found, and no printed line has a newline in it.
use Rattle.std.proofs.Common.{◌≡◌, ℕ, zero, suc, ◌<◌, ◌^◌, List, [], ◌∷◌, ◌++◌, Bool, true, false, cond, Some, refl, ap, ◌∙◌, arith}
use Rattle.std.specs.Prelude.{nat_eq, ◌&&◌, ◌||◌, codes, decimal}
use Rattle.std.specs.List.{list_all, slice_split, onto_first}
use Rattle.std.proofs.lemmas.Bool.Decides.{nat_tests}
use Rattle.std.proofs.lemmas.List.Folds.{list_all-append}
use Rattle.isa386.specs.declared.ins.ArithOp.TheVariants as ariths
use Rattle.isa386.specs.declared.ins.ShiftOp.TheVariants as shifts
use Rattle.isa386.specs.declared.ins.WidenOp.TheVariants as widens
use Rattle.isa386.specs.declared.ins.Cond.TheVariants as conds
use Rattle.asm_item.specs.declared.args.Number.{Number}
use Rattle.asm_item.specs.declared.args.Size.{Size}
use Rattle.asm_item.specs.declared.args.Size.TheVariants as sizes
use Rattle.asm_item.specs.declared.words.Keyword.{Keyword}
use Rattle.asm_item.specs.declared.words.Keyword.TheVariants as keywords
use Rattle.asm_item.specs.Words.{keyword_text}
use Rattle.asm_item.specs.Args.{Op, register, number, name, plus, minus, base, Argument, plain, star, imm, imm_name, text, here, full_register, register_text, number_text, operand_text, argument_text}
use Rattle.asm_item.specs.Statements.{Statement, further_text, arguments_text, statement_text}
use Rattle.asm_item.specs.Normal.{is_digit, is_name_byte, is_name}
use Rattle.asm_read.specs.Stmts.{keyword_named}
use Rattle.asm_read.proofs.Joined.{and_left, and_right, all_weaker}
use Rattle.asm_read.proofs.Words.{decimal_digits}
use Rattle.asm_read.proofs.Printed.{is_inner, clean, IsOp, IsArgument, AreArguments}
use Rattle.std.proofs.lemmas.Bool.{and_from}

pub keyword_again : (w : Keyword) → keyword_named (keyword_text w) ≡ Some w
unfolding keyword_named
keyword_again keywords.Movl = refl
keyword_again keywords.Movb = refl
keyword_again keywords.Movw = refl
keyword_again keywords.Leal = refl
keyword_again keywords.Pushl = refl
keyword_again keywords.Popl = refl
keyword_again keywords.Testl = refl
keyword_again keywords.Imull = refl
keyword_again keywords.Notl = refl
keyword_again keywords.Negl = refl
keyword_again keywords.Divl = refl
keyword_again keywords.Idivl = refl
keyword_again keywords.Cltd = refl
keyword_again keywords.Call = refl
keyword_again keywords.Jmp = refl
keyword_again keywords.Ret = refl
keyword_again keywords.Leave = refl
keyword_again keywords.Nop = refl
keyword_again keywords.Int3 = refl
keyword_again keywords.Rep = refl
keyword_again keywords.Cld = refl
keyword_again keywords.Lcall = refl
keyword_again keywords.File = refl
keyword_again keywords.Text = refl
keyword_again keywords.Init = refl
keyword_again keywords.Globl = refl
keyword_again keywords.Comm = refl
keyword_again keywords.Lcomm = refl
keyword_again keywords.Byte = refl
keyword_again keywords.Value = refl
keyword_again keywords.Long = refl
keyword_again keywords.Zero = refl
keyword_again keywords.Align = refl
keyword_again keywords.Ln = refl
keyword_again keywords.Def = refl
keyword_again keywords.Val = refl
keyword_again keywords.Scl = refl
keyword_again keywords.Ty = refl
keyword_again keywords.Tag = refl
keyword_again keywords.Line = refl
keyword_again keywords.Size = refl
keyword_again keywords.Dim = refl
keyword_again keywords.Endef = refl
keyword_again (keywords.Arith ariths.Add) = refl
keyword_again (keywords.Arith ariths.Or) = refl
keyword_again (keywords.Arith ariths.And) = refl
keyword_again (keywords.Arith ariths.Sub) = refl
keyword_again (keywords.Arith ariths.Xor) = refl
keyword_again (keywords.Arith ariths.Cmp) = refl
keyword_again (keywords.Shift shifts.Left) = refl
keyword_again (keywords.Shift shifts.Right) = refl
keyword_again (keywords.Shift shifts.Arithmetic) = refl
keyword_again (keywords.Widen widens.SignedByte) = refl
keyword_again (keywords.Widen widens.SignedWord) = refl
keyword_again (keywords.Widen widens.ZeroByte) = refl
keyword_again (keywords.Widen widens.ZeroWord) = refl
keyword_again (keywords.Jump conds.Overflow) = refl
keyword_again (keywords.Jump conds.NotOverflow) = refl
keyword_again (keywords.Jump conds.Below) = refl
keyword_again (keywords.Jump conds.AboveOrEqual) = refl
keyword_again (keywords.Jump conds.Equal) = refl
keyword_again (keywords.Jump conds.NotEqual) = refl
keyword_again (keywords.Jump conds.BelowOrEqual) = refl
keyword_again (keywords.Jump conds.Above) = refl
keyword_again (keywords.Jump conds.Sign) = refl
keyword_again (keywords.Jump conds.NotSign) = refl
keyword_again (keywords.Jump conds.Less) = refl
keyword_again (keywords.Jump conds.GreaterOrEqual) = refl
keyword_again (keywords.Jump conds.LessOrEqual) = refl
keyword_again (keywords.Jump conds.Greater) = refl
keyword_again (keywords.Set conds.Overflow) = refl
keyword_again (keywords.Set conds.NotOverflow) = refl
keyword_again (keywords.Set conds.Below) = refl
keyword_again (keywords.Set conds.AboveOrEqual) = refl
keyword_again (keywords.Set conds.Equal) = refl
keyword_again (keywords.Set conds.NotEqual) = refl
keyword_again (keywords.Set conds.BelowOrEqual) = refl
keyword_again (keywords.Set conds.Above) = refl
keyword_again (keywords.Set conds.Sign) = refl
keyword_again (keywords.Set conds.NotSign) = refl
keyword_again (keywords.Set conds.Less) = refl
keyword_again (keywords.Set conds.GreaterOrEqual) = refl
keyword_again (keywords.Set conds.LessOrEqual) = refl
keyword_again (keywords.Set conds.Greater) = refl

-- ---- no newline

joined : (a b : List ℕ) → clean a ≡ true → clean b ≡ true → clean (a ++ b) ≡ true
joined a b g h = list_all-append is_inner a b ∙ and_from (clean a) (clean b) g h

name_inner : (c : ℕ) → is_name_byte c ≡ true → is_inner c ≡ true
name_inner c h = grind (arith, nat_tests)

digit_inner : (c : ℕ) → is_digit c ≡ true → is_inner c ≡ true
digit_inner c h = grind (arith, nat_tests)

name_clean : (k : List ℕ) → is_name k ≡ true → clean k ≡ true
name_clean [] h = refl
name_clean (c ∷ []) h = and_from (is_inner c) true (name_inner c (and_left (is_name_byte c) (cond (is_digit c || nat_eq c 46) false true) h)) refl
name_clean (c ∷ (d ∷ k)) h =
    let front = and_left (is_name_byte c && cond (is_digit c) false true) (list_all is_name_byte (d ∷ k)) h in
    and_from (is_inner c) (clean (d ∷ k)) (name_inner c (and_left (is_name_byte c) (cond (is_digit c) false true) front)) (all_weaker is_name_byte is_inner name_inner (d ∷ k) (and_right (is_name_byte c && cond (is_digit c) false true) (list_all is_name_byte (d ∷ k)) h))

decimal_clean : (n : ℕ) → n < 2 ^ 64 → clean (decimal n) ≡ true
decimal_clean n h = all_weaker is_digit is_inner digit_inner (decimal n) (decimal_digits n h)

number_clean : (n : Number) → n.size < 4294967296 → clean (number_text n) ≡ true
number_clean n h = by n.minus
  where
    by : (b : Bool) → clean (cond b (45 ∷ []) [] ++ decimal n.size) ≡ true
    by true = decimal_clean n.size (omega arith)
    by false = decimal_clean n.size (omega arith)

full_clean : (r : ℕ) → clean (full_register r) ≡ true
full_clean zero = refl
full_clean (suc zero) = refl
full_clean (suc (suc zero)) = refl
full_clean (suc (suc (suc zero))) = refl
full_clean (suc (suc (suc (suc zero)))) = refl
full_clean (suc (suc (suc (suc (suc zero))))) = refl
full_clean (suc (suc (suc (suc (suc (suc zero)))))) = refl
full_clean (suc (suc (suc (suc (suc (suc (suc r))))))) = refl

short_clean : (r : ℕ) → clean (register_text sizes.Short r) ≡ true
short_clean zero = refl
short_clean (suc zero) = refl
short_clean (suc (suc zero)) = refl
short_clean (suc (suc (suc zero))) = refl
short_clean (suc (suc (suc (suc zero)))) = refl
short_clean (suc (suc (suc (suc (suc zero))))) = refl
short_clean (suc (suc (suc (suc (suc (suc zero)))))) = refl
short_clean (suc (suc (suc (suc (suc (suc (suc r))))))) = refl

byte_clean : (r : ℕ) → clean (register_text sizes.Byte r) ≡ true
byte_clean zero = refl
byte_clean (suc zero) = refl
byte_clean (suc (suc zero)) = refl
byte_clean (suc (suc (suc r))) = refl

register_clean : (s : Size) (r : ℕ) → clean (register_text s r) ≡ true
register_clean sizes.Full r = full_clean r
register_clean sizes.Short r = short_clean r
register_clean sizes.Byte r = byte_clean r

operand_clean : (o : Op) → IsOp o → clean (operand_text o) ≡ true
operand_clean (register s r) h = register_clean s r
operand_clean (number n) h = number_clean n h
operand_clean (name k) h = name_clean k h
operand_clean (plus k n) h = joined k (codes " + " ++ number_text n) (name_clean k h.0) (joined (codes " + ") (number_text n) refl (number_clean n h.1))
operand_clean (minus k n) h = joined k (codes " - " ++ number_text n) (name_clean k h.0) (joined (codes " - ") (number_text n) refl (number_clean n h.1))
operand_clean (base n r) h =
    joined (number_text n) (codes "(%" ++ (full_register r ++ codes ")")) (number_clean n h.0) (joined (codes "(%") (full_register r ++ codes ")") refl (joined (full_register r) (codes ")") (full_clean r) refl))

argument_clean : (a : Argument) → IsArgument a → clean (argument_text a) ≡ true
argument_clean (plain o) h = operand_clean o h
argument_clean (star o) h = operand_clean o h
argument_clean (imm n) h = number_clean n h
argument_clean (imm_name k) h = name_clean k h
argument_clean (text q) h = joined q (34 ∷ []) h.1 refl
argument_clean here h = refl

further_clean : (more : List Argument) → AreArguments more → clean (further_text more) ≡ true
further_clean [] h = refl
further_clean (a ∷ more) h = joined (codes ", ") (argument_text a ++ further_text more) refl (joined (argument_text a) (further_text more) (argument_clean a h.0) (further_clean more h.1))

arguments_clean : (more : List Argument) → AreArguments more → clean (arguments_text more) ≡ true
arguments_clean [] h = refl
arguments_clean (a ∷ more) h = joined (argument_text a) (further_text more) (argument_clean a h.0) (further_clean more h.1)

keyword_clean : (w : Keyword) → clean (keyword_text w) ≡ true
keyword_clean keywords.Movl = refl
keyword_clean keywords.Movb = refl
keyword_clean keywords.Movw = refl
keyword_clean keywords.Leal = refl
keyword_clean keywords.Pushl = refl
keyword_clean keywords.Popl = refl
keyword_clean keywords.Testl = refl
keyword_clean keywords.Imull = refl
keyword_clean keywords.Notl = refl
keyword_clean keywords.Negl = refl
keyword_clean keywords.Divl = refl
keyword_clean keywords.Idivl = refl
keyword_clean keywords.Cltd = refl
keyword_clean keywords.Call = refl
keyword_clean keywords.Jmp = refl
keyword_clean keywords.Ret = refl
keyword_clean keywords.Leave = refl
keyword_clean keywords.Nop = refl
keyword_clean keywords.Int3 = refl
keyword_clean keywords.Rep = refl
keyword_clean keywords.Cld = refl
keyword_clean keywords.Lcall = refl
keyword_clean keywords.File = refl
keyword_clean keywords.Text = refl
keyword_clean keywords.Init = refl
keyword_clean keywords.Globl = refl
keyword_clean keywords.Comm = refl
keyword_clean keywords.Lcomm = refl
keyword_clean keywords.Byte = refl
keyword_clean keywords.Value = refl
keyword_clean keywords.Long = refl
keyword_clean keywords.Zero = refl
keyword_clean keywords.Align = refl
keyword_clean keywords.Ln = refl
keyword_clean keywords.Def = refl
keyword_clean keywords.Val = refl
keyword_clean keywords.Scl = refl
keyword_clean keywords.Ty = refl
keyword_clean keywords.Tag = refl
keyword_clean keywords.Line = refl
keyword_clean keywords.Size = refl
keyword_clean keywords.Dim = refl
keyword_clean keywords.Endef = refl
keyword_clean (keywords.Arith ariths.Add) = refl
keyword_clean (keywords.Arith ariths.Or) = refl
keyword_clean (keywords.Arith ariths.And) = refl
keyword_clean (keywords.Arith ariths.Sub) = refl
keyword_clean (keywords.Arith ariths.Xor) = refl
keyword_clean (keywords.Arith ariths.Cmp) = refl
keyword_clean (keywords.Shift shifts.Left) = refl
keyword_clean (keywords.Shift shifts.Right) = refl
keyword_clean (keywords.Shift shifts.Arithmetic) = refl
keyword_clean (keywords.Widen widens.SignedByte) = refl
keyword_clean (keywords.Widen widens.SignedWord) = refl
keyword_clean (keywords.Widen widens.ZeroByte) = refl
keyword_clean (keywords.Widen widens.ZeroWord) = refl
keyword_clean (keywords.Jump conds.Overflow) = refl
keyword_clean (keywords.Jump conds.NotOverflow) = refl
keyword_clean (keywords.Jump conds.Below) = refl
keyword_clean (keywords.Jump conds.AboveOrEqual) = refl
keyword_clean (keywords.Jump conds.Equal) = refl
keyword_clean (keywords.Jump conds.NotEqual) = refl
keyword_clean (keywords.Jump conds.BelowOrEqual) = refl
keyword_clean (keywords.Jump conds.Above) = refl
keyword_clean (keywords.Jump conds.Sign) = refl
keyword_clean (keywords.Jump conds.NotSign) = refl
keyword_clean (keywords.Jump conds.Less) = refl
keyword_clean (keywords.Jump conds.GreaterOrEqual) = refl
keyword_clean (keywords.Jump conds.LessOrEqual) = refl
keyword_clean (keywords.Jump conds.Greater) = refl
keyword_clean (keywords.Set conds.Overflow) = refl
keyword_clean (keywords.Set conds.NotOverflow) = refl
keyword_clean (keywords.Set conds.Below) = refl
keyword_clean (keywords.Set conds.AboveOrEqual) = refl
keyword_clean (keywords.Set conds.Equal) = refl
keyword_clean (keywords.Set conds.NotEqual) = refl
keyword_clean (keywords.Set conds.BelowOrEqual) = refl
keyword_clean (keywords.Set conds.Above) = refl
keyword_clean (keywords.Set conds.Sign) = refl
keyword_clean (keywords.Set conds.NotSign) = refl
keyword_clean (keywords.Set conds.Less) = refl
keyword_clean (keywords.Set conds.GreaterOrEqual) = refl
keyword_clean (keywords.Set conds.LessOrEqual) = refl
keyword_clean (keywords.Set conds.Greater) = refl

pub statement_clean : (s : Statement) → AreArguments s.args → clean (statement_text s) ≡ true
statement_clean s h = joined (keyword_text s.word) (arguments_text s.args) (keyword_clean s.word) (arguments_clean s.args h)

pub clean_more : (a b : List ℕ) → clean a ≡ true → clean b ≡ true → clean (a ++ b) ≡ true
clean_more a b g h = joined a b g h

pub clean_name : (k : List ℕ) → is_name k ≡ true → clean k ≡ true
clean_name k h = name_clean k h

inner_is : (c : ℕ) → is_inner c ≡ true → nat_eq c 10 ≡ false
inner_is c h = by (nat_eq c 10) h
  where
    by : (b : Bool) → cond b false true ≡ true → b ≡ false
    by true e = absurd cc
    by false e = refl

-- a line ends at its newline
pub line_ends : (bytes rest : List ℕ) → clean bytes ≡ true → slice_split (λ b. nat_eq b 10) (bytes ++ (10 ∷ rest)) ≡ bytes ∷ slice_split (λ b. nat_eq b 10) rest
line_ends [] rest h = refl
line_ends (c ∷ bytes) rest h =
    ap (λ b. cond b ([] ∷ slice_split (λ b. nat_eq b 10) (bytes ++ (10 ∷ rest))) (onto_first c (slice_split (λ b. nat_eq b 10) (bytes ++ (10 ∷ rest))))) (inner_is c (and_left (is_inner c) (clean bytes) h))
    ∙ ap (onto_first c) (line_ends bytes rest (and_right (is_inner c) (clean bytes) h))
