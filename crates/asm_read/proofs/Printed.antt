-- The tokens of what is printed.
use Rattle.std.proofs.Common.{◌≡◌, ℕ, zero, suc, ◌<◌, List, [], ◌∷◌, ◌++◌, Bool, true, false, cond, refl, ap, ◌∙◌, arith, append_assoc}
use Rattle.std.specs.Prelude.{nat_eq, nat_lt, codes, decimal}
use Rattle.isa386.specs.declared.ins.ArithOp.TheVariants as ariths
use Rattle.isa386.specs.declared.ins.ShiftOp.TheVariants as shifts
use Rattle.isa386.specs.declared.ins.WidenOp.TheVariants as widens
use Rattle.isa386.specs.declared.ins.Cond.TheVariants as conds
use Rattle.asm_item.specs.declared.args.Number.{Number}
use Rattle.asm_item.specs.declared.args.Size.{Size}
use Rattle.asm_item.specs.declared.args.Size.TheVariants as sizes
use Rattle.asm_item.specs.declared.words.Keyword.{Keyword}
use Rattle.asm_item.specs.declared.words.Keyword.TheVariants as keywords
use Rattle.asm_item.specs.Words.{keyword_text}
use Rattle.asm_item.specs.Args.{Op, register, number, name, plus, minus, base, Argument, plain, star, imm, imm_name, text, here, full_register, register_text, registers, number_text, operand_text, argument_text}
use Rattle.asm_item.specs.Statements.{Statement, further_text, arguments_text, statement_text}
use Rattle.std.specs.List.{list_all}
use Rattle.asm_item.specs.Normal.{is_name}
use Rattle.asm_read.specs.declared.token.Sign.TheVariants as signs
use Rattle.asm_read.specs.Tokens.{Tok, Word, Mark, Text, goes_on, IsWord, NoQuote}
use Rattle.asm_read.specs.Lex.{lex, quoted}
use Rattle.asm_read.proofs.Lexed.{word_lexed, text_lexed}
use Rattle.asm_read.proofs.Words.{words, name_word, decimal_word}

-- the tokens of a number, an operand, an argument, and others behind them
abbrev pub number_then : Number → List Tok → List Tok
number_then n ts = cond n.minus (Mark signs.Minus ∷ (Word (decimal n.size) ∷ ts)) (Word (decimal n.size) ∷ ts)

abbrev pub operand_then : Op → List Tok → List Tok
operand_then (register s r) ts = Mark signs.Percent ∷ (Word (register_text s r) ∷ ts)
operand_then (number n) ts = number_then n ts
operand_then (name k) ts = Word k ∷ ts
operand_then (plus k n) ts = Word k ∷ (Mark signs.Plus ∷ number_then n ts)
operand_then (minus k n) ts = Word k ∷ (Mark signs.Minus ∷ number_then n ts)
operand_then (base n r) ts = number_then n (Mark signs.Open ∷ (Mark signs.Percent ∷ (Word (full_register r) ∷ (Mark signs.Close ∷ ts))))

abbrev pub argument_then : Argument → List Tok → List Tok
argument_then (plain o) ts = operand_then o ts
argument_then (star o) ts = Mark signs.Star ∷ operand_then o ts
argument_then (imm n) ts = Mark signs.Dollar ∷ number_then n ts
argument_then (imm_name k) ts = Mark signs.Dollar ∷ (Word k ∷ ts)
argument_then (text q) ts = Text q ∷ ts
argument_then here ts = Word (codes ".") ∷ ts

-- no newline among these bytes
abbrev pub is_inner : ℕ → Bool
is_inner c = cond (nat_eq c 10) false true

abbrev pub clean : List ℕ → Bool
clean w = list_all is_inner w

-- arguments that have a spelling
abbrev pub is_sized : Number → Bool
is_sized n = nat_lt n.size 4294967296

abbrev pub IsOp : Op → Type 0
IsOp (register s r) = r < registers s
IsOp (number n) = n.size < 4294967296
IsOp (name k) = is_name k ≡ true
IsOp (plus k n) = (is_name k ≡ true) × (n.size < 4294967296)
IsOp (minus k n) = (is_name k ≡ true) × (n.size < 4294967296)
IsOp (base n r) = (n.size < 4294967296) × (r < 8)

abbrev pub IsArgument : Argument → Type 0
IsArgument (plain o) = IsOp o
IsArgument (star o) = IsOp o
IsArgument (imm n) = n.size < 4294967296
IsArgument (imm_name k) = is_name k ≡ true
IsArgument (text q) = NoQuote q × (clean q ≡ true)
IsArgument here = Unit {0}

abbrev pub AreArguments : List Argument → Type 0
AreArguments [] = Unit {0}
AreArguments (a ∷ more) = IsArgument a × AreArguments more

-- ---- words

full_word : (r : ℕ) → IsWord (full_register r)
full_word zero = words (codes "eax") refl (omega arith)
full_word (suc zero) = words (codes "ecx") refl (omega arith)
full_word (suc (suc zero)) = words (codes "edx") refl (omega arith)
full_word (suc (suc (suc zero))) = words (codes "ebx") refl (omega arith)
full_word (suc (suc (suc (suc zero)))) = words (codes "esp") refl (omega arith)
full_word (suc (suc (suc (suc (suc zero))))) = words (codes "ebp") refl (omega arith)
full_word (suc (suc (suc (suc (suc (suc zero)))))) = words (codes "esi") refl (omega arith)
full_word (suc (suc (suc (suc (suc (suc (suc r))))))) = words (codes "edi") refl (omega arith)

short_word : (r : ℕ) → IsWord (register_text sizes.Short r)
short_word zero = words (codes "ax") refl (omega arith)
short_word (suc zero) = words (codes "cx") refl (omega arith)
short_word (suc (suc zero)) = words (codes "dx") refl (omega arith)
short_word (suc (suc (suc zero))) = words (codes "bx") refl (omega arith)
short_word (suc (suc (suc (suc zero)))) = words (codes "sp") refl (omega arith)
short_word (suc (suc (suc (suc (suc zero))))) = words (codes "bp") refl (omega arith)
short_word (suc (suc (suc (suc (suc (suc zero)))))) = words (codes "si") refl (omega arith)
short_word (suc (suc (suc (suc (suc (suc (suc r))))))) = words (codes "di") refl (omega arith)

byte_word : (r : ℕ) → IsWord (register_text sizes.Byte r)
byte_word zero = words (codes "al") refl (omega arith)
byte_word (suc zero) = words (codes "cl") refl (omega arith)
byte_word (suc (suc zero)) = words (codes "dl") refl (omega arith)
byte_word (suc (suc (suc r))) = words (codes "bl") refl (omega arith)

register_word : (s : Size) (r : ℕ) → IsWord (register_text s r)
register_word sizes.Full r = full_word r
register_word sizes.Short r = short_word r
register_word sizes.Byte r = byte_word r

pub keyword_word : (w : Keyword) → IsWord (keyword_text w)
keyword_word keywords.Movl = words (codes "movl") refl (omega arith)
keyword_word keywords.Movb = words (codes "movb") refl (omega arith)
keyword_word keywords.Movw = words (codes "movw") refl (omega arith)
keyword_word keywords.Leal = words (codes "leal") refl (omega arith)
keyword_word keywords.Pushl = words (codes "pushl") refl (omega arith)
keyword_word keywords.Popl = words (codes "popl") refl (omega arith)
keyword_word keywords.Testl = words (codes "testl") refl (omega arith)
keyword_word keywords.Imull = words (codes "imull") refl (omega arith)
keyword_word keywords.Notl = words (codes "notl") refl (omega arith)
keyword_word keywords.Negl = words (codes "negl") refl (omega arith)
keyword_word keywords.Divl = words (codes "divl") refl (omega arith)
keyword_word keywords.Idivl = words (codes "idivl") refl (omega arith)
keyword_word keywords.Cltd = words (codes "cltd") refl (omega arith)
keyword_word keywords.Call = words (codes "call") refl (omega arith)
keyword_word keywords.Jmp = words (codes "jmp") refl (omega arith)
keyword_word keywords.Ret = words (codes "ret") refl (omega arith)
keyword_word keywords.Leave = words (codes "leave") refl (omega arith)
keyword_word keywords.Nop = words (codes "nop") refl (omega arith)
keyword_word keywords.Int3 = words (codes "int3") refl (omega arith)
keyword_word keywords.Rep = words (codes "rep") refl (omega arith)
keyword_word keywords.Cld = words (codes "cld") refl (omega arith)
keyword_word keywords.Lcall = words (codes "lcall") refl (omega arith)
keyword_word keywords.File = words (codes ".file") refl (omega arith)
keyword_word keywords.Text = words (codes ".text") refl (omega arith)
keyword_word keywords.Init = words (codes ".data") refl (omega arith)
keyword_word keywords.Globl = words (codes ".globl") refl (omega arith)
keyword_word keywords.Comm = words (codes ".comm") refl (omega arith)
keyword_word keywords.Lcomm = words (codes ".lcomm") refl (omega arith)
keyword_word keywords.Byte = words (codes ".byte") refl (omega arith)
keyword_word keywords.Value = words (codes ".value") refl (omega arith)
keyword_word keywords.Long = words (codes ".long") refl (omega arith)
keyword_word keywords.Zero = words (codes ".zero") refl (omega arith)
keyword_word keywords.Align = words (codes ".align") refl (omega arith)
keyword_word keywords.Ln = words (codes ".ln") refl (omega arith)
keyword_word keywords.Def = words (codes ".def") refl (omega arith)
keyword_word keywords.Val = words (codes ".val") refl (omega arith)
keyword_word keywords.Scl = words (codes ".scl") refl (omega arith)
keyword_word keywords.Ty = words (codes ".type") refl (omega arith)
keyword_word keywords.Tag = words (codes ".tag") refl (omega arith)
keyword_word keywords.Line = words (codes ".line") refl (omega arith)
keyword_word keywords.Size = words (codes ".size") refl (omega arith)
keyword_word keywords.Dim = words (codes ".dim") refl (omega arith)
keyword_word keywords.Endef = words (codes ".endef") refl (omega arith)
keyword_word (keywords.Arith ariths.Add) = words (codes "addl") refl (omega arith)
keyword_word (keywords.Arith ariths.Or) = words (codes "orl") refl (omega arith)
keyword_word (keywords.Arith ariths.And) = words (codes "andl") refl (omega arith)
keyword_word (keywords.Arith ariths.Sub) = words (codes "subl") refl (omega arith)
keyword_word (keywords.Arith ariths.Xor) = words (codes "xorl") refl (omega arith)
keyword_word (keywords.Arith ariths.Cmp) = words (codes "cmpl") refl (omega arith)
keyword_word (keywords.Shift shifts.Left) = words (codes "shll") refl (omega arith)
keyword_word (keywords.Shift shifts.Right) = words (codes "shrl") refl (omega arith)
keyword_word (keywords.Shift shifts.Arithmetic) = words (codes "sarl") refl (omega arith)
keyword_word (keywords.Widen widens.SignedByte) = words (codes "movsbl") refl (omega arith)
keyword_word (keywords.Widen widens.SignedWord) = words (codes "movswl") refl (omega arith)
keyword_word (keywords.Widen widens.ZeroByte) = words (codes "movzbl") refl (omega arith)
keyword_word (keywords.Widen widens.ZeroWord) = words (codes "movzwl") refl (omega arith)
keyword_word (keywords.Jump conds.Overflow) = words (codes "jo") refl (omega arith)
keyword_word (keywords.Jump conds.NotOverflow) = words (codes "jno") refl (omega arith)
keyword_word (keywords.Jump conds.Below) = words (codes "jb") refl (omega arith)
keyword_word (keywords.Jump conds.AboveOrEqual) = words (codes "jae") refl (omega arith)
keyword_word (keywords.Jump conds.Equal) = words (codes "je") refl (omega arith)
keyword_word (keywords.Jump conds.NotEqual) = words (codes "jne") refl (omega arith)
keyword_word (keywords.Jump conds.BelowOrEqual) = words (codes "jbe") refl (omega arith)
keyword_word (keywords.Jump conds.Above) = words (codes "ja") refl (omega arith)
keyword_word (keywords.Jump conds.Sign) = words (codes "js") refl (omega arith)
keyword_word (keywords.Jump conds.NotSign) = words (codes "jns") refl (omega arith)
keyword_word (keywords.Jump conds.Less) = words (codes "jl") refl (omega arith)
keyword_word (keywords.Jump conds.GreaterOrEqual) = words (codes "jge") refl (omega arith)
keyword_word (keywords.Jump conds.LessOrEqual) = words (codes "jle") refl (omega arith)
keyword_word (keywords.Jump conds.Greater) = words (codes "jg") refl (omega arith)
keyword_word (keywords.Set conds.Overflow) = words (codes "seto") refl (omega arith)
keyword_word (keywords.Set conds.NotOverflow) = words (codes "setno") refl (omega arith)
keyword_word (keywords.Set conds.Below) = words (codes "setb") refl (omega arith)
keyword_word (keywords.Set conds.AboveOrEqual) = words (codes "setae") refl (omega arith)
keyword_word (keywords.Set conds.Equal) = words (codes "sete") refl (omega arith)
keyword_word (keywords.Set conds.NotEqual) = words (codes "setne") refl (omega arith)
keyword_word (keywords.Set conds.BelowOrEqual) = words (codes "setbe") refl (omega arith)
keyword_word (keywords.Set conds.Above) = words (codes "seta") refl (omega arith)
keyword_word (keywords.Set conds.Sign) = words (codes "sets") refl (omega arith)
keyword_word (keywords.Set conds.NotSign) = words (codes "setns") refl (omega arith)
keyword_word (keywords.Set conds.Less) = words (codes "setl") refl (omega arith)
keyword_word (keywords.Set conds.GreaterOrEqual) = words (codes "setge") refl (omega arith)
keyword_word (keywords.Set conds.LessOrEqual) = words (codes "setle") refl (omega arith)
keyword_word (keywords.Set conds.Greater) = words (codes "setg") refl (omega arith)

-- ---- what is printed falls into these tokens

lex_number : (n : Number) (rest : List ℕ) → n.size < 4294967296 → goes_on rest ≡ false → lex (number_text n ++ rest) ≡ number_then n (lex rest)
lex_number n rest small e = by n.minus
  where
    digits : lex (decimal n.size ++ rest) ≡ Word (decimal n.size) ∷ lex rest
    digits = word_lexed (decimal n.size) rest (decimal_word n.size (omega arith)) e

    by : (b : Bool) → lex ((cond b (45 ∷ []) [] ++ decimal n.size) ++ rest) ≡ cond b (Mark signs.Minus ∷ (Word (decimal n.size) ∷ lex rest)) (Word (decimal n.size) ∷ lex rest)
    by true = ap (λ ts. Mark signs.Minus ∷ ts) digits
    by false = digits

lex_plus : (k : List ℕ) (n : Number) (rest : List ℕ) → is_name k ≡ true → n.size < 4294967296 → goes_on rest ≡ false → lex ((k ++ (codes " + " ++ number_text n)) ++ rest) ≡ Word k ∷ (Mark signs.Plus ∷ number_then n (lex rest))
lex_plus k n rest h small e =
    ap lex (append_assoc k (codes " + " ++ number_text n) rest) ∙ word_lexed k (codes " + " ++ (number_text n ++ rest)) (name_word k h) refl ∙ ap (λ ts. Word k ∷ (Mark signs.Plus ∷ ts)) (lex_number n rest small e)

lex_minus : (k : List ℕ) (n : Number) (rest : List ℕ) → is_name k ≡ true → n.size < 4294967296 → goes_on rest ≡ false → lex ((k ++ (codes " - " ++ number_text n)) ++ rest) ≡ Word k ∷ (Mark signs.Minus ∷ number_then n (lex rest))
lex_minus k n rest h small e =
    ap lex (append_assoc k (codes " - " ++ number_text n) rest) ∙ word_lexed k (codes " - " ++ (number_text n ++ rest)) (name_word k h) refl ∙ ap (λ ts. Word k ∷ (Mark signs.Minus ∷ ts)) (lex_number n rest small e)

lex_base : (n : Number) (r : ℕ) (rest : List ℕ) → n.size < 4294967296 → lex ((number_text n ++ (codes "(%" ++ (full_register r ++ codes ")"))) ++ rest) ≡ operand_then (base n r) (lex rest)
lex_base n r rest small =
    ap lex (append_assoc (number_text n) (codes "(%" ++ (full_register r ++ codes ")")) rest)
    ∙ ap (λ x. lex (number_text n ++ (codes "(%" ++ x))) (append_assoc (full_register r) (codes ")") rest)
    ∙ lex_number n (codes "(%" ++ (full_register r ++ (codes ")" ++ rest))) small refl
    ∙ ap (λ ts. number_then n (Mark signs.Open ∷ (Mark signs.Percent ∷ ts))) (word_lexed (full_register r) (codes ")" ++ rest) (full_word r) refl)

lex_operand : (o : Op) (rest : List ℕ) → IsOp o → goes_on rest ≡ false → lex (operand_text o ++ rest) ≡ operand_then o (lex rest)
lex_operand (register s r) rest h e = ap (λ ts. Mark signs.Percent ∷ ts) (word_lexed (register_text s r) rest (register_word s r) e)
lex_operand (number n) rest h e = lex_number n rest h e
lex_operand (name k) rest h e = word_lexed k rest (name_word k h) e
lex_operand (plus k n) rest h e = lex_plus k n rest h.0 h.1 e
lex_operand (minus k n) rest h e = lex_minus k n rest h.0 h.1 e
lex_operand (base n r) rest h e = lex_base n r rest h.0

pub lex_argument : (a : Argument) (rest : List ℕ) → IsArgument a → goes_on rest ≡ false → lex (argument_text a ++ rest) ≡ argument_then a (lex rest)
lex_argument (plain o) rest h e = lex_operand o rest h e
lex_argument (star o) rest h e = ap (λ ts. Mark signs.Star ∷ ts) (lex_operand o rest h e)
lex_argument (imm n) rest h e = ap (λ ts. Mark signs.Dollar ∷ ts) (lex_number n rest h e)
lex_argument (imm_name k) rest h e = ap (λ ts. Mark signs.Dollar ∷ ts) (word_lexed k rest (name_word k h) e)
lex_argument (text q) rest h e = ap (λ bs. quoted bs) (append_assoc q (34 ∷ []) rest) ∙ text_lexed q rest h.0
lex_argument here rest h e = word_lexed (codes ".") rest (words (codes ".") refl (omega arith)) e

-- a comma before each further argument
abbrev pub further_then : List Argument → List Tok → List Tok
further_then [] ts = ts
further_then (a ∷ more) ts = Mark signs.Comma ∷ argument_then a (further_then more ts)

abbrev pub arguments_then : List Argument → List Tok → List Tok
arguments_then [] ts = ts
arguments_then (a ∷ more) ts = argument_then a (further_then more ts)

stops : (more : List Argument) (rest : List ℕ) → goes_on rest ≡ false → goes_on (further_text more ++ rest) ≡ false
stops [] rest e = e
stops (a ∷ more) rest e = refl

lex_further : (more : List Argument) (rest : List ℕ) → AreArguments more → goes_on rest ≡ false → lex (further_text more ++ rest) ≡ further_then more (lex rest)
lex_further [] rest h e = refl
lex_further (a ∷ more) rest h e =
    ap (λ x. lex (codes ", " ++ x)) (append_assoc (argument_text a) (further_text more) rest)
    ∙ ap (λ ts. Mark signs.Comma ∷ ts) (lex_argument a (further_text more ++ rest) h.0 (stops more rest e) ∙ ap (argument_then a) (lex_further more rest h.1 e))

lex_arguments : (more : List Argument) (rest : List ℕ) → AreArguments more → goes_on rest ≡ false → lex (arguments_text more ++ rest) ≡ arguments_then more (lex rest)
lex_arguments [] rest h e = refl
lex_arguments (a ∷ more) rest h e =
    ap (λ x. lex (32 ∷ x)) (append_assoc (argument_text a) (further_text more) rest)
    ∙ lex_argument a (further_text more ++ rest) h.0 (stops more rest e) ∙ ap (argument_then a) (lex_further more rest h.1 e)

starts : (more : List Argument) (rest : List ℕ) → goes_on rest ≡ false → goes_on (arguments_text more ++ rest) ≡ false
starts [] rest e = e
starts (a ∷ more) rest e = refl

abbrev pub statement_then : Statement → List Tok → List Tok
statement_then s ts = Word (keyword_text s.word) ∷ arguments_then s.args ts

pub lex_statement : (s : Statement) (rest : List ℕ) → AreArguments s.args → goes_on rest ≡ false → lex (statement_text s ++ rest) ≡ statement_then s (lex rest)
lex_statement s rest h e =
    ap lex (append_assoc (keyword_text s.word) (arguments_text s.args) rest)
    ∙ word_lexed (keyword_text s.word) (arguments_text s.args ++ rest) (keyword_word s.word) (starts s.args rest e)
    ∙ ap (λ ts. Word (keyword_text s.word) ∷ ts) (lex_arguments s.args rest h e)
