-- The words that begin a statement, as they are written.
use Rattle.std.specs.Prelude.{ℕ, List, codes}
use Rattle.isa386.specs.declared.ins.ArithOp.{ArithOp}
use Rattle.isa386.specs.declared.ins.ArithOp.TheVariants.{Add, Or, And, Sub, Xor, Cmp}
use Rattle.isa386.specs.declared.ins.ShiftOp.{ShiftOp}
use Rattle.isa386.specs.declared.ins.ShiftOp.TheVariants.{Left, Right, Arithmetic}
use Rattle.isa386.specs.declared.ins.WidenOp.{WidenOp}
use Rattle.isa386.specs.declared.ins.WidenOp.TheVariants.{SignedByte, SignedWord, ZeroByte, ZeroWord}
use Rattle.isa386.specs.declared.ins.Cond.{Cond}
use Rattle.isa386.specs.declared.ins.Cond.TheVariants.{Overflow, NotOverflow, Below, AboveOrEqual, Equal, NotEqual, BelowOrEqual, Above, Sign, NotSign, Less, GreaterOrEqual, LessOrEqual, Greater}
use Rattle.asm_item.specs.declared.words.Keyword.{Keyword}
use Rattle.asm_item.specs.declared.words.Keyword.TheVariants.{Movl, Movb, Movw, Leal, Pushl, Popl, Testl, Imull, Notl, Negl, Divl, Idivl, Cltd, Call, Jmp, Ret, Leave, Nop, Int3, Rep, Cld, Lcall, File, Text, Init, Globl, Comm, Lcomm, Byte, Value, Long, Zero, Align, Ln, Def, Val, Scl, Ty, Tag, Line, Size, Dim, Endef, Arith, Shift, Set, Widen, Jump}

-- the words of the arithmetic operations
abbrev pub arith_text : ArithOp → List ℕ
arith_text Add = codes "addl"
arith_text Or = codes "orl"
arith_text And = codes "andl"
arith_text Sub = codes "subl"
arith_text Xor = codes "xorl"
arith_text Cmp = codes "cmpl"

-- the words of the shifts
abbrev pub shift_text : ShiftOp → List ℕ
shift_text Left = codes "shll"
shift_text Right = codes "shrl"
shift_text Arithmetic = codes "sarl"

-- the words of the moves that widen
abbrev pub widen_text : WidenOp → List ℕ
widen_text SignedByte = codes "movsbl"
widen_text SignedWord = codes "movswl"
widen_text ZeroByte = codes "movzbl"
widen_text ZeroWord = codes "movzwl"

-- `j` and a condition
abbrev pub jump_text : Cond → List ℕ
jump_text Overflow = codes "jo"
jump_text NotOverflow = codes "jno"
jump_text Below = codes "jb"
jump_text AboveOrEqual = codes "jae"
jump_text Equal = codes "je"
jump_text NotEqual = codes "jne"
jump_text BelowOrEqual = codes "jbe"
jump_text Above = codes "ja"
jump_text Sign = codes "js"
jump_text NotSign = codes "jns"
jump_text Less = codes "jl"
jump_text GreaterOrEqual = codes "jge"
jump_text LessOrEqual = codes "jle"
jump_text Greater = codes "jg"

-- `set` and a condition
abbrev pub set_text : Cond → List ℕ
set_text Overflow = codes "seto"
set_text NotOverflow = codes "setno"
set_text Below = codes "setb"
set_text AboveOrEqual = codes "setae"
set_text Equal = codes "sete"
set_text NotEqual = codes "setne"
set_text BelowOrEqual = codes "setbe"
set_text Above = codes "seta"
set_text Sign = codes "sets"
set_text NotSign = codes "setns"
set_text Less = codes "setl"
set_text GreaterOrEqual = codes "setge"
set_text LessOrEqual = codes "setle"
set_text Greater = codes "setg"

-- the word of a statement
abbrev pub keyword_text : Keyword → List ℕ
keyword_text Movl = codes "movl"
keyword_text Movb = codes "movb"
keyword_text Movw = codes "movw"
keyword_text Leal = codes "leal"
keyword_text Pushl = codes "pushl"
keyword_text Popl = codes "popl"
keyword_text Testl = codes "testl"
keyword_text Imull = codes "imull"
keyword_text Notl = codes "notl"
keyword_text Negl = codes "negl"
keyword_text Divl = codes "divl"
keyword_text Idivl = codes "idivl"
keyword_text Cltd = codes "cltd"
keyword_text Call = codes "call"
keyword_text Jmp = codes "jmp"
keyword_text Ret = codes "ret"
keyword_text Leave = codes "leave"
keyword_text Nop = codes "nop"
keyword_text Int3 = codes "int3"
keyword_text Rep = codes "rep"
keyword_text Cld = codes "cld"
keyword_text Lcall = codes "lcall"
keyword_text File = codes ".file"
keyword_text Text = codes ".text"
keyword_text Init = codes ".data"
keyword_text Globl = codes ".globl"
keyword_text Comm = codes ".comm"
keyword_text Lcomm = codes ".lcomm"
keyword_text Byte = codes ".byte"
keyword_text Value = codes ".value"
keyword_text Long = codes ".long"
keyword_text Zero = codes ".zero"
keyword_text Align = codes ".align"
keyword_text Ln = codes ".ln"
keyword_text Def = codes ".def"
keyword_text Val = codes ".val"
keyword_text Scl = codes ".scl"
keyword_text Ty = codes ".type"
keyword_text Tag = codes ".tag"
keyword_text Line = codes ".line"
keyword_text Size = codes ".size"
keyword_text Dim = codes ".dim"
keyword_text Endef = codes ".endef"
keyword_text (Arith op) = arith_text op
keyword_text (Shift op) = shift_text op
keyword_text (Set c) = set_text c
keyword_text (Widen op) = widen_text op
keyword_text (Jump c) = jump_text c
