-- The code of expressions and statements, as lists of items. Trees beyond the small form have no code here.
use Rattle.std.specs.Prelude.{ℕ, zero, suc, ◌+◌, ◌-◌, ◌*◌, ◌%◌, max, List, [], ◌∷◌, ◌++◌, Bool, false, Option, Some, None, take}
use Rattle.std.specs.Int.{w32, cast_signed}
use Rattle.c_type.specs.Names.{same_name, pick}
use Rattle.isa386.specs.declared.Dw.TheVariants.{D32}
use Rattle.isa386.specs.declared.Opnd.{Opnd}
use Rattle.isa386.specs.declared.Opnd.TheVariants.{Reg, Mem}
use Rattle.isa386.specs.declared.Way.TheVariants.{ToOperand, ToRegister}
use Rattle.isa386.specs.declared.Dest.TheVariants.{Register}
use Rattle.isa386.specs.declared.StackOp.TheVariants.{Push, PushImm}
use Rattle.isa386.specs.declared.ArithOp.TheVariants as arith
use Rattle.isa386.specs.declared.WidenOp.TheVariants.{ZeroByte}
use Rattle.isa386.specs.declared.PlainOp.TheVariants.{Ret, Leave}
use Rattle.isa386.specs.declared.StringOp.TheVariants.{RepStosb}
use Rattle.isa386.specs.declared.Cond.TheVariants.{Equal}
use Rattle.isa386.specs.declared.Ins.TheVariants.{Move, MoveImm, Lea, Stack, ArithTo, ArithImm, Test, Widen, Plain, Str, Lcall}
use Rattle.c_tree.specs.TExpr.{Ref, Local, Param, Outer, TExpr, name, int, convert, binary, assign, call, no_args, more_args}
use Rattle.c_tree.specs.declared.TBinary.{TBinary}
use Rattle.c_tree.specs.declared.TBinary.TheVariants.{Add, Sub}
use Rattle.c_tree.specs.TStmt.{TStmt, TStmts, expr, while_, return_, block, no_stmts, more_stmts}
use Rattle.c_tree.specs.Bodies.{BodyAt, autos}
use Rattle.c_run.specs.Values.{Body}
use Rattle.c_run.specs.Context.{Linked, Context, context}
use Rattle.c_tree.specs.Library.{putchar_name}
use Rattle.c_run.specs.Calls.{rounded, frame_of}
use Rattle.mach_exec.specs.Registers.{eax, ecx, esp, ebp, edi}
use Rattle.gen_small.specs.Items.{Item, Start, Open, Op, Label, Goto, If, CallTo, Entry, Close, Top, End}

-- where code stands: its program, the number of its function, and that function
pub record Site : Type 0 where
  pub whole : Linked
  pub fun : ℕ
  pub body : BodyAt

abbrev pub inside : Site → Context
inside t = context t.whole t.body

-- the bytes of a function's automatic objects
abbrev pub locals_size : Site → ℕ
locals_size t = rounded (inside t) (autos t.body.func)

-- memory so many bytes beyond ebp, modulo 2^32, and so many bytes below it
abbrev pub beyond : ℕ → Opnd
beyond q = Mem (Some ebp) None (cast_signed w32 q) D32

abbrev pub below : ℕ → Opnd
below q = beyond (4294967296 - q)

-- how far below the base the automatic object i stands, and the temporary d
abbrev pub local_depth : Site → ℕ → ℕ
local_depth t i = rounded (inside t) (take (suc i) (autos t.body.func))

abbrev pub temp_depth : Site → ℕ → ℕ
temp_depth t d = locals_size t + 4 * suc d

-- the operand of the object that a name stands for
abbrev pub named : Site → Ref → List Opnd
named t (Local i) = below (local_depth t i) ∷ []
named t (Param i) = beyond (8 + 4 * i) ∷ []
named t _ = []

-- %eax is loaded from there, and stored there
abbrev pub load_from : List Opnd → List Item
load_from [] = []
load_from (o ∷ os) = Op (Move ToRegister eax o) ∷ []

abbrev pub store_to : List Opnd → List Item
store_to [] = []
store_to (o ∷ os) = Op (Move ToOperand eax o) ∷ []

-- the left operand is in %eax, the right one in %ecx
abbrev pub operator : TBinary → List Item
operator Add = Op (ArithTo arith.Add ecx (Reg eax)) ∷ []
operator Sub = Op (ArithTo arith.Sub ecx (Reg eax)) ∷ []
operator _ = []

-- a left operand is kept in temporary d, and comes back behind the right one to be joined with it
abbrev pub kept : Site → ℕ → Item
kept t d = Op (Move ToOperand eax (below (temp_depth t d)))

abbrev pub joined : Site → ℕ → TBinary → List Item
joined t d op = Op (Move ToOperand eax (Reg ecx)) ∷ Op (Move ToRegister eax (below (temp_depth t d))) ∷ operator op

-- write(1, the lowest byte of %eax, 1) over the stack; %eax becomes that byte
abbrev pub put_code : List Item
put_code =
    Op (Stack (Push eax)) ∷ Op (Move ToOperand esp (Reg eax)) ∷ Op (Stack (PushImm 1)) ∷ Op (Stack (Push eax)) ∷ Op (Stack (PushImm 1)) ∷ Op (Stack (PushImm 0)) ∷ Op (MoveImm (Register eax) 4) ∷ Op Lcall ∷ Op (Widen ZeroByte eax (Mem (Some esp) (Some (esp, 0)) (cast_signed w32 16) D32)) ∷ Op (ArithImm arith.Add (Reg esp) 20) ∷ []

-- where an assignment puts its value
abbrev pub target_of : Site → TExpr → List Opnd
target_of t (name ty r) = named t r
target_of t _ = []

-- whether an expression names putchar
abbrev pub is_putchar : TExpr → Bool
is_putchar (name ty (Outer x)) = same_name x putchar_name
is_putchar _ = false

-- The code of an expression leaves its value in %eax. d is the number of temporaries in use: the left operand is kept in
-- temporary d while the right one is evaluated.
abbrev pub expr_code : Site → TExpr → ℕ → List Item
expr_code t (name ty r) d = load_from (named t r)
expr_code t (int ty n) d = Op (MoveImm (Register eax) (n % 4294967296)) ∷ []
expr_code t (convert ty e) d = expr_code t e d
expr_code t (binary ty op a b) d = expr_code t a d ++ (kept t d ∷ (expr_code t b (suc d) ++ joined t d op))
expr_code t (assign ty a b) d = expr_code t b d ++ store_to (target_of t a)
expr_code t (call ty f (more_args e no_args)) d = pick (is_putchar f) (expr_code t e d ++ put_code) []
expr_code t _ d = []

-- a value that may be left out
abbrev pub value_code : Site → Option TExpr → List Item
value_code t None = []
value_code t (Some e) = expr_code t e 0

-- a loop is left where its test is 0, and goes on with its test behind its body
abbrev pub tested : ℕ → ℕ → List Item
tested f k = Op (Test eax (Reg eax)) ∷ If Equal (End f k) ∷ []

abbrev pub again : ℕ → ℕ → List Item
again f k = Goto (Top f k) ∷ Label (End f k) ∷ []

abbrev mutual
  pub stmt_code : Site → TStmt → List Item
  stmt_code t (expr k l e) = Start k ∷ expr_code t e 0
  stmt_code t (while_ k l e body) =
      Label (Top t.fun k) ∷ Start k ∷ (expr_code t e 0 ++ (tested t.fun k ++ (stmt_code t body ++ again t.fun k)))
  stmt_code t (return_ k l e) = Start k ∷ (value_code t e ++ (Goto (Close t.fun) ∷ []))
  stmt_code t (block line ds ss close_line) = stmts_code t ss
  stmt_code t _ = []

  pub stmts_code : Site → TStmts → List Item
  stmts_code t no_stmts = []
  stmts_code t (more_stmts s ss) = stmt_code t s ++ stmts_code t ss

-- n bytes from q bytes below ebp on become zero
abbrev pub zero_code : ℕ → ℕ → List Item
zero_code q zero = []
zero_code q (suc n) =
    Op (Lea edi (below q)) ∷ Op (MoveImm (Register ecx) (suc n)) ∷ Op (MoveImm (Register eax) 0) ∷ Op (Str RepStosb) ∷ []

-- function f makes a frame of so many bytes
abbrev pub entered : (f size : ℕ) → List Item
entered f size = Label (Entry (Body f)) ∷ Op (Stack (Push ebp)) ∷ Op (Move ToOperand esp (Reg ebp)) ∷ Op (ArithImm arith.Sub (Reg esp) size) ∷ []

-- it gives 0 where it comes to its end, and leaves its frame at the start k of its closing brace
abbrev pub closed : (f k : ℕ) → List Item
closed f k = Op (MoveImm (Register eax) 0) ∷ Label (Close f) ∷ Start k ∷ Op (Plain Leave) ∷ Op (Plain Ret) ∷ []

-- a function: its frame is made, its automatic objects become zero, and its value is in %eax when it closes
abbrev pub func_code : Site → List Item
func_code t =
    entered t.fun (frame_of (inside t) t.body.func) ++ (zero_code (locals_size t) (locals_size t) ++ (Open t.body.func.open_ ∷ (stmts_code t t.body.func.stmts ++ closed t.fun t.body.func.close)))

-- main is called, and its value is the status
abbrev pub start_code : ℕ → List Item
start_code main =
    CallTo (Entry (Body main)) ∷ Op (Stack (Push eax)) ∷ Op (Stack (PushImm 0)) ∷ Op (MoveImm (Register eax) 1) ∷ Op Lcall ∷ []

-- the temporaries that an expression takes
abbrev pub temps : TExpr → ℕ
temps (binary ty op a b) = max (temps a) (suc (temps b))
temps (assign ty a b) = temps b
temps (convert ty e) = temps e
temps (call ty f (more_args e no_args)) = temps e
temps _ = 0
