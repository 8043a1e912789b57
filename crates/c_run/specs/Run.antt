-- Run: the evaluation of main from the first state.
-- It states docs/LANGUAGE.md, section Evaluation.
use Rattle.std.specs.Prelude.{ℕ, zero, suc, ◌+◌, ◌%◌, List, [], ◌∷◌, Option, Some, None}
use Rattle.c_type.specs.declared.Kind.TheVariants as kinds
use Rattle.c_type.specs.Names.{at_or}
use Rattle.c_type.specs.Types.{CType, num, arr, struct, Member}
use Rattle.c_type.specs.Sizes.{size, no_tag}
use Rattle.c_type.specs.Kinds as k
use Rattle.c_tree.specs.TStmt.{Init, Inits, single, bytes, group, no_inits, more_inits}
use Rattle.c_tree.specs.TUnit.{Program}
use Rattle.c_tree.specs.Library.{main_name}
use Rattle.c_run.specs.Lasting.{Lasting}
use Rattle.c_tree.specs.Bodies.{body_named}
use Rattle.c_run.specs.Values.{Object, Static, Body, Value, Num, To, Ended}
use Rattle.c_run.specs.State.{State, Thing, Out, Gave, Halt, bind, Changes, Acts, acts_of}
use Rattle.c_run.specs.Context.{Context, Linked, linked, context_of, fresh}
use Rattle.c_run.specs.Pointers.{leaves, store}
use Rattle.c_run.specs.Exprs.{Call, value}
use Rattle.c_run.specs.Stmts.{Given}
use Rattle.c_run.specs.Calls.{rest, call_target}

-- no call stands in an initialiser of static life
abbrev pub no_call : Call
no_call f as_ s = leaves 0 s

-- the type of an array's elements
abbrev pub element_of : CType → CType
element_of (arr n t) = t
element_of t = t

-- the bytes of a text into an array of char, as far as it reaches
abbrev pub put_bytes : Context → Object → ℕ → ℕ → List ℕ → State → Out Value
put_bytes c o a zero bs s = Gave (Num 0) s
put_bytes c o a (suc n) [] s = Gave (Num 0) s
put_bytes c o a (suc n) (b ∷ bs) s = bind (store c (num kinds.Char) (To o a) (Num (k.extend 128 b)) s) (λ v s1. put_bytes c o (a + 1) n bs s1)

-- the number of an array's elements
abbrev pub dimension : CType → ℕ
dimension (arr n t) = n
dimension t = 0

-- the parts of an array or structure with their offsets, in order
abbrev pub array_parts : ℕ → ℕ → ℕ → CType → List Member
array_parts zero a step t = []
array_parts (suc n) a step t = record { name = []; off = a; ty = t } ∷ array_parts n (a + step) step t

-- the parts that a list of initialisers goes through
abbrev pub parts : Context → CType → List Member
parts c (arr n t) = array_parts n 0 (size c.tags t) t
parts c (struct tag) = (at_or no_tag c.tags tag).members
parts c _ = []

-- what an object of static life begins as; what a list does not reach stays zero
abbrev mutual
  pub begin_as : Context → Object → ℕ → CType → Init → State → Out Value
  begin_as c o a t (single e) s = bind (value c no_call e s) (store c t (To o a))
  begin_as c o a t (bytes bs) s = put_bytes c o a (dimension t) bs s
  begin_as c o a t (group is) s = begin_parts c o a (parts c t) is s

  pub begin_parts : Context → Object → ℕ → List Member → Inits → State → Out Value
  begin_parts c o a ms no_inits s = Gave (Num 0) s
  begin_parts c o a [] (more_inits i is) s = leaves 0 s
  begin_parts c o a (m ∷ ms) (more_inits i is) s = bind (begin_as c o (a + m.off) m.ty i s) (λ v s1. begin_parts c o a ms is s1)

-- the objects of static life, all zero
abbrev pub zero_statics : Linked → List Lasting → List Thing
zero_statics w [] = []
zero_statics w (x ∷ xs) = fresh (context_of w x.unit 0) x.ty ∷ zero_statics w xs

-- one object of static life receives its initialiser, if it has one
abbrev pub begin_static : Context → ℕ → Lasting → Option Init → State → Out Value
begin_static c n x None s = Gave (Num 0) s
begin_static c n x (Some i) s = begin_as c (Static n) 0 x.ty i s

-- every object of static life receives its initialiser
abbrev pub begin_statics : Linked → ℕ → List Lasting → State → Out Value
begin_statics w n [] s = Gave (Num 0) s
begin_statics w n (x ∷ xs) s = bind (begin_static (context_of w x.unit 0) n x x.init s) (λ v s1. begin_statics w (suc n) xs s1)

-- the state before initialisers: no activation, no output, no turn
abbrev pub blank : Linked → List ℕ → State
blank w input = record { chain = []; made = []; statics = zero_statics w w.lasting; input = input; output = []; turns = 0 }

-- the first state
abbrev pub first_state : Linked → List ℕ → Out Value
first_state w input = begin_statics w 0 w.lasting (blank w input)

-- the value of main as a status
abbrev pub ended : Value → State → Out Value
ended (Num n) s = Halt (Ended (n % 256)) s
ended _ s = leaves 0 s

-- main ends the run, its value modulo 256 the status
abbrev pub call_main : Given → ℕ → Option ℕ → State → Out Value
call_main g fuel None s = leaves 0 s
call_main g fuel (Some f) s = bind (call_target g (rest fuel g) (Body f) [] s) ended

-- the run of a linked program, with anything done at turns and any fuel
abbrev pub run_linked : Linked → List ℕ → Acts → ℕ → ℕ → Out Value
run_linked w input act n fuel =
    bind (first_state w input) (λ v s. call_main (record { stop = n; acts = act; whole = w }) fuel (body_named 0 w.bodies main_name) s)

-- Run(P, input, changes, n). Each call of a body and each round of a loop begins a turn, so that n is fuel enough.
abbrev pub run : Program → List ℕ → Changes → ℕ → Out Value
run p input ch n = run_linked (linked p) input (acts_of ch) n n
