-- Evaluation of calls.
-- It states docs/LANGUAGE.md, section Evaluation.
use Rattle.std.specs.Prelude.{ℕ, zero, suc, ◌+◌, ◌-◌, ◌*◌, ◌%◌, List, [], ◌∷◌, ◌++◌, length, Option, Some, None, Bool, true, false, nat_le, ◌&&◌, ◌||◌, slice_get, map}
use Rattle.c_type.specs.declared.Kind.TheVariants as kinds
use Rattle.c_type.specs.Names.{at_or}
use Rattle.c_type.specs.Types.{CType, num, same_type, is_integer, is_pointer}
use Rattle.c_type.specs.Sizes.{size, up_to}
use Rattle.c_tree.specs.TStmt.{locals}
use Rattle.c_tree.specs.TUnit.{Func, Var}
use Rattle.c_tree.specs.Bodies.{BodyAt, Auto, autos}
use Rattle.c_run.specs.Values.{Target, Body, Putchar, Getchar, Exit, Value, Num, Null, Fn, converted, suits, zero_of, NoFuel, Stack, Ended}
use Rattle.c_run.specs.State.{State, Act, Made, Thing, Out, Gave, Halt, bind, choose, Flow, Returned}
use Rattle.c_run.specs.Context.{Context, Linked, context, fresh_all, shared}
use Rattle.c_run.specs.Pointers.{leaves}
use Rattle.c_run.specs.Exprs.{Arg}
use Rattle.c_run.specs.Stmts.{Given, Rest, turn, inits, stmts, loop}

-- the lowest address of the stack, and the base of main
abbrev pub stack_base : ℕ
stack_base = 2143289344

-- the base of main
abbrev pub main_base : ℕ
main_base = 2147483640

-- frames

-- the bytes of objects, each rounded up to 4
abbrev pub rounded : Context → List Auto → ℕ
rounded c [] = 0
rounded c (x ∷ xs) = up_to 4 (size c.tags x.ty) + rounded c xs

-- the locals and 256 bytes for temporaries
abbrev pub frame_of : Context → Func → ℕ
frame_of c f = rounded c (autos f) + 256

-- the frame of a body that is there or not
abbrev pub frame_at : Linked → Option BodyAt → ℕ
frame_at w None = 0
frame_at w (Some b) = frame_of (context w b) b.func

-- the frame of the body with that number
abbrev pub frame : Linked → ℕ → ℕ
frame w f = frame_at w (slice_get w.bodies f)

-- what stands for an activation that was never made
abbrev pub no_made : Made
no_made = record { fun = 0; base = 0 }

-- the base of an activation with n arguments that the latest one calls
abbrev pub next_base : Linked → State → ℕ → List Act → ℕ
next_base w s n [] = main_base
next_base w s n (a ∷ rs) = (at_or no_made s.made a.serial).base - (frame w a.fun + 4 * n + 8)

-- Rule 4: an integer for an integer, a pointer of the same type or the constant 0 for a pointer.

-- rule 4 for one argument
abbrev pub fits_kind : CType → Arg → Bool
fits_kind t a = (is_integer t && is_integer a.ty) || (is_pointer t && (same_type t a.ty || a.zero))

-- rule 4 for a list of arguments
abbrev pub fit : List ℕ → List Var → List Arg → Bool
fit cs [] [] = true
fit cs [] (a ∷ as_) = false
fit cs (v ∷ vs) [] = false
fit cs (v ∷ vs) (a ∷ as_) = fits_kind (shared cs v.ty) a && fit cs vs as_

-- a new activation: parameters with their converted arguments, automatic objects with zero

-- a parameter with its converted argument
abbrev pub param : Context → CType → Value → Thing
param c t v = record { size = size c.tags t; slots = record { off = 0; ty = shared c.classes t; val = converted t v } ∷ [] }

-- the parameters of a call
abbrev pub params : Context → List Var → List Arg → List Thing
params c [] as_ = []
params c (v ∷ vs) [] = []
params c (v ∷ vs) (a ∷ as_) = param c v.ty a.val ∷ params c vs as_

-- each converted argument is a value of its parameter's type
abbrev pub all_suit : List Var → List Arg → Bool
all_suit [] as_ = true
all_suit (v ∷ vs) [] = true
all_suit (v ∷ vs) (a ∷ as_) = suits v.ty (converted v.ty a.val) && all_suit vs as_

-- the new activation stands first in the chain
abbrev pub entered : Context → ℕ → Func → List Arg → ℕ → State → State
entered c f g as_ base s =
    record s {
      chain = record { serial = length s.made; fun = f; start = 0; things = params c g.params as_ ++ fresh_all c (map (λ x. x.ty) (autos g)) } ∷ s.chain;
      made = s.made ++ record { fun = f; base = base } ∷ [];
    }

-- the chain without its latest activation
abbrev pub drop_act : List Act → List Act
drop_act [] = []
drop_act (a ∷ rs) = rs

-- the latest activation is over
abbrev pub left : State → State
left s = record s { chain = drop_act s.chain }

-- a call that ends with no value gives 0
abbrev pub result : CType → Flow → Value
result t (Returned (Some v)) = v
result t _ = zero_of t

-- the outermost block was entered before the start of the opening brace
abbrev pub body : Given → Rest → Context → Func → State → Out Value
body g r c f s =
    turn g f.open_ s (λ s1. bind (inits g r c (locals f.locals) s1 (stmts g r c f.stmts))
    (λ fl s2. turn g f.close s2 (λ s3. Gave (result f.result fl) (left s3))))

-- a call that the frame's room decides
abbrev pub enter : Given → Rest → ℕ → BodyAt → Context → List Arg → ℕ → State → Out Value
enter g r n b c as_ base s =
    choose (all_suit b.func.params as_) s
    (λ s1. choose (nat_le (stack_base + frame_of c b.func) base) s1 (λ s2. body g r c b.func (entered c n b.func as_ base s2)) (Halt Stack)) (leaves 0)

-- a call of a body: rule 4 first, then the room for its frame
abbrev pub call_body : Given → Rest → ℕ → Option BodyAt → List Arg → State → Out Value
call_body g r n None as_ s = leaves 0 s
call_body g r n (Some b) as_ s =
    choose (fit (context g.whole b).classes b.func.params as_) s
    (λ s1. enter g r n b (context g.whole b) as_ (next_base g.whole s1 (length as_) s1.chain) s1) (leaves 4)

-- the library

-- the type of what the library takes and gives
abbrev pub int_type : CType
int_type = num kinds.Int

-- a parameter of the library
abbrev pub int_var : Var
int_var = record { name = []; ty = int_type }

-- a function of the library has a frame of 32 bytes and no start
abbrev pub library : Given → List Var → List Arg → State → (State → Out Value) → Out Value
library g vs as_ s go =
    choose (fit [] vs as_) s (λ s1. choose (nat_le (stack_base + 32) (next_base g.whole s1 (length as_) s1.chain)) s1 go (Halt Stack)) (leaves 4)

-- the number that the first argument is
abbrev pub first_number : List Arg → ℕ
first_number [] = 0
first_number (a ∷ as_) = number a.val
  where
    number : Value → ℕ
    number (Num n) = n
    number _ = 0

-- `putchar`: the byte is appended and given
abbrev pub put_byte : ℕ → State → Out Value
put_byte n s = Gave (Num n) (record s { output = s.output ++ n ∷ [] })

-- `getchar`: the next byte, or -1 at the end
abbrev pub get_byte : List ℕ → State → Out Value
get_byte [] s = Gave (Num 4294967295) s
get_byte (b ∷ bs) s = Gave (Num b) (record s { input = bs })

-- a call of a body or of the library
abbrev pub call_target : Given → Rest → Target → List Arg → State → Out Value
call_target g r (Body f) as_ s = call_body g r f (slice_get g.whole.bodies f) as_ s
call_target g r Putchar as_ s = library g (int_var ∷ []) as_ s (put_byte (first_number as_ % 256))
call_target g r Getchar as_ s = library g [] as_ s (λ s1. get_byte s1.input s1)
call_target g r Exit as_ s = library g (int_var ∷ []) as_ s (Halt (Ended (first_number as_ % 256)))

-- a call of the function that a value stands for
abbrev pub call_with : Given → Rest → Value → List Arg → State → Out Value
call_with g r (Fn f) as_ s = call_target g r f as_ s
call_with g r Null as_ s = leaves 4 s
call_with g r _ as_ s = leaves 0 s

-- what calls and further rounds do with that fuel
abbrev pub rest : ℕ → Given → Rest
rest zero g = record { call = λ f as_ s. Halt NoFuel s; again = λ c st s. Halt NoFuel s }
rest (suc n) g = record { call = call_with g (rest n g); again = loop g (rest n g) }
