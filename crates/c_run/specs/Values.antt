-- Values, objects, and why a run ends.
-- It states docs/LANGUAGE.md, section Evaluation.
use Rattle.std.specs.Prelude.{ℕ, zero, suc, Bool, true, false, nat_eq, ◌&&◌}
use Rattle.c_type.specs.declared.Kind.TheVariants as kinds
use Rattle.c_type.specs.Types.{CType, num, void, ptr, enum}
use Rattle.c_type.specs.Kinds as k

-- a function body of the program, or one of the library
pub data Target : Type 0 where
  Body : (f : ℕ) → Target
  Putchar : Target
  Getchar : Target
  Exit : Target

-- Static(k) is the k-th object of static life in the order of places. Of an activation's objects the parameters come first.
pub data Object : Type 0 where
  Static : (k : ℕ) → Object
  Local : (serial i : ℕ) → Object

-- A number is the 32 bits of its value.
pub data Value : Type 0 where
  Num : (n : ℕ) → Value
  Null : Value
  To : (o : Object) (off : ℕ) → Value
  Fn : (f : Target) → Value

-- equality of objects, targets and values
abbrev pub same_object : Object → Object → Bool
same_object (Static k) (Static j) = nat_eq k j
same_object (Local s i) (Local r j) = nat_eq s r && nat_eq i j
same_object (Static k) (Local r j) = false
same_object (Local s i) (Static j) = false

-- equality of the functions that a pointer points to
abbrev pub same_target : Target → Target → Bool
same_target (Body f) (Body g) = nat_eq f g
same_target Putchar Putchar = true
same_target Getchar Getchar = true
same_target Exit Exit = true
same_target _ _ = false

-- equality of values
abbrev pub same_value : Value → Value → Bool
same_value (Num n) (Num m) = nat_eq n m
same_value Null Null = true
same_value (To o a) (To p b) = same_object o p && nat_eq a b
same_value (Fn f) (Fn g) = same_target f g
same_value _ _ = false

-- zero of a scalar type
abbrev pub zero_of : CType → Value
zero_of (ptr t) = Null
zero_of _ = Num 0

-- a number taken as a type; the constant 0 becomes a null pointer
abbrev pub number_as : CType → ℕ → Value
number_as (num kind) n = Num (k.convert kind n)
number_as (enum tag) n = Num (k.convert kinds.Int n)
number_as (ptr t) n = Null
number_as _ n = Num 0

-- whether a type is void
abbrev pub is_void : CType → Bool
is_void void = true
is_void _ = false

-- a value that void drops
abbrev pub kept_as : Bool → Value → Value
kept_as true v = Num 0
kept_as false v = v

-- a value converted to a type; to void everything is dropped, and a pointer keeps its value
abbrev pub converted : CType → Value → Value
converted t (Num n) = number_as t n
converted t Null = kept_as (is_void t) Null
converted t (To o a) = kept_as (is_void t) (To o a)
converted t (Fn f) = kept_as (is_void t) (Fn f)

-- whether a cell of that scalar type can hold the value
abbrev pub suits : CType → Value → Bool
suits (num kind) (Num n) = nat_eq (k.convert kind n) n
suits (enum tag) (Num n) = nat_eq (k.convert kinds.Int n) n
suits (ptr t) Null = true
suits (ptr t) (To o a) = true
suits (ptr t) (Fn f) = true
suits _ _ = false

-- what a test takes as true
abbrev pub is_true : Value → Bool
is_true (Num zero) = false
is_true (Num (suc n)) = true
is_true Null = false
is_true (To o a) = true
is_true (Fn f) = true

-- 1 for true, 0 for false
abbrev pub truth : Bool → Value
truth true = Num 1
truth false = Num 0

-- why a run goes no further; rule 0 is for what no checked tree does
pub data Stop : Type 0 where
  Stopped : Stop
  NoFuel : Stop
  Stack : Stop
  Ended : (status : ℕ) → Stop
  Fault : (signal : ℕ) → Stop
  Leaves : (rule : ℕ) → Stop
  Ill : Stop
