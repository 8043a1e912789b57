-- Which values are of a type, and which states hold such values alone.
use Rattle.std.specs.Prelude.{◌≡◌, ℕ, ◌<◌, List, [], ◌∷◌, Option, Some, None, Bool, true, false, nat_eq, slice_get}
use Rattle.c_type.specs.declared.Kind.{Kind}
use Rattle.c_type.specs.declared.Kind.TheVariants as kinds
use Rattle.c_type.specs.Kinds.{convert}
use Rattle.c_type.specs.Types.{CType, num, void, ptr, arr, struct, union, enum, fun, kind_code}
use Rattle.c_tree.specs.Bodies.{BodyAt}
use Rattle.c_run.specs.Values.{Target, Body, Putchar, Getchar, Exit, Value, Num, Null, To, Fn}
use Rattle.c_run.specs.State.{Slot, Thing, Act, State}
use Rattle.c_run.specs.Context.{Linked}
use Rattle.c_run.specs.Calls.{int_type}

-- Two types are built alike, whatever their tags and dimensions are. Then they have the same values.
abbrev pub like : CType → CType → Bool
like (num a) (num b) = nat_eq (kind_code a) (kind_code b)
like void void = true
like (ptr a) (ptr b) = like a b
like (arr n a) (arr m b) = like a b
like (struct i) (struct j) = true
like (union i) (union j) = true
like (enum i) (enum j) = true
like (fun a) (fun b) = like a b
like _ _ = false

-- a body that is there and gives what is built like t
abbrev pub BodyGives : CType → Option BodyAt → Type 0
BodyGives t None = ⊥
BodyGives t (Some b) = like b.func.result t ≡ true

-- a function of the program, or of the library, that gives what is built like t
abbrev pub Gives : Linked → CType → Target → Type 0
Gives w t (Body f) = BodyGives t (slice_get w.bodies f)
Gives w t Putchar = like int_type t ≡ true
Gives w t Getchar = like int_type t ≡ true
Gives w t Exit = like int_type t ≡ true

-- a pointer to a function that gives t
abbrev pub IsFunction : Linked → CType → Value → Type 0
IsFunction w t Null = Unit {0}
IsFunction w t (Fn f) = Gives w t f
IsFunction w t (Num n) = ⊥
IsFunction w t (To o a) = ⊥

-- a pointer to a place
abbrev pub IsPlace : Value → Type 0
IsPlace Null = Unit {0}
IsPlace (To o a) = a < 4294967296
IsPlace (Num n) = ⊥
IsPlace (Fn f) = ⊥

-- a pointer to t
abbrev pub PointsTo : Linked → CType → Value → Type 0
PointsTo w (fun t) v = IsFunction w t v
PointsTo w (num k) v = IsPlace v
PointsTo w void v = IsPlace v
PointsTo w (ptr t) v = IsPlace v
PointsTo w (arr n t) v = IsPlace v
PointsTo w (struct k) v = IsPlace v
PointsTo w (union k) v = IsPlace v
PointsTo w (enum k) v = IsPlace v

-- a number that an integer type holds
abbrev pub IsNumber : Kind → Value → Type 0
IsNumber kind (Num n) = convert kind n ≡ n
IsNumber kind Null = ⊥
IsNumber kind (To o a) = ⊥
IsNumber kind (Fn f) = ⊥

-- A value of type t. A function is a pointer to it, and of the types that are no scalars nothing is asked.
abbrev pub HasType : Linked → CType → Value → Type 0
HasType w (num kind) v = IsNumber kind v
HasType w (enum tag) v = IsNumber kinds.Int v
HasType w (ptr t) v = PointsTo w t v
HasType w (fun t) v = IsFunction w t v
HasType w void v = Unit {0}
HasType w (arr n t) v = Unit {0}
HasType w (struct tag) v = Unit {0}
HasType w (union tag) v = Unit {0}

-- each cell holds a value of its type
abbrev pub HoldSlots : Linked → List Slot → Type 0
HoldSlots w [] = Unit {0}
HoldSlots w (c ∷ cs) = HasType w c.ty c.val × HoldSlots w cs

-- an object's size is a number, and its cells hold values of their types
abbrev pub HoldsThing : Linked → Thing → Type 0
HoldsThing w x = (x.size < 4294967296) × HoldSlots w x.slots

abbrev pub HoldThings : Linked → List Thing → Type 0
HoldThings w [] = Unit {0}
HoldThings w (x ∷ xs) = HoldsThing w x × HoldThings w xs

abbrev pub HoldActs : Linked → List Act → Type 0
HoldActs w [] = Unit {0}
HoldActs w (a ∷ rs) = HoldThings w a.things × HoldActs w rs

-- each number is a byte
abbrev pub AreBytes : List ℕ → Type 0
AreBytes [] = Unit {0}
AreBytes (b ∷ bs) = (b < 256) × AreBytes bs

-- a state in which each cell of a live object holds a value of its type, and the input left is bytes
pub record Holds (w : Linked) (s : State) : Type 0 where
  pub statics : HoldThings w s.statics
  pub chain : HoldActs w s.chain
  pub input : AreBytes s.input
