-- What the worked rows look at.
use Rattle.std.specs.Prelude.{ℕ, List, [], ◌∷◌, Option, Some, None, false, map, length, slice_get}
use Rattle.c_type.specs.declared.Kind.TheVariants as kinds
use Rattle.c_type.specs.Names.{Name, at_or}
use Rattle.c_type.specs.Types.{CType, num}
use Rattle.c_tree.specs.TExpr.{TExpr}
use Rattle.c_tree.specs.TStmt.{Declr, Local, LocalDecl, TStmts}
use Rattle.c_tree.specs.TUnit.{TExt, func, plain, TypedUnit, Program, no_unit}
use Rattle.c_tree.specs.Bodies.{BodyAt}
use Rattle.c_run.specs.Values.{Object, Value, Num, Stop, NoFuel}
use Rattle.c_run.specs.State.{State, Act, Thing, Slot, Out, Gave, Halt, thing}
use Rattle.c_run.specs.Context.{Linked, linked}
use Rattle.c_run.specs.Scope.{Named, name_at, object_named, start_of, line_of}
use Rattle.c_run.specs.Place.{place}

abbrev pub int_t : CType
int_t = num kinds.Int

abbrev pub char_t : CType
char_t = num kinds.Char

abbrev pub short_t : CType
short_t = num kinds.Short

abbrev pub uint_t : CType
uint_t = num kinds.UInt

abbrev pub declr : Name → CType → Declr
declr x t = record { name = x; ty = t; dims = [] }

abbrev pub sized : Name → CType → List TExpr → Declr
sized x t es = record { name = x; ty = t; dims = es }

abbrev pub decl : Local → LocalDecl
decl d = record { items = d ∷ [] }

-- an external function without parameters
abbrev pub body : Name → CType → (k line : ℕ) → List LocalDecl → TStmts → (close close_line : ℕ) → TExt
body x t k line ds ss close close_line =
    func (plain int_t) (record { name = x; is_static = false; result = t; params = []; declared = []; open_ = k; line = line; locals = ds; stmts = ss; close = close; close_line = close_line })

abbrev pub unit_at : Program → ℕ → TypedUnit
unit_at p u = at_or no_unit p.units u

abbrev pub slot_at : ℕ → ℕ → Slot
slot_at a n = record { off = a; ty = int_t; val = Num n }

-- why the run ended, the turns begun, the output, and the line of each activation's current start, the latest first
pub record Report : Type 0 where
  pub why : Stop
  pub turns : ℕ
  pub output : List ℕ
  pub lines : List ℕ

abbrev pub or_zero : Option ℕ → ℕ
or_zero None = 0
or_zero (Some n) = n

abbrev pub report_of : Program → Stop → State → Report
report_of p w s = record { why = w; turns = s.turns; output = s.output; lines = map (λ a. or_zero (line_of (linked p) (start_of (linked p) a))) s.chain }

abbrev pub report : {A : Type 0} → Program → Out A → Report
report p (Gave a s) = report_of p NoFuel s
report p (Halt w s) = report_of p w s

abbrev pub state_of : {A : Type 0} → Out A → State
state_of (Gave a s) = s
state_of (Halt w s) = s

abbrev pub params_of : Option BodyAt → ℕ
params_of None = 0
params_of (Some b) = length b.func.params

abbrev pub object_in : Linked → Act → Option Named → Option Object
object_in w a None = None
object_in w a (Some n) = object_named w (params_of (slice_get w.bodies a.fun)) a.serial n

-- the object of a name where the latest activation stands
abbrev pub object_now : Linked → List Act → Name → Option Object
object_now w [] x = None
object_now w (a ∷ rs) x = object_in w a (name_at w (start_of w a) x)

abbrev pub values_in : Option Thing → Option (List Value)
values_in None = None
values_in (Some t) = Some (map (λ c. c.val) t.slots)

abbrev pub values_of : State → Option Object → Option (List Value)
values_of s None = None
values_of s (Some o) = values_in (thing s o)

-- the values of the cells of a name's object
abbrev pub held : {A : Type 0} → Program → Out A → Name → Option (List Value)
held p o x = values_of (state_of o) (object_now (linked p) (state_of o).chain x)

abbrev pub only : Option (List Value) → Option Value
only (Some (v ∷ [])) = Some v
only _ = None

-- the value of a scalar
abbrev pub shown : {A : Type 0} → Program → Out A → Name → Option Value
shown p o x = only (held p o x)

abbrev pub place_in : Linked → State → Option Object → Option ℕ
place_in w s None = None
place_in w s (Some o) = Some (place w s.made o)

-- the address of a name's object
abbrev pub placed : {A : Type 0} → Program → Out A → Name → Option ℕ
placed p o x = place_in (linked p) (state_of o) (object_now (linked p) (state_of o).chain x)
