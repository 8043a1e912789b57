-- What a function's names and types stand for.
-- It states docs/LANGUAGE.md, section Evaluation.
use Rattle.std.specs.Prelude.{ℕ, ◌+◌, List, [], ◌∷◌, length, Option, Some, None}
use Rattle.c_type.specs.Names.{Name, pick, at_or, same_name}
use Rattle.c_type.specs.Types.{CType, num, void, ptr, arr, struct, union, enum, fun, Tag}
use Rattle.c_type.specs.Sizes.{size, no_tag, no_member}
use Rattle.c_type.specs.Cells.{Cell, cells}
use Rattle.c_tree.specs.TExpr.{Ref, Local, Param, Static, Ext, Func, Outer, Const}
use Rattle.c_tree.specs.TUnit.{TypedUnit, Program, no_unit}
use Rattle.c_tree.specs.Library.{putchar_name, getchar_name, exit_name}
use Rattle.c_run.specs.Lasting.{Lasting, number_in, OfUnit, OfName, OfText, lastings}
use Rattle.c_tree.specs.Bodies.{BodyAt, body_in, body_named, bodies}
use Rattle.c_run.specs.Values as v
use Rattle.c_run.specs.Values.{Object, Target, Value, zero_of, Body, Putchar, Getchar, Exit}
use Rattle.c_run.specs.State.{Slot, Thing}

-- a program with its objects of static life and its functions in order
pub record Linked : Type 0 where
  pub units : List TypedUnit
  pub classes : List (List ℕ)
  pub lasting : List Lasting
  pub bodies : List BodyAt

-- the objects and functions of a program, listed
abbrev pub linked : Program → Linked
linked p = record { units = p.units; classes = p.classes; lasting = lastings p; bodies = bodies p }

-- where an expression stands: its unit, and the number of parameters of its function
pub record Context : Type 0 where
  pub whole : Linked
  pub unit : ℕ
  pub tags : List Tag
  pub classes : List ℕ
  pub params : ℕ

-- inside a function of so many parameters of unit u
abbrev pub context_of : Linked → (unit params : ℕ) → Context
context_of w u params =
    record { whole = w; unit = u; tags = (at_or no_unit w.units u).tags; classes = at_or [] w.classes u; params = params }

-- inside a function body
abbrev pub context : Linked → BodyAt → Context
context w b = context_of w b.unit (length b.func.params)

-- a type with the program's numbers for tags
abbrev pub shared : List ℕ → CType → CType
shared cs (num k) = num k
shared cs void = void
shared cs (ptr t) = ptr (shared cs t)
shared cs (arr n t) = arr n (shared cs t)
shared cs (struct k) = struct (at_or 0 cs k)
shared cs (union k) = union (at_or 0 cs k)
shared cs (enum k) = enum (at_or 0 cs k)
shared cs (fun t) = fun (shared cs t)

-- cells with the program's numbers for tags
abbrev pub shared_cells : List ℕ → List Cell → List Cell
shared_cells cs [] = []
shared_cells cs (c ∷ rest) = record { off = c.off; ty = shared cs c.ty } ∷ shared_cells cs rest

-- the cells of a type, with the program's numbers for tags
abbrev pub cells_in : Context → CType → List Cell
cells_in c t = shared_cells c.classes (cells c.tags t)

-- cells that hold zero
abbrev pub zero_slots : List Cell → List Slot
zero_slots [] = []
zero_slots (c ∷ cs) = record { off = c.off; ty = c.ty; val = zero_of c.ty } ∷ zero_slots cs

-- an object of a type, with zero in each cell
abbrev pub fresh : Context → CType → Thing
fresh c t = record { size = size c.tags t; slots = zero_slots (cells_in c t) }

-- objects of the types given, in order
abbrev pub fresh_all : Context → List CType → List Thing
fresh_all c [] = []
fresh_all c (t ∷ ts) = fresh c t ∷ fresh_all c ts

-- the tag of a structure
abbrev pub tag_of : CType → ℕ
tag_of (struct k) = k
tag_of (union k) = k
tag_of _ = 0

-- the offset of a member of a structure
abbrev pub offset : Context → CType → ℕ → ℕ
offset c t m = (at_or no_member (at_or no_tag c.tags (tag_of t)).members m).off

-- the object of that number
abbrev pub as_static : Option ℕ → Option Object
as_static None = None
as_static (Some n) = Some (v.Static n)

-- the object that a name stands for in the activation with that serial
abbrev pub object_of : Context → ℕ → Ref → Option Object
object_of c serial (Local i) = Some (v.Local serial (c.params + i))
object_of c serial (Param i) = Some (v.Local serial i)
object_of c serial (Static k) = as_static (number_in 0 c.whole.lasting (OfUnit c.unit k))
object_of c serial (Ext x) = as_static (number_in 0 c.whole.lasting (OfName x))
object_of c serial (Func k) = None
object_of c serial (Outer x) = None
object_of c serial (Const n) = None

-- the object of text k of the unit
abbrev pub text_object : Context → ℕ → Option Object
text_object c k = as_static (number_in 0 c.whole.lasting (OfText c.unit k))

-- the function of that number
abbrev pub as_body : Option ℕ → Option Target
as_body None = None
as_body (Some n) = Some (Body n)

-- body k of the unit
abbrev pub own : Context → ℕ → Option Target
own c k = as_body (body_in 0 c.whole.bodies c.unit k)

-- a function that the unit does not define
abbrev pub outer : Context → Name → Option Target
outer c x =
    pick (same_name x putchar_name) (Some Putchar) (pick (same_name x getchar_name) (Some Getchar) (pick (same_name x exit_name) (Some Exit)
    (as_body (body_named 0 c.whole.bodies x))))
