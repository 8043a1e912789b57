-- Place: the first address of each object.
-- It states docs/LANGUAGE.md, section Objects and places.
use Rattle.std.specs.Prelude.{ℕ, zero, suc, ◌+◌, ◌-◌, ◌*◌, List, [], ◌∷◌, length, Option, Some, None, slice_get, nat_lt, take}
use Rattle.c_type.specs.Names.{at_or, pick}
use Rattle.c_type.specs.Sizes.{size, up_to}
use Rattle.c_tree.specs.TUnit.{Func}
use Rattle.c_run.specs.Lasting.{Lasting}
use Rattle.c_tree.specs.Bodies.{BodyAt, autos}
use Rattle.c_run.specs.Values.{Object, Static, Local}
use Rattle.c_run.specs.State.{Made}
use Rattle.c_run.specs.Context.{Linked, Context, context, context_of}
use Rattle.c_run.specs.Calls.{no_made, rounded}

-- where .data begins
abbrev pub data_base : ℕ
data_base = 4194304

-- the size of an object of static life
abbrev pub lasting_size : Linked → Lasting → ℕ
lasting_size w x = size (context_of w x.unit 0).tags x.ty

-- The objects of static life stand one after the other, each at a multiple of 4. So .bss begins where .data ends, rounded up to 4.
abbrev pub static_place : Linked → ℕ → List Lasting → ℕ → ℕ
static_place w a [] k = a
static_place w a (x ∷ xs) zero = a
static_place w a (x ∷ xs) (suc k) = static_place w (up_to 4 (a + lasting_size w x)) xs k

-- parameters above the base, automatic objects below it, each under those before it
abbrev pub local_place : Context → Func → ℕ → ℕ → ℕ
local_place c f base i =
    pick (nat_lt i (length f.params)) (base + 8 + 4 * i) (base - rounded c (take (suc (i - length f.params)) (autos f)))

-- the place of object i of an activation with that base
abbrev pub made_place : Linked → Option BodyAt → ℕ → ℕ → ℕ
made_place w None base i = base
made_place w (Some b) base i = local_place (context w b) b.func base i

-- Place(object), where what is kept of each activation is given: a dead activation keeps its base
abbrev pub place : Linked → List Made → Object → ℕ
place w made (Static k) = static_place w data_base w.lasting k
place w made (Local serial i) = made_place w (slice_get w.bodies (at_or no_made made serial).fun) (at_or no_made made serial).base i
