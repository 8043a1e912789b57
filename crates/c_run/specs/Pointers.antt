-- Reading, writing, copying and pointer arithmetic, with the five rules of Leaves.
-- It states docs/LANGUAGE.md, section Faults and the end of defined C.
use Rattle.std.specs.Prelude.{ℕ, ◌+◌, ◌-◌, ◌*◌, ◌/◌, List, [], ◌∷◌, Option, Some, None, Bool, true, false, nat_eq, nat_lt, nat_le, ◌&&◌, ◌||◌, not}
use Rattle.c_type.specs.Names.{pick}
use Rattle.c_type.specs.Types.{CType, num, ptr, enum, fun}
use Rattle.c_type.specs.Sizes.{size}
use Rattle.c_type.specs.Cells.{Cell}
use Rattle.c_tree.specs.declared.typed_expr.TBinary.{TBinary}
use Rattle.c_tree.specs.declared.typed_expr.TBinary.TheVariants.{Sub, Lt, Gt, Le, Ge, Eq, Ne}
use Rattle.c_run.specs.Values.{Object, Value, Num, Null, To, Fn, same_object, suits, same_target, truth, Fault, Leaves}
use Rattle.c_tree.specs.Arith.{sub32}
use Rattle.c_run.specs.State.{State, Thing, Slot, Out, Gave, Halt, bind, choose, thing, put_cell, set_thing, read_slot, write_slot}
use Rattle.c_run.specs.Context.{Context, shared, cells_in}

-- defined C ends by that rule
abbrev pub leaves : {A : Type 0} → ℕ → State → Out A
leaves rule s = Halt (Leaves rule) s

-- reading a scalar

-- what was found, or the end by that rule
abbrev pub given_or : {A : Type 0} → ℕ → Option A → State → Out A
given_or rule None s = leaves rule s
given_or rule (Some a) s = Gave a s

-- reading in an object that is live or not
abbrev pub read_thing : CType → ℕ → Option Thing → State → Out Value
read_thing t a None s = leaves 1 s
read_thing t a (Some x) s = given_or 1 (read_slot t a x.slots) s

-- the scalar of type t at a place; t has the program's numbers for tags
abbrev pub read : CType → Value → State → Out Value
read t Null s = Halt (Fault 11) s
read t (To o a) s = read_thing t a (thing s o) s
read t (Num n) s = leaves 0 s
read t (Fn f) s = leaves 0 s

-- A function named by a pointer to it isn't read.
abbrev pub load : Context → CType → Value → State → Out Value
load c (fun t) v s = Gave v s
load c (num k) v s = read (num k) v s
load c (ptr t) v s = read (shared c.classes (ptr t)) v s
load c (enum k) v s = read (shared c.classes (enum k)) v s
load c _ v s = leaves 0 s

-- writing a scalar, which gives the value

-- writing where the cell is there or not
abbrev pub write_cell : CType → Object → ℕ → Value → Thing → Option Value → State → Out Value
write_cell t o a v x None s = leaves 1 s
write_cell t o a v x (Some old) s = Gave v (put_cell s o x t a v)

-- writing in an object that is live or not
abbrev pub write_thing : CType → Object → ℕ → Value → Option Thing → State → Out Value
write_thing t o a v None s = leaves 1 s
write_thing t o a v (Some x) s = write_cell t o a v x (read_slot t a x.slots) s

-- the value must suit the type
abbrev pub write : CType → Value → Value → State → Out Value
write t Null v s = Halt (Fault 11) s
write t (To o a) v s = choose (suits t v) s (write_thing t o a v (thing s o)) (leaves 0)
write t (Num n) v s = leaves 0 s
write t (Fn f) v s = leaves 0 s

-- the type has the unit's numbers for tags
abbrev pub store : Context → CType → Value → Value → State → Out Value
store c t p v s = write (shared c.classes t) p v s

-- copying a structure: its source is looked at, then its target, then all cells are copied

-- a list of values where each is there
abbrev pub and_cons : Option Value → Option (List Value) → Option (List Value)
and_cons None vs = None
and_cons (Some v) None = None
and_cons (Some v) (Some vs) = Some (v ∷ vs)

-- the values of cells that begin at offset a
abbrev pub read_cells : List Cell → ℕ → List Slot → Option (List Value)
read_cells [] a xs = Some []
read_cells (c ∷ cs) a xs = and_cons (read_slot c.ty (a + c.off) xs) (read_cells cs a xs)

-- the cells that begin at offset a with new values
abbrev pub write_cells : List Cell → ℕ → List Value → List Slot → List Slot
write_cells [] a vs xs = xs
write_cells (c ∷ cs) a [] xs = xs
write_cells (c ∷ cs) a (v ∷ vs) xs = write_cells cs a vs (write_slot c.ty (a + c.off) v xs)

-- looking at cells of an object that is live or not
abbrev pub look_thing : List Cell → ℕ → Option Thing → State → Out (List Value)
look_thing cs a None s = leaves 1 s
look_thing cs a (Some x) s = given_or 1 (read_cells cs a x.slots) s

-- the values of all cells at a place
abbrev pub look : List Cell → Value → State → Out (List Value)
look cs Null s = Halt (Fault 11) s
look cs (To o a) s = look_thing cs a (thing s o) s
look cs (Num n) s = leaves 0 s
look cs (Fn f) s = leaves 0 s

-- places of n bytes that overlap in part
abbrev pub overlap : ℕ → Value → Value → Bool
overlap n (To o a) (To p b) = same_object o p && ((nat_lt a b && nat_lt b (a + n)) || (nat_lt b a && nat_lt a (b + n)))
overlap n _ _ = false

-- writing cells of an object that is live or not
abbrev pub paste_thing : List Cell → Object → ℕ → List Value → Option Thing → State → Out Value
paste_thing cs o a vs None s = leaves 1 s
paste_thing cs o a vs (Some x) s = Gave (Num 0) (set_thing s o (record x { slots = write_cells cs a vs x.slots }))

-- new values for all cells at a place
abbrev pub paste : List Cell → Value → List Value → State → Out Value
paste cs (To o a) vs s = paste_thing cs o a vs (thing s o) s
paste cs _ vs s = leaves 0 s

-- the cells of the target are read to see that they are there
abbrev pub copy_cells : ℕ → List Cell → Value → Value → State → Out Value
copy_cells n cs p q s =
    bind (look cs q s) (λ vs s1. bind (look cs p s1) (λ unused s2. choose (overlap n p q) s2 (leaves 5) (paste cs p vs)))

-- a structure of type t copied from q to p
abbrev pub copy : Context → CType → Value → Value → State → Out Value
copy c t p q s = copy_cells (size c.tags t) (cells_in c t) p q s

-- pointer arithmetic

-- how far to move, and which way
abbrev pub moved_in : Object → ℕ → Bool → ℕ → Option Thing → State → Out Value
moved_in o a down d None s = leaves 2 s
moved_in o a true d (Some x) s = choose (nat_le d a) s (Gave (To o (a - d))) (leaves 2)
moved_in o a false d (Some x) s = choose (nat_le (a + d) x.size) s (Gave (To o (a + d))) (leaves 2)

-- a pointer moved inside its object, the end included
abbrev pub moved : Value → Bool → ℕ → State → Out Value
moved (To o a) down d s = moved_in o a down d (thing s o) s
moved Null down d s = leaves 2 s
moved (Num n) down d s = leaves 0 s
moved (Fn f) down d s = leaves 0 s

-- an integer added to a pointer to elements of that size, or taken off, without wrapping
abbrev pub add_to : (step : ℕ) (signed off : Bool) → Value → Value → State → Out Value
add_to step signed off p (Num n) s =
    choose (signed && nat_le 2147483648 n) s (moved p (not off) ((4294967296 - n) * step)) (moved p off (n * step))
add_to step signed off p _ s = leaves 0 s

-- the address of a member, or an array turned into a pointer: not through null or a dead object, and inside the object
abbrev pub as_pointer : Value → State → Out Value
as_pointer p s = moved p false 0 s

-- the place of a member
abbrev pub beyond : ℕ → Value → State → Out Value
beyond d (To o a) s = Gave (To o (a + d)) s
beyond d Null s = Gave Null s
beyond d (Num n) s = leaves 0 s
beyond d (Fn f) s = leaves 0 s

-- comparing

-- whether an offset is an object's end
abbrev pub is_end : ℕ → Thing → Bool
is_end a x = nat_eq a x.size

-- equality of two places, where each object is live or not
abbrev pub equal_things : Object → ℕ → Object → ℕ → Option Thing → Option Thing → State → Out Bool
equal_things o a p b None y s = leaves 3 s
equal_things o a p b (Some x) None s = leaves 3 s
equal_things o a p b (Some x) (Some y) s =
    choose (same_object o p) s (Gave (nat_eq a b)) (λ s1. choose (is_end a x || is_end b y) s1 (leaves 3) (Gave false))

-- a live pointer is not null
abbrev pub unequal_null : Option Thing → State → Out Bool
unequal_null None s = leaves 3 s
unequal_null (Some x) s = Gave false s

-- equality, by rule 3
abbrev pub equal : Value → Value → State → Out Bool
equal (To o a) (To p b) s = equal_things o a p b (thing s o) (thing s p) s
equal (To o a) Null s = unequal_null (thing s o) s
equal Null (To p b) s = unequal_null (thing s p) s
equal Null Null s = Gave true s
equal (Fn f) (Fn g) s = Gave (same_target f g) s
equal (Fn f) Null s = Gave false s
equal Null (Fn g) s = Gave false s
equal _ _ s = leaves 0 s

-- the offsets of two pointers into one object, both 0 for two nulls
abbrev pub offsets : Value → Value → State → Out (ℕ × ℕ)
offsets (To o a) (To p b) s = choose (same_object o p) s (Gave (a, b)) (leaves 3)
offsets Null Null s = Gave (0, 0) s
offsets Null (To p b) s = leaves 3 s
offsets (To o a) Null s = leaves 3 s
offsets _ _ s = leaves 0 s

-- a difference in elements, truncated toward zero
abbrev pub apart : (step a b : ℕ) → ℕ
apart step a b = pick (nat_le b a) ((a - b) / step) (sub32 0 ((b - a) / step))

-- the operators of two pointers to elements of that size
abbrev pub two_pointers : ℕ → TBinary → Value → Value → State → Out Value
two_pointers step Eq x y s = bind (equal x y s) (λ b s1. Gave (truth b) s1)
two_pointers step Ne x y s = bind (equal x y s) (λ b s1. Gave (truth (not b)) s1)
two_pointers step Lt x y s = bind (offsets x y s) (λ d s1. Gave (truth (nat_lt d.0 d.1)) s1)
two_pointers step Gt x y s = bind (offsets x y s) (λ d s1. Gave (truth (nat_lt d.1 d.0)) s1)
two_pointers step Le x y s = bind (offsets x y s) (λ d s1. Gave (truth (nat_le d.0 d.1)) s1)
two_pointers step Ge x y s = bind (offsets x y s) (λ d s1. Gave (truth (nat_le d.1 d.0)) s1)
two_pointers step Sub x y s = bind (offsets x y s) (λ d s1. Gave (Num (apart step d.0 d.1)) s1)
two_pointers step _ x y s = leaves 0 s
