-- What neither calls nor begins a turn leaves the number of turns as it is.
use Rattle.std.proofs.Common.{◌≡◌, ℕ, ◌+◌, ◌-◌, ◌*◌, List, Bool, true, false, refl, ◌∙◌, Option, Some, None}
use Rattle.std.specs.Prelude.{nat_le, nat_eq, ◌&&◌, ◌||◌, not}
use Rattle.c_type.specs.declared.Kind.TheVariants as kinds
use Rattle.c_type.specs.Types.{CType, num, ptr, enum, fun, is_pointer, signed_type}
use Rattle.c_type.specs.Cells.{Cell}
use Rattle.c_tree.specs.TExpr.{Ref, Local, Param, Static, Ext, Func, Outer, Const}
use Rattle.c_tree.specs.declared.typed_expr.TUnary.{TUnary}
use Rattle.c_tree.specs.declared.typed_expr.TUnary.TheVariants.{Not}
use Rattle.c_tree.specs.declared.typed_expr.TBinary.{TBinary}
use Rattle.c_tree.specs.declared.typed_expr.TBinary.TheVariants.{Add, Sub, Lt, Gt, Le, Ge, Eq, Ne}
use Rattle.c_tree.specs.declared.typed_expr.TStep.{TStep}
use Rattle.c_run.specs.Values as v
use Rattle.c_run.specs.Values.{same_object, suits, converted, Object, Target, Value, Num, Null, To, Fn, Stop, Stopped, NoFuel, Stack, Ended, Fault, Leaves, Ill}
use Rattle.c_run.specs.State.{State, Thing, Out, Gave, Halt, bind, choose, thing, set_thing, read_slot, write_slot, current}
use Rattle.c_run.specs.Context.{Context, object_of, own, outer, cells_in, shared}
use Rattle.c_run.specs.Pointers.{leaves, given_or, read_thing, read, load, write_cell, write_thing, write, store, look_thing, look, paste_thing, paste, copy, moved_in, moved, add_to, as_pointer, beyond, equal_things, unequal_null, equal, offsets, two_pointers, read_cells, overlap, is_end, write_cells}
use Rattle.c_type.specs.Sizes.{size}
use Rattle.c_tree.specs.Arith.{may_trap, two_numbers}
use Rattle.c_run.specs.Exprs.{unary_op, numbers, pointer_first, pointer_second, operate, as_place, as_function, place_of, value_of, updated, stepped, element, step_op}

abbrev pub Quiet : {A : Type 0} → State → Out A → Type 0
Quiet s (Gave a s1) = s1.turns ≡ s.turns
Quiet s (Halt Stopped s1) = ⊥
Quiet s (Halt NoFuel s1) = ⊥
Quiet s (Halt Stack s1) = Unit {0}
Quiet s (Halt (Ended n) s1) = Unit {0}
Quiet s (Halt (Fault n) s1) = Unit {0}
Quiet s (Halt (Leaves n) s1) = Unit {0}
Quiet s (Halt Ill s1) = Unit {0}

pub quiet_from : {A : Type 0} (s s1 : State) (o : Out A) → s1.turns ≡ s.turns → Quiet s1 o → Quiet s o
quiet_from s s1 (Gave a s2) e h = h ∙ e
quiet_from s s1 (Halt Stopped s2) e h = h
quiet_from s s1 (Halt NoFuel s2) e h = h
quiet_from s s1 (Halt Stack s2) e h = tt
quiet_from s s1 (Halt (Ended n) s2) e h = tt
quiet_from s s1 (Halt (Fault n) s2) e h = tt
quiet_from s s1 (Halt (Leaves n) s2) e h = tt
quiet_from s s1 (Halt Ill s2) e h = tt

pub quiet_bind : {A B : Type 0} (s : State) (o : Out A) (go : A → State → Out B) → Quiet s o → ((a : A) (s1 : State) → Quiet s1 (go a s1)) → Quiet s (bind o go)
quiet_bind s (Gave a s1) go e f = quiet_from s s1 (go a s1) e (f a s1)
quiet_bind s (Halt Stopped s2) go e f = e
quiet_bind s (Halt NoFuel s2) go e f = e
quiet_bind s (Halt Stack s2) go e f = tt
quiet_bind s (Halt (Ended n) s2) go e f = tt
quiet_bind s (Halt (Fault n) s2) go e f = tt
quiet_bind s (Halt (Leaves n) s2) go e f = tt
quiet_bind s (Halt Ill s2) go e f = tt

pub quiet_choose : {A : Type 0} (b : Bool) (s : State) (x y : State → Out A) → Quiet s (x s) → Quiet s (y s) → Quiet s (choose b s x y)
quiet_choose true s x y hx hy = hx
quiet_choose false s x y hx hy = hy

pub set_turns : (s : State) (o : Object) (x : Thing) → (set_thing s o x).turns ≡ s.turns
set_turns s (v.Static k) x = refl
set_turns s (v.Local q i) x = refl

pub quiet_given_or : {A : Type 0} (r : ℕ) (a : Option A) (s : State) → Quiet s (given_or r a s)
quiet_given_or r None s = tt
quiet_given_or r (Some a) s = refl

quiet_read_thing : (t : CType) (a : ℕ) (x : Option Thing) (s : State) → Quiet s (read_thing t a x s)
quiet_read_thing t a None s = tt
quiet_read_thing t a (Some x) s = quiet_given_or 1 (read_slot t a x.slots) s

quiet_read : (t : CType) (p : Value) (s : State) → Quiet s (read t p s)
quiet_read t Null s = tt
quiet_read t (To o a) s = quiet_read_thing t a (thing s o) s
quiet_read t (Num n) s = tt
quiet_read t (Fn f) s = tt

pub quiet_load : (c : Context) (t : CType) (p : Value) (s : State) → Quiet s (load c t p s)
quiet_load c (fun t) p s = refl
quiet_load c (num k) p s = quiet_read (num k) p s
quiet_load c (ptr t) p s = quiet_read (shared c.classes (ptr t)) p s
quiet_load c (enum k) p s = quiet_read (shared c.classes (enum k)) p s
quiet_load c _ p s = tt

quiet_write_cell : (t : CType) (o : Object) (a : ℕ) (w : Value) (x : Thing) (old : Option Value) (s : State) → Quiet s (write_cell t o a w x old s)
quiet_write_cell t o a w x None s = tt
quiet_write_cell t o a w x (Some old) s = set_turns s o (record x { slots = write_slot t a w x.slots })

quiet_write_thing : (t : CType) (o : Object) (a : ℕ) (w : Value) (x : Option Thing) (s : State) → Quiet s (write_thing t o a w x s)
quiet_write_thing t o a w None s = tt
quiet_write_thing t o a w (Some x) s = quiet_write_cell t o a w x (read_slot t a x.slots) s

quiet_write : (t : CType) (p w : Value) (s : State) → Quiet s (write t p w s)
quiet_write t Null w s = tt
quiet_write t (To o a) w s = quiet_choose (suits t w) s (write_thing t o a w (thing s o)) (leaves 0) (quiet_write_thing t o a w (thing s o) s) tt
quiet_write t (Num n) w s = tt
quiet_write t (Fn f) w s = tt

pub quiet_store : (c : Context) (t : CType) (p w : Value) (s : State) → Quiet s (store c t p w s)
quiet_store c t p w s = quiet_write (shared c.classes t) p w s

quiet_look_thing : (cs : List Cell) (a : ℕ) (x : Option Thing) (s : State) → Quiet s (look_thing cs a x s)
quiet_look_thing cs a None s = tt
quiet_look_thing cs a (Some x) s = quiet_given_or 1 (read_cells cs a x.slots) s

quiet_look : (cs : List Cell) (p : Value) (s : State) → Quiet s (look cs p s)
quiet_look cs Null s = tt
quiet_look cs (To o a) s = quiet_look_thing cs a (thing s o) s
quiet_look cs (Num n) s = tt
quiet_look cs (Fn f) s = tt

quiet_paste_thing : (cs : List Cell) (o : Object) (a : ℕ) (vs : List Value) (x : Option Thing) (s : State) → Quiet s (paste_thing cs o a vs x s)
quiet_paste_thing cs o a vs None s = tt
quiet_paste_thing cs o a vs (Some x) s = set_turns s o (record x { slots = write_cells cs a vs x.slots })

quiet_paste : (cs : List Cell) (p : Value) (vs : List Value) (s : State) → Quiet s (paste cs p vs s)
quiet_paste cs (To o a) vs s = quiet_paste_thing cs o a vs (thing s o) s
quiet_paste cs _ vs s = tt

pub quiet_copy : (c : Context) (t : CType) (p q : Value) (s : State) → Quiet s (copy c t p q s)
quiet_copy c t p q s =
    quiet_bind s (look (cells_in c t) q s) _ (quiet_look (cells_in c t) q s)
    (λ vs s1. quiet_bind s1 (look (cells_in c t) p s1) _ (quiet_look (cells_in c t) p s1)
    (λ old s2. quiet_choose (overlap (size c.tags t) p q) s2 (leaves 5) (paste (cells_in c t) p vs) tt (quiet_paste (cells_in c t) p vs s2)))

quiet_moved_in : (o : Object) (a : ℕ) (down : Bool) (d : ℕ) (x : Option Thing) (s : State) → Quiet s (moved_in o a down d x s)
quiet_moved_in o a down d None s = tt
quiet_moved_in o a true d (Some x) s = quiet_choose (nat_le d a) s (Gave (To o (a - d))) (leaves 2) refl tt
quiet_moved_in o a false d (Some x) s = quiet_choose (nat_le (a + d) x.size) s (Gave (To o (a + d))) (leaves 2) refl tt

quiet_moved : (p : Value) (down : Bool) (d : ℕ) (s : State) → Quiet s (moved p down d s)
quiet_moved (To o a) down d s = quiet_moved_in o a down d (thing s o) s
quiet_moved Null down d s = tt
quiet_moved (Num n) down d s = tt
quiet_moved (Fn f) down d s = tt

quiet_add_to : (step : ℕ) (signed off : Bool) (p w : Value) (s : State) → Quiet s (add_to step signed off p w s)
quiet_add_to step signed off p (Num n) s =
    quiet_choose (signed && nat_le 2147483648 n) s (moved p (not off) ((4294967296 - n) * step)) (moved p off (n * step))
    (quiet_moved p (not off) ((4294967296 - n) * step) s) (quiet_moved p off (n * step) s)
quiet_add_to step signed off p _ s = tt

pub quiet_as_pointer : (p : Value) (s : State) → Quiet s (as_pointer p s)
quiet_as_pointer p s = quiet_moved p false 0 s

pub quiet_beyond : (d : ℕ) (p : Value) (s : State) → Quiet s (beyond d p s)
quiet_beyond d (To o a) s = refl
quiet_beyond d Null s = refl
quiet_beyond d (Num n) s = tt
quiet_beyond d (Fn f) s = tt

quiet_equal_things : (o : Object) (a : ℕ) (p : Object) (b : ℕ) (x y : Option Thing) (s : State) → Quiet s (equal_things o a p b x y s)
quiet_equal_things o a p b None y s = tt
quiet_equal_things o a p b (Some x) None s = tt
quiet_equal_things o a p b (Some x) (Some y) s =
    quiet_choose (same_object o p) s (Gave (nat_eq a b)) (λ s1. choose (is_end a x || is_end b y) s1 (leaves 3) (Gave false)) refl
    (quiet_choose (is_end a x || is_end b y) s (leaves 3) (Gave false) tt refl)

quiet_unequal_null : (x : Option Thing) (s : State) → Quiet s (unequal_null x s)
quiet_unequal_null None s = tt
quiet_unequal_null (Some x) s = refl

quiet_equal : (p q : Value) (s : State) → Quiet s (equal p q s)
quiet_equal (To o a) (To p b) s = quiet_equal_things o a p b (thing s o) (thing s p) s
quiet_equal (To o a) Null s = quiet_unequal_null (thing s o) s
quiet_equal Null (To p b) s = quiet_unequal_null (thing s p) s
quiet_equal Null Null s = refl
quiet_equal (Fn f) (Fn g) s = refl
quiet_equal (Fn f) Null s = refl
quiet_equal Null (Fn g) s = refl
quiet_equal _ _ s = tt

quiet_offsets : (p q : Value) (s : State) → Quiet s (offsets p q s)
quiet_offsets (To o a) (To p b) s = quiet_choose (same_object o p) s (Gave (a, b)) (leaves 3) refl tt
quiet_offsets Null Null s = refl
quiet_offsets Null (To p b) s = tt
quiet_offsets (To o a) Null s = tt
quiet_offsets _ _ s = tt

quiet_two_pointers : (step : ℕ) (op : TBinary) (x y : Value) (s : State) → Quiet s (two_pointers step op x y s)
quiet_two_pointers step Eq x y s = quiet_bind s (equal x y s) _ (quiet_equal x y s) (λ b s1. refl)
quiet_two_pointers step Ne x y s = quiet_bind s (equal x y s) _ (quiet_equal x y s) (λ b s1. refl)
quiet_two_pointers step Lt x y s = quiet_bind s (offsets x y s) _ (quiet_offsets x y s) (λ d s1. refl)
quiet_two_pointers step Gt x y s = quiet_bind s (offsets x y s) _ (quiet_offsets x y s) (λ d s1. refl)
quiet_two_pointers step Le x y s = quiet_bind s (offsets x y s) _ (quiet_offsets x y s) (λ d s1. refl)
quiet_two_pointers step Ge x y s = quiet_bind s (offsets x y s) _ (quiet_offsets x y s) (λ d s1. refl)
quiet_two_pointers step Sub x y s = quiet_bind s (offsets x y s) _ (quiet_offsets x y s) (λ d s1. refl)
quiet_two_pointers step _ x y s = tt

quiet_numbers : (op : TBinary) (signed : Bool) (x y : Value) (s : State) → Quiet s (numbers op signed x y s)
quiet_numbers op signed (Num x) (Num y) s =
    quiet_choose (may_trap op signed x y) s (Halt (Fault 8)) (λ s1. Gave (Num (two_numbers op signed x y)) s1) tt refl
quiet_numbers op signed _ _ s = tt

quiet_pointer_first : (c : Context) (op : TBinary) (ta tb : CType) (x y : Value) (s : State) → Quiet s (pointer_first c op ta tb x y s)
quiet_pointer_first c Add ta tb x y s = quiet_add_to (element c ta) (signed_type tb) false x y s
quiet_pointer_first c Sub ta tb x y s = quiet_add_to (element c ta) (signed_type tb) true x y s
quiet_pointer_first c _ ta tb x y s = tt

quiet_pointer_second : (c : Context) (op : TBinary) (ta tb : CType) (x y : Value) (s : State) → Quiet s (pointer_second c op ta tb x y s)
quiet_pointer_second c Add ta tb x y s = quiet_add_to (element c tb) (signed_type ta) false y x s
quiet_pointer_second c _ ta tb x y s = tt

pub quiet_operate : (c : Context) (op : TBinary) (ta tb : CType) (x y : Value) (s : State) → Quiet s (operate c op ta tb x y s)
quiet_operate c op ta tb x y s =
    quiet_choose (is_pointer ta) s
    (λ s1. choose (is_pointer tb) s1 (two_pointers (element c ta) op x y) (pointer_first c op ta tb x y))
    (λ s1. choose (is_pointer tb) s1 (pointer_second c op ta tb x y) (numbers op (signed_type ta) x y))
    (quiet_choose (is_pointer tb) s (two_pointers (element c ta) op x y) (pointer_first c op ta tb x y)
    (quiet_two_pointers (element c ta) op x y s) (quiet_pointer_first c op ta tb x y s))
    (quiet_choose (is_pointer tb) s (pointer_second c op ta tb x y) (numbers op (signed_type ta) x y)
    (quiet_pointer_second c op ta tb x y s) (quiet_numbers op (signed_type ta) x y s))

pub quiet_unary_op : (op : TUnary) (w : Value) (s : State) → Quiet s (unary_op op w s)
quiet_unary_op op (Num x) s = refl
quiet_unary_op Not w s = refl
quiet_unary_op _ _ s = tt

pub quiet_as_place : (o : Option Object) (s : State) → Quiet s (as_place o s)
quiet_as_place None s = tt
quiet_as_place (Some o) s = refl

pub quiet_as_function : (f : Option Target) (s : State) → Quiet s (as_function f s)
quiet_as_function None s = tt
quiet_as_function (Some f) s = refl

pub quiet_place_of : (c : Context) (r : Ref) (s : State) → Quiet s (place_of c r s)
quiet_place_of c r s = quiet_as_place (object_of c (current s.chain) r) s

quiet_object : (c : Context) (t : CType) (r : Ref) (s : State) → Quiet s (bind (place_of c r s) (load c t))
quiet_object c t r s = quiet_bind s (place_of c r s) _ (quiet_place_of c r s) (λ p s1. quiet_load c t p s1)

pub quiet_value_of : (c : Context) (t : CType) (r : Ref) (s : State) → Quiet s (value_of c t r s)
quiet_value_of c t (Const n) s = refl
quiet_value_of c t (Func k) s = quiet_as_function (own c k) s
quiet_value_of c t (Outer x) s = quiet_as_function (outer c x) s
quiet_value_of c t (Local i) s = quiet_object c t (Local i) s
quiet_value_of c t (Param i) s = quiet_object c t (Param i) s
quiet_value_of c t (Static k) s = quiet_object c t (Static k) s
quiet_value_of c t (Ext x) s = quiet_object c t (Ext x) s

pub quiet_updated : (c : Context) (t : CType) (op : TBinary) (ta tb : CType) (p y : Value) (s : State) → Quiet s (updated c t op ta tb p y s)
quiet_updated c t op ta tb p y s =
    quiet_bind s (load c t p s) _ (quiet_load c t p s) (λ x s1. quiet_bind s1 (operate c op ta tb (converted ta x) y s1) _ (quiet_operate c op ta tb (converted ta x) y s1) (λ z s2. quiet_store c t p (converted t z) s2))

pub quiet_stepped : (c : Context) (t : CType) (op : TStep) (p : Value) (s : State) → Quiet s (stepped c t op p s)
quiet_stepped c t op p s =
    quiet_bind s (load c t p s) _ (quiet_load c t p s) (λ x s1. quiet_bind s1 (operate c (step_op op) t (num kinds.Int) x (Num 1) s1) _ (quiet_operate c (step_op op) t (num kinds.Int) x (Num 1) s1)
    (λ z s2. quiet_bind s2 (store c t p (converted t z) s2) _ (quiet_store c t p (converted t z) s2) (λ w s3. refl)))
