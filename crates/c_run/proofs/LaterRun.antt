-- Calls and whole runs under two stop numbers.
use Rattle.std.proofs.Common.{◌≡◌, ℕ, zero, suc, ◌+◌, ◌%◌, ◌<◌, ◌≤◌, List, [], ◌∷◌, length, refl, arith, subst, Option, Some, None}
use Rattle.std.specs.Prelude.{nat_le, slice_get}
use Rattle.c_type.specs.declared.Kind.TheVariants as kinds
use Rattle.c_type.specs.Kinds as k
use Rattle.c_type.specs.Types.{CType, num, Member}
use Rattle.c_tree.specs.TUnit.{Func, Var, Program}
use Rattle.c_tree.specs.TStmt.{locals, Init, Inits, single, bytes, group, no_inits, more_inits}
use Rattle.c_run.specs.Lasting.{Lasting}
use Rattle.c_tree.specs.Bodies.{BodyAt, body_named}
use Rattle.c_run.specs.Values.{Object, Static, Target, Body, Putchar, Getchar, Exit, Value, Num, Null, To, Fn, Stop, Stopped, NoFuel, Stack, Ended, Fault, Leaves, Ill}
use Rattle.c_run.specs.State.{State, Out, Gave, Halt, bind, choose, Changes, Acts, acts_of}
use Rattle.c_run.specs.Context.{Context, Linked, linked, context, context_of}
use Rattle.c_run.specs.Pointers.{leaves, store}
use Rattle.c_run.specs.Exprs.{Arg, value}
use Rattle.c_run.specs.Stmts.{Given, Rest, inits, stmts}
use Rattle.c_run.specs.Calls.{body, enter, entered, all_suit, left, result, call_body, call_target, call_with, library, put_byte, get_byte, first_number, fit, next_base, frame_of, stack_base, int_var, rest}
use Rattle.c_run.specs.Laws.{HasFuel, Halts, StopsAt, EndsAlike}
use Rattle.c_run.specs.Run.{no_call, put_bytes, begin_as, begin_parts, begin_static, begin_statics, blank, first_state, call_main, ended, run, parts, dimension}
use Rattle.c_tree.specs.Library.{main_name}
use Rattle.c_run.proofs.Quiet.{Quiet, quiet_store}
use Rattle.c_run.proofs.Later.{Goes, goes_from, goes_gave, goes_quiet, goes_bind, goes_last, goes_choose, AreQuiet, changes_quiet, goes_begin}
use Rattle.c_run.proofs.LaterExprs.{CallsGo, value_goes}
use Rattle.c_run.proofs.LaterStmts.{Good, given, inits_goes, stmts_goes, loop_goes}

body_goes : (n m t : ℕ) (act : Acts) → AreQuiet act → (w : Linked) (r r' : Rest) (c : Context) (f : Func) (s : State) → n ≤ m → Good n m t r r' → t ≤ suc s.turns → s.turns < n → Goes n m s (body (given n act w) r c f s) (body (given m act w) r' c f s)
body_goes n m t act q w r r' c f s nm g lo hi =
    goes_begin n m act q f.open_ s _ _ hi nm
    (λ s1 e1 lt1. goes_bind n m s1
    (inits (given n act w) r c (locals f.locals) s1 (stmts (given n act w) r c f.stmts)) (inits (given m act w) r' c (locals f.locals) s1 (stmts (given m act w) r' c f.stmts)) _ _
    (inits_goes n m t act q w r r' c (locals f.locals) s1 (stmts (given n act w) r c f.stmts) (stmts (given m act w) r' c f.stmts) nm g
    (λ s2 le2 lt2. stmts_goes n m t act q w r r' c nm g f.stmts s2 (omega arith) lt2) (omega arith) lt1)
    (λ fl s2 le2 lt2. goes_begin n m act q f.close s2 (λ s3. Gave (result f.result fl) (left s3)) (λ s3. Gave (result f.result fl) (left s3)) lt2 nm
    (λ s3 e3 lt3. goes_quiet n m s3 (Gave (result f.result fl) (left s3)) lt3 refl)))

enter_goes : (n m t : ℕ) (act : Acts) → AreQuiet act → (w : Linked) (r r' : Rest) (i : ℕ) (b : BodyAt) (c : Context) (as_ : List Arg) (base : ℕ) (s : State) → n ≤ m → Good n m t r r' → t ≤ suc s.turns → s.turns < n → Goes n m s (enter (given n act w) r i b c as_ base s) (enter (given m act w) r' i b c as_ base s)
enter_goes n m t act q w r r' i b c as_ base s nm g lo hi =
    goes_choose n m (all_suit b.func.params as_) s
    (λ s1. choose (nat_le (stack_base + frame_of c b.func) base) s1 (λ s2. body (given n act w) r c b.func (entered c i b.func as_ base s2)) (Halt Stack)) (leaves 0)
    (λ s1. choose (nat_le (stack_base + frame_of c b.func) base) s1 (λ s2. body (given m act w) r' c b.func (entered c i b.func as_ base s2)) (Halt Stack)) (leaves 0)
    (goes_choose n m (nat_le (stack_base + frame_of c b.func) base) s
    (λ s1. body (given n act w) r c b.func (entered c i b.func as_ base s1)) (Halt Stack)
    (λ s1. body (given m act w) r' c b.func (entered c i b.func as_ base s1)) (Halt Stack)
    (goes_from n m s (entered c i b.func as_ base s) (body (given n act w) r c b.func (entered c i b.func as_ base s)) (body (given m act w) r' c b.func (entered c i b.func as_ base s)) (omega arith)
    (body_goes n m t act q w r r' c b.func (entered c i b.func as_ base s) nm g lo hi))
    refl)
    refl

call_body_goes : (n m t : ℕ) (act : Acts) → AreQuiet act → (w : Linked) (r r' : Rest) (i : ℕ) (b : Option BodyAt) (as_ : List Arg) (s : State) → n ≤ m → Good n m t r r' → t ≤ suc s.turns → s.turns < n → Goes n m s (call_body (given n act w) r i b as_ s) (call_body (given m act w) r' i b as_ s)
call_body_goes n m t act q w r r' i None as_ s nm g lo hi = refl
call_body_goes n m t act q w r r' i (Some b) as_ s nm g lo hi =
    goes_choose n m (fit (context w b).classes b.func.params as_) s
    (λ s1. enter (given n act w) r i b (context w b) as_ (next_base w s1 (length as_) s1.chain) s1) (leaves 4)
    (λ s1. enter (given m act w) r' i b (context w b) as_ (next_base w s1 (length as_) s1.chain) s1) (leaves 4)
    (enter_goes n m t act q w r r' i b (context w b) as_ (next_base w s (length as_) s.chain) s nm g lo hi)
    refl

library_goes : (n m : ℕ) (act : Acts) (w : Linked) (vs : List Var) (as_ : List Arg) (s : State) (go : State → Out Value) → ((s1 : State) → Quiet s1 (go s1)) → s.turns < n → Goes n m s (library (given n act w) vs as_ s go) (library (given m act w) vs as_ s go)
library_goes n m act w vs as_ s go q hi =
    goes_choose n m (fit [] vs as_) s
    (λ s1. choose (nat_le (stack_base + 32) (next_base w s1 (length as_) s1.chain)) s1 go (Halt Stack)) (leaves 4)
    (λ s1. choose (nat_le (stack_base + 32) (next_base w s1 (length as_) s1.chain)) s1 go (Halt Stack)) (leaves 4)
    (goes_choose n m (nat_le (stack_base + 32) (next_base w s (length as_) s.chain)) s go (Halt Stack) go (Halt Stack) (goes_quiet n m s (go s) hi (q s)) refl)
    refl

quiet_get : (bs : List ℕ) (s : State) → Quiet s (get_byte bs s)
quiet_get [] s = refl
quiet_get (b ∷ bs) s = refl

pub call_target_goes : (n m t : ℕ) (act : Acts) → AreQuiet act → (w : Linked) (r r' : Rest) (f : Target) (as_ : List Arg) (s : State) → n ≤ m → Good n m t r r' → t ≤ suc s.turns → s.turns < n → Goes n m s (call_target (given n act w) r f as_ s) (call_target (given m act w) r' f as_ s)
call_target_goes n m t act q w r r' (Body i) as_ s nm g lo hi = call_body_goes n m t act q w r r' i (slice_get w.bodies i) as_ s nm g lo hi
call_target_goes n m t act q w r r' Putchar as_ s nm g lo hi =
    library_goes n m act w (int_var ∷ []) as_ s (put_byte (first_number as_ % 256)) (λ s1. refl) hi
call_target_goes n m t act q w r r' Getchar as_ s nm g lo hi =
    library_goes n m act w [] as_ s (λ s1. get_byte s1.input s1) (λ s1. quiet_get s1.input s1) hi
call_target_goes n m t act q w r r' Exit as_ s nm g lo hi =
    library_goes n m act w (int_var ∷ []) as_ s (Halt (Ended (first_number as_ % 256))) (λ s1. tt) hi

call_with_goes : (n m t : ℕ) (act : Acts) → AreQuiet act → (w : Linked) (r r' : Rest) (f : Value) (as_ : List Arg) (s : State) → n ≤ m → Good n m t r r' → t ≤ suc s.turns → s.turns < n → Goes n m s (call_with (given n act w) r f as_ s) (call_with (given m act w) r' f as_ s)
call_with_goes n m t act q w r r' (Fn f) as_ s nm g lo hi = call_target_goes n m t act q w r r' f as_ s nm g lo hi
call_with_goes n m t act q w r r' Null as_ s nm g lo hi = refl
call_with_goes n m t act q w r r' _ as_ s nm g lo hi = refl

-- fuel for the turns that are left is enough
pub rest_good : (f f' n m t : ℕ) (act : Acts) → AreQuiet act → (w : Linked) → n ≤ m → n ≤ t + f → m ≤ t + f' → Good n m t (rest f (given n act w)) (rest f' (given m act w))
rest_good zero f' n m t act q w nm a b = record {
  calls = λ v as_ s lo hi. absurd (omega arith);
  again = λ c st s lo hi. absurd (omega arith);
}
rest_good (suc f) zero n m t act q w nm a b = record {
  calls = λ v as_ s lo hi. absurd (omega arith);
  again = λ c st s lo hi. absurd (omega arith);
}
rest_good (suc f) (suc f') n m t act q w nm a b = record {
  calls = λ v as_ s lo hi. call_with_goes n m (suc s.turns) act q w (rest f (given n act w)) (rest f' (given m act w)) v as_ s nm (rest_good f f' n m (suc s.turns) act q w nm (omega arith) (omega arith)) (omega arith) hi;
  again = λ c st s lo hi. loop_goes n m (suc s.turns) act q w (rest f (given n act w)) (rest f' (given m act w)) c nm (rest_good f f' n m (suc s.turns) act q w nm (omega arith) (omega arith)) st s (omega arith) hi;
}

-- the first state

no_call_goes : (n m : ℕ) → CallsGo n m 0 no_call no_call
no_call_goes n m f as_ s lo hi = refl

put_bytes_goes : (n m : ℕ) (c : Context) (o : Object) (a i : ℕ) (bs : List ℕ) (s : State) → s.turns < n → Goes n m s (put_bytes c o a i bs s) (put_bytes c o a i bs s)
put_bytes_goes n m c o a zero bs s hi = goes_gave n m s (Num 0) hi
put_bytes_goes n m c o a (suc i) [] s hi = goes_gave n m s (Num 0) hi
put_bytes_goes n m c o a (suc i) (b ∷ bs) s hi =
    goes_bind n m s (store c (num kinds.Char) (To o a) (Num (k.extend 128 b)) s) (store c (num kinds.Char) (To o a) (Num (k.extend 128 b)) s) _ _
    (goes_quiet n m s (store c (num kinds.Char) (To o a) (Num (k.extend 128 b)) s) hi (quiet_store c (num kinds.Char) (To o a) (Num (k.extend 128 b)) s))
    (λ v s1 le lt. put_bytes_goes n m c o (a + 1) i bs s1 lt)

mutual
  begin_as_goes : (n m : ℕ) (c : Context) (o : Object) (a : ℕ) (t : CType) (i : Init) (s : State) → s.turns < n → Goes n m s (begin_as c o a t i s) (begin_as c o a t i s)
  begin_as_goes n m c o a t (single e) s hi =
      goes_last n m s (value c no_call e s) (value c no_call e s) (store c t (To o a)) (value_goes n m 0 c no_call no_call (no_call_goes n m) e s (omega arith) hi) (λ v s1. quiet_store c t (To o a) v s1)
  begin_as_goes n m c o a t (bytes bs) s hi = put_bytes_goes n m c o a (dimension t) bs s hi
  begin_as_goes n m c o a t (group is) s hi = begin_parts_goes n m c o a (parts c t) is s hi

  begin_parts_goes : (n m : ℕ) (c : Context) (o : Object) (a : ℕ) (ms : List Member) (is : Inits) (s : State) → s.turns < n → Goes n m s (begin_parts c o a ms is s) (begin_parts c o a ms is s)
  begin_parts_goes n m c o a ms no_inits s hi = goes_gave n m s (Num 0) hi
  begin_parts_goes n m c o a [] (more_inits i is) s hi = refl
  begin_parts_goes n m c o a (x ∷ ms) (more_inits i is) s hi =
      goes_bind n m s (begin_as c o (a + x.off) x.ty i s) (begin_as c o (a + x.off) x.ty i s) _ _ (begin_as_goes n m c o (a + x.off) x.ty i s hi)
      (λ v s1 le lt. begin_parts_goes n m c o a ms is s1 lt)

begin_static_goes : (n m : ℕ) (c : Context) (j : ℕ) (x : Lasting) (i : Option Init) (s : State) → s.turns < n → Goes n m s (begin_static c j x i s) (begin_static c j x i s)
begin_static_goes n m c j x None s hi = goes_gave n m s (Num 0) hi
begin_static_goes n m c j x (Some i) s hi = begin_as_goes n m c (Static j) 0 x.ty i s hi

begin_statics_goes : (n m : ℕ) (w : Linked) (j : ℕ) (xs : List Lasting) (s : State) → s.turns < n → Goes n m s (begin_statics w j xs s) (begin_statics w j xs s)
begin_statics_goes n m w j [] s hi = goes_gave n m s (Num 0) hi
begin_statics_goes n m w j (x ∷ xs) s hi =
    goes_bind n m s (begin_static (context_of w x.unit 0) j x x.init s) (begin_static (context_of w x.unit 0) j x x.init s) _ _
    (begin_static_goes n m (context_of w x.unit 0) j x x.init s hi) (λ v s1 le lt. begin_statics_goes n m w (suc j) xs s1 lt)

-- whole runs

ended_quiet : (v : Value) (s : State) → Quiet s (ended v s)
ended_quiet (Num n) s = tt
ended_quiet _ s = tt

call_main_goes : (n m : ℕ) (act : Acts) → AreQuiet act → (w : Linked) (f : Option ℕ) (s : State) → n ≤ m → s.turns < n → Goes n m s (call_main (given n act w) n f s) (call_main (given m act w) m f s)
call_main_goes n m act q w None s nm hi = refl
call_main_goes n m act q w (Some f) s nm hi =
    goes_last n m s (call_target (given n act w) (rest n (given n act w)) (Body f) [] s) (call_target (given m act w) (rest m (given m act w)) (Body f) [] s) ended
    (call_target_goes n m 0 act q w (rest n (given n act w)) (rest m (given m act w)) (Body f) [] s nm (rest_good n m n m 0 act q w nm (omega arith) (omega arith)) (omega arith) hi)
    (λ v s1. ended_quiet v s1)

-- Two runs of a program on the same input and with the same changes go the same way up to the lesser stop number.
pub run_goes : (p : Program) (input : List ℕ) (ch : Changes) (n m : ℕ) → 0 < n → n ≤ m → Goes n m (blank (linked p) input) (run p input ch n) (run p input ch m)
run_goes p input ch n m pos_ nm =
    goes_bind n m (blank (linked p) input) (first_state (linked p) input) (first_state (linked p) input) _ _
    (begin_statics_goes n m (linked p) 0 (linked p).lasting (blank (linked p) input) pos_)
    (λ v s1 le lt. call_main_goes n m (acts_of ch) (changes_quiet ch) (linked p) (body_named 0 (linked p).bodies main_name) s1 nm lt)

pub has_fuel : HasFuel
has_fuel p input ch n s pos_ e =
    let P : Out Value → Type 0 = λ o. Goes n n (blank (linked p) input) o (run p input ch n) in
    subst P e (run_goes p input ch n n pos_ (omega arith))

pub stops_at : StopsAt
stops_at p input ch n s pos_ e =
    let P : Out Value → Type 0 = λ o. Goes n n (blank (linked p) input) o (run p input ch n) in
    (subst P e (run_goes p input ch n n pos_ (omega arith))).0

-- what a run that ends with that gives says of the other run
ends_as : (n m : ℕ) (s0 : State) (why : Stop) (s : State) (o' : Out Value) → (why ≡ Stopped → ⊥) → Goes n m s0 (Halt why s) o' → o' ≡ Halt why s
ends_as n m s0 Stopped s o' ne h = absurd (ne refl)
ends_as n m s0 NoFuel s o' ne h = absurd h
ends_as n m s0 Stack s o' ne h = h
ends_as n m s0 (Ended i) s o' ne h = h
ends_as n m s0 (Fault i) s o' ne h = h
ends_as n m s0 (Leaves i) s o' ne h = h
ends_as n m s0 Ill s o' ne h = h

pub ends_alike : EndsAlike
ends_alike p input ch n m why s pos_ nm ne e =
    let P : Out Value → Type 0 = λ o. Goes n m (blank (linked p) input) o (run p input ch m) in
    ends_as n m (blank (linked p) input) why s (run p input ch m) ne (subst P e (run_goes p input ch n m pos_ nm))

-- main ends the run

abbrev IsHalt : {A : Type 0} → Out A → Type 0
IsHalt (Gave a s) = ⊥
IsHalt (Halt w s) = Unit {0}

bind_halts : {A B : Type 0} (o : Out A) (go : A → State → Out B) → ((a : A) (s : State) → IsHalt (go a s)) → IsHalt (bind o go)
bind_halts (Gave a s) go f = f a s
bind_halts (Halt w s) go f = tt

ended_halts : (v : Value) (s : State) → IsHalt (ended v s)
ended_halts (Num n) s = tt
ended_halts _ s = tt

main_halts : (g : Given) (fuel : ℕ) (f : Option ℕ) (s : State) → IsHalt (call_main g fuel f s)
main_halts g fuel None s = tt
main_halts g fuel (Some f) s = bind_halts (call_target g (rest fuel g) (Body f) [] s) ended (λ v s1. ended_halts v s1)

pub halts : Halts
halts p input ch n v s e =
    let P : Out Value → Type 0 = IsHalt in
    subst P e (bind_halts (first_state (linked p) input) _ (λ u s1. main_halts (given n (acts_of ch) (linked p)) n (body_named 0 (linked p).bodies main_name) s1))
