-- Calls go well: a new activation holds values of its types, and what a body returns is of its result's type.
use Rattle.std.proofs.Common.{◌≡◌, ℕ, zero, suc, ◌+◌, ◌%◌, ◌<◌, List, [], ◌∷◌, ◌++◌, length, Bool, true, false, refl, sym, ◌∙◌, subst, arith, mod-eq_of_lt, Option, Some, None}
use Rattle.std.specs.Prelude.{nat_le, ◌&&◌, ◌||◌, slice_get, map}
use Rattle.std.proofs.lemmas.Bool.{and_parts, and_from, or_left, both_ways}
use Rattle.std.proofs.lemmas.Nat.{mod_below}
use Rattle.c_type.specs.Types.{CType, num, void, ptr, arr, struct, union, enum, fun, is_integer, is_pointer, same_type}
use Rattle.c_tree.specs.TStmt.{locals}
use Rattle.c_tree.specs.TUnit.{Func, Var}
use Rattle.c_tree.specs.Bodies.{BodyAt, autos}
use Rattle.c_run.specs.Values.{Target, Body, Putchar, Getchar, Exit, Value, Num, Null, To, Fn, converted, suits, Stack, Ended}
use Rattle.c_run.specs.State.{State, Act, Thing, Out, Gave, Halt, bind, choose, Flow, Next, Broke, Continued, Returned}
use Rattle.c_run.specs.Context.{Context, Linked, context, context_of, fresh_all, shared}
use Rattle.c_run.specs.Pointers.{leaves}
use Rattle.c_run.specs.Exprs.{Arg}
use Rattle.c_run.specs.Stmts.{Given, Rest, turn, inits, stmts}
use Rattle.c_run.specs.Calls.{fits_kind, fit, params, all_suit, entered, drop_act, left, result, body, enter, call_body, int_type, int_var, library, first_number, put_byte, get_byte, call_target, call_with, stack_base, frame_of, next_base, rest}
use Rattle.c_rule.specs.RuleTypes.{is_function, is_void}
use Rattle.c_rule.specs.RuleValues.{is_scalar}
use Rattle.c_sound.specs.HasType.{like, HasType, HoldThings, HoldActs, Holds, AreBytes, BodyGives, Gives}
use Rattle.c_sound.specs.Suits.{SuitsFunc}
use Rattle.c_sound.specs.Program.{IsBound, HasText, HaveSizes, SuitsBody, SuitBodies, SuitsProgram}
use Rattle.c_sound.proofs.Goes.{Goes, goes_bind, goes_choose, HoldsArg, HoldArgs, CallsGo, AllExprsGo}
use Rattle.c_sound.proofs.Types.{like_has, like_shared, has_suits, converts_has, zero_has, size_below}
use Rattle.c_sound.proofs.Memory.{goes_as, fresh_holds}
use Rattle.c_sound.proofs.Statements.{ActsGo, FlowHas, LoopsGo, PartsGo, begin_goes, inits_goes, stmts_goes, loop_goes}

-- parameters

-- what is said of an argument that fits, over the tests alone
fits_any : (v i j p s z : Bool) → (z ≡ true → j ≡ true) → ((i && j) || (p && (s || z))) ≡ true → (v || ((i && j) || (p && (j || s)))) ≡ true
fits_any true i j p s z f h = refl
fits_any false true true p s z f h = refl
fits_any false false true true s z f h = refl
fits_any false false true false s z f h = cc
fits_any false true false true true z f h = refl
fits_any false false false true true z f h = refl
fits_any false true false true false true f h = f refl
fits_any false false false true false true f h = f refl
fits_any false true false true false false f h = cc
fits_any false false false true false false f h = cc
fits_any false true false false s z f h = cc
fits_any false false false false s z f h = cc

fits_scalar : (i j p q : Bool) → ((i && j) || (p && q)) ≡ true → (i || p) ≡ true
fits_scalar true j p q h = refl
fits_scalar false j true q h = refl
fits_scalar false j false q h = cc

shared_is_scalar : (cs : List ℕ) (t : CType) → is_scalar (shared cs t) ≡ is_scalar t
shared_is_scalar cs (num k) = refl
shared_is_scalar cs void = refl
shared_is_scalar cs (ptr t) = refl
shared_is_scalar cs (arr n t) = refl
shared_is_scalar cs (struct k) = refl
shared_is_scalar cs (union k) = refl
shared_is_scalar cs (enum k) = refl
shared_is_scalar cs (fun t) = refl

shared_converts : (cs : List ℕ) (t : CType) (v : Value) → converted (shared cs t) v ≡ converted t v
shared_converts cs (num k) (Num n) = refl
shared_converts cs void (Num n) = refl
shared_converts cs (ptr t) (Num n) = refl
shared_converts cs (arr m t) (Num n) = refl
shared_converts cs (struct k) (Num n) = refl
shared_converts cs (union k) (Num n) = refl
shared_converts cs (enum k) (Num n) = refl
shared_converts cs (fun t) (Num n) = refl
shared_converts cs (num k) _ = refl
shared_converts cs void _ = refl
shared_converts cs (ptr t) _ = refl
shared_converts cs (arr m t) _ = refl
shared_converts cs (struct k) _ = refl
shared_converts cs (union k) _ = refl
shared_converts cs (enum k) _ = refl
shared_converts cs (fun t) _ = refl

-- the converted argument has the parameter's type
argument_has : (w : Linked) (cs : List ℕ) (t : CType) (a : Arg) → fits_kind (shared cs t) a ≡ true → HoldsArg w a → HasType w (shared cs t) (converted t a.val)
argument_has w cs t a f h =
    let P : Value → Type 0 = HasType w (shared cs t) in
    let u = shared cs t in
    subst P (shared_converts cs t a.val)
    (converts_has w u a.ty a.val (or_left (is_scalar a.ty) (is_void a.ty) h.1)
    (fits_any (is_void u) (is_integer u) (is_integer a.ty) (is_pointer u) (same_type u a.ty) a.zero h.2 f) h.0)

argument_suits : (w : Linked) (cs : List ℕ) (t : CType) (a : Arg) → fits_kind (shared cs t) a ≡ true → HoldsArg w a → suits t (converted t a.val) ≡ true
argument_suits w cs t a f h =
    let u = shared cs t in
    has_suits w t (converted t a.val)
    (sym (shared_is_scalar cs t) ∙ fits_scalar (is_integer u) (is_integer a.ty) (is_pointer u) (same_type u a.ty || a.zero) f)
    (like_has w u t (converted t a.val) (like_shared cs t) (argument_has w cs t a f h))

all_suit_holds : (w : Linked) (cs : List ℕ) (vs : List Var) (as_ : List Arg) → fit cs vs as_ ≡ true → HoldArgs w as_ → all_suit vs as_ ≡ true
all_suit_holds w cs [] as_ f h = refl
all_suit_holds w cs (v ∷ vs) [] f h = refl
all_suit_holds w cs (v ∷ vs) (a ∷ as_) f h =
    let q = and_parts (fits_kind (shared cs v.ty) a) (fit cs vs as_) f in
    and_from (suits v.ty (converted v.ty a.val)) (all_suit vs as_) (argument_suits w cs v.ty a q.0 h.0) (all_suit_holds w cs vs as_ q.1 h.1)

params_hold : (c : Context) (vs : List Var) (as_ : List Arg) → HaveSizes c.tags → fit c.classes vs as_ ≡ true → HoldArgs c.whole as_ → HoldThings c.whole (params c vs as_)
params_hold c [] as_ z f h = tt
params_hold c (v ∷ vs) [] z f h = tt
params_hold c (v ∷ vs) (a ∷ as_) z f h =
    let q = and_parts (fits_kind (shared c.classes v.ty) a) (fit c.classes vs as_) f in
    ((size_below c.tags v.ty z, (argument_has c.whole c.classes v.ty a q.0 h.0, tt)), params_hold c vs as_ z q.1 h.1)

-- activations

fresh_all_hold : (c : Context) (ts : List CType) → HaveSizes c.tags → HoldThings c.whole (fresh_all c ts)
fresh_all_hold c [] z = tt
fresh_all_hold c (t ∷ ts) z = (fresh_holds c t z, fresh_all_hold c ts z)

both_hold : (w : Linked) (xs ys : List Thing) → HoldThings w xs → HoldThings w ys → HoldThings w (xs ++ ys)
both_hold w [] ys h k = k
both_hold w (x ∷ xs) ys h k = (h.0, both_hold w xs ys h.1 k)

entered_holds : (c : Context) (n : ℕ) (f : Func) (as_ : List Arg) (base : ℕ) (s : State) → HaveSizes c.tags → fit c.classes f.params as_ ≡ true →
    HoldArgs c.whole as_ → Holds c.whole s → Holds c.whole (entered c n f as_ base s)
entered_holds c n f as_ base s z e h hs =
    let ts = map (λ x. x.ty) (autos f) in
    record {
      statics = hs.statics;
      chain = (both_hold c.whole (params c f.params as_) (fresh_all c ts) (params_hold c f.params as_ z e h) (fresh_all_hold c ts z), hs.chain);
      input = hs.input;
    }

dropped_holds : (w : Linked) (rs : List Act) → HoldActs w rs → HoldActs w (drop_act rs)
dropped_holds w [] h = tt
dropped_holds w (a ∷ rs) h = h.1

left_holds : (w : Linked) (s : State) → Holds w s → Holds w (left s)
left_holds w s h = record { statics = h.statics; chain = dropped_holds w s.chain h.chain; input = h.input }

-- bodies

result_has : (w : Linked) (t : CType) (f : Flow) → is_function t ≡ false → FlowHas w t f → HasType w t (result t f)
result_has w t Next n h = zero_has w t n
result_has w t Broke n h = zero_has w t n
result_has w t Continued n h = zero_has w t n
result_has w t (Returned None) n h = zero_has w t n
result_has w t (Returned (Some v)) n h = h

body_goes : (ch : Bool) (g : Given) (r : Rest) (c : Context) (f : Func) (s : State) → PartsGo ch g r c → SuitsFunc (IsBound c) (HasText c) f →
    Holds c.whole s → Goes ch c.whole (HasType c.whole f.result) (body g r c f s)
body_goes ch g r c f s p h hs =
    begin_goes ch c.whole (HasType c.whole f.result) g.stop g.acts f.open_ s
    (λ s1. bind (inits g r c (locals f.locals) s1 (stmts g r c f.stmts)) (λ fl s2. turn g f.close s2 (λ s3. Gave (result f.result fl) (left s3)))) p.acts hs
    (λ s1 h1. goes_bind ch c.whole (FlowHas c.whole f.result) (HasType c.whole f.result) (inits g r c (locals f.locals) s1 (stmts g r c f.stmts))
    (λ fl s2. turn g f.close s2 (λ s3. Gave (result f.result fl) (left s3)))
    (inits_goes ch g r c f.result p (locals f.locals) s1 (stmts g r c f.stmts) h.1 h1 (λ s2 h2. stmts_goes ch g r c f.result p f.stmts s2 h.2 h2))
    (λ fl s2 q h2. begin_goes ch c.whole (HasType c.whole f.result) g.stop g.acts f.close s2 (λ s3. Gave (result f.result fl) (left s3)) p.acts h2
    (λ s3 h3. (result_has c.whole f.result fl h.0 q, left_holds c.whole s3 h3))))

enter_goes : (ch : Bool) (g : Given) (r : Rest) (n : ℕ) (b : BodyAt) (c : Context) (as_ : List Arg) (base : ℕ) (s : State) → PartsGo ch g r c →
    SuitsFunc (IsBound c) (HasText c) b.func → fit c.classes b.func.params as_ ≡ true → HoldArgs c.whole as_ → Holds c.whole s →
    Goes ch c.whole (HasType c.whole b.func.result) (enter g r n b c as_ base s)
enter_goes ch g r n b c as_ base s p h e ha hs =
    let there = all_suit_holds c.whole c.classes b.func.params as_ e ha in
    goes_choose ch c.whole (HasType c.whole b.func.result) (all_suit b.func.params as_) s
    (λ s1. choose (nat_le (stack_base + frame_of c b.func) base) s1 (λ s2. body g r c b.func (entered c n b.func as_ base s2)) (Halt Stack)) (leaves 0)
    (λ q. goes_choose ch c.whole (HasType c.whole b.func.result) (nat_le (stack_base + frame_of c b.func) base) s
    (λ s2. body g r c b.func (entered c n b.func as_ base s2)) (Halt Stack)
    (λ q1. body_goes ch g r c b.func (entered c n b.func as_ base s) p h (entered_holds c n b.func as_ base s p.sizes e ha hs)) (λ q1. tt))
    (λ q. absurd (both_ways (all_suit b.func.params as_) q there))

-- what has less fuel goes well
pub record RestGoes (ch : Bool) (w : Linked) (r : Rest) : Type 0 where
  pub calls : CallsGo ch w r.call
  pub again : (u n : ℕ) → LoopsGo ch (context_of w u n) r.again

-- what a program's statements rest on
pub parts_go : (ch : Bool) (g : Given) (r : Rest) → AllExprsGo ch → SuitsProgram g.whole → ActsGo ch g.whole g.acts → RestGoes ch g.whole r →
    (u n : ℕ) → PartsGo ch g r (context_of g.whole u n)
parts_go ch g r eg d a h u n =
    record { acts = a; exprs = eg (context_of g.whole u n) true r.call (λ q. h.calls) (d.sizes u); again = h.again u n; sizes = d.sizes u }

abbrev pub SuitsOne : Linked → Option BodyAt → Type 0
SuitsOne w None = Unit {0}
SuitsOne w (Some b) = SuitsBody w b

pub get_suits : (w : Linked) (bs : List BodyAt) (i : ℕ) → SuitBodies w bs → SuitsOne w (slice_get bs i)
get_suits w [] i h = tt
get_suits w (b ∷ bs) zero h = h.0
get_suits w (b ∷ bs) (suc i) h = get_suits w bs i h.1

pub call_body_goes : (ch : Bool) (g : Given) (r : Rest) (t : CType) (n : ℕ) (o : Option BodyAt) (as_ : List Arg) (s : State) →
    ((u k : ℕ) → PartsGo ch g r (context_of g.whole u k)) → SuitsOne g.whole o → BodyGives t o → HoldArgs g.whole as_ → Holds g.whole s →
    Goes ch g.whole (HasType g.whole t) (call_body g r n o as_ s)
call_body_goes ch g r t n None as_ s p h l ha hs = absurd l
call_body_goes ch g r t n (Some b) as_ s p h l ha hs =
    let c = context g.whole b in
    goes_choose ch g.whole (HasType g.whole t) (fit c.classes b.func.params as_) s
    (λ s1. enter g r n b c as_ (next_base g.whole s1 (length as_) s1.chain) s1) (leaves 4)
    (λ q. goes_as ch g.whole (HasType g.whole b.func.result) (HasType g.whole t) (enter g r n b c as_ (next_base g.whole s (length as_) s.chain) s)
    (λ v. like_has g.whole b.func.result t v l)
    (enter_goes ch g r n b c as_ (next_base g.whole s (length as_) s.chain) s (p b.unit (length b.func.params)) h q ha hs))
    (λ q. tt)

-- the library

library_goes : (ch : Bool) (g : Given) (P : Value → Type 0) (vs : List Var) (as_ : List Arg) (s : State) (go : State → Out Value) →
    Goes ch g.whole P (go s) → Goes ch g.whole P (library g vs as_ s go)
library_goes ch g P vs as_ s go h =
    goes_choose ch g.whole P (fit [] vs as_) s (λ s1. choose (nat_le (stack_base + 32) (next_base g.whole s1 (length as_) s1.chain)) s1 go (Halt Stack)) (leaves 4)
    (λ q. goes_choose ch g.whole P (nat_le (stack_base + 32) (next_base g.whole s (length as_) s.chain)) s go (Halt Stack) (λ q1. h) (λ q1. tt)) (λ q. tt)

byte_has : (w : Linked) (t : CType) (n : ℕ) → like int_type t ≡ true → n < 256 → HasType w t (Num n)
byte_has w t n l lt = like_has w int_type t (Num n) l (mod-eq_of_lt (omega arith))

get_byte_goes : (ch : Bool) (w : Linked) (t : CType) (bs : List ℕ) (s : State) → like int_type t ≡ true → AreBytes bs → Holds w s →
    Goes ch w (HasType w t) (get_byte bs s)
get_byte_goes ch w t [] s l b h = (like_has w int_type t (Num 4294967295) l refl, h)
get_byte_goes ch w t (n ∷ bs) s l b h = (byte_has w t n l b.0, record { statics = h.statics; chain = h.chain; input = b.1 })

call_target_goes : (ch : Bool) (g : Given) (r : Rest) (t : CType) (f : Target) (as_ : List Arg) (s : State) → SuitsProgram g.whole →
    ((u k : ℕ) → PartsGo ch g r (context_of g.whole u k)) → Gives g.whole t f → HoldArgs g.whole as_ → Holds g.whole s →
    Goes ch g.whole (HasType g.whole t) (call_target g r f as_ s)
call_target_goes ch g r t (Body i) as_ s d p l ha hs =
    call_body_goes ch g r t i (slice_get g.whole.bodies i) as_ s p (get_suits g.whole g.whole.bodies i d.bodies) l ha hs
call_target_goes ch g r t Putchar as_ s d p l ha hs =
    library_goes ch g (HasType g.whole t) (int_var ∷ []) as_ s (put_byte (first_number as_ % 256))
    (byte_has g.whole t (first_number as_ % 256) l (mod_below (first_number as_) 256 (omega arith)), record { statics = hs.statics; chain = hs.chain; input = hs.input })
call_target_goes ch g r t Getchar as_ s d p l ha hs =
    library_goes ch g (HasType g.whole t) [] as_ s (λ s1. get_byte s1.input s1) (get_byte_goes ch g.whole t s.input s l hs.input hs)
call_target_goes ch g r t Exit as_ s d p l ha hs =
    library_goes ch g (HasType g.whole t) (int_var ∷ []) as_ s (Halt (Ended (first_number as_ % 256))) tt

call_with_goes : (ch : Bool) (g : Given) (r : Rest) → SuitsProgram g.whole → ((u k : ℕ) → PartsGo ch g r (context_of g.whole u k)) → CallsGo ch g.whole (call_with g r)
call_with_goes ch g r d p t Null as_ s l ha hs = tt
call_with_goes ch g r d p t (Fn f) as_ s l ha hs = call_target_goes ch g r t f as_ s d p l ha hs
call_with_goes ch g r d p t (Num n) as_ s l ha hs = absurd l
call_with_goes ch g r d p t (To o a) as_ s l ha hs = absurd l

-- with any fuel
pub rest_goes : (ch : Bool) (g : Given) → AllExprsGo ch → SuitsProgram g.whole → ActsGo ch g.whole g.acts → (n : ℕ) → RestGoes ch g.whole (rest n g)
rest_goes ch g eg d a zero = record { calls = λ t v as_ s l ha hs. tt; again = λ u n r st s i h hs. tt }
rest_goes ch g eg d a (suc n) =
    let p = parts_go ch g (rest n g) eg d a (rest_goes ch g eg d a n) in
    record {
      calls = call_with_goes ch g (rest n g) d p;
      again = λ u k r st s i h hs. loop_goes ch g (rest n g) (context_of g.whole u k) r (p u k) st s i h hs;
    }
