-- Statements go well where expressions, calls and the further rounds of loops do.
use Rattle.std.proofs.Common.{◌≡◌, ℕ, suc, ◌+◌, List, [], ◌∷◌, Bool, true, false, sym, subst, Option, Some, None}
use Rattle.std.specs.Prelude.{nat_eq, nat_lt}
use Rattle.std.proofs.lemmas.Bool.{and_parts}
use Rattle.c_type.specs.Types.{CType, same_type}
use Rattle.c_tree.specs.TExpr.{TExpr, type_of}
use Rattle.c_tree.specs.TStmt.{TStmt, expr, empty, if_only, if_else, while_, do_, for_, switch, break_, continue_, return_, block, TStmts, no_stmts, more_stmts, TItems, no_items, case_, default_, more_items, Local as Item, auto, auto_init, static_, extern_, function, locals}
use Rattle.c_run.specs.Values.{Local, Value, Num, Null, To, Fn, is_true}
use Rattle.c_run.specs.State.{State, Act, Out, Gave, bind, choose, Flow, Next, Broke, Continued, Returned, current, at_start, begun, Acts, stop_if, begin}
use Rattle.c_run.specs.Context.{Context, Linked, fresh}
use Rattle.c_run.specs.Pointers.{store}
use Rattle.c_run.specs.Exprs.{Call, value}
use Rattle.c_run.specs.Stmts.{Given, Rest, turn, after, around, out_of, next, perform, test, give_back, while_round, do_round, for_round, zero_auto, zero_local, zero_block, begin_auto, init, inits, has_case, has_default, select, stmt, loop, stmts, items, from_case, from_default}
use Rattle.c_rule.specs.RuleValues.{is_scalar}
use Rattle.c_run.proofs.Suited.{same_is}
use Rattle.c_sound.specs.HasType.{HasType, Holds, HoldActs}
use Rattle.c_sound.specs.Suits.{Suits, SuitsHere, SuitsOption, SuitsLocal, SuitLocals, SuitsStmt, SuitStmts, SuitItems, is_used, is_taken_as}
use Rattle.c_sound.specs.Program.{IsBound, HasText, HaveSizes}
use Rattle.c_sound.proofs.Goes.{Goes, goes_bind, goes_choose, is_valued, ExprsGo}
use Rattle.c_sound.proofs.Types.{integer_is}
use Rattle.c_sound.proofs.Memory.{set_thing_holds, fresh_holds, store_goes}
use Rattle.c_sound.proofs.TypeTests.{used_valued, scalar_valued, integer_valued}

-- what is done at a turn goes well
abbrev pub ActsGo : Bool → Linked → Acts → Type 0
ActsGo ch w acts = (t : ℕ) (s : State) → Holds w s → Goes ch w (λ u. Unit {0}) (acts t s)

-- what a function that gives r returns has type r
abbrev pub FlowHas : Linked → CType → Flow → Type 0
FlowHas w r Next = Unit {0}
FlowHas w r Broke = Unit {0}
FlowHas w r Continued = Unit {0}
FlowHas w r (Returned None) = Unit {0}
FlowHas w r (Returned (Some v)) = HasType w r v

abbrev pub IsLoop : TStmt → Type 0
IsLoop (expr k l e) = ⊥
IsLoop (empty k l) = ⊥
IsLoop (if_only k l e a) = ⊥
IsLoop (if_else k l e a b) = ⊥
IsLoop (while_ k l e body) = Unit {0}
IsLoop (do_ k l body e) = Unit {0}
IsLoop (for_ k l a b c body) = Unit {0}
IsLoop (switch k l e is) = ⊥
IsLoop (break_ k l) = ⊥
IsLoop (continue_ k l) = ⊥
IsLoop (return_ k l e) = ⊥
IsLoop (block line ds ss close_line) = ⊥

-- loops that suit go well
abbrev pub LoopsGo : Bool → Context → (Context → TStmt → State → Out Flow) → Type 0
LoopsGo ch c again =
    (r : CType) (st : TStmt) (s : State) → IsLoop st → SuitsStmt (IsBound c) (HasText c) r st → Holds c.whole s →
    Goes ch c.whole (FlowHas c.whole r) (again c st s)

-- what a statement rests on goes well
pub record PartsGo (ch : Bool) (g : Given) (r : Rest) (c : Context) : Type 0 where
  pub acts : ActsGo ch c.whole g.acts
  pub exprs : ExprsGo ch true c r.call
  pub again : LoopsGo ch c r.again
  pub sizes : HaveSizes c.tags

-- ways to go on
abbrev pub OnGo : Bool → Linked → CType → (State → Out Flow) → Type 0
OnGo ch w r go = (s : State) → Holds w s → Goes ch w (FlowHas w r) (go s)

-- turns

start_holds : (w : Linked) (k : ℕ) (rs : List Act) → HoldActs w rs → HoldActs w (at_start k rs)
start_holds w k [] h = tt
start_holds w k (a ∷ rs) h = h

begun_holds : (w : Linked) (k : ℕ) (s : State) → Holds w s → Holds w (begun k s)
begun_holds w k s h = record { statics = h.statics; chain = start_holds w k s.chain h.chain; input = h.input }

stop_goes : {A : Type 0} (ch : Bool) (w : Linked) (P : A → Type 0) (b : Bool) (s : State) (go : State → Out A) → Goes ch w P (go s) → Goes ch w P (stop_if b s go)
stop_goes ch w P true s go h = h
stop_goes ch w P false s go h = tt

pub begin_goes : {A : Type 0} (ch : Bool) (w : Linked) (P : A → Type 0) (n : ℕ) (act : Acts) (k : ℕ) (s : State) (go : State → Out A) →
    ActsGo ch w act → Holds w s → ((s1 : State) → Holds w s1 → Goes ch w P (go s1)) → Goes ch w P (begin n act k s go)
begin_goes ch w P n act k s go a h f =
    goes_bind ch w (λ u. Unit {0}) P (act (suc s.turns) (begun k s)) (λ u s1. stop_if (nat_lt (suc s.turns) n) s1 go)
    (a (suc s.turns) (begun k s) (begun_holds w k s h))
    (λ u s1 p h1. stop_goes ch w P (nat_lt (suc s.turns) n) s1 go (f s1 h1))

-- expressions by their types

pub taken_scalar : (t u : CType) → is_taken_as t u ≡ true → is_scalar t ≡ true
taken_scalar t u h = (and_parts (is_scalar t) (same_type u t) h).0

-- a scalar of type t, whose own type is the same
pub taken_goes : (ch calls : Bool) (c : Context) (go : Call) → ExprsGo ch calls c go → (t : CType) (e : TExpr) (s : State) →
    Suits calls (IsBound c) (HasText c) e → is_taken_as t (type_of e) ≡ true → Holds c.whole s → Goes ch c.whole (HasType c.whole t) (value c go e s)
taken_goes ch calls c go x t e s h k hs =
    let P : CType → Type 0 = λ u. Goes ch c.whole (HasType c.whole u) (value c go e s) in
    let q = and_parts (is_scalar t) (same_type (type_of e) t) k in
    let same = same_is (type_of e) t q.1 in
    let V : CType → Type 0 = λ u. is_valued u ≡ true in
    subst P same (x e s h (subst V (sym same) (scalar_valued t q.0)) hs)

-- flows

out_of_goes : (ch : Bool) (w : Linked) (r : CType) (f : Flow) (s : State) → FlowHas w r f → Holds w s → Goes ch w (FlowHas w r) (out_of f s)
out_of_goes ch w r Next s p h = (tt, h)
out_of_goes ch w r Broke s p h = (tt, h)
out_of_goes ch w r Continued s p h = (tt, h)
out_of_goes ch w r (Returned v) s p h = (p, h)

after_goes : (ch : Bool) (w : Linked) (r : CType) (f : Flow) (s : State) (go : State → Out Flow) → FlowHas w r f → Holds w s → OnGo ch w r go → Goes ch w (FlowHas w r) (after f s go)
after_goes ch w r Next s go p h k = k s h
after_goes ch w r Broke s go p h k = (tt, h)
after_goes ch w r Continued s go p h k = (tt, h)
after_goes ch w r (Returned v) s go p h k = (p, h)

around_goes : (ch : Bool) (w : Linked) (r : CType) (f : Flow) (s : State) (go : State → Out Flow) → FlowHas w r f → Holds w s → OnGo ch w r go → Goes ch w (FlowHas w r) (around f s go)
around_goes ch w r Next s go p h k = k s h
around_goes ch w r Broke s go p h k = (tt, h)
around_goes ch w r Continued s go p h k = k s h
around_goes ch w r (Returned v) s go p h k = (p, h)

-- expressions that may be left out

perform_goes : (ch : Bool) (c : Context) (go : Call) (r : CType) → ExprsGo ch true c go → (e : Option TExpr) (s : State) (on : State → Out Flow) →
    SuitsOption (IsBound c) (HasText c) is_used e → Holds c.whole s → OnGo ch c.whole r on → Goes ch c.whole (FlowHas c.whole r) (perform c go e s on)
perform_goes ch c go r x None s on h hs k = k s hs
perform_goes ch c go r x (Some e) s on h hs k =
    goes_bind ch c.whole (HasType c.whole (type_of e)) (FlowHas c.whole r) (value c go e s) (λ v s1. on s1)
    (x e s h.0 (used_valued (type_of e) h.1) hs) (λ v s1 p h1. k s1 h1)

-- a scalar decides
if_goes : (ch : Bool) (c : Context) (go : Call) (r : CType) → ExprsGo ch true c go → (e : TExpr) (s : State) (on off : State → Out Flow) →
    SuitsHere (IsBound c) (HasText c) is_scalar e → Holds c.whole s → OnGo ch c.whole r on → OnGo ch c.whole r off →
    Goes ch c.whole (FlowHas c.whole r) (bind (value c go e s) (λ v s1. choose (is_true v) s1 on off))
if_goes ch c go r x e s on off h hs k j =
    goes_bind ch c.whole (HasType c.whole (type_of e)) (FlowHas c.whole r) (value c go e s) (λ v s1. choose (is_true v) s1 on off)
    (x e s h.0 (scalar_valued (type_of e) h.1) hs)
    (λ v s1 p h1. goes_choose ch c.whole (FlowHas c.whole r) (is_true v) s1 on off (λ q. k s1 h1) (λ q. j s1 h1))

test_goes : (ch : Bool) (c : Context) (go : Call) (r : CType) → ExprsGo ch true c go → (e : Option TExpr) (s : State) (on off : State → Out Flow) →
    SuitsOption (IsBound c) (HasText c) is_scalar e → Holds c.whole s → OnGo ch c.whole r on → OnGo ch c.whole r off →
    Goes ch c.whole (FlowHas c.whole r) (test c go e s on off)
test_goes ch c go r x None s on off h hs k j = k s hs
test_goes ch c go r x (Some e) s on off h hs k j = if_goes ch c go r x e s on off h hs k j

give_back_goes : (ch : Bool) (c : Context) (go : Call) (r : CType) → ExprsGo ch true c go → (e : Option TExpr) (s : State) →
    SuitsOption (IsBound c) (HasText c) (is_taken_as r) e → Holds c.whole s → Goes ch c.whole (FlowHas c.whole r) (give_back c go e s)
give_back_goes ch c go r x None s h hs = (tt, hs)
give_back_goes ch c go r x (Some e) s h hs =
    goes_bind ch c.whole (HasType c.whole r) (FlowHas c.whole r) (value c go e s) (λ v s1. Gave (Returned (Some v)) s1)
    (taken_goes ch true c go x r e s h.0 h.1 hs) (λ v s1 p h1. (p, h1))

-- one round of a loop

next_goes : (ch : Bool) (w : Linked) (r : CType) → OnGo ch w r next
next_goes ch w r s h = (tt, h)

turn_goes : (ch : Bool) (g : Given) (r : Rest) (c : Context) (t : CType) → PartsGo ch g r c → (k : ℕ) (s : State) (go : State → Out Flow) →
    Holds c.whole s → OnGo ch c.whole t go → Goes ch c.whole (FlowHas c.whole t) (turn g k s go)
turn_goes ch g r c t p k s go h f = begin_goes ch c.whole (FlowHas c.whole t) g.stop g.acts k s go p.acts h f

-- the body, and what follows it
rounds_go : (ch : Bool) (w : Linked) (t : CType) (body again : State → Out Flow) → OnGo ch w t body → OnGo ch w t again → OnGo ch w t (λ s. bind (body s) (λ f s1. around f s1 again))
rounds_go ch w t body again hb ha s h =
    goes_bind ch w (FlowHas w t) (FlowHas w t) (body s) (λ f s1. around f s1 again) (hb s h) (λ f s1 p h1. around_goes ch w t f s1 again p h1 ha)

while_goes : (ch : Bool) (g : Given) (r : Rest) (c : Context) (t : CType) → PartsGo ch g r c → (k : ℕ) (e : TExpr) (body again : State → Out Flow) →
    SuitsHere (IsBound c) (HasText c) is_scalar e → OnGo ch c.whole t body → OnGo ch c.whole t again → OnGo ch c.whole t (while_round g c r.call k e body again)
while_goes ch g r c t p k e body again h hb ha s hs =
    turn_goes ch g r c t p k s (λ s1. bind (value c r.call e s1) (λ v s2. choose (is_true v) s2 (λ s3. bind (body s3) (λ f s4. around f s4 again)) next)) hs
    (λ s1 h1. if_goes ch c r.call t p.exprs e s1 (λ s3. bind (body s3) (λ f s4. around f s4 again)) next h h1
    (rounds_go ch c.whole t body again hb ha) (next_goes ch c.whole t))

do_goes : (ch : Bool) (g : Given) (r : Rest) (c : Context) (t : CType) → PartsGo ch g r c → (k : ℕ) (e : TExpr) (body again : State → Out Flow) →
    SuitsHere (IsBound c) (HasText c) is_scalar e → OnGo ch c.whole t body → OnGo ch c.whole t again → OnGo ch c.whole t (do_round g c r.call k e body again)
do_goes ch g r c t p k e body again h hb ha =
    rounds_go ch c.whole t body (λ s. turn g k s (λ s1. bind (value c r.call e s1) (λ v s2. choose (is_true v) s2 again next))) hb
    (λ s hs. turn_goes ch g r c t p k s (λ s1. bind (value c r.call e s1) (λ v s2. choose (is_true v) s2 again next)) hs
    (λ s1 h1. if_goes ch c r.call t p.exprs e s1 again next h h1 ha (next_goes ch c.whole t)))

for_goes : (ch : Bool) (g : Given) (r : Rest) (c : Context) (t : CType) → PartsGo ch g r c → (k : ℕ) (e2 e3 : Option TExpr) (body again : State → Out Flow) →
    SuitsOption (IsBound c) (HasText c) is_scalar e2 → SuitsOption (IsBound c) (HasText c) is_used e3 → OnGo ch c.whole t body → OnGo ch c.whole t again →
    OnGo ch c.whole t (for_round g c r.call k e2 e3 body again)
for_goes ch g r c t p k e2 e3 body again h2 h3 hb ha s hs =
    let on : State → Out Flow = λ s1. bind (body s1) (λ f s2. around f s2 (λ s3. turn g (k + 2) s3 (λ s4. perform c r.call e3 s4 again))) in
    turn_goes ch g r c t p (k + 1) s (λ s1. test c r.call e2 s1 on next) hs
    (λ s1 h1. test_goes ch c r.call t p.exprs e2 s1 on next h2 h1
    (rounds_go ch c.whole t body (λ s3. turn g (k + 2) s3 (λ s4. perform c r.call e3 s4 again)) hb
    (λ s3 h3s. turn_goes ch g r c t p (k + 2) s3 (λ s4. perform c r.call e3 s4 again) h3s (λ s4 h4. perform_goes ch c r.call t p.exprs e3 s4 again h3 h4 ha)))
    (next_goes ch c.whole t))

-- blocks

zero_auto_holds : (c : Context) (i : ℕ) (t : CType) (s : State) → HaveSizes c.tags → Holds c.whole s → Holds c.whole (zero_auto c i t s)
zero_auto_holds c i t s z h = set_thing_holds c.whole s (Local (current s.chain) (c.params + i)) (fresh c t) h (fresh_holds c t z)

zero_local_holds : (c : Context) (d : Item) (s : State) → HaveSizes c.tags → Holds c.whole s → Holds c.whole (zero_local c d s)
zero_local_holds c (auto d i) s z h = zero_auto_holds c i d.ty s z h
zero_local_holds c (auto_init d i k l e) s z h = zero_auto_holds c i d.ty s z h
zero_local_holds c (static_ d k i) s z h = h
zero_local_holds c (extern_ d) s z h = h
zero_local_holds c (function d b) s z h = h

zero_block_holds : (c : Context) (ds : List Item) (s : State) → HaveSizes c.tags → Holds c.whole s → Holds c.whole (zero_block c ds s)
zero_block_holds c [] s z h = h
zero_block_holds c (d ∷ ds) s z h = zero_block_holds c ds (zero_local c d s) z (zero_local_holds c d s z h)

begin_auto_goes : (ch : Bool) (g : Given) (r : Rest) (c : Context) → PartsGo ch g r c → (i : ℕ) (t : CType) (e : TExpr) (s : State) →
    SuitsHere (IsBound c) (HasText c) (is_taken_as t) e → Holds c.whole s → Goes ch c.whole (HasType c.whole t) (begin_auto r c i t e s)
begin_auto_goes ch g r c p i t e s h hs =
    goes_bind ch c.whole (HasType c.whole t) (HasType c.whole t) (value c r.call e s) (λ v s1. store c t (To (Local (current s1.chain) (c.params + i)) 0) v s1)
    (taken_goes ch true c r.call p.exprs t e s h.0 h.1 hs)
    (λ v s1 q h1. store_goes ch c t (To (Local (current s1.chain) (c.params + i)) 0) v s1 (taken_scalar t (type_of e) h.1) tt q h1)

init_goes : (ch : Bool) (g : Given) (r : Rest) (c : Context) (t : CType) → PartsGo ch g r c → (d : Item) (s : State) (on : State → Out Flow) →
    SuitsLocal (IsBound c) (HasText c) d → Holds c.whole s → OnGo ch c.whole t on → Goes ch c.whole (FlowHas c.whole t) (init g r c d s on)
init_goes ch g r c t p (auto d i) s on h hs k = k s hs
init_goes ch g r c t p (auto_init d i j l e) s on h hs k =
    turn_goes ch g r c t p j s (λ s1. bind (begin_auto r c i d.ty e s1) (λ v s2. on s2)) hs
    (λ s1 h1. goes_bind ch c.whole (HasType c.whole d.ty) (FlowHas c.whole t) (begin_auto r c i d.ty e s1) (λ v s2. on s2)
    (begin_auto_goes ch g r c p i d.ty e s1 h h1) (λ v s2 q h2. k s2 h2))
init_goes ch g r c t p (static_ d j i) s on h hs k = k s hs
init_goes ch g r c t p (extern_ d) s on h hs k = k s hs
init_goes ch g r c t p (function d b) s on h hs k = k s hs

pub inits_goes : (ch : Bool) (g : Given) (r : Rest) (c : Context) (t : CType) → PartsGo ch g r c → (ds : List Item) (s : State) (on : State → Out Flow) →
    SuitLocals (IsBound c) (HasText c) ds → Holds c.whole s → OnGo ch c.whole t on → Goes ch c.whole (FlowHas c.whole t) (inits g r c ds s on)
inits_goes ch g r c t p [] s on h hs k = k s hs
inits_goes ch g r c t p (d ∷ ds) s on h hs k =
    init_goes ch g r c t p d s (λ s1. inits g r c ds s1 on) h.0 hs (λ s1 h1. inits_goes ch g r c t p ds s1 on h.1 h1 k)

-- switches

select_goes : (ch : Bool) (w : Linked) (r : CType) (m : ℕ) (v : Value) (is : TItems) (s : State) (x : ℕ → State → Out Flow) (y : State → Out Flow) →
    v ≡ Num m → Holds w s → ((n : ℕ) → OnGo ch w r (x n)) → OnGo ch w r y → Goes ch w (FlowHas w r) (select v is s x y)
select_goes ch w r m (Num n) is s x y i h hx hy =
    goes_choose ch w (FlowHas w r) (has_case n is) s (x n) (λ s1. choose (has_default is) s1 y next) (λ q. hx n s h)
    (λ q. goes_choose ch w (FlowHas w r) (has_default is) s y next (λ q1. hy s h) (λ q1. (tt, h)))
select_goes ch w r m Null is s x y e h hx hy = cc
select_goes ch w r m (To o a) is s x y e h hx hy = cc
select_goes ch w r m (Fn f) is s x y e h hx hy = cc

-- statements

mutual
  pub stmt_goes : (ch : Bool) (g : Given) (r : Rest) (c : Context) (t : CType) → PartsGo ch g r c → (st : TStmt) (s : State) →
      SuitsStmt (IsBound c) (HasText c) t st → Holds c.whole s → Goes ch c.whole (FlowHas c.whole t) (stmt g r c st s)
  stmt_goes ch g r c t p (expr k l e) s h hs =
      turn_goes ch g r c t p k s (λ s1. bind (value c r.call e s1) (λ v s2. Gave Next s2)) hs
      (λ s1 h1. goes_bind ch c.whole (HasType c.whole (type_of e)) (FlowHas c.whole t) (value c r.call e s1) (λ v s2. Gave Next s2)
      (p.exprs e s1 h.0 (used_valued (type_of e) h.1) h1) (λ v s2 q h2. (tt, h2)))
  stmt_goes ch g r c t p (empty k l) s h hs = turn_goes ch g r c t p k s next hs (next_goes ch c.whole t)
  stmt_goes ch g r c t p (if_only k l e a) s h hs =
      turn_goes ch g r c t p k s (λ s1. bind (value c r.call e s1) (λ v s2. choose (is_true v) s2 (stmt g r c a) next)) hs
      (λ s1 h1. if_goes ch c r.call t p.exprs e s1 (stmt g r c a) next h.0 h1 (λ s2 h2. stmt_goes ch g r c t p a s2 h.1 h2) (next_goes ch c.whole t))
  stmt_goes ch g r c t p (if_else k l e a b) s h hs =
      turn_goes ch g r c t p k s (λ s1. bind (value c r.call e s1) (λ v s2. choose (is_true v) s2 (stmt g r c a) (stmt g r c b))) hs
      (λ s1 h1. if_goes ch c r.call t p.exprs e s1 (stmt g r c a) (stmt g r c b) h.0 h1
      (λ s2 h2. stmt_goes ch g r c t p a s2 h.1 h2) (λ s2 h2. stmt_goes ch g r c t p b s2 h.2 h2))
  stmt_goes ch g r c t p (while_ k l e body) s h hs =
      while_goes ch g r c t p k e (stmt g r c body) (r.again c (while_ k l e body)) h.0 (λ s1 h1. stmt_goes ch g r c t p body s1 h.1 h1)
      (λ s1 h1. p.again t (while_ k l e body) s1 tt h h1) s hs
  stmt_goes ch g r c t p (do_ k l body e) s h hs =
      do_goes ch g r c t p k e (stmt g r c body) (r.again c (do_ k l body e)) h.0 (λ s1 h1. stmt_goes ch g r c t p body s1 h.1 h1)
      (λ s1 h1. p.again t (do_ k l body e) s1 tt h h1) s hs
  stmt_goes ch g r c t p (for_ k l e1 e2 e3 body) s h hs =
      turn_goes ch g r c t p k s (λ s1. perform c r.call e1 s1 (for_round g c r.call k e2 e3 (stmt g r c body) (r.again c (for_ k l e1 e2 e3 body)))) hs
      (λ s1 h1. perform_goes ch c r.call t p.exprs e1 s1 (for_round g c r.call k e2 e3 (stmt g r c body) (r.again c (for_ k l e1 e2 e3 body))) h.0 h1
      (for_goes ch g r c t p k e2 e3 (stmt g r c body) (r.again c (for_ k l e1 e2 e3 body)) h.1 h.2 (λ s2 h2. stmt_goes ch g r c t p body s2 h.3 h2)
      (λ s2 h2. p.again t (for_ k l e1 e2 e3 body) s2 tt h h2)))
  stmt_goes ch g r c t p (switch k l e is) s h hs =
      turn_goes ch g r c t p k s (λ s1. bind (value c r.call e s1) (λ v s2. bind (select v is s2 (from_case g r c is) (from_default g r c is)) out_of)) hs
      (λ s1 h1. goes_bind ch c.whole (HasType c.whole (type_of e)) (FlowHas c.whole t) (value c r.call e s1)
      (λ v s2. bind (select v is s2 (from_case g r c is) (from_default g r c is)) out_of)
      (p.exprs e s1 h.0.0 (integer_valued (type_of e) h.0.1) h1)
      (λ v s2 q h2. let i = integer_is c.whole (type_of e) v h.0.1 q in
      goes_bind ch c.whole (FlowHas c.whole t) (FlowHas c.whole t) (select v is s2 (from_case g r c is) (from_default g r c is)) out_of
      (select_goes ch c.whole t i.0 v is s2 (from_case g r c is) (from_default g r c is) i.1 h2
      (λ n s3 h3. from_case_goes ch g r c t p is n s3 h.1 h3) (λ s3 h3. from_default_goes ch g r c t p is s3 h.1 h3))
      (λ f s3 q3 h3. out_of_goes ch c.whole t f s3 q3 h3)))
  stmt_goes ch g r c t p (break_ k l) s h hs = turn_goes ch g r c t p k s (Gave Broke) hs (λ s1 h1. (tt, h1))
  stmt_goes ch g r c t p (continue_ k l) s h hs = turn_goes ch g r c t p k s (Gave Continued) hs (λ s1 h1. (tt, h1))
  stmt_goes ch g r c t p (return_ k l e) s h hs = turn_goes ch g r c t p k s (give_back c r.call e) hs (λ s1 h1. give_back_goes ch c r.call t p.exprs e s1 h h1)
  stmt_goes ch g r c t p (block line ds ss close_line) s h hs =
      inits_goes ch g r c t p (locals ds) (zero_block c (locals ds) s) (stmts g r c ss) h.0 (zero_block_holds c (locals ds) s p.sizes hs)
      (λ s1 h1. stmts_goes ch g r c t p ss s1 h.1 h1)

  pub loop_goes : (ch : Bool) (g : Given) (r : Rest) (c : Context) (t : CType) → PartsGo ch g r c → (st : TStmt) (s : State) →
      IsLoop st → SuitsStmt (IsBound c) (HasText c) t st → Holds c.whole s → Goes ch c.whole (FlowHas c.whole t) (loop g r c st s)
  loop_goes ch g r c t p (while_ k l e body) s i h hs =
      while_goes ch g r c t p k e (stmt g r c body) (r.again c (while_ k l e body)) h.0 (λ s1 h1. stmt_goes ch g r c t p body s1 h.1 h1)
      (λ s1 h1. p.again t (while_ k l e body) s1 tt h h1) s hs
  loop_goes ch g r c t p (do_ k l body e) s i h hs =
      do_goes ch g r c t p k e (stmt g r c body) (r.again c (do_ k l body e)) h.0 (λ s1 h1. stmt_goes ch g r c t p body s1 h.1 h1)
      (λ s1 h1. p.again t (do_ k l body e) s1 tt h h1) s hs
  loop_goes ch g r c t p (for_ k l e1 e2 e3 body) s i h hs =
      for_goes ch g r c t p k e2 e3 (stmt g r c body) (r.again c (for_ k l e1 e2 e3 body)) h.1 h.2 (λ s2 h2. stmt_goes ch g r c t p body s2 h.3 h2)
      (λ s2 h2. p.again t (for_ k l e1 e2 e3 body) s2 tt h h2) s hs
  loop_goes ch g r c t p (expr k l e) s i h hs = absurd i
  loop_goes ch g r c t p (empty k l) s i h hs = absurd i
  loop_goes ch g r c t p (if_only k l e a) s i h hs = absurd i
  loop_goes ch g r c t p (if_else k l e a b) s i h hs = absurd i
  loop_goes ch g r c t p (switch k l e is) s i h hs = absurd i
  loop_goes ch g r c t p (break_ k l) s i h hs = absurd i
  loop_goes ch g r c t p (continue_ k l) s i h hs = absurd i
  loop_goes ch g r c t p (return_ k l e) s i h hs = absurd i
  loop_goes ch g r c t p (block line ds ss close_line) s i h hs = absurd i

  pub stmts_goes : (ch : Bool) (g : Given) (r : Rest) (c : Context) (t : CType) → PartsGo ch g r c → (ss : TStmts) (s : State) →
      SuitStmts (IsBound c) (HasText c) t ss → Holds c.whole s → Goes ch c.whole (FlowHas c.whole t) (stmts g r c ss s)
  stmts_goes ch g r c t p no_stmts s h hs = (tt, hs)
  stmts_goes ch g r c t p (more_stmts a ss) s h hs =
      goes_bind ch c.whole (FlowHas c.whole t) (FlowHas c.whole t) (stmt g r c a s) (λ f s1. after f s1 (stmts g r c ss)) (stmt_goes ch g r c t p a s h.0 hs)
      (λ f s1 q h1. after_goes ch c.whole t f s1 (stmts g r c ss) q h1 (λ s2 h2. stmts_goes ch g r c t p ss s2 h.1 h2))

  pub items_goes : (ch : Bool) (g : Given) (r : Rest) (c : Context) (t : CType) → PartsGo ch g r c → (is : TItems) (s : State) →
      SuitItems (IsBound c) (HasText c) t is → Holds c.whole s → Goes ch c.whole (FlowHas c.whole t) (items g r c is s)
  items_goes ch g r c t p no_items s h hs = (tt, hs)
  items_goes ch g r c t p (case_ e n is) s h hs = items_goes ch g r c t p is s h hs
  items_goes ch g r c t p (default_ is) s h hs = items_goes ch g r c t p is s h hs
  items_goes ch g r c t p (more_items a is) s h hs =
      goes_bind ch c.whole (FlowHas c.whole t) (FlowHas c.whole t) (stmt g r c a s) (λ f s1. after f s1 (items g r c is)) (stmt_goes ch g r c t p a s h.0 hs)
      (λ f s1 q h1. after_goes ch c.whole t f s1 (items g r c is) q h1 (λ s2 h2. items_goes ch g r c t p is s2 h.1 h2))

  pub from_case_goes : (ch : Bool) (g : Given) (r : Rest) (c : Context) (t : CType) → PartsGo ch g r c → (is : TItems) (n : ℕ) (s : State) →
      SuitItems (IsBound c) (HasText c) t is → Holds c.whole s → Goes ch c.whole (FlowHas c.whole t) (from_case g r c is n s)
  from_case_goes ch g r c t p no_items n s h hs = (tt, hs)
  from_case_goes ch g r c t p (case_ e m is) n s h hs =
      goes_choose ch c.whole (FlowHas c.whole t) (nat_eq n m) s (items g r c is) (from_case g r c is n)
      (λ q. items_goes ch g r c t p is s h hs) (λ q. from_case_goes ch g r c t p is n s h hs)
  from_case_goes ch g r c t p (default_ is) n s h hs = from_case_goes ch g r c t p is n s h hs
  from_case_goes ch g r c t p (more_items a is) n s h hs = from_case_goes ch g r c t p is n s h.1 hs

  pub from_default_goes : (ch : Bool) (g : Given) (r : Rest) (c : Context) (t : CType) → PartsGo ch g r c → (is : TItems) (s : State) →
      SuitItems (IsBound c) (HasText c) t is → Holds c.whole s → Goes ch c.whole (FlowHas c.whole t) (from_default g r c is s)
  from_default_goes ch g r c t p no_items s h hs = (tt, hs)
  from_default_goes ch g r c t p (case_ e m is) s h hs = from_default_goes ch g r c t p is s h hs
  from_default_goes ch g r c t p (default_ is) s h hs = items_goes ch g r c t p is s h hs
  from_default_goes ch g r c t p (more_items a is) s h hs = from_default_goes ch g r c t p is s h.1 hs
