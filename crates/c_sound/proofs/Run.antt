-- Whole runs: the first state holds values of their types, main gives a number, and so no run ends by rule 0.
use Rattle.std.proofs.Common.{◌≡◌, ℕ, zero, suc, ◌+◌, List, [], ◌∷◌, Bool, true, false, refl, sym, ap, subst, Option, Some, None}
use Rattle.std.specs.Prelude.{map, replicate, slice_get}
use Rattle.std.proofs.lemmas.Bool.{eq-eqb}
use Rattle.c_type.specs.declared.Kind.TheVariants as kinds
use Rattle.c_type.specs.Kinds as k
use Rattle.c_type.specs.Sizes.{size}
use Rattle.c_type.specs.Types.{CType, num, void, ptr, arr, struct, union, enum, fun, Member}
use Rattle.c_tree.specs.TExpr.{type_of}
use Rattle.c_tree.specs.TStmt.{Init, Inits, single, bytes, group, no_inits, more_inits}
use Rattle.c_run.specs.Lasting.{Lasting}
use Rattle.c_tree.specs.Bodies.{BodyAt, body_named}
use Rattle.c_run.specs.Values.{Object, Static, Value, Num, Null, To, Fn}
use Rattle.c_run.specs.State.{State, Out, bind, Acts, acts_of, no_changes}
use Rattle.c_run.specs.Context.{Context, Linked, linked, context_of}
use Rattle.c_run.specs.Pointers.{store}
use Rattle.c_run.specs.Exprs.{value}
use Rattle.c_run.specs.Stmts.{Given}
use Rattle.c_run.specs.Calls.{call_body, rest}
use Rattle.c_run.specs.Run.{no_call, put_bytes, dimension, array_parts, parts, begin_as, begin_parts, begin_static, begin_statics, zero_statics, blank, first_state, ended, call_main, run_linked}
use Rattle.c_tree.specs.Library.{main_name}
use Rattle.c_rule.specs.RuleDecls.{part_types}
use Rattle.c_sound.specs.HasType.{like, HasType, Holds, HoldThings, AreBytes}
use Rattle.c_sound.specs.Suits.{SuitsInit, SuitInits, SuitsBegin}
use Rattle.c_sound.specs.Program.{IsBound, HasText, HaveSizes, SuitLastings, GivesInteger, IsMain, SuitsProgram}
use Rattle.c_sound.specs.Laws.{SuitedRunsAreNamed, PlainRunsAreNamed}
use Rattle.c_sound.proofs.Goes.{Goes, goes_bind, ExprsGo}
use Rattle.c_sound.proofs.Numbers.{convert_again}
use Rattle.c_sound.proofs.Types.{integer_is}
use Rattle.c_sound.proofs.Memory.{goes_as, fresh_holds, store_goes, apply_goes}
use Rattle.c_sound.proofs.Expressions.{exprs_go}
use Rattle.c_sound.proofs.Statements.{ActsGo, taken_scalar, taken_goes}
use Rattle.c_sound.proofs.Calls.{parts_go, SuitsOne, get_suits, call_body_goes, rest_goes}

-- the types of what a list of initialisers goes through

array_types : (n a step : ℕ) (t : CType) → map (λ m. m.ty) (array_parts n a step t) ≡ replicate n t
array_types zero a step t = refl
array_types (suc n) a step t = ap (λ ts. t ∷ ts) (array_types n (a + step) step t)

parts_types : (c : Context) (t : CType) → map (λ m. m.ty) (parts c t) ≡ part_types c.tags t
parts_types c (arr n t) = array_types n 0 (size c.tags t) t
parts_types c (struct tag) = refl
parts_types c (num kind) = refl
parts_types c void = refl
parts_types c (ptr t) = refl
parts_types c (union tag) = refl
parts_types c (enum tag) = refl
parts_types c (fun t) = refl

-- what objects of static life begin as

abbrev Begins : Bool → Context → Out Value → Type 0
Begins ch c o = Goes ch c.whole (λ v. Unit {0}) o

put_bytes_goes : (ch : Bool) (c : Context) (o : Object) (a n : ℕ) (bs : List ℕ) (s : State) → Holds c.whole s → Begins ch c (put_bytes c o a n bs s)
put_bytes_goes ch c o a zero bs s h = (tt, h)
put_bytes_goes ch c o a (suc n) [] s h = (tt, h)
put_bytes_goes ch c o a (suc n) (b ∷ bs) s h =
    goes_bind ch c.whole (HasType c.whole (num kinds.Char)) (λ v. Unit {0}) (store c (num kinds.Char) (To o a) (Num (k.extend 128 b)) s)
    (λ v s1. put_bytes c o (a + 1) n bs s1)
    (store_goes ch c (num kinds.Char) (To o a) (Num (k.extend 128 b)) s refl tt (convert_again kinds.Char b) h)
    (λ v s1 p h1. put_bytes_goes ch c o (a + 1) n bs s1 h1)

mutual
  begin_as_goes : (ch : Bool) (c : Context) → ExprsGo ch false c no_call → (o : Object) (a : ℕ) (t : CType) (i : Init) (s : State) →
      SuitsInit (IsBound c) (HasText c) c.tags t i → Holds c.whole s → Begins ch c (begin_as c o a t i s)
  begin_as_goes ch c x o a t (single e) s h hs =
      goes_bind ch c.whole (HasType c.whole t) (λ v. Unit {0}) (value c no_call e s) (store c t (To o a)) (taken_goes ch false c no_call x t e s h.0 h.1 hs)
      (λ v s1 p h1. goes_as ch c.whole (HasType c.whole t) (λ u. Unit {0}) (store c t (To o a) v s1) (λ u q. tt)
      (store_goes ch c t (To o a) v s1 (taken_scalar t (type_of e) h.1) tt p h1))
  begin_as_goes ch c x o a t (bytes bs) s h hs = put_bytes_goes ch c o a (dimension t) bs s hs
  begin_as_goes ch c x o a t (group is) s h hs =
      let P : List CType → Type 0 = λ ts. SuitInits (IsBound c) (HasText c) c.tags ts is in
      begin_parts_goes ch c x o a (parts c t) is s (subst P (sym (parts_types c t)) h) hs

  begin_parts_goes : (ch : Bool) (c : Context) → ExprsGo ch false c no_call → (o : Object) (a : ℕ) (ms : List Member) (is : Inits) (s : State) →
      SuitInits (IsBound c) (HasText c) c.tags (map (λ m. m.ty) ms) is → Holds c.whole s → Begins ch c (begin_parts c o a ms is s)
  begin_parts_goes ch c x o a ms no_inits s h hs = (tt, hs)
  begin_parts_goes ch c x o a [] (more_inits i is) s h hs = absurd h
  begin_parts_goes ch c x o a (m ∷ ms) (more_inits i is) s h hs =
      goes_bind ch c.whole (λ v. Unit {0}) (λ v. Unit {0}) (begin_as c o (a + m.off) m.ty i s) (λ v s1. begin_parts c o a ms is s1)
      (begin_as_goes ch c x o (a + m.off) m.ty i s h.0 hs) (λ v s1 p h1. begin_parts_goes ch c x o a ms is s1 h.1 h1)

begin_static_goes : (ch : Bool) (c : Context) → ExprsGo ch false c no_call → (n : ℕ) (x : Lasting) (i : Option Init) (s : State) →
    SuitsBegin (IsBound c) (HasText c) c.tags x.ty i → Holds c.whole s → Begins ch c (begin_static c n x i s)
begin_static_goes ch c e n x None s h hs = (tt, hs)
begin_static_goes ch c e n x (Some i) s h hs = begin_as_goes ch c e (Static n) 0 x.ty i s h hs

-- no call stands there
here_go : (ch : Bool) (c : Context) → HaveSizes c.tags → ExprsGo ch false c no_call
here_go ch c z = exprs_go ch c false no_call (λ q. cc) z

begin_statics_goes : (ch : Bool) (w : Linked) → SuitsProgram w → (n : ℕ) (xs : List Lasting) (s : State) → SuitLastings w xs → Holds w s →
    Goes ch w (λ v. Unit {0}) (begin_statics w n xs s)
begin_statics_goes ch w d n [] s h hs = (tt, hs)
begin_statics_goes ch w d n (x ∷ xs) s h hs =
    let c = context_of w x.unit 0 in
    goes_bind ch w (λ v. Unit {0}) (λ v. Unit {0}) (begin_static c n x x.init s) (λ v s1. begin_statics w (suc n) xs s1)
    (begin_static_goes ch c (here_go ch c (d.sizes x.unit)) n x x.init s h.0 hs) (λ v s1 p h1. begin_statics_goes ch w d (suc n) xs s1 h.1 h1)

zero_statics_hold : (w : Linked) → SuitsProgram w → (xs : List Lasting) → HoldThings w (zero_statics w xs)
zero_statics_hold w d [] = tt
zero_statics_hold w d (x ∷ xs) = (fresh_holds (context_of w x.unit 0) x.ty (d.sizes x.unit), zero_statics_hold w d xs)

blank_holds : (w : Linked) (input : List ℕ) → SuitsProgram w → AreBytes input → Holds w (blank w input)
blank_holds w input d b = record { statics = zero_statics_hold w d w.lasting; chain = tt; input = b }

-- main

-- what ends, and gives nothing
abbrev Ends : Bool → Linked → Out Value → Type 0
Ends ch w o = Goes ch w (λ v. ⊥) o

ended_ends : (ch : Bool) (w : Linked) (m : ℕ) (v : Value) (s : State) → v ≡ Num m → Ends ch w (ended v s)
ended_ends ch w m (Num n) s e = tt
ended_ends ch w m Null s e = cc
ended_ends ch w m (To o a) s e = cc
ended_ends ch w m (Fn f) s e = cc

like_self : (t : CType) → like t t ≡ true
like_self (num kind) = eq-eqb _ _ refl
like_self void = refl
like_self (ptr t) = like_self t
like_self (arr n t) = like_self t
like_self (struct tag) = refl
like_self (union tag) = refl
like_self (enum tag) = refl
like_self (fun t) = like_self t

body_ends : (ch : Bool) (g : Given) → SuitsProgram g.whole → ActsGo ch g.whole g.acts → (fuel f : ℕ) (o : Option BodyAt) (s : State) →
    GivesInteger o → SuitsOne g.whole o → Holds g.whole s → Ends ch g.whole (bind (call_body g (rest fuel g) f o [] s) ended)
body_ends ch g d a fuel f None s i h hs = absurd i
body_ends ch g d a fuel f (Some b) s i h hs =
    let r = rest fuel g in
    goes_bind ch g.whole (HasType g.whole b.func.result) (λ v. ⊥) (call_body g r f (Some b) [] s) ended
    (call_body_goes ch g r b.func.result f (Some b) [] s (parts_go ch g r (exprs_go ch) d a (rest_goes ch g (exprs_go ch) d a fuel)) h (like_self b.func.result) tt hs)
    (λ v s1 p h1. let q = integer_is g.whole b.func.result v i p in ended_ends ch g.whole q.0 v s1 q.1)

main_ends : (ch : Bool) (g : Given) → SuitsProgram g.whole → ActsGo ch g.whole g.acts → (fuel : ℕ) (f : Option ℕ) (s : State) →
    IsMain g.whole f → Holds g.whole s → Ends ch g.whole (call_main g fuel f s)
main_ends ch g d a fuel None s i hs = absurd i
main_ends ch g d a fuel (Some f) s i hs =
    body_ends ch g d a fuel f (slice_get g.whole.bodies f) s i (get_suits g.whole g.whole.bodies f d.bodies) hs

pub run_ends : (ch : Bool) (w : Linked) (input : List ℕ) (act : Acts) (n fuel : ℕ) → SuitsProgram w → ActsGo ch w act → AreBytes input →
    Ends ch w (run_linked w input act n fuel)
run_ends ch w input act n fuel d a b =
    let g : Given = record { stop = n; acts = act; whole = w } in
    goes_bind ch w (λ v. Unit {0}) (λ v. ⊥) (first_state w input) (λ v s. call_main g fuel (body_named 0 w.bodies main_name) s)
    (begin_statics_goes ch w d 0 w.lasting (blank w input) d.statics (blank_holds w input d b))
    (λ v s p h. main_ends ch g d a fuel (body_named 0 w.bodies main_name) s d.main h)

pub suited_runs_are_named : SuitedRunsAreNamed
suited_runs_are_named p input ch n why s d b e =
    let w = linked p in
    let P : Out Value → Type 0 = Ends true w in
    subst P e (run_ends true w input (acts_of ch) n n d (λ t s1 h. apply_goes w (ch t) s1 h) b)

pub plain_runs_are_named : PlainRunsAreNamed
plain_runs_are_named p input n why s d b e =
    let w = linked p in
    let P : Out Value → Type 0 = Ends false w in
    subst P e (run_ends false w input (acts_of no_changes) n n d (λ t s1 h. (tt, h)) b)
