-- Statements under two stop numbers.
use Rattle.std.proofs.Common.{◌≡◌, ℕ, suc, ◌+◌, ◌<◌, ◌≤◌, List, [], ◌∷◌, ◌∙◌, refl, arith, Option, Some, None}
use Rattle.std.specs.Prelude.{nat_eq}
use Rattle.c_type.specs.Types.{CType}
use Rattle.c_tree.specs.TExpr.{TExpr}
use Rattle.c_tree.specs.TStmt.{TStmt, expr, empty, if_only, if_else, while_, do_, for_, switch, break_, continue_, return_, block, TStmts, no_stmts, more_stmts, TItems, no_items, case_, default_, more_items, Local as Item, auto, auto_init, static_, extern_, function, locals}
use Rattle.c_run.specs.Values.{Local, Value, Num, To, is_true}
use Rattle.c_run.specs.State.{State, Out, Gave, bind, choose, Flow, Next, Broke, Continued, Returned, current, Acts}
use Rattle.c_run.specs.Context.{Context, Linked}
use Rattle.c_run.specs.Pointers.{store}
use Rattle.c_run.specs.Exprs.{Call, value}
use Rattle.c_run.specs.Stmts.{Given, Rest, turn, after, around, out_of, next, perform, test, give_back, while_round, do_round, for_round, zero_local, zero_block, begin_auto, init, inits, has_case, has_default, select, stmt, loop, stmts, items, from_case, from_default}
use Rattle.c_run.proofs.Quiet.{Quiet, quiet_store}
use Rattle.c_run.proofs.Later.{Goes, goes_from, goes_gave, goes_bind, goes_last, goes_choose, AreQuiet, goes_begin}
use Rattle.c_run.proofs.LaterExprs.{CallsGo, value_goes}

-- what has less fuel goes the same way from turn t on
pub record Good (n m t : ℕ) (r r' : Rest) : Type 0 where
  pub calls : CallsGo n m t r.call r'.call
  pub again : (c : Context) (st : TStmt) (s : State) → t ≤ s.turns → s.turns < n → Goes n m s (r.again c st s) (r'.again c st s)

abbrev pub given : ℕ → Acts → Linked → Given
given n act w = record { stop = n; acts = act; whole = w }

-- two ways to go on from turn t on
abbrev pub OnGo : (n m t : ℕ) → (State → Out Flow) → (State → Out Flow) → Type 0
OnGo n m t go go' = (s : State) → t ≤ s.turns → s.turns < n → Goes n m s (go s) (go' s)

after_goes : (n m t : ℕ) (f : Flow) (s : State) (go go' : State → Out Flow) → OnGo n m t go go' → t ≤ s.turns → s.turns < n → Goes n m s (after f s go) (after f s go')
after_goes n m t Next s go go' h lo hi = h s lo hi
after_goes n m t Broke s go go' h lo hi = goes_gave n m s Broke hi
after_goes n m t Continued s go go' h lo hi = goes_gave n m s Continued hi
after_goes n m t (Returned v) s go go' h lo hi = goes_gave n m s (Returned v) hi

around_goes : (n m t : ℕ) (f : Flow) (s : State) (go go' : State → Out Flow) → OnGo n m t go go' → t ≤ s.turns → s.turns < n → Goes n m s (around f s go) (around f s go')
around_goes n m t Next s go go' h lo hi = h s lo hi
around_goes n m t Broke s go go' h lo hi = goes_gave n m s Next hi
around_goes n m t Continued s go go' h lo hi = h s lo hi
around_goes n m t (Returned v) s go go' h lo hi = goes_gave n m s (Returned v) hi

out_of_quiet : (f : Flow) (s : State) → Quiet s (out_of f s)
out_of_quiet Next s = refl
out_of_quiet Broke s = refl
out_of_quiet Continued s = refl
out_of_quiet (Returned v) s = refl

perform_goes : (n m t : ℕ) (c : Context) (go go' : Call) (e : Option TExpr) (s : State) (on on' : State → Out Flow) → CallsGo n m t go go' → OnGo n m t on on' → t ≤ s.turns → s.turns < n → Goes n m s (perform c go e s on) (perform c go' e s on')
perform_goes n m t c go go' None s on on' h k lo hi = k s lo hi
perform_goes n m t c go go' (Some e) s on on' h k lo hi =
    goes_bind n m s (value c go e s) (value c go' e s) _ _ (value_goes n m t c go go' h e s lo hi) (λ v s1 le lt. k s1 (omega arith) lt)

test_goes : (n m t : ℕ) (c : Context) (go go' : Call) (e : Option TExpr) (s : State) (on on' off : State → Out Flow) → CallsGo n m t go go' → OnGo n m t on on' → OnGo n m t off off → t ≤ s.turns → s.turns < n → Goes n m s (test c go e s on off) (test c go' e s on' off)
test_goes n m t c go go' None s on on' off h k j lo hi = k s lo hi
test_goes n m t c go go' (Some e) s on on' off h k j lo hi =
    goes_bind n m s (value c go e s) (value c go' e s) _ _ (value_goes n m t c go go' h e s lo hi)
    (λ v s1 le lt. goes_choose n m (is_true v) s1 on off on' off (k s1 (omega arith) lt) (j s1 (omega arith) lt))

give_back_goes : (n m t : ℕ) (c : Context) (go go' : Call) (e : Option TExpr) (s : State) → CallsGo n m t go go' → t ≤ s.turns → s.turns < n → Goes n m s (give_back c go e s) (give_back c go' e s)
give_back_goes n m t c go go' None s h lo hi = goes_gave n m s (Returned None) hi
give_back_goes n m t c go go' (Some e) s h lo hi =
    goes_last n m s (value c go e s) (value c go' e s) (λ v s1. Gave (Returned (Some v)) s1) (value_goes n m t c go go' h e s lo hi) (λ v s1. refl)

next_goes : (n m t : ℕ) → OnGo n m t next next
next_goes n m t s lo hi = goes_gave n m s Next hi

while_goes : (n m t : ℕ) (act : Acts) → AreQuiet act → (w : Linked) (c : Context) (go go' : Call) (k : ℕ) (e : TExpr) (body body' again again' : State → Out Flow) → n ≤ m → CallsGo n m t go go' → OnGo n m t body body' → OnGo n m t again again' → (s : State) → t ≤ suc s.turns → s.turns < n → Goes n m s (while_round (given n act w) c go k e body again s) (while_round (given m act w) c go' k e body' again' s)
while_goes n m t act q w c go go' k e body body' again again' nm h hb ha s lo hi =
    goes_begin n m act q k s _ _ hi nm (λ s1 e1 lt1. goes_bind n m s1 (value c go e s1) (value c go' e s1) _ _ (value_goes n m t c go go' h e s1 (omega arith) lt1)
    (λ v s2 le2 lt2. goes_choose n m (is_true v) s2 (λ s3. bind (body s3) (λ f s4. around f s4 again)) next (λ s3. bind (body' s3) (λ f s4. around f s4 again')) next
    (goes_bind n m s2 (body s2) (body' s2) (λ f s4. around f s4 again) (λ f s4. around f s4 again') (hb s2 (omega arith) lt2) (λ f s3 le3 lt3. around_goes n m t f s3 again again' ha (omega arith) lt3))
    (goes_gave n m s2 Next lt2)))

do_goes : (n m t : ℕ) (act : Acts) → AreQuiet act → (w : Linked) (c : Context) (go go' : Call) (k : ℕ) (e : TExpr) (body body' again again' : State → Out Flow) → n ≤ m → CallsGo n m t go go' → (s : State) → Goes n m s (body s) (body' s) → OnGo n m t again again' → t ≤ suc s.turns → s.turns < n → Goes n m s (do_round (given n act w) c go k e body again s) (do_round (given m act w) c go' k e body' again' s)
do_goes n m t act q w c go go' k e body body' again again' nm h s hb ha lo hi =
    goes_bind n m s (body s) (body' s) _ _ hb
    (λ f s1 le1 lt1. around_goes n m s1.turns f s1
    (λ s2. turn (given n act w) k s2 (λ s3. bind (value c go e s3) (λ v s4. choose (is_true v) s4 again next)))
    (λ s2. turn (given m act w) k s2 (λ s3. bind (value c go' e s3) (λ v s4. choose (is_true v) s4 again' next)))
    (λ s2 le2 lt2. goes_begin n m act q k s2 _ _ lt2 nm
    (λ s3 e3 lt3. goes_bind n m s3 (value c go e s3) (value c go' e s3) _ _ (value_goes n m t c go go' h e s3 (omega arith) lt3)
    (λ v s4 le4 lt4. goes_choose n m (is_true v) s4 again next again' next (ha s4 (omega arith) lt4) (goes_gave n m s4 Next lt4))))
    (omega arith) lt1)

for_goes : (n m t : ℕ) (act : Acts) → AreQuiet act → (w : Linked) (c : Context) (go go' : Call) (k : ℕ) (e2 e3 : Option TExpr) (body body' again again' : State → Out Flow) → n ≤ m → CallsGo n m t go go' → OnGo n m t body body' → OnGo n m t again again' → (s : State) → t ≤ suc s.turns → s.turns < n → Goes n m s (for_round (given n act w) c go k e2 e3 body again s) (for_round (given m act w) c go' k e2 e3 body' again' s)
for_goes n m t act q w c go go' k e2 e3 body body' again again' nm h hb ha s lo hi =
    goes_begin n m act q (k + 1) s _ _ hi nm (λ s1 e1 lt1. test_goes n m t c go go' e2 s1
    (λ s2. bind (body s2) (λ f s3. around f s3 (λ s4. turn (given n act w) (k + 2) s4 (λ s5. perform c go e3 s5 again))))
    (λ s2. bind (body' s2) (λ f s3. around f s3 (λ s4. turn (given m act w) (k + 2) s4 (λ s5. perform c go' e3 s5 again'))))
    next h
    (λ s2 le2 lt2. goes_bind n m s2 (body s2) (body' s2) _ _ (hb s2 le2 lt2)
    (λ f s3 le3 lt3. around_goes n m t f s3
    (λ s4. turn (given n act w) (k + 2) s4 (λ s5. perform c go e3 s5 again))
    (λ s4. turn (given m act w) (k + 2) s4 (λ s5. perform c go' e3 s5 again'))
    (λ s4 le4 lt4. goes_begin n m act q (k + 2) s4 _ _ lt4 nm (λ s5 e5 lt5. perform_goes n m t c go go' e3 s5 again again' h ha (omega arith) lt5))
    (omega arith) lt3))
    (next_goes n m t) (omega arith) lt1)

zero_local_turns : (c : Context) (d : Item) (s : State) → (zero_local c d s).turns ≡ s.turns
zero_local_turns c (auto d i) s = refl
zero_local_turns c (auto_init d i k l e) s = refl
zero_local_turns c (static_ d k i) s = refl
zero_local_turns c (extern_ d) s = refl
zero_local_turns c (function d b) s = refl

zero_turns : (c : Context) (ds : List Item) (s : State) → (zero_block c ds s).turns ≡ s.turns
zero_turns c [] s = refl
zero_turns c (d ∷ ds) s = zero_turns c ds (zero_local c d s) ∙ zero_local_turns c d s

begin_auto_goes : (n m t : ℕ) (r r' : Rest) (c : Context) (i : ℕ) (y : CType) (e : TExpr) (s : State) → Good n m t r r' → t ≤ s.turns → s.turns < n → Goes n m s (begin_auto r c i y e s) (begin_auto r' c i y e s)
begin_auto_goes n m t r r' c i y e s g lo hi =
    goes_last n m s (value c r.call e s) (value c r'.call e s) (λ v s1. store c y (To (Local (current s1.chain) (c.params + i)) 0) v s1)
    (value_goes n m t c r.call r'.call g.calls e s lo hi)
    (λ v s1. quiet_store c y (To (Local (current s1.chain) (c.params + i)) 0) v s1)

-- what follows is known to go on from the turns begun by then
abbrev On : (n m : ℕ) → State → (State → Out Flow) → (State → Out Flow) → Type 0
On n m s on on' = (s1 : State) → s.turns ≤ s1.turns → s1.turns < n → Goes n m s1 (on s1) (on' s1)

init_goes : (n m t : ℕ) (act : Acts) → AreQuiet act → (w : Linked) (r r' : Rest) (c : Context) (d : Item) (s : State) (on on' : State → Out Flow) → n ≤ m → Good n m t r r' → On n m s on on' → t ≤ suc s.turns → s.turns < n → Goes n m s (init (given n act w) r c d s on) (init (given m act w) r' c d s on')
init_goes n m t act q w r r' c (auto d i) s on on' nm g k lo hi = k s (omega arith) hi
init_goes n m t act q w r r' c (auto_init d i j l e) s on on' nm g k lo hi =
    goes_begin n m act q j s _ _ hi nm (λ s1 e1 lt1. goes_bind n m s1 (begin_auto r c i d.ty e s1) (begin_auto r' c i d.ty e s1) _ _
    (begin_auto_goes n m t r r' c i d.ty e s1 g (omega arith) lt1) (λ v s2 le2 lt2. k s2 (omega arith) lt2))
init_goes n m t act q w r r' c (static_ d i x) s on on' nm g k lo hi = k s (omega arith) hi
init_goes n m t act q w r r' c (extern_ d) s on on' nm g k lo hi = k s (omega arith) hi
init_goes n m t act q w r r' c (function d b) s on on' nm g k lo hi = k s (omega arith) hi

pub inits_goes : (n m t : ℕ) (act : Acts) → AreQuiet act → (w : Linked) (r r' : Rest) (c : Context) (ds : List Item) (s : State) (on on' : State → Out Flow) → n ≤ m → Good n m t r r' → On n m s on on' → t ≤ suc s.turns → s.turns < n → Goes n m s (inits (given n act w) r c ds s on) (inits (given m act w) r' c ds s on')
inits_goes n m t act q w r r' c [] s on on' nm g k lo hi = k s (omega arith) hi
inits_goes n m t act q w r r' c (d ∷ ds) s on on' nm g k lo hi =
    init_goes n m t act q w r r' c d s (λ s1. inits (given n act w) r c ds s1 on) (λ s1. inits (given m act w) r' c ds s1 on') nm g
    (λ s1 le1 lt1. inits_goes n m t act q w r r' c ds s1 on on' nm g (λ s2 le2 lt2. k s2 (omega arith) lt2) (omega arith) lt1) lo hi

select_goes : (n m : ℕ) (v : Value) (is : TItems) (s : State) (x x' : ℕ → State → Out Flow) (y y' : State → Out Flow) → ((k : ℕ) → Goes n m s (x k s) (x' k s)) → Goes n m s (y s) (y' s) → s.turns < n → Goes n m s (select v is s x y) (select v is s x' y')
select_goes n m (Num k) is s x x' y y' hx hy hi =
    goes_choose n m (has_case k is) s (x k) (λ s1. choose (has_default is) s1 y next) (x' k) (λ s1. choose (has_default is) s1 y' next) (hx k)
    (goes_choose n m (has_default is) s y next y' next hy (goes_gave n m s Next hi))
select_goes n m _ is s x x' y y' hx hy hi = refl

mutual
  pub stmt_goes : (n m t : ℕ) (act : Acts) → AreQuiet act → (w : Linked) (r r' : Rest) (c : Context) → n ≤ m → Good n m t r r' → (st : TStmt) (s : State) → t ≤ suc s.turns → s.turns < n → Goes n m s (stmt (given n act w) r c st s) (stmt (given m act w) r' c st s)
  stmt_goes n m t act q w r r' c nm g (expr k l e) s lo hi =
      goes_begin n m act q k s _ _ hi nm (λ s1 e1 lt1. goes_last n m s1 (value c r.call e s1) (value c r'.call e s1) (λ v s2. Gave Next s2) (value_goes n m t c r.call r'.call g.calls e s1 (omega arith) lt1) (λ v s2. refl))
  stmt_goes n m t act q w r r' c nm g (empty k l) s lo hi = goes_begin n m act q k s next next hi nm (λ s1 e1 lt1. goes_gave n m s1 Next lt1)
  stmt_goes n m t act q w r r' c nm g (if_only k l e a) s lo hi =
      goes_begin n m act q k s _ _ hi nm (λ s1 e1 lt1. goes_bind n m s1 (value c r.call e s1) (value c r'.call e s1) _ _ (value_goes n m t c r.call r'.call g.calls e s1 (omega arith) lt1)
      (λ v s2 le2 lt2. goes_choose n m (is_true v) s2 (stmt (given n act w) r c a) next (stmt (given m act w) r' c a) next (stmt_goes n m t act q w r r' c nm g a s2 (omega arith) lt2) (goes_gave n m s2 Next lt2)))
  stmt_goes n m t act q w r r' c nm g (if_else k l e a b) s lo hi =
      goes_begin n m act q k s _ _ hi nm (λ s1 e1 lt1. goes_bind n m s1 (value c r.call e s1) (value c r'.call e s1) _ _ (value_goes n m t c r.call r'.call g.calls e s1 (omega arith) lt1)
      (λ v s2 le2 lt2. goes_choose n m (is_true v) s2 (stmt (given n act w) r c a) (stmt (given n act w) r c b) (stmt (given m act w) r' c a) (stmt (given m act w) r' c b)
      (stmt_goes n m t act q w r r' c nm g a s2 (omega arith) lt2) (stmt_goes n m t act q w r r' c nm g b s2 (omega arith) lt2)))
  stmt_goes n m t act q w r r' c nm g (while_ k l e body) s lo hi =
      while_goes n m t act q w c r.call r'.call k e (stmt (given n act w) r c body) (stmt (given m act w) r' c body) (r.again c (while_ k l e body)) (r'.again c (while_ k l e body)) nm g.calls
      (λ s1 lo1 lt1. stmt_goes n m t act q w r r' c nm g body s1 (omega arith) lt1) (g.again c (while_ k l e body)) s lo hi
  stmt_goes n m t act q w r r' c nm g (do_ k l body e) s lo hi =
      do_goes n m t act q w c r.call r'.call k e (stmt (given n act w) r c body) (stmt (given m act w) r' c body) (r.again c (do_ k l body e)) (r'.again c (do_ k l body e)) nm g.calls s
      (stmt_goes n m t act q w r r' c nm g body s lo hi) (g.again c (do_ k l body e)) lo hi
  stmt_goes n m t act q w r r' c nm g (for_ k l e1 e2 e3 body) s lo hi =
      goes_begin n m act q k s _ _ hi nm (λ s1 z1 lt1. perform_goes n m t c r.call r'.call e1 s1
      (for_round (given n act w) c r.call k e2 e3 (stmt (given n act w) r c body) (r.again c (for_ k l e1 e2 e3 body)))
      (for_round (given m act w) c r'.call k e2 e3 (stmt (given m act w) r' c body) (r'.again c (for_ k l e1 e2 e3 body)))
      g.calls
      (λ s2 lo2 lt2. for_goes n m t act q w c r.call r'.call k e2 e3 (stmt (given n act w) r c body) (stmt (given m act w) r' c body) (r.again c (for_ k l e1 e2 e3 body)) (r'.again c (for_ k l e1 e2 e3 body)) nm g.calls
      (λ s3 lo3 lt3. stmt_goes n m t act q w r r' c nm g body s3 (omega arith) lt3) (g.again c (for_ k l e1 e2 e3 body)) s2 (omega arith) lt2)
      (omega arith) lt1)
  stmt_goes n m t act q w r r' c nm g (switch k l e is) s lo hi =
      goes_begin n m act q k s _ _ hi nm (λ s1 e1 lt1. goes_bind n m s1 (value c r.call e s1) (value c r'.call e s1) _ _ (value_goes n m t c r.call r'.call g.calls e s1 (omega arith) lt1)
      (λ v s2 le2 lt2. goes_last n m s2 (select v is s2 (from_case (given n act w) r c is) (from_default (given n act w) r c is)) (select v is s2 (from_case (given m act w) r' c is) (from_default (given m act w) r' c is)) out_of
      (select_goes n m v is s2 (from_case (given n act w) r c is) (from_case (given m act w) r' c is) (from_default (given n act w) r c is) (from_default (given m act w) r' c is)
      (λ j. from_case_goes n m t act q w r r' c nm g is j s2 (omega arith) lt2) (from_default_goes n m t act q w r r' c nm g is s2 (omega arith) lt2) lt2)
      (λ f s3. out_of_quiet f s3)))
  stmt_goes n m t act q w r r' c nm g (break_ k l) s lo hi = goes_begin n m act q k s (Gave Broke) (Gave Broke) hi nm (λ s1 e1 lt1. goes_gave n m s1 Broke lt1)
  stmt_goes n m t act q w r r' c nm g (continue_ k l) s lo hi = goes_begin n m act q k s (Gave Continued) (Gave Continued) hi nm (λ s1 e1 lt1. goes_gave n m s1 Continued lt1)
  stmt_goes n m t act q w r r' c nm g (return_ k l e) s lo hi =
      goes_begin n m act q k s (give_back c r.call e) (give_back c r'.call e) hi nm (λ s1 e1 lt1. give_back_goes n m t c r.call r'.call e s1 g.calls (omega arith) lt1)
  stmt_goes n m t act q w r r' c nm g (block line bs ss close_line) s lo hi =
      let ds = locals bs in
      let z = zero_turns c ds s in
      goes_from n m s (zero_block c ds s) (inits (given n act w) r c ds (zero_block c ds s) (stmts (given n act w) r c ss)) (inits (given m act w) r' c ds (zero_block c ds s) (stmts (given m act w) r' c ss)) (omega arith)
      (inits_goes n m t act q w r r' c ds (zero_block c ds s) (stmts (given n act w) r c ss) (stmts (given m act w) r' c ss) nm g
      (λ s1 le1 lt1. stmts_goes n m t act q w r r' c nm g ss s1 (omega arith) lt1) (omega arith) (omega arith))

  pub loop_goes : (n m t : ℕ) (act : Acts) → AreQuiet act → (w : Linked) (r r' : Rest) (c : Context) → n ≤ m → Good n m t r r' → (st : TStmt) (s : State) → t ≤ suc s.turns → s.turns < n → Goes n m s (loop (given n act w) r c st s) (loop (given m act w) r' c st s)
  loop_goes n m t act q w r r' c nm g (while_ k l e body) s lo hi =
      while_goes n m t act q w c r.call r'.call k e (stmt (given n act w) r c body) (stmt (given m act w) r' c body) (r.again c (while_ k l e body)) (r'.again c (while_ k l e body)) nm g.calls
      (λ s1 lo1 lt1. stmt_goes n m t act q w r r' c nm g body s1 (omega arith) lt1) (g.again c (while_ k l e body)) s lo hi
  loop_goes n m t act q w r r' c nm g (do_ k l body e) s lo hi =
      do_goes n m t act q w c r.call r'.call k e (stmt (given n act w) r c body) (stmt (given m act w) r' c body) (r.again c (do_ k l body e)) (r'.again c (do_ k l body e)) nm g.calls s
      (stmt_goes n m t act q w r r' c nm g body s lo hi) (g.again c (do_ k l body e)) lo hi
  loop_goes n m t act q w r r' c nm g (for_ k l e1 e2 e3 body) s lo hi =
      for_goes n m t act q w c r.call r'.call k e2 e3 (stmt (given n act w) r c body) (stmt (given m act w) r' c body) (r.again c (for_ k l e1 e2 e3 body)) (r'.again c (for_ k l e1 e2 e3 body)) nm g.calls
      (λ s3 lo3 lt3. stmt_goes n m t act q w r r' c nm g body s3 (omega arith) lt3) (g.again c (for_ k l e1 e2 e3 body)) s lo hi
  loop_goes n m t act q w r r' c nm g _ s lo hi = refl

  pub stmts_goes : (n m t : ℕ) (act : Acts) → AreQuiet act → (w : Linked) (r r' : Rest) (c : Context) → n ≤ m → Good n m t r r' → (ss : TStmts) (s : State) → t ≤ suc s.turns → s.turns < n → Goes n m s (stmts (given n act w) r c ss s) (stmts (given m act w) r' c ss s)
  stmts_goes n m t act q w r r' c nm g no_stmts s lo hi = goes_gave n m s Next hi
  stmts_goes n m t act q w r r' c nm g (more_stmts a ss) s lo hi =
      goes_bind n m s (stmt (given n act w) r c a s) (stmt (given m act w) r' c a s) _ _ (stmt_goes n m t act q w r r' c nm g a s lo hi)
      (λ f s1 le1 lt1. after_goes n m s1.turns f s1 (stmts (given n act w) r c ss) (stmts (given m act w) r' c ss) (λ s2 le2 lt2. stmts_goes n m t act q w r r' c nm g ss s2 (omega arith) lt2) (omega arith) lt1)

  items_goes : (n m t : ℕ) (act : Acts) → AreQuiet act → (w : Linked) (r r' : Rest) (c : Context) → n ≤ m → Good n m t r r' → (is : TItems) (s : State) → t ≤ suc s.turns → s.turns < n → Goes n m s (items (given n act w) r c is s) (items (given m act w) r' c is s)
  items_goes n m t act q w r r' c nm g no_items s lo hi = goes_gave n m s Next hi
  items_goes n m t act q w r r' c nm g (case_ e j is) s lo hi = items_goes n m t act q w r r' c nm g is s lo hi
  items_goes n m t act q w r r' c nm g (default_ is) s lo hi = items_goes n m t act q w r r' c nm g is s lo hi
  items_goes n m t act q w r r' c nm g (more_items a is) s lo hi =
      goes_bind n m s (stmt (given n act w) r c a s) (stmt (given m act w) r' c a s) _ _ (stmt_goes n m t act q w r r' c nm g a s lo hi)
      (λ f s1 le1 lt1. after_goes n m s1.turns f s1 (items (given n act w) r c is) (items (given m act w) r' c is) (λ s2 le2 lt2. items_goes n m t act q w r r' c nm g is s2 (omega arith) lt2) (omega arith) lt1)

  from_case_goes : (n m t : ℕ) (act : Acts) → AreQuiet act → (w : Linked) (r r' : Rest) (c : Context) → n ≤ m → Good n m t r r' → (is : TItems) (q : ℕ) (s : State) → t ≤ suc s.turns → s.turns < n → Goes n m s (from_case (given n act w) r c is q s) (from_case (given m act w) r' c is q s)
  from_case_goes n m t act q w r r' c nm g no_items j s lo hi = goes_gave n m s Next hi
  from_case_goes n m t act q w r r' c nm g (case_ e p is) j s lo hi =
      goes_choose n m (nat_eq j p) s (items (given n act w) r c is) (from_case (given n act w) r c is j) (items (given m act w) r' c is) (from_case (given m act w) r' c is j)
      (items_goes n m t act q w r r' c nm g is s lo hi) (from_case_goes n m t act q w r r' c nm g is j s lo hi)
  from_case_goes n m t act q w r r' c nm g (default_ is) j s lo hi = from_case_goes n m t act q w r r' c nm g is j s lo hi
  from_case_goes n m t act q w r r' c nm g (more_items a is) j s lo hi = from_case_goes n m t act q w r r' c nm g is j s lo hi

  from_default_goes : (n m t : ℕ) (act : Acts) → AreQuiet act → (w : Linked) (r r' : Rest) (c : Context) → n ≤ m → Good n m t r r' → (is : TItems) (s : State) → t ≤ suc s.turns → s.turns < n → Goes n m s (from_default (given n act w) r c is s) (from_default (given m act w) r' c is s)
  from_default_goes n m t act q w r r' c nm g no_items s lo hi = goes_gave n m s Next hi
  from_default_goes n m t act q w r r' c nm g (case_ e p is) s lo hi = from_default_goes n m t act q w r r' c nm g is s lo hi
  from_default_goes n m t act q w r r' c nm g (default_ is) s lo hi = items_goes n m t act q w r r' c nm g is s lo hi
  from_default_goes n m t act q w r r' c nm g (more_items a is) s lo hi = from_default_goes n m t act q w r r' c nm g is s lo hi
