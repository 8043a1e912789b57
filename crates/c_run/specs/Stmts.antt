-- Evaluation of statements.
-- It states docs/LANGUAGE.md, section Evaluation.
use Rattle.std.specs.Prelude.{ℕ, ◌+◌, List, [], ◌∷◌, Option, Some, None, Bool, true, false, nat_eq, ◌||◌}
use Rattle.c_type.specs.Types.{CType}
use Rattle.c_tree.specs.TExpr.{TExpr}
use Rattle.c_tree.specs.TStmt.{TStmt, expr, empty, if_only, if_else, while_, do_, for_, switch, break_, continue_, return_, block, TStmts, no_stmts, more_stmts, TItems, no_items, case_, default_, more_items, Local as Item, auto, auto_init, static_, extern_, function, locals}
use Rattle.c_run.specs.Values.{Local, Value, Num, To, is_true}
use Rattle.c_run.specs.State.{State, Out, Gave, bind, choose, Flow, Next, Broke, Continued, Returned, current, set_thing, Acts, begin}
use Rattle.c_run.specs.Context.{Context, Linked, fresh}
use Rattle.c_run.specs.Pointers.{leaves, store}
use Rattle.c_run.specs.Exprs.{Call, value}

-- what stays through a run: the stop number, what is done at each turn, the program
pub record Given : Type 0 where
  pub stop : ℕ
  pub acts : Acts
  pub whole : Linked

-- what has less fuel: a call, and a loop's further rounds
pub record Rest : Type 0 where
  pub call : Call
  pub again : Context → TStmt → State → Out Flow

-- one turn with what stays through a run
abbrev pub turn : {A : Type 0} → Given → ℕ → State → (State → Out A) → Out A
turn g k s go = begin g.stop g.acts k s go

-- after the first of two statements
abbrev pub after : Flow → State → (State → Out Flow) → Out Flow
after Next s go = go s
after Broke s go = Gave Broke s
after Continued s go = Gave Continued s
after (Returned v) s go = Gave (Returned v) s

-- after a loop's body
abbrev pub around : Flow → State → (State → Out Flow) → Out Flow
around Next s go = go s
around Broke s go = Gave Next s
around Continued s go = go s
around (Returned v) s go = Gave (Returned v) s

-- after a switch
abbrev pub out_of : Flow → State → Out Flow
out_of Next s = Gave Next s
out_of Broke s = Gave Next s
out_of Continued s = Gave Continued s
out_of (Returned v) s = Gave (Returned v) s

-- nothing more is done
abbrev pub next : State → Out Flow
next s = Gave Next s

-- an expression that may be left out
abbrev pub perform : Context → Call → Option TExpr → State → (State → Out Flow) → Out Flow
perform c go None s go_on = go_on s
perform c go (Some e) s go_on = bind (value c go e s) (λ v s1. go_on s1)

-- the test of a `for`, true where it is left out
abbrev pub test : Context → Call → Option TExpr → State → (State → Out Flow) → (State → Out Flow) → Out Flow
test c go None s holds fails = holds s
test c go (Some e) s holds fails = bind (value c go e s) (λ v s1. choose (is_true v) s1 holds fails)

-- `return`: the value that the call gives is kept
abbrev pub give_back : Context → Call → Option TExpr → State → Out Flow
give_back c go None s = Gave (Returned None) s
give_back c go (Some e) s = bind (value c go e s) (λ v s1. Gave (Returned (Some v)) s1)

-- one round of a loop, where its body and its further rounds are given
abbrev pub while_round : Given → Context → Call → ℕ → TExpr → (State → Out Flow) → (State → Out Flow) → State → Out Flow
while_round g c go k e body again s =
    turn g k s (λ s1. bind (value c go e s1) (λ v s2. choose (is_true v) s2 (λ s3. bind (body s3) (λ f s4. around f s4 again)) next))

-- the body, then the test
abbrev pub do_round : Given → Context → Call → ℕ → TExpr → (State → Out Flow) → (State → Out Flow) → State → Out Flow
do_round g c go k e body again s =
    bind (body s) (λ f s1. around f s1 (λ s2. turn g k s2 (λ s3. bind (value c go e s3) (λ v s4. choose (is_true v) s4 again next))))

-- the test, the body, the step
abbrev pub for_round : Given → Context → Call → ℕ → Option TExpr → Option TExpr → (State → Out Flow) → (State → Out Flow) → State → Out Flow
for_round g c go k e2 e3 body again s =
    turn g (k + 1) s (λ s1. test c go e2 s1
    (λ s2. bind (body s2) (λ f s3. around f s3 (λ s4. turn g (k + 2) s4 (λ s5. perform c go e3 s5 again))))
    next)

-- the latest activation's automatic object is zero again
abbrev pub zero_auto : Context → ℕ → CType → State → State
zero_auto c i t s = set_thing s (Local (current s.chain) (c.params + i)) (fresh c t)

-- the automatic object that a declarator makes is zero
abbrev pub zero_local : Context → Item → State → State
zero_local c (auto d i) s = zero_auto c i d.ty s
zero_local c (auto_init d i k l e) s = zero_auto c i d.ty s
zero_local c (static_ d k i) s = s
zero_local c (extern_ d) s = s
zero_local c (function d b) s = s

-- a block is entered
abbrev pub zero_block : Context → List Item → State → State
zero_block c [] s = s
zero_block c (d ∷ ds) s = zero_block c ds (zero_local c d s)

-- automatic object i receives its initialiser
abbrev pub begin_auto : Rest → Context → ℕ → CType → TExpr → State → Out Value
begin_auto r c i t e s = bind (value c r.call e s) (λ v s1. store c t (To (Local (current s1.chain) (c.params + i)) 0) v s1)

-- the initialiser of a declarator at its start, and what follows
abbrev pub init : Given → Rest → Context → Item → State → (State → Out Flow) → Out Flow
init g r c (auto d i) s go_on = go_on s
init g r c (auto_init d i k l e) s go_on = turn g k s (λ s1. bind (begin_auto r c i d.ty e s1) (λ v s2. go_on s2))
init g r c (static_ d k i) s go_on = go_on s
init g r c (extern_ d) s go_on = go_on s
init g r c (function d b) s go_on = go_on s

-- the initialisers of a block, each at its start
abbrev pub inits : Given → Rest → Context → List Item → State → (State → Out Flow) → Out Flow
inits g r c [] s go_on = go_on s
inits g r c (d ∷ ds) s go_on = init g r c d s (λ s1. inits g r c ds s1 go_on)

-- whether a switch has a case of that value
abbrev pub has_case : ℕ → TItems → Bool
has_case n no_items = false
has_case n (case_ e m is) = nat_eq n m || has_case n is
has_case n (default_ is) = has_case n is
has_case n (more_items s is) = has_case n is

-- whether a switch has a default
abbrev pub has_default : TItems → Bool
has_default no_items = false
has_default (case_ e m is) = has_default is
has_default (default_ is) = true
has_default (more_items s is) = has_default is

-- where a switch goes on: at its case, else at its default, else behind it
abbrev pub select : Value → TItems → State → (ℕ → State → Out Flow) → (State → Out Flow) → Out Flow
select (Num n) is s at_case at_default = choose (has_case n is) s (at_case n) (λ s1. choose (has_default is) s1 at_default next)
select _ is s at_case at_default = leaves 0 s

-- Statements; a loop from its test on; the parts of a switch, all of them or from a label on.
abbrev mutual
  pub stmt : Given → Rest → Context → TStmt → State → Out Flow
  stmt g r c (expr k l e) s = turn g k s (λ s1. bind (value c r.call e s1) (λ v s2. Gave Next s2))
  stmt g r c (empty k l) s = turn g k s next
  stmt g r c (if_only k l e a) s = turn g k s (λ s1. bind (value c r.call e s1) (λ v s2. choose (is_true v) s2 (stmt g r c a) next))
  stmt g r c (if_else k l e a b) s =
      turn g k s (λ s1. bind (value c r.call e s1) (λ v s2. choose (is_true v) s2 (stmt g r c a) (stmt g r c b)))
  stmt g r c (while_ k l e body) s = while_round g c r.call k e (stmt g r c body) (r.again c (while_ k l e body)) s
  stmt g r c (do_ k l body e) s = do_round g c r.call k e (stmt g r c body) (r.again c (do_ k l body e)) s
  stmt g r c (for_ k l e1 e2 e3 body) s =
      turn g k s (λ s1. perform c r.call e1 s1 (for_round g c r.call k e2 e3 (stmt g r c body) (r.again c (for_ k l e1 e2 e3 body))))
  stmt g r c (switch k l e is) s =
      turn g k s (λ s1. bind (value c r.call e s1) (λ v s2. bind (select v is s2 (from_case g r c is) (from_default g r c is)) out_of))
  stmt g r c (break_ k l) s = turn g k s (Gave Broke)
  stmt g r c (continue_ k l) s = turn g k s (Gave Continued)
  stmt g r c (return_ k l e) s = turn g k s (give_back c r.call e)
  stmt g r c (block line ds ss close_line) s = inits g r c (locals ds) (zero_block c (locals ds) s) (stmts g r c ss)

  pub loop : Given → Rest → Context → TStmt → State → Out Flow
  loop g r c (while_ k l e body) s = while_round g c r.call k e (stmt g r c body) (r.again c (while_ k l e body)) s
  loop g r c (do_ k l body e) s = do_round g c r.call k e (stmt g r c body) (r.again c (do_ k l body e)) s
  loop g r c (for_ k l e1 e2 e3 body) s = for_round g c r.call k e2 e3 (stmt g r c body) (r.again c (for_ k l e1 e2 e3 body)) s
  loop g r c _ s = leaves 0 s

  pub stmts : Given → Rest → Context → TStmts → State → Out Flow
  stmts g r c no_stmts s = next s
  stmts g r c (more_stmts a ss) s = bind (stmt g r c a s) (λ f s1. after f s1 (stmts g r c ss))

  pub items : Given → Rest → Context → TItems → State → Out Flow
  items g r c no_items s = next s
  items g r c (case_ e n is) s = items g r c is s
  items g r c (default_ is) s = items g r c is s
  items g r c (more_items a is) s = bind (stmt g r c a s) (λ f s1. after f s1 (items g r c is))

  pub from_case : Given → Rest → Context → TItems → ℕ → State → Out Flow
  from_case g r c no_items n s = next s
  from_case g r c (case_ e m is) n s = choose (nat_eq n m) s (items g r c is) (from_case g r c is n)
  from_case g r c (default_ is) n s = from_case g r c is n s
  from_case g r c (more_items a is) n s = from_case g r c is n s

  pub from_default : Given → Rest → Context → TItems → State → Out Flow
  from_default g r c no_items s = next s
  from_default g r c (case_ e m is) s = from_default g r c is s
  from_default g r c (default_ is) s = items g r c is s
  from_default g r c (more_items a is) s = from_default g r c is s
