-- One turn of each loop over an expression's tokens.
use Rattle.std.proofs.Common.{◌≡◌, ℕ, suc, List, [], ◌∷◌, ◌++◌, length, Option, Some, None, Result, Err, refl, ap, sym, ◌∙◌, max, arith}
use Rattle.std.specs.Ordering.{ord_max, nat_cmp}
use Rattle.std.proofs.lemmas.Bool.Decides.{nat_tests}
use Rattle.c_type.specs.Names.{Name}
use Rattle.c_lex.specs.Tokens.{Token}
use Rattle.c_tree.specs.declared.expr.BinaryOp.{BinaryOp}
use Rattle.c_tree.specs.declared.expr.StepOp.{StepOp}
use Rattle.c_tree.specs.declared.expr.Expr as node
use Rattle.c_grammar.specs.Words.{binary_level, step_of}
use Rattle.c_tree.specs.TreeExpr.{Expr, Exprs, expr_depth, exprs_depth}
use Rattle.c_tree.specs.TreeExpr as t
use Rattle.c_tree.specs.TreeOf.{expr_of, exprs_from}
use Rattle.c_expr.specs.Front.{Read, ◌>>=◌, eat, grown, front_mark}
use Rattle.c_expr.specs.Reading.{operator_at, comma_at}
use Rattle.c_expr.specs.Reading as r
use Rattle.c_expr.specs.Shapes.{with_one}
use Rattle.c_expr.specs.Suffix.{Begun, begun_by, suffix_at, suffixed}
use Rattle.c_expr.specs.Gives.{Fails, Gives, IsNotC}
use Rattle.c_expr.proofs.Taken.{some_is}
use Rattle.c_expr.specs.declared.error.ParseErr.{ParseErr}
use Rattle.c_expr.specs.declared.error.ParseErr.TheVariants.{TooDeep, NotC, Memory}

-- ---- arguments after those that have been read

abbrev pub joined : Exprs → Exprs → Exprs
joined t.no_exprs es = es
joined (t.more_exprs d ds) es = t.more_exprs d (joined ds es)

-- the arguments with the one that is read
abbrev pub one_more : Exprs → Read Expr → Read Exprs
one_more front o = o >>= λ x. Some (with_one front x.0, x.1)

abbrev pub with_front : Exprs → Read Exprs → Read Exprs
with_front front read = read >>= λ x. Some (joined front x.0, x.1)

joined-one : (ds : Exprs) (e : Expr) (es : Exprs) → joined ds (t.more_exprs e es) ≡ joined (with_one ds e) es
joined-one t.no_exprs e es = refl
joined-one (t.more_exprs d ds) e es = ap (t.more_exprs d) (joined-one ds e es)

joined-last : (ds : Exprs) (e : Expr) → joined ds (t.more_exprs e t.no_exprs) ≡ with_one ds e
joined-last t.no_exprs e = refl
joined-last (t.more_exprs d ds) e = ap (t.more_exprs d) (joined-last ds e)

pub with-one : (ds : List node.Expr) (e : node.Expr) → with_one (exprs_from ds) (expr_of e) ≡ exprs_from (ds ++ (e ∷ []))
with-one [] e = refl
with-one (d ∷ ds) e = ap (t.more_exprs (expr_of d)) (with-one ds e)

pub front-none : (o : Read Exprs) → with_front t.no_exprs o ≡ o
front-none None = refl
front-none (Some x) = refl

depths-push : (ds : List node.Expr) (e : node.Expr) → exprs_depth (exprs_from (ds ++ (e ∷ []))) ≡ max (exprs_depth (exprs_from ds)) (expr_depth (expr_of e))
depths-push [] e = omega arith
depths-push (d ∷ ds) e = omega (arith, depths-push ds e)

pub max-is : (a b : ℕ) → ord_max nat_cmp a b ≡ max a b
max-is a b = grind (arith, nat_tests)

-- the greatest depth with one more argument
pub pushed : (ds new : List node.Expr) (e : node.Expr) (a b m : ℕ) → new ≡ ds ++ (e ∷ []) → m ≡ ord_max nat_cmp a b → a ≡ exprs_depth (exprs_from ds) → b ≡ expr_depth (expr_of e) → m ≡ exprs_depth (exprs_from new)
pushed ds new e a b m items greatest a_is b_is = rw items (omega (arith, greatest, max-is a b, a_is, b_is, depths-push ds e))

front_of_next : (front : Exprs) (e : Expr) (o : Read Exprs)
    → with_front (with_one front e) o ≡ with_front front (o >>= λ x. Some (t.more_exprs e x.0, x.1))
front_of_next front e None = refl
front_of_next front e (Some x) = ap (λ y. Some (y, x.1)) (sym (joined-one front e x.0))

front_of_last : (front : Exprs) (e : Expr) (o : Option (List Token))
    → with_front front (o >>= λ after. Some (t.more_exprs e t.no_exprs, after)) ≡ o >>= λ after. Some (with_one front e, after)
front_of_last front e None = refl
front_of_last front e (Some after) = ap (λ y. Some (y, after)) (joined-last front e)

-- ---- errors that are passed on

-- what gives nothing where a part of it gives nothing
pub fails_along : {X Y : Type 0} (why : ParseErr) (part : Option X) (whole : Option Y) → (part ≡ None → whole ≡ None) → Fails why part → Fails why whole
fails_along (TooDeep line) part whole along is = is
fails_along (NotC line) part whole along is = along is
fails_along Memory part whole along is = tt

pub passed : {X Y : Type 0} (view : X → Y) (result : Result X ParseErr) (read : Option Y) (why given : ParseErr) → result ≡ Err given → given ≡ why → Fails why read → Gives view result read
passed view result read why given is same fails = rw (is, same) fails

pub refused : (why : ParseErr) {Y : Type 0} (read : Option Y) → IsNotC why → read ≡ None → Fails why read
refused (TooDeep line) read not_c none = not_c
refused (NotC line) read not_c none = none
refused Memory read not_c none = tt

pub gives-same : {X Y : Type 0} (view : X → Y) (result : Result X ParseErr) (a b : Option Y) → a ≡ b → Gives view result a → Gives view result b
gives-same view result a b is given = rw (← is) given

-- an expression, where one bracket less may be open inside
pub expr-within : (defs : List Name) (most n m l : ℕ) (ts : List Token) → n ≡ suc m → r.level defs most (r.expr defs most m) l ts ≡ r.expr defs most n l ts
unfolding r.expr
expr-within defs most n m l ts count = rw count refl

-- ---- turns

module _ (defs : List Name) (most : ℕ) (inner : ℕ → List Token → Read Expr) where
  grown-after : (more : Expr → List Token → Read Expr) (make : Expr → Expr) (o : Read Expr)
      → r.again defs most inner more (o >>= λ x. Some (make x.0, x.1)) ≡ (o >>= λ x. grown expr_depth most (make x.0) x.1) >>= λ z. more z.0 z.1
  grown-after more make None = refl
  grown-after more make (Some x) = refl

  climb-step : (m k line l n : ℕ) (e : Expr) (ts : List Token) (p : BinaryOp × List Token) → m ≡ suc k → n ≡ suc (binary_level p.0) → Some p ≡ operator_at l ts
      → r.climb defs most inner m line l e ts ≡ (inner n p.1 >>= λ x. grown expr_depth most (t.binary line p.0 e x.0) x.1) >>= λ z. r.climb defs most inner k line l z.0 z.1
  unfolding r.climb
  climb-step m k line l n e ts p count level at = rw (count, ← at, level) (grown-after (r.climb defs most inner k line l) (t.binary line p.0 e) (inner (suc (binary_level p.0)) p.1))

  pub climb-turn : (m k line l n : ℕ) (e : Expr) (ts : List Token) (p : BinaryOp × List Token) (y : Expr × List Token) → m ≡ suc k → n ≡ suc (binary_level p.0) → Some p ≡ operator_at l ts
      → (inner n p.1 >>= λ x. grown expr_depth most (t.binary line p.0 e x.0) x.1) ≡ Some y → r.climb defs most inner m line l e ts ≡ r.climb defs most inner k line l y.0 y.1
  climb-turn m k line l n e ts p y count level at is = climb-step m k line l n e ts p count level at ∙ ap (λ o. o >>= λ z. r.climb defs most inner k line l z.0 z.1) is

  pub climb-none : (m k line l n : ℕ) (e : Expr) (ts : List Token) (p : BinaryOp × List Token) → m ≡ suc k → n ≡ suc (binary_level p.0) → Some p ≡ operator_at l ts
      → (inner n p.1 >>= λ x. grown expr_depth most (t.binary line p.0 e x.0) x.1) ≡ None → r.climb defs most inner m line l e ts ≡ None
  climb-none m k line l n e ts p count level at is = climb-step m k line l n e ts p count level at ∙ ap (λ o. o >>= λ z. r.climb defs most inner k line l z.0 z.1) is

  pub climb-end : (m k line l : ℕ) (e : Expr) (ts : List Token) → m ≡ suc k → None ≡ operator_at l ts → r.climb defs most inner m line l e ts ≡ Some (e, ts)
  unfolding r.climb
  climb-end m k line l e ts count at = rw (count, ← at) refl

  pub climb-over : (m line l : ℕ) (e : Expr) (ts : List Token) → m ≡ 0 → r.climb defs most inner m line l e ts ≡ None
  unfolding r.climb
  climb-over m line l e ts over = rw over refl

  comma-step : (m k line l : ℕ) (e : Expr) (ts after : List Token) → m ≡ suc k → Some after ≡ comma_at l ts
      → r.commas defs most inner m line l e ts ≡ (inner 2 after >>= λ x. grown expr_depth most (t.comma line e x.0) x.1) >>= λ z. r.commas defs most inner k line l z.0 z.1
  unfolding r.commas
  comma-step m k line l e ts after count at = rw (count, ← at) (grown-after (r.commas defs most inner k line l) (t.comma line e) (inner 2 after))

  pub comma-turn : (m k line l : ℕ) (e : Expr) (ts after : List Token) (y : Expr × List Token) → m ≡ suc k → Some after ≡ comma_at l ts
      → (inner 2 after >>= λ x. grown expr_depth most (t.comma line e x.0) x.1) ≡ Some y → r.commas defs most inner m line l e ts ≡ r.commas defs most inner k line l y.0 y.1
  comma-turn m k line l e ts after y count at is = comma-step m k line l e ts after count at ∙ ap (λ o. o >>= λ z. r.commas defs most inner k line l z.0 z.1) is

  pub comma-none : (m k line l : ℕ) (e : Expr) (ts after : List Token) → m ≡ suc k → Some after ≡ comma_at l ts
      → (inner 2 after >>= λ x. grown expr_depth most (t.comma line e x.0) x.1) ≡ None → r.commas defs most inner m line l e ts ≡ None
  comma-none m k line l e ts after count at is = comma-step m k line l e ts after count at ∙ ap (λ o. o >>= λ z. r.commas defs most inner k line l z.0 z.1) is

  pub comma-end : (m k line l : ℕ) (e : Expr) (ts : List Token) → m ≡ suc k → None ≡ comma_at l ts → r.commas defs most inner m line l e ts ≡ Some (e, ts)
  unfolding r.commas
  comma-end m k line l e ts count at = rw (count, ← at) refl

  pub commas-over : (m line l : ℕ) (e : Expr) (ts : List Token) → m ≡ 0 → r.commas defs most inner m line l e ts ≡ None
  unfolding r.commas
  commas-over m line l e ts over = rw over refl

  -- what follows, by the suffix that begins at the front
  abbrev goes_on : (Expr → List Token → Read Expr) → ℕ → Expr → List Token → Option Begun → Read Expr
  goes_on more l e ts None = Some (e, ts)
  goes_on more l e ts (Some s) = r.again defs most inner more (suffixed defs most inner l e s)

  by_begun : (more : Expr → List Token → Read Expr) (l : ℕ) (e : Expr) (ts : List Token) (o q u v : Option (List Token)) (z : Read StepOp)
      → r.suffix_by defs most inner more l e ts o q u v z ≡ goes_on more l e ts (begun_by o q u v z)
  by_begun more l e ts (Some after) q u v z = refl
  by_begun more l e ts None (Some after) u v z = refl
  by_begun more l e ts None None (Some after) v z = refl
  by_begun more l e ts None None None (Some after) z = refl
  by_begun more l e ts None None None None (Some p) = refl
  by_begun more l e ts None None None None None = refl

  suffixes-step : (m k l : ℕ) (e : Expr) (ts : List Token) (o : Option Begun) → m ≡ suc k → o ≡ suffix_at ts → r.suffixes defs most inner m l e ts ≡ goes_on (r.suffixes defs most inner k l) l e ts o
  unfolding r.suffixes
  suffixes-step m k l e ts o count at =
      rw count (by_begun (r.suffixes defs most inner k l) l e ts (eat 21 ts) (eat 23 ts) (eat 27 ts) (eat 4 ts) (front_mark step_of ts) ∙ ap (goes_on (r.suffixes defs most inner k l) l e ts) (sym at))

  pub suffix-turn : (m k l : ℕ) (e : Expr) (ts : List Token) (s : Begun) (y : Expr × List Token) → m ≡ suc k → Some s ≡ suffix_at ts
      → r.grow defs most inner (suffixed defs most inner l e s) ≡ Some y → r.suffixes defs most inner m l e ts ≡ r.suffixes defs most inner k l y.0 y.1
  suffix-turn m k l e ts s y count at is = suffixes-step m k l e ts (Some s) count at ∙ ap (λ o. o >>= λ z. r.suffixes defs most inner k l z.0 z.1) is

  pub suffix-none : (m k l : ℕ) (e : Expr) (ts : List Token) (s : Begun) → m ≡ suc k → Some s ≡ suffix_at ts
      → r.grow defs most inner (suffixed defs most inner l e s) ≡ None → r.suffixes defs most inner m l e ts ≡ None
  suffix-none m k l e ts s count at is = suffixes-step m k l e ts (Some s) count at ∙ ap (λ o. o >>= λ z. r.suffixes defs most inner k l z.0 z.1) is

  pub suffixes-end : (m k l : ℕ) (e : Expr) (ts : List Token) → m ≡ suc k → None ≡ suffix_at ts → r.suffixes defs most inner m l e ts ≡ Some (e, ts)
  suffixes-end m k l e ts count at = suffixes-step m k l e ts None count at

  pub suffixes-over : (m l : ℕ) (e : Expr) (ts : List Token) → m ≡ 0 → r.suffixes defs most inner m l e ts ≡ None
  unfolding r.suffixes
  suffixes-over m l e ts over = rw over refl

  -- what follows where one more argument has been read, by the comma behind it
  abbrev args_on : Exprs → List Token → ℕ → Option (List Token) → Read Exprs
  args_on es rest k (Some after) = with_front es (r.args_from defs most inner k after)
  args_on es rest k None = eat 22 rest >>= λ after. Some (es, after)

  args-next : (front : Exprs) (e : Expr) (k : ℕ) (rest : List Token) (o : Option (List Token))
      → with_front front (r.args_next defs most inner (r.args_from defs most inner k) e rest o) ≡ args_on (with_one front e) rest k o
  args-next front e k rest (Some after) = sym (front_of_next front e (r.args_from defs most inner k after))
  args-next front e k rest None = front_of_last front e (eat 22 rest)

  args-by : (front : Exprs) (k : ℕ) (rest : List Token) (es : Exprs) (o : Read Expr) → one_more front o ≡ Some (es, rest)
      → with_front front (o >>= λ x. r.args_next defs most inner (r.args_from defs most inner k) x.0 x.1 (eat 28 x.1)) ≡ args_on es rest k (eat 28 rest)
  args-by front k rest es None is = cc
  args-by front k rest es (Some x) is =
      args-next front x.0 k x.1 (eat 28 x.1) ∙ ap (λ y. args_on y.0 y.1 k (eat 28 y.1)) (some_is is)

  args-by-none : (front : Exprs) (k : ℕ) (o : Read Expr) → one_more front o ≡ None
      → with_front front (o >>= λ x. r.args_next defs most inner (r.args_from defs most inner k) x.0 x.1 (eat 28 x.1)) ≡ None
  args-by-none front k None is = refl
  args-by-none front k (Some x) is = cc

  -- the arguments and those that follow, where one more has been read
  args-step : (front : Exprs) (m k : ℕ) (ts rest : List Token) (es : Exprs) → m ≡ suc k → one_more front (inner 2 ts) ≡ Some (es, rest)
      → with_front front (r.args_from defs most inner m ts) ≡ args_on es rest k (eat 28 rest)
  unfolding r.args_from
  args-step front m k ts rest es count is = rw count (args-by front k rest es (inner 2 ts) is)

  pub args-turn : (front : Exprs) (m k : ℕ) (ts rest after : List Token) (es : Exprs) → m ≡ suc k → one_more front (inner 2 ts) ≡ Some (es, rest) → Some after ≡ eat 28 rest
      → with_front es (r.args_from defs most inner k after) ≡ with_front front (r.args_from defs most inner m ts)
  args-turn front m k ts rest after es count is at = sym (args-step front m k ts rest es count is ∙ ap (args_on es rest k) (sym at))

  pub args-last : (front : Exprs) (m k : ℕ) (ts rest : List Token) (es : Exprs) → m ≡ suc k → one_more front (inner 2 ts) ≡ Some (es, rest) → None ≡ eat 28 rest
      → with_front front (r.args_from defs most inner m ts) ≡ eat 22 rest >>= λ after. Some (es, after)
  args-last front m k ts rest es count is at = args-step front m k ts rest es count is ∙ ap (args_on es rest k) (sym at)

  pub args-none : (front : Exprs) (m k : ℕ) (ts : List Token) → m ≡ suc k → one_more front (inner 2 ts) ≡ None
      → with_front front (r.args_from defs most inner m ts) ≡ None
  unfolding r.args_from
  args-none front m k ts count is = rw count (args-by-none front k (inner 2 ts) is)

  pub args-over : (front : Exprs) (m : ℕ) (ts : List Token) → m ≡ 0 → with_front front (r.args_from defs most inner m ts) ≡ None
  unfolding r.args_from
  args-over front m ts over = rw over refl

  pub args-some : (ts : List Token) → None ≡ eat 22 ts → r.args defs most inner ts ≡ r.args_from defs most inner (length ts) ts
  unfolding r.args
  args-some ts not_close = rw (← not_close) refl
