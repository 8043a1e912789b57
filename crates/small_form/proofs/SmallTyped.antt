-- The typed main of a unit of the small form is the one that belongs to the unit by the typing rules: expressions and statements.
use Rattle.std.proofs.Common.{◌≡◌, ℕ, ◌+◌, List, [], ◌∷◌, refl, sym, ap, ◌∙◌, arith, append-nil, subst}
use Rattle.std.specs.Prelude.{Option, Some, None, Bool, true, false, ◌&&◌}
use Rattle.std.proofs.lemmas.Slice.Eq.{bytes_eq-Decides}
use Rattle.c_type.specs.Names.{Name, pick}
use Rattle.c_type.specs.Types.{num, fun, is_integer, same_type}
use Rattle.c_type.specs.declared.Kind.TheVariants.{Int, UInt}
use Rattle.c_tree.specs.declared.AssignOp.TheVariants as ao
use Rattle.c_tree.specs.declared.BinaryOp.{BinaryOp}
use Rattle.c_tree.specs.declared.BinaryOp.TheVariants as op
use Rattle.c_tree.specs.declared.TBinary.{TBinary}
use Rattle.c_tree.specs.declared.TBinary.TheVariants.{Add, Sub}
use Rattle.c_tree.specs.TreeExpr as u
use Rattle.c_tree.specs.TreeStmt as us
use Rattle.c_tree.specs.TExpr.{Local, Outer, TExpr, name, int, convert, binary, assign, no_args, more_args, type_of}
use Rattle.c_tree.specs.TStmt as st
use Rattle.c_tree.specs.TStmt.{TStmt, TStmts}
use Rattle.c_tree.specs.Library.{putchar_name}
use Rattle.c_rule.specs.RuleTexts.{texts_in}
use Rattle.c_rule.specs.RuleScope.{Is, onward, provided, Env, Thing, meaning_of, function_ref, past, met, started}
use Rattle.c_rule.specs.RuleValues.{used, used_as, to_type, wide, widen, meeting, scalar, is_scalar, taken, value_for, are_integers}
use Rattle.c_rule.specs.RuleExprs as r
use Rattle.c_rule.specs.RuleTree.{IsExpr, IsCalled, AreArgs}
use Rattle.c_rule.specs.RuleStmts.{Place, in_loop, enter, IsStmt, AreStmts}
use Rattle.name_set.specs.Different.{place_in}
use Rattle.small_form.specs.SmallForm.{variable, number, putchar, sum_of, sum_in, variable_in, is_putchar, argument_in, action_in, stmt_in, stmts_in, stmt_starts, stmts_starts}
use Rattle.small_form.proofs.Shaped.{none_some, some_is, mapped, picked, sum_parts, assignment_parts, call_parts, loop_parts, return_parts, done_parts, more_parts}

-- variables of these names are in scope, by their places, and putchar is declared nowhere
pub record Holds (ns : List Name) (c : Env) : Type 0 where
  pub finds : (x : Name) (i : ℕ) → place_in ns x ≡ Some i → meaning_of c x ≡ Some (Thing (Local i) (num Int))
  pub no_putchar : meaning_of c putchar_name ≡ None
  pub outer : function_ref c false putchar_name ≡ Outer putchar_name

holds_started : (ns : List Name) (c : Env) (n : ℕ) → Holds ns c → Holds ns (started n c)
holds_started ns c n h = record { finds = h.finds; no_putchar = h.no_putchar; outer = h.outer }

holds_enter : (ns : List Name) (c : Env) → Holds ns c → Holds ns (enter c)
holds_enter ns c h = record { finds = h.finds; no_putchar = h.no_putchar; outer = h.outer }

-- ---- values of type int

used_int : (t : TExpr) → type_of t ≡ num Int → used t ≡ Is t
used_int t e = ap (λ y. used_as y t) e

to_int : (t : TExpr) → type_of t ≡ num Int → to_type (num Int) t ≡ t
to_int t e = ap (λ y. pick (same_type (num Int) y) t (convert (num Int) t)) e

widen_int : (t : TExpr) → type_of t ≡ num Int → widen t ≡ t
widen_int t e = ap (λ y. to_type (wide y) t) e ∙ to_int t e

met_ints : (o : TBinary) (x y : TExpr) → type_of x ≡ num Int → type_of y ≡ num Int → r.met o x y ≡ binary (num Int) o x y
met_ints o x y ex ey =
    let meets : meeting (type_of x) (type_of y) ≡ num Int = ap (λ a. meeting a (type_of y)) ex ∙ ap (meeting (num Int)) ey in
    ap (λ m. binary m o (to_type m x) (to_type m y)) meets ∙ ap (λ z. binary (num Int) o z (to_type (num Int) y)) (to_int x ex) ∙ ap (λ z. binary (num Int) o x z) (to_int y ey)

both_ints : (x y : TExpr) → type_of x ≡ num Int → type_of y ≡ num Int → are_integers x y ≡ true
both_ints x y ex ey = ap (λ a. is_integer a && is_integer (type_of y)) ex ∙ ap (λ a. is_integer a) ey

widened : (o : TBinary) (x y : TExpr) → type_of x ≡ num Int → type_of y ≡ num Int → r.met o (widen x) (widen y) ≡ binary (num Int) o x y
widened o x y ex ey = ap (λ z. r.met o z (widen y)) (widen_int x ex) ∙ ap (λ z. r.met o x z) (widen_int y ey) ∙ met_ints o x y ex ey

summed : (c : Env) (x y : TExpr) → type_of x ≡ num Int → type_of y ≡ num Int → r.sum c x y ≡ Is (binary (num Int) Add x y)
summed c x y ex ey = rw (used_int x ex, used_int y ey, both_ints x y ex ey) (ap Is (widened Add x y ex ey))

subtracted : (c : Env) (x y : TExpr) → type_of x ≡ num Int → type_of y ≡ num Int → r.difference c x y ≡ Is (binary (num Int) Sub x y)
subtracted c x y ex ey = rw (used_int x ex, used_int y ey, both_ints x y ex ey) (ap Is (widened Sub x y ex ey))

operated : (c : Env) (o : BinaryOp) (p : TBinary) (x y : TExpr) → sum_of o ≡ Some p → type_of x ≡ num Int → type_of y ≡ num Int → r.binary c o x y ≡ Is (binary (num Int) p x y)
operated c op.Either p x y e ex ey = absurd (none_some p e)
operated c op.Both p x y e ex ey = absurd (none_some p e)
operated c op.Or p x y e ex ey = absurd (none_some p e)
operated c op.Xor p x y e ex ey = absurd (none_some p e)
operated c op.And p x y e ex ey = absurd (none_some p e)
operated c op.Eq p x y e ex ey = absurd (none_some p e)
operated c op.Ne p x y e ex ey = absurd (none_some p e)
operated c op.Lt p x y e ex ey = absurd (none_some p e)
operated c op.Gt p x y e ex ey = absurd (none_some p e)
operated c op.Le p x y e ex ey = absurd (none_some p e)
operated c op.Ge p x y e ex ey = absurd (none_some p e)
operated c op.Shl p x y e ex ey = absurd (none_some p e)
operated c op.Shr p x y e ex ey = absurd (none_some p e)
operated c op.Add p x y e ex ey = summed c x y ex ey ∙ ap (λ z. Is (binary (num Int) z x y)) (some_is Add p e)
operated c op.Sub p x y e ex ey = subtracted c x y ex ey ∙ ap (λ z. Is (binary (num Int) z x y)) (some_is Sub p e)
operated c op.Mul p x y e ex ey = absurd (none_some p e)
operated c op.Div p x y e ex ey = absurd (none_some p e)
operated c op.Rem p x y e ex ey = absurd (none_some p e)

scalar_int : (n : ℕ) (t : TExpr) → type_of t ≡ num Int → scalar n t ≡ Is t
scalar_int n t e = ap (λ j. onward j (λ v. provided n (is_scalar (type_of v)) (Is v))) (used_int t e) ∙ ap (λ y. provided n (is_scalar y) (Is t)) e

taken_int : (n : ℕ) (c : Env) (t : TExpr) → type_of t ≡ num Int → taken n c (num Int) t ≡ Is t
taken_int n c t e = rw e refl

value_int : (n : ℕ) (c : Env) (t : TExpr) → type_of t ≡ num Int → value_for n c (num Int) t ≡ Is t
value_int n c t e = ap (λ j. onward j (taken n c (num Int))) (used_int t e) ∙ taken_int n c t e

set_int : (c : Env) (i : ℕ) (t : TExpr) → type_of t ≡ num Int → r.assign c (name (num Int) (Local i)) t ≡ Is (assign (num Int) (name (num Int) (Local i)) t)
set_int c i t e =
    ap (λ j. onward j (λ w. onward (taken 21 c (num Int) w) (λ v. Is (assign (num Int) (name (num Int) (Local i)) v)))) (used_int t e)
    ∙ ap (λ j. onward j (λ v. Is (assign (num Int) (name (num Int) (Local i)) v))) (taken_int 21 c t e)

-- ---- expressions

-- the typed expression of an expression that holds no text
pub record IsInt (c : Env) (a : u.Expr) (t : TExpr) : Type 0 where
  pub is : IsExpr c a t
  pub int : type_of t ≡ num Int
  pub bare : texts_in a ≡ []

past_none : (a : u.Expr) (c : Env) → texts_in a ≡ [] → past a c ≡ c
past_none a c e = ap (λ bs. met bs c) e ∙ ap (λ ts. record c { texts = ts }) (append-nil c.texts)

behind : (a b : u.Expr) (c : Env) (t : TExpr) → texts_in a ≡ [] → IsExpr c b t → IsExpr (past a c) b t
behind a b c t e is = subst (λ d. IsExpr d b t) (sym (past_none a c e)) is

variable_typed : (ns : List Name) (c : Env) (l : ℕ) (x : Name) (t : TExpr) → Holds ns c → variable (place_in ns x) ≡ Some t → (i : ℕ) × (t ≡ name (num Int) (Local i)) × IsInt c (u.name l x) t
variable_typed ns c l x t h = by_place (place_in ns x) refl
  where
    by_place : (o : Option ℕ) → place_in ns x ≡ o → variable o ≡ Some t → (i : ℕ) × (t ≡ name (num Int) (Local i)) × IsInt c (u.name l x) t
    by_place None is e = absurd (none_some t e)
    by_place (Some i) is e =
        let same = some_is (name (num Int) (Local i)) t e in
        (i, sym same, rw (← same) (record { is = ap r.as_expr (h.finds x i is); int = refl; bare = refl }))

number_typed : (c : Env) (l n : ℕ) (long : Bool) (t : TExpr) → number n long ≡ Some t → IsInt c (u.int l n long) t
number_typed c l n true t e = absurd (none_some t e)
number_typed c l n false t e =
    let p = picked _ (Some (int (num Int) n)) t e in
    let same = some_is (int (num Int) n) t p.1 in
    rw (← same) (record { is = ap (λ b. int (num (pick b Int UInt)) n) (sym p.0); int = refl; bare = refl })

pub sum_typed : (ns : List Name) (c : Env) (a : u.Expr) (t : TExpr) → Holds ns c → sum_in ns a ≡ Some t → IsInt c a t
sum_typed ns c (u.comma l a b) t h e = absurd (none_some t e)
sum_typed ns c (u.assign l o a b) t h e = absurd (none_some t e)
sum_typed ns c (u.choice l a b d) t h e = absurd (none_some t e)
sum_typed ns c (u.binary l o a b) t h e =
    let p = sum_parts ns o a b t e in
    let x = sum_typed ns c a p.left h p.left_is in
    let y = sum_typed ns c b p.right h p.right_is in
    rw (← p.whole)
    (record {
      is = (p.left, p.right, x.is, behind a b c p.right x.bare y.is, operated c o p.operator p.left p.right p.operator_is x.int y.int);
      int = refl;
      bare = rw (x.bare, y.bare) refl;
    })
sum_typed ns c (u.unary l o a) t h e = absurd (none_some t e)
sum_typed ns c (u.size_of l a) t h e = absurd (none_some t e)
sum_typed ns c (u.size_of_type l y) t h e = absurd (none_some t e)
sum_typed ns c (u.cast l y a) t h e = absurd (none_some t e)
sum_typed ns c (u.index l a i) t h e = absurd (none_some t e)
sum_typed ns c (u.call l f es) t h e = absurd (none_some t e)
sum_typed ns c (u.member l a x) t h e = absurd (none_some t e)
sum_typed ns c (u.arrow l a x) t h e = absurd (none_some t e)
sum_typed ns c (u.post l o a) t h e = absurd (none_some t e)
sum_typed ns c (u.name l x) t h e = (variable_typed ns c l x t h e).2
sum_typed ns c (u.int l n long) t h e = number_typed c l n long t e
sum_typed ns c (u.chr l n) t h e = absurd (none_some t e)
sum_typed ns c (u.text l bs) t h e = absurd (none_some t e)

target_typed : (ns : List Name) (c : Env) (a : u.Expr) (t : TExpr) → Holds ns c → variable_in ns a ≡ Some t → (i : ℕ) × (t ≡ name (num Int) (Local i)) × IsInt c a t
target_typed ns c (u.comma l a b) t h e = absurd (none_some t e)
target_typed ns c (u.assign l o a b) t h e = absurd (none_some t e)
target_typed ns c (u.choice l a b d) t h e = absurd (none_some t e)
target_typed ns c (u.binary l o a b) t h e = absurd (none_some t e)
target_typed ns c (u.unary l o a) t h e = absurd (none_some t e)
target_typed ns c (u.size_of l a) t h e = absurd (none_some t e)
target_typed ns c (u.size_of_type l y) t h e = absurd (none_some t e)
target_typed ns c (u.cast l y a) t h e = absurd (none_some t e)
target_typed ns c (u.index l a i) t h e = absurd (none_some t e)
target_typed ns c (u.call l f es) t h e = absurd (none_some t e)
target_typed ns c (u.member l a x) t h e = absurd (none_some t e)
target_typed ns c (u.arrow l a x) t h e = absurd (none_some t e)
target_typed ns c (u.post l o a) t h e = absurd (none_some t e)
target_typed ns c (u.name l x) t h e = variable_typed ns c l x t h e
target_typed ns c (u.int l n long) t h e = absurd (none_some t e)
target_typed ns c (u.chr l n) t h e = absurd (none_some t e)
target_typed ns c (u.text l bs) t h e = absurd (none_some t e)

not_true : false ≡ true → ⊥
not_true e = cc

-- a call by the name putchar
record IsNamed (f : u.Expr) : Type 0 where
  line : ℕ
  is : f ≡ u.name line putchar_name

named_putchar : (f : u.Expr) → is_putchar f ≡ true → IsNamed f
named_putchar (u.comma l a b) e = absurd (not_true e)
named_putchar (u.assign l o a b) e = absurd (not_true e)
named_putchar (u.choice l a b d) e = absurd (not_true e)
named_putchar (u.binary l o a b) e = absurd (not_true e)
named_putchar (u.unary l o a) e = absurd (not_true e)
named_putchar (u.size_of l a) e = absurd (not_true e)
named_putchar (u.size_of_type l y) e = absurd (not_true e)
named_putchar (u.cast l y a) e = absurd (not_true e)
named_putchar (u.index l a i) e = absurd (not_true e)
named_putchar (u.call l f es) e = absurd (not_true e)
named_putchar (u.member l a x) e = absurd (not_true e)
named_putchar (u.arrow l a x) e = absurd (not_true e)
named_putchar (u.post l o a) e = absurd (not_true e)
named_putchar (u.name l x) e = record { line = l; is = ap (u.name l) ((bytes_eq-Decides x putchar_name).0 e) }
named_putchar (u.int l n long) e = absurd (not_true e)
named_putchar (u.chr l n) e = absurd (not_true e)
named_putchar (u.text l bs) e = absurd (not_true e)

called_typed : (ns : List Name) (c : Env) (m : ℕ) → Holds ns c → IsCalled c (u.name m putchar_name) (IsExpr c (u.name m putchar_name)) putchar
called_typed ns c m h =
    ap (λ z. onward (r.called_name c putchar_name z) r.called) h.no_putchar ∙ ap (λ z. r.called (name (fun (num Int)) z)) h.outer

args_typed : (ns : List Name) (c : Env) (f : u.Expr) (es : u.Exprs) (t : TExpr) → Holds ns c → texts_in f ≡ [] → argument_in ns es ≡ Some t → AreArgs (past f c) es (more_args t no_args) × (texts_in (u.call 0 f es) ≡ [])
args_typed ns c f u.no_exprs t h bare e = absurd (none_some t e)
args_typed ns c f (u.more_exprs a u.no_exprs) t h bare e =
    let x = sum_typed ns c a t h e in
    ((t, t, no_args, behind f a c t bare x.is, scalar_int 20 t x.int, refl, refl), rw (bare, x.bare) refl)
args_typed ns c f (u.more_exprs a (u.more_exprs b es)) t h bare e = absurd (none_some t e)

-- what a statement performs
pub action_typed : (ns : List Name) (c : Env) (a : u.Expr) (t : TExpr) → Holds ns c → action_in ns a ≡ Some t → IsInt c a t
action_typed ns c (u.comma l a b) t h e = absurd (none_some t e)
action_typed ns c (u.assign l ao.Set a b) t h e =
    let p = assignment_parts ns a b t e in
    let x = target_typed ns c a p.left h p.left_is in
    let y = sum_typed ns c b p.right h p.right_is in
    let set : r.assign c p.left p.right ≡ Is (assign (num Int) p.left p.right) = subst (λ z. r.assign c z p.right ≡ Is (assign (num Int) z p.right)) (sym x.1) (set_int c x.0 p.right y.int) in
    rw (← p.whole) (record { is = (p.left, p.right, x.2.is, behind a b c p.right x.2.bare y.is, set); int = refl; bare = rw (x.2.bare, y.bare) refl })
action_typed ns c (u.assign l ao.Add a b) t h e = absurd (none_some t e)
action_typed ns c (u.assign l ao.Sub a b) t h e = absurd (none_some t e)
action_typed ns c (u.assign l ao.Mul a b) t h e = absurd (none_some t e)
action_typed ns c (u.assign l ao.Div a b) t h e = absurd (none_some t e)
action_typed ns c (u.assign l ao.Rem a b) t h e = absurd (none_some t e)
action_typed ns c (u.assign l ao.And a b) t h e = absurd (none_some t e)
action_typed ns c (u.assign l ao.Or a b) t h e = absurd (none_some t e)
action_typed ns c (u.assign l ao.Xor a b) t h e = absurd (none_some t e)
action_typed ns c (u.assign l ao.Shl a b) t h e = absurd (none_some t e)
action_typed ns c (u.assign l ao.Shr a b) t h e = absurd (none_some t e)
action_typed ns c (u.choice l a b d) t h e = absurd (none_some t e)
action_typed ns c (u.binary l o a b) t h e = absurd (none_some t e)
action_typed ns c (u.unary l o a) t h e = absurd (none_some t e)
action_typed ns c (u.size_of l a) t h e = absurd (none_some t e)
action_typed ns c (u.size_of_type l y) t h e = absurd (none_some t e)
action_typed ns c (u.cast l y a) t h e = absurd (none_some t e)
action_typed ns c (u.index l a i) t h e = absurd (none_some t e)
action_typed ns c (u.call l f es) t h e =
    let p = call_parts ns f es t e in
    let n = named_putchar f p.named in
    let bare : texts_in f ≡ [] = ap texts_in n.is in
    let args = args_typed ns c f es p.argument h bare p.argument_is in
    let made : IsCalled c f (IsExpr c f) putchar = subst (λ z. IsCalled c z (IsExpr c z) putchar) (sym n.is) (called_typed ns c n.line h) in
    rw (← p.whole) (record { is = (putchar, more_args p.argument no_args, made, args.0, refl); int = refl; bare = args.1 })
action_typed ns c (u.member l a x) t h e = absurd (none_some t e)
action_typed ns c (u.arrow l a x) t h e = absurd (none_some t e)
action_typed ns c (u.post l o a) t h e = absurd (none_some t e)
action_typed ns c (u.name l x) t h e = absurd (none_some t e)
action_typed ns c (u.int l n long) t h e = absurd (none_some t e)
action_typed ns c (u.chr l n) t h e = absurd (none_some t e)
action_typed ns c (u.text l bs) t h e = absurd (none_some t e)

-- ---- statements

started_twice : (c : Env) (m n : ℕ) → started n (started m c) ≡ started (m + n) c
started_twice c m n = ap (λ k. record c { starts = k }) (omega arith)

mutual
  pub stmt_typed : (ns : List Name) (c : Env) (p : Place) (s : us.Stmt) (t : TStmt) → Holds ns c → p.result ≡ num Int → stmt_in ns c.starts s ≡ Some t → IsStmt c p s t (started (stmt_starts s) c)
  stmt_typed ns c p (us.expr l a) t h i q =
      let d = done_parts ns c.starts l a t q in
      let x = action_typed ns c a d.action h d.action_is in
      (d.action, (d.action, x.is, used_int d.action x.int), sym d.whole, sym (past_none a (started 1 c) x.bare))
  stmt_typed ns c p (us.empty l) t h i q = absurd (none_some t q)
  stmt_typed ns c p (us.if_only l a s) t h i q = absurd (none_some t q)
  stmt_typed ns c p (us.if_else l a s z) t h i q = absurd (none_some t q)
  stmt_typed ns c p (us.while l a s) t h i q =
      let d = loop_parts ns c.starts l a s t q in
      let x = sum_typed ns c a d.test h d.test_is in
      let body = stmt_typed ns (started 1 c) (in_loop p) s d.body (holds_started ns c 1 h) i d.body_is in
      let there = subst (λ e. IsStmt e (in_loop p) s d.body (started (stmt_starts s) (started 1 c))) (sym (past_none a (started 1 c) x.bare)) body in
      (d.test, d.body, (d.test, x.is, scalar_int 15 d.test x.int), subst (λ e. IsStmt (past a (started 1 c)) (in_loop p) s d.body e) (started_twice c 1 (stmt_starts s)) there, sym d.whole)
  stmt_typed ns c p (us.do_while l s m a) t h i q = absurd (none_some t q)
  stmt_typed ns c p (us.for l a b d s) t h i q = absurd (none_some t q)
  stmt_typed ns c p (us.switch l a is) t h i q = absurd (none_some t q)
  stmt_typed ns c p (us.break l) t h i q = absurd (none_some t q)
  stmt_typed ns c p (us.continue l) t h i q = absurd (none_some t q)
  stmt_typed ns c p (us.return l None) t h i q = absurd (none_some t q)
  stmt_typed ns c p (us.return l (Some a)) t h i q =
      let d = return_parts ns c.starts l a t q in
      let x = sum_typed ns c a d.value h d.value_is in
      let value : value_for 23 c p.result d.value ≡ Is d.value = ap (λ y. value_for 23 c y d.value) i ∙ value_int 23 c d.value x.int in
      (Some d.value, (d.value, (d.value, x.is, value), refl), sym d.whole, sym (past_none a (started 1 c) x.bare))
  stmt_typed ns c p (us.block l [] ss m) t h i q =
      let d = mapped (λ ts. st.block l [] ts m) (stmts_in ns c.starts ss) t q in
      let all = stmts_typed ns (enter c) p ss d.0 (holds_enter ns c h) i d.1 in
      ([], d.0, enter c, started (stmts_starts ss) (enter c), (refl, refl), all, sym d.2, refl)
  stmt_typed ns c p (us.block l (d ∷ ds) ss m) t h i q = absurd (none_some t q)

  pub stmts_typed : (ns : List Name) (c : Env) (p : Place) (ss : us.Stmts) (ts : TStmts) → Holds ns c → p.result ≡ num Int → stmts_in ns c.starts ss ≡ Some ts → AreStmts c p ss ts (started (stmts_starts ss) c)
  stmts_typed ns c p us.no_stmts ts h i q = (sym (some_is st.no_stmts ts q), ap (λ k. record c { starts = k }) (omega arith))
  stmts_typed ns c p (us.more_stmts s ss) ts h i q =
      let d = more_parts ns c.starts s ss ts q in
      let one = stmt_typed ns c p s d.first h i d.first_is in
      let rest = stmts_typed ns (started (stmt_starts s) c) p ss d.rest (holds_started ns c (stmt_starts s) h) i d.rest_is in
      (d.first, d.rest, started (stmt_starts s) c, one, subst (λ e. AreStmts (started (stmt_starts s) c) p ss d.rest e) (started_twice c (stmt_starts s) (stmts_starts ss)) rest, sym d.whole)
