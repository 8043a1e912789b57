-- The outcome of an expression from those of its parts, and the environment behind it.
use Rattle.std.proofs.Common.{◌≡◌, ℕ, ◌+◌, ◌<◌, ◌≤◌, List, [], ◌∷◌, ◌++◌, length, drop, slice_index_or, Result, Ok, Err, OnOk, IsErrAnd, None, append_assoc, append-nil, refl, sym, ap, ◌∙◌, subst, Vec, Box, Global}
use mathlib.Core.Former.{Count}
use Rattle.std.proofs.lemmas.List.{drop_more, drop_all}
use Rattle.std.proofs.lemmas.Result.{err_from_is_err_and}
use Rattle.c_type.specs.declared.CType.{CType}
use Rattle.c_type.specs.Of.{type_of}
use Rattle.c_tree.specs.declared.expr.Expr as source
use Rattle.c_tree.specs.declared.typed_expr.TExpr as node
use Rattle.c_tree.specs.declared.typed_expr.TExpr.{Call}
use Rattle.c_tree.specs.TExpr as e
use Rattle.c_tree.specs.TExpr.{TExpr, TArgs, no_args, more_args}
use Rattle.c_tree.specs.TreeExpr as t
use Rattle.c_tree.specs.TreeExpr.{Expr, Exprs, more_exprs}
use Rattle.c_tree.specs.TreeOf as u
use Rattle.c_tree.specs.TypedOf.{expr_of, args_of}
use Rattle.c_rule.specs.RuleExprs as r
use Rattle.c_rule.specs.RuleScope.{Judged, Is, Fails, onward, Env, met, past}
use Rattle.c_rule.specs.RuleTexts.{texts_in, texts_in_all}
use Rattle.c_rule.specs.RuleValues.{scalar}
use Rattle.c_scope.specs.declared.error.TypeErr.{TypeErr}
use Rattle.c_scope.specs.declared.error.TypeErr.TheVariants.{Rule, Memory}
use Rattle.c_rule.specs.Judging.{judged_expr, judged_args, judged_called}
use Rattle.c_value.specs.Arguments.{name_in, before, args_from, judged_call}
use Rattle.c_scope.specs.Says.{Refused, Says}
use Rattle.c_operator.specs.Boxed.{boxed}

-- what a rule says of a part that was judged
pub onward_says : {T A B : Type 0} (view : T → A) (j : Judged B) (f : B → Judged A) (r : Result T TypeErr) (x : B) → j ≡ Is x → Says view (f x) r → Says view (onward j f) r
onward_says view j f r x e h = subst (λ k. Says view (onward k f) r) (sym e) h

-- a part that fails
pub onward_refused : {A B : Type 0} (j : Judged B) (f : B → Judged A) (e : TypeErr) → Refused j e → Refused (onward j f) e
onward_refused j f (Rule n l) h = ap (λ k. onward k f) h
onward_refused j f Memory h = tt

-- a rule on one part, in the environment behind it
pub one_says : (c d : Env) (a : Expr) (f : Env → TExpr → Judged TExpr) (r : Result (Box node.TExpr Global) TypeErr) (x : TExpr) →
    judged_expr c a ≡ Is x → d ≡ past a c → Says boxed (f d x) r → Says boxed (onward (judged_expr c a) (f (past a c))) r
one_says c d a f r x j ed h = onward_says boxed (judged_expr c a) (f (past a c)) r x j (subst (λ k. Says boxed (f k x) r) ed h)

-- the second of two parts, behind the first
second : (c d : Env) (b : Expr) (j : Judged TExpr) → d ≡ c → judged_expr d b ≡ j → judged_expr c b ≡ j
second c d b j ed h = ap (λ k. judged_expr k b) (sym ed) ∙ h

-- a rule on two parts
pub two_says : (c d g : Env) (a b : Expr) (f : Env → TExpr → TExpr → Judged TExpr) (r : Result (Box node.TExpr Global) TypeErr) (x y : TExpr) →
    judged_expr c a ≡ Is x → d ≡ past a c → judged_expr d b ≡ Is y → g ≡ past b d → Says boxed (f g x y) r →
    Says boxed (onward (judged_expr c a) (λ x. onward (judged_expr (past a c) b) (f (past b (past a c)) x))) r
two_says c d g a b f r x y j ed k eg h =
    onward_says boxed (judged_expr c a) (λ x. onward (judged_expr (past a c) b) (f (past b (past a c)) x)) r x j
    (one_says (past a c) g b (λ q. f q x) r y (second (past a c) d b (Is y) ed k) (eg ∙ ap (past b) ed) h)

-- the second of two parts fails
pub second_refused : (c d : Env) (a b : Expr) (f : TExpr → TExpr → Judged TExpr) (x : TExpr) (e : TypeErr) →
    judged_expr c a ≡ Is x → d ≡ past a c → Refused (judged_expr d b) e → Refused (onward (judged_expr c a) (λ x. onward (judged_expr (past a c) b) (f x))) e
second_refused c d a b f x (Rule n l) j ed h = ap (λ k. onward k (λ x. onward (judged_expr (past a c) b) (f x))) j ∙ ap (λ k. onward k (f x)) (second (past a c) d b (Fails n) ed h)
second_refused c d a b f x Memory j ed h = tt

-- a rule on three parts
pub three_says : (c d g q : Env) (a b s : Expr) (f : Env → TExpr → TExpr → TExpr → Judged TExpr) (r : Result (Box node.TExpr Global) TypeErr) (x y z : TExpr) →
    judged_expr c a ≡ Is x → d ≡ past a c → judged_expr d b ≡ Is y → g ≡ past b d → judged_expr g s ≡ Is z → q ≡ past s g → Says boxed (f q x y z) r →
    Says boxed (onward (judged_expr c a) (λ x. onward (judged_expr (past a c) b) (λ y. onward (judged_expr (past b (past a c)) s) (f (past s (past b (past a c))) x y)))) r
three_says c d g q a b s f r x y z j ed k eg l eq h =
    onward_says boxed (judged_expr c a) (λ x. onward (judged_expr (past a c) b) (λ y. onward (judged_expr (past b (past a c)) s) (f (past s (past b (past a c))) x y))) r x j
    (let eg1 : g ≡ past b (past a c) = eg ∙ ap (past b) ed in
    two_says (past a c) g q b s (λ o. f o x) r y z (second (past a c) d b (Is y) ed k) eg1 l eq h)

-- the third of three parts fails
pub third_refused : (c d g : Env) (a b s : Expr) (f : TExpr → TExpr → TExpr → Judged TExpr) (x y : TExpr) (e : TypeErr) →
    judged_expr c a ≡ Is x → d ≡ past a c → judged_expr d b ≡ Is y → g ≡ past b d → Refused (judged_expr g s) e →
    Refused (onward (judged_expr c a) (λ x. onward (judged_expr (past a c) b) (λ y. onward (judged_expr (past b (past a c)) s) (f x y)))) e
third_refused c d g a b s f x y e j ed k eg h =
    subst (λ o. Refused (onward o (λ x. onward (judged_expr (past a c) b) (λ y. onward (judged_expr (past b (past a c)) s) (f x y)))) e) (sym j)
    (second_refused (past a c) g b s (f x) y e (second (past a c) d b (Is y) ed k) (eg ∙ ap (past b) ed) h)

-- texts that were met one behind the other
pub met_on : (c : Env) (xs ys : List (List ℕ)) → met ys (met xs c) ≡ met (xs ++ ys) c
met_on c xs ys = ap (λ ts. record c { texts = ts }) (append_assoc c.texts xs ys)

pub met_none : (c : Env) → met [] c ≡ c
met_none c = ap (λ ts. record c { texts = ts }) (append-nil c.texts)

pub on_ok : {T E : Type 0} (r : Result T E) (P : Type 0) → P → OnOk r P
on_ok (Ok x) P h = h
on_ok (Err e) P h = tt

-- what is answered where a part fails with an error
pub err_judged : {T A : Type 0} (view : T → A) (j : Judged A) (r : Result T TypeErr) (w : TypeErr) → IsErrAnd r (λ y. y ≡ w) → Refused j w → Says view j r
err_judged view j r w h k = let p = err_from_is_err_and r h in subst (λ o. Says view j o) (sym (p.1 ∙ ap Err p.2)) k

pub err_past : {T : Type 0} (r : Result T TypeErr) (w : TypeErr) (P : Type 0) → IsErrAnd r (λ y. y ≡ w) → OnOk r P
err_past r w P h = let p = err_from_is_err_and r h in subst (λ o. OnOk o P) (sym p.1) tt

-- calls

-- what is no name is no called name
pub called_other : (c : Env) (f : Expr) (j : Judged TExpr) → name_in f ≡ None → judged_called c f j ≡ onward j r.called
called_other c (t.name l x) j h = absurd (cc)
called_other c _ j h = refl

before_push : (xs : List node.TExpr) (v : node.TExpr) (vs : TArgs) → before (xs ++ v ∷ []) vs ≡ before xs (more_args (expr_of v) vs)
before_push [] v vs = refl
before_push (x ∷ xs) v vs = ap (more_args (expr_of x)) (before_push xs v vs)

pub before_none : (xs : List node.TExpr) → before xs no_args ≡ args_from xs
before_none [] = refl
before_none (x ∷ xs) = ap (more_args (expr_of x)) (before_none xs)

-- the arguments behind those that were judged
abbrev pub rest_of : List node.TExpr → Judged TArgs → Judged TArgs
rest_of xs j = onward j (λ vs. Is (before xs vs))

pushed : (xs : List node.TExpr) (v : node.TExpr) (j : Judged TArgs) → rest_of xs (onward j (λ vs. Is (more_args (expr_of v) vs))) ≡ rest_of (xs ++ v ∷ []) j
pushed xs v (Is vs) = ap Is (sym (before_push xs v vs))
pushed xs v (Fails n) = refl

-- the arguments from one on
pub exprs_at : (args : List source.Expr) (i : ℕ) (a : source.Expr) → i < length args → a ≡ slice_index_or args i a → u.exprs_from (drop i args) ≡ more_exprs (u.expr_of a) (u.exprs_from (drop (i + 1) args))
exprs_at args i a lt e = ap u.exprs_from (drop_more args i a lt) ∙ ap (λ x. more_exprs (u.expr_of x) (u.exprs_from (drop (i + 1) args))) (sym e)

-- before any argument
pub rest_none : (j : Judged TArgs) → j ≡ rest_of [] j
rest_none (Is vs) = refl
rest_none (Fails n) = refl

passed : (whole : Judged TArgs) (c d : Env) (a : Expr) (es : Exprs) (xs : List node.TExpr) (x : TExpr) (v : node.TExpr) →
    whole ≡ rest_of xs (judged_args c (more_exprs a es)) → judged_expr c a ≡ Is x → scalar 20 x ≡ Is (expr_of v) → d ≡ past a c → whole ≡ rest_of (xs ++ v ∷ []) (judged_args d es)
passed whole c d a es xs x v h ea es' ed =
    h ∙ ap (λ j. rest_of xs (onward j (λ x. onward (scalar 20 x) (λ v. onward (judged_args (past a c) es) (λ vs. Is (more_args v vs)))))) ea
    ∙ ap (λ j. rest_of xs (onward j (λ v. onward (judged_args (past a c) es) (λ vs. Is (more_args v vs))))) es'
    ∙ pushed xs v (judged_args (past a c) es) ∙ ap (λ k. rest_of (xs ++ v ∷ []) (judged_args k es)) (sym ed)

module _ (args : List source.Expr) (i : ℕ) (a : source.Expr) (lt : i < length args) (is : a ≡ slice_index_or args i a) where
  -- one argument more
  pub args_passed : (whole : Judged TArgs) (c d : Env) (xs ys : List node.TExpr) (x : TExpr) (v : node.TExpr) →
      whole ≡ rest_of xs (judged_args c (u.exprs_from (drop i args))) → judged_expr c (u.expr_of a) ≡ Is x → scalar 20 x ≡ Is (expr_of v) → d ≡ past (u.expr_of a) c →
      ys ≡ xs ++ v ∷ [] → whole ≡ rest_of ys (judged_args d (u.exprs_from (drop (i + 1) args)))
  args_passed whole c d xs ys x v h ea ev ed ey =
      passed whole c d (u.expr_of a) (u.exprs_from (drop (i + 1) args)) xs x v (h ∙ ap (λ es. rest_of xs (judged_args c es)) (exprs_at args i a lt is)) ea ev ed
      ∙ ap (λ zs. rest_of zs (judged_args d (u.exprs_from (drop (i + 1) args)))) (sym ey)

  pub texts_passed : (c d k : Env) → met (texts_in_all (u.exprs_from (drop i args))) c ≡ k → d ≡ past (u.expr_of a) c → met (texts_in_all (u.exprs_from (drop (i + 1) args))) d ≡ k
  texts_passed c d k h ed =
      ap (met (texts_in_all (u.exprs_from (drop (i + 1) args)))) ed ∙ met_on c (texts_in (u.expr_of a)) (texts_in_all (u.exprs_from (drop (i + 1) args)))
      ∙ ap (λ es. met (texts_in_all es) c) (sym (exprs_at args i a lt is)) ∙ h

  -- an argument that fails
  pub arg_refused : (whole : Judged TArgs) (c : Env) (xs : List node.TExpr) (e : TypeErr) →
      whole ≡ rest_of xs (judged_args c (u.exprs_from (drop i args))) → Refused (judged_expr c (u.expr_of a)) e → Refused whole e
  arg_refused whole c xs (Rule n l) h ea =
      h ∙ ap (λ es. rest_of xs (judged_args c es)) (exprs_at args i a lt is)
      ∙ ap (λ j. rest_of xs (onward j (λ x. onward (scalar 20 x) (λ v. onward (judged_args (past (u.expr_of a) c) (u.exprs_from (drop (i + 1) args))) (λ vs. Is (more_args v vs)))))) ea
  arg_refused whole c xs Memory h ea = tt

  -- an argument that is no scalar
  pub scalar_refused : (whole : Judged TArgs) (c : Env) (xs : List node.TExpr) (x : TExpr) (e : TypeErr) →
      whole ≡ rest_of xs (judged_args c (u.exprs_from (drop i args))) → judged_expr c (u.expr_of a) ≡ Is x → Refused (scalar 20 x) e → Refused whole e
  scalar_refused whole c xs x (Rule n l) h ea ev =
      h ∙ ap (λ es. rest_of xs (judged_args c es)) (exprs_at args i a lt is)
      ∙ ap (λ j. rest_of xs (onward j (λ x. onward (scalar 20 x) (λ v. onward (judged_args (past (u.expr_of a) c) (u.exprs_from (drop (i + 1) args))) (λ vs. Is (more_args v vs)))))) ea
      ∙ ap (λ j. rest_of xs (onward j (λ v. onward (judged_args (past (u.expr_of a) c) (u.exprs_from (drop (i + 1) args))) (λ vs. Is (more_args v vs))))) ev
  scalar_refused whole c xs x Memory h ea ev = tt

-- behind the last argument
pub args_end : (whole : Judged TArgs) (c : Env) (args : List source.Expr) (i : ℕ) (xs : List node.TExpr) → length args ≤ i →
    whole ≡ rest_of xs (judged_args c (u.exprs_from (drop i args))) → whole ≡ Is (args_from xs)
args_end whole c args i xs le h = h ∙ ap (λ as_. rest_of xs (judged_args c (u.exprs_from as_))) (drop_all i args le) ∙ ap Is (before_none xs)

pub texts_end : (c k : Env) (args : List source.Expr) (i : ℕ) → length args ≤ i → met (texts_in_all (u.exprs_from (drop i args))) c ≡ k → c ≡ k
texts_end c k args i le h = sym (met_none c) ∙ ap (λ as_. met (texts_in_all (u.exprs_from as_)) c) (sym (drop_all i args le)) ∙ h

-- a call, by what is called and its arguments
pub call_says : (c : Env) (f x : TExpr) (es : Exprs) (ys : TArgs) → r.called f ≡ Is x → judged_args c es ≡ Is ys → judged_call c f es ≡ Is (e.call (r.result_of (e.type_of x)) x ys)
call_says c f x es ys ef ea = ap (λ j. onward j (λ x. onward (judged_args c es) (λ ys. Is (e.call (r.result_of (e.type_of x)) x ys)))) ef ∙ ap (λ j. onward j (λ ys. Is (e.call (r.result_of (e.type_of x)) x ys))) ea

pub call_refused : (c : Env) (f x : TExpr) (es : Exprs) (w : TypeErr) → r.called f ≡ Is x → Refused (judged_args c es) w → Refused (judged_call c f es) w
call_refused c f x es (Rule n l) ef ea = ap (λ j. onward j (λ x. onward (judged_args c es) (λ ys. Is (e.call (r.result_of (e.type_of x)) x ys)))) ef ∙ ap (λ j. onward j (λ ys. Is (e.call (r.result_of (e.type_of x)) x ys))) ea
call_refused c f x es Memory ef ea = tt

args_are : (n : _) (row : node.TheBlock.Row_of-TExpr n) → args_of row ≡ args_from (node.TheBlock.items-the_row-TExpr n row)
args_are n node.TheBlock.end_of-TExpr = refl
args_are n (node.TheBlock.more_of-TExpr a es) = ap (more_args (expr_of a)) (args_are _ es)

abbrev args_in : node.TExpr → (n : Count) × node.TheBlock.Row_of-TExpr n
args_in (node.TheBlock.Call' _ _ _ _ row) = (_, row)
args_in _ = (_, node.TheBlock.end_of-TExpr)

pub expr_of-Call : (y : CType) (f : Box node.TExpr Global) (es : Vec node.TExpr Global) → expr_of (Call y f es) ≡ e.call (type_of y) (expr_of f.value) (args_from es.items)
expr_of-Call y f es =
    let row = args_in (Call y f es) in
    ap (e.call (type_of y) (expr_of f.value)) (args_are row.0 row.1 ∙ ap args_from (node.TheBlock.items_hidden-the_row-TExpr-0 es))
