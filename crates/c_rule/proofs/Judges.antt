-- What the typing function says of expressions, declarators, initialisers and statements.
use Rattle.std.proofs.Common.{◌≡◌, ℕ, List, [], ◌∷◌, Option, Some, None, Bool, true, false, not, ◌&&◌, ◌⊎◌, refl, sym, ap, ◌∙◌, inl, inr}
use Rattle.c_type.specs.Names.{Name}
use Rattle.c_type.specs.Types.{CType, ptr, arr, fun}
use Rattle.c_tree.specs.declared.decl.Storage.{Storage}
use Rattle.c_tree.specs.declared.decl.Storage.TheVariants as sg
use Rattle.c_tree.specs.TreeDecl as ud
use Rattle.c_tree.specs.TreeStmt as us
use Rattle.c_tree.specs.TreeExpr.{Expr, Exprs, comma, assign, choice, binary, unary, size_of, size_of_type, cast, index, call, member, arrow, post, name, int, chr, text, no_exprs, more_exprs}
use Rattle.c_tree.specs.TExpr as e
use Rattle.c_tree.specs.TExpr.{TExpr, type_of}
use Rattle.c_tree.specs.TStmt.{Declr}
use Rattle.c_rule.specs.RuleScope.{Judged, Is, Fails, onward, Env, Meaning, Thing, Function, in_scope, function_ref, known, is_sized, past, past_option, started}
use Rattle.c_rule.specs.RuleTypes.{is_function, cast_type, sized_type, void_is_a_result, elements_are_objects, functions_return, elements_are_sized, declared_type, spec_or_int}
use Rattle.c_rule.specs.RuleValues.{used, scalar, integer, value_for}
use Rattle.c_rule.specs.RuleExprs as r
use Rattle.c_rule.specs.RuleTree.{IsExpr, IsCalled, AreArgs, Gives}
use Rattle.c_rule.specs.RuleDecls.{dimension_of, constant_of, is_name, is_some, past_declr, IsDerived, IsDeclr, fills_chars, first_value, is_aggregate, part_types, IsSingle, IsInit, AreInits, Begins, IsAutoInit}
use Rattle.c_rule.specs.RuleStmts.{is_free, innermost, Declares, enter, missing, declr_line, is_static, with_earlier, IsLocalBy, AreLocals, AreDecls, Place, in_loop, in_switch, Maybe, returned, labels_differ, IsStmt, AreStmts, AreItems}
use Rattle.c_rule.specs.RuleFails.{OneFails, TwoFail, CalledFails, ExprFails, ArgsFail, Refuses, MaybeFails, DerivedFails, DeclrFails, InitFails, InitsFail, AutoInitFails, HasInit, IsTaken, LocalFails, LocalsFail, DeclsFail, StmtFails, StmtsFail, ItemsFail}
use Rattle.c_rule.specs.Judging.{judged_called, judged_expr, judged_args, judged_by, judged_option, missing_dimension, judged_derived, judged_declr, judged_single, judged_init, judged_inits, judged_begin, judged_auto_init, declared_here, judged_auto, judged_static, judged_local, judged_locals, judged_decls, judged_stmt, judged_stmts, judged_items}
use Rattle.c_rule.proofs.Answers.{Answer, is_a, fails_a, rule_a, onward_a, provided_a, under_a, provided_is}

-- expressions

one_a : {B : Type 0} (F : TExpr → Judged B) (c : Env) (a : Expr) → Answer (IsExpr c a) (ExprFails c a) (judged_expr c a) →
    Answer (λ b. (x : TExpr) × IsExpr c a x × (F x ≡ Is b)) (λ n. ExprFails c a n ⊎ OneFails F c a n) (onward (judged_expr c a) F)
one_a F c a h = onward_a (judged_expr c a) F h (λ n k. inl k) (λ x hx. rule_a (F x) (λ b q. (x, hx, q)) (λ n q. inr (x, hx, q)))

two_a : (F : TExpr → TExpr → Judged TExpr) (c : Env) (a b : Expr) → Answer (IsExpr c a) (ExprFails c a) (judged_expr c a) → Answer (IsExpr (past a c) b) (ExprFails (past a c) b) (judged_expr (past a c) b) →
    Answer (λ t. (x : TExpr) × (y : TExpr) × IsExpr c a x × IsExpr (past a c) b y × (F x y ≡ Is t)) (λ n. ExprFails c a n ⊎ (ExprFails (past a c) b n ⊎ TwoFail F c a b n))
    (onward (judged_expr c a) (λ x. onward (judged_expr (past a c) b) (F x)))
two_a F c a b h k =
    onward_a (judged_expr c a) _ h (λ n g. inl g) (λ x hx. onward_a (judged_expr (past a c) b) (F x) k (λ n g. inr (inl g)) (λ y hy.
    rule_a (F x y) (λ t q. (x, y, hx, hy, q)) (λ n q. inr (inr (x, y, hx, hy, q)))))

called_a : (c : Env) (f : Expr) → Answer (IsExpr c f) (ExprFails c f) (judged_expr c f) → Answer (IsCalled c f (IsExpr c f)) (CalledFails c f (ExprFails c f)) (judged_called c f (judged_expr c f))
called_a c (name l y) h = rule_a _ (λ t q. q) (λ n q. q)
called_a c f h = one_a r.called c f h

mutual
  pub expr_a : (c : Env) (a : Expr) → Answer (IsExpr c a) (ExprFails c a) (judged_expr c a)
  expr_a c (comma l a b) = two_a r.comma c a b (expr_a c a) (expr_a (past a c) b)
  expr_a c (assign l op a b) = two_a (r.assignment c op) c a b (expr_a c a) (expr_a (past a c) b)
  expr_a c (choice l a b d) =
      onward_a (judged_expr c a) _ (expr_a c a) (λ n g. inl g) (λ x hx. onward_a (judged_expr (past a c) b) _ (expr_a (past a c) b) (λ n g. inr (inl g)) (λ y hy.
      onward_a (judged_expr (past b (past a c)) d) _ (expr_a (past b (past a c)) d) (λ n g. inr (inr (inl g))) (λ z hz.
      rule_a (r.choice c x y z) (λ t q. (x, y, z, hx, hy, hz, q)) (λ n q. inr (inr (inr (x, y, z, hx, hy, hz, q)))))))
  expr_a c (binary l op a b) = two_a (r.binary c op) c a b (expr_a c a) (expr_a (past a c) b)
  expr_a c (unary l op a) = one_a (r.unary c op) c a (expr_a c a)
  expr_a c (size_of l a) = one_a (r.size_of c) c a (expr_a c a)
  expr_a c (size_of_type l y) = onward_a {P = λ s. sized_type c y ≡ Is s} {F = λ n. sized_type c y ≡ Fails n} (sized_type c y) _ (rule_a _ (λ s q. q) (λ n q. q)) (λ n q. q) (λ s q. is_a _ (s, q, refl))
  expr_a c (cast l y a) =
      onward_a {P = λ s. cast_type c y ≡ Is s} {F = λ n. cast_type c y ≡ Fails n} (cast_type c y) _ (rule_a _ (λ s q. q) (λ n q. q)) (λ n q. inl q) (λ s hs.
      onward_a (judged_expr c a) _ (expr_a c a) (λ n g. inr (inl g)) (λ x hx. rule_a (r.cast c s x) (λ t q. (s, x, hs, hx, q)) (λ n q. inr (inr (s, hs, (x, hx, q))))))
  expr_a c (index l a i) = two_a (r.subscript c) c a i (expr_a c a) (expr_a (past a c) i)
  expr_a c (call l f es) =
      onward_a (judged_called c f (judged_expr c f)) _ (called_a c f (expr_a c f)) (λ n g. inl g) (λ x hx.
      onward_a (judged_args (past f c) es) _ (args_a (past f c) es) (λ n g. inr g) (λ ys hys. is_a _ (x, ys, hx, hys, refl)))
  expr_a c (member l a y) = one_a (λ x. r.dot c x y) c a (expr_a c a)
  expr_a c (arrow l a y) = one_a (λ x. r.arrow c x y) c a (expr_a c a)
  expr_a c (post l op a) = one_a (r.step c (r.post_op op)) c a (expr_a c a)
  expr_a c (name l y) = rule_a _ (λ t q. q) (λ n q. q)
  expr_a c (int l n long) = is_a _ refl
  expr_a c (chr l n) = is_a _ refl
  expr_a c (text l bs) = is_a _ refl

  args_a : (c : Env) (es : Exprs) → Answer (AreArgs c es) (ArgsFail c es) (judged_args c es)
  args_a c no_exprs = is_a _ refl
  args_a c (more_exprs a es) =
      onward_a (judged_expr c a) _ (expr_a c a) (λ n g. inl g) (λ x hx.
      onward_a {P = λ v. scalar 20 x ≡ Is v} {F = λ n. scalar 20 x ≡ Fails n} (scalar 20 x) _ (rule_a _ (λ v q. q) (λ n q. q)) (λ n q. inr (inl (x, hx, q))) (λ v hv.
      onward_a (judged_args (past a c) es) _ (args_a (past a c) es) (λ n g. inr (inr g)) (λ vs hvs. is_a _ (x, v, vs, hx, hv, hvs, refl))))

pub by_a : {B : Type 0} (F : TExpr → Judged B) (c : Env) (a : Expr) → Answer (Gives F c a) (Refuses F c a) (judged_by F c a)
by_a F c a = one_a F c a (expr_a c a)

option_a : (F : TExpr → Judged TExpr) (c : Env) (a : Option Expr) → Answer (Maybe (Gives F c) a) (MaybeFails (Refuses F c) a) (judged_option F c a)
option_a F c None = is_a _ refl
option_a F c (Some a) = onward_a (judged_by F c a) _ (by_a F c a) (λ n g. g) (λ v h. is_a _ (v, h, refl))

-- declarators and initialisers

and_none : {A : Type 0} (b : Bool) (o : Option A) → o ≡ None → b && is_some o ≡ false
and_none true o q = ap is_some q
and_none false o q = refl

not_and : (b d : Bool) → b ≡ false → b && d ≡ false
not_and b d q = ap (λ z. z && d) q

missing_a : (c : Env) (m o : Option ℕ) (base : CType) (l : ℕ) (d : ud.Declr) → m ≡ o → is_name d ≡ true →
    ((i : ℕ) → Answer (λ z. IsDerived c m (arr i base) d z.name z.ty z.dims) (DerivedFails c m d) (judged_derived c m (arr i base) d)) →
    Answer (λ z. IsDerived c m base (ud.array l d None) z.name z.ty z.dims) (DerivedFails c m (ud.array l d None)) (missing_dimension o (λ i. judged_derived c m (arr i base) d))
missing_a c m None base l d q b h = fails_a 5 (inl (refl, and_none (is_name d) m q))
missing_a c m (Some i) base l d q b h = under_a (judged_derived c m (arr i base) d) (h i) (λ z k. (i, b, q, k)) (λ n k. inr k)

derived_a : (c : Env) (m : Option ℕ) (base : CType) (d : ud.Declr) → Answer (λ z. IsDerived c m base d z.name z.ty z.dims) (DerivedFails c m d) (judged_derived c m base d)
derived_a c m base (ud.pointer l d) = derived_a c m (ptr base) d
derived_a c m base (ud.name l y) = is_a _ (refl, refl, refl)
derived_a c m base (ud.array l d None) = provided_a 5 (is_name d) _ (λ q. inl (refl, not_and (is_name d) (is_some m) q)) (λ q. missing_a c m m base l d refl q (λ i. derived_a c m (arr i base) d))
derived_a c m base (ud.array l d (Some a)) =
    onward_a (judged_by (dimension_of (past_declr d c)) (past_declr d c) a) _ (by_a (dimension_of (past_declr d c)) (past_declr d c) a) (λ n g. inr g) (λ k hk.
    onward_a (judged_derived c m (arr k.bits base) d) _ (derived_a c m (arr k.bits base) d) (λ n g. inl g) (λ z hz. is_a _ (k, z.dims, hz, hk, refl)))
derived_a c m base (ud.function l d xs) = derived_a c m (fun base) d

-- the rules on types give the type itself
declared_same : (c : Env) (t s : CType) → declared_type c t ≡ Is s → declared_type c t ≡ Is t
declared_same c t s q =
    let p4 = provided_is 4 (void_is_a_result t) _ s q in
    let p5 = provided_is 5 (elements_are_objects t) _ s p4 in
    let p6 = provided_is 6 (functions_return t) _ s p5 in
    let p3 : Is t ≡ Is s = provided_is 3 (elements_are_sized (known c) t) (Is t) s p6 in
    q ∙ sym p3

pub declr_a : (c : Env) (m : Option ℕ) (base : CType) (d : ud.Declr) → Answer (IsDeclr c m base d) (DeclrFails c m base d) (judged_declr c m base d)
declr_a c m base d =
    onward_a (judged_derived c m base d) _ (derived_a c m base d) (λ n g. inl g) (λ z hz.
    onward_a {P = λ t. declared_type c z.ty ≡ Is t} {F = λ n. declared_type c z.ty ≡ Fails n} (declared_type c z.ty) _ (rule_a _ (λ t q. q) (λ n q. q))
    (λ n q. inr (z.name, z.ty, z.dims, hz, q)) (λ t q. is_a _ (hz, declared_same c z.ty t q)))

single_a : (b : Bool) (c : Env) (t : CType) (a : Expr) → fills_chars t a ≡ b → Answer (λ z. IsSingle b c t a z.tree z.env) (λ n. (fills_chars t a ≡ false) × Refuses (first_value c t) c a n) (judged_single b c t a)
single_a true c t a q = is_a _ (refl, refl)
single_a false c t a q = onward_a (judged_by (first_value c t) c a) _ (by_a (first_value c t) c a) (λ n g. (q, g)) (λ v h. is_a _ (v, h, refl, refl))

mutual
  pub init_a : (c : Env) (t : CType) (i : ud.Init) → Answer (λ z. IsInit c t i z.tree z.env) (InitFails c t i) (judged_init c t i)
  init_a c t (ud.single a) = single_a (fills_chars t a) c t a refl
  init_a c t (ud.group l is) =
      provided_a 10 (is_aggregate t) _ (λ q. inl (refl, q)) (λ q. onward_a (judged_inits c (part_types c.tags t) is) _ (inits_a c (part_types c.tags t) is) (λ n g. inr g) (λ js h. is_a _ (js.tree, q, h, refl)))

  inits_a : (c : Env) (ts : List CType) (is : ud.Inits) → Answer (λ z. AreInits c ts is z.tree z.env) (InitsFail c ts is) (judged_inits c ts is)
  inits_a c ts ud.no_inits = is_a _ (refl, refl)
  inits_a c [] (ud.more_inits i is) = fails_a 10 refl
  inits_a c (t ∷ ts) (ud.more_inits i is) =
      onward_a (judged_init c t i) _ (init_a c t i) (λ n g. inl g) (λ j hj. onward_a (judged_inits j.env ts is) _ (inits_a j.env ts is) (λ n g. inr (j.tree, j.env, hj, g)) (λ rest hr.
      is_a _ (j.tree, rest.tree, j.env, hj, hr, refl)))

pub begin_a : (c : Env) (t : CType) (i : Option ud.Init) → Answer (λ z. Begins c t i z.tree z.env) (MaybeFails (InitFails c t) i) (judged_begin c t i)
begin_a c t None = is_a _ (refl, refl)
begin_a c t (Some i) = onward_a (judged_init c t i) _ (init_a c t i) (λ n g. g) (λ j h. is_a _ (j.tree, h, refl))

auto_init_a : (c : Env) (t : CType) (i : ud.Init) → Answer (IsAutoInit c t i) (AutoInitFails c t i) (judged_auto_init c t i)
auto_init_a c t (ud.single a) = by_a (value_for 11 c t) c a
auto_init_a c t (ud.group l is) = fails_a 11 refl

-- blocks

pub has_init : (i : Option ud.Init) → not (is_some i) ≡ false → HasInit i 11
has_init None q = cc
has_init (Some i) q = (refl, refl)

pub no_init : (i : Option ud.Init) → not (is_some i) ≡ true → i ≡ None
no_init None q = refl
no_init (Some i) q = cc

here_a : (c : Env) (x : Name) (m : Meaning) → Answer (Declares c x m) (IsTaken c x) (declared_here c x m)
here_a c x m = provided_a 1 (is_free x (innermost c.blocks)) _ (λ q. (refl, q)) (λ q. is_a _ (q, refl))

auto_a : (c : Env) (l : ℕ) (d : Declr) (i : Option ud.Init) → Answer (λ z. IsLocalBy false None c l d i z.tree z.env) (LocalFails false None c d i) (judged_auto c l d i)
auto_a c l d None =
    provided_a 3 (is_sized (known c) d.ty) _ (λ q. inl (refl, q)) (λ q. onward_a (declared_here c d.name (Thing (e.Local c.autos) d.ty)) _ (here_a c d.name (Thing (e.Local c.autos) d.ty))
    (λ n g. inr (inl g)) (λ c1 h. is_a _ (c1, q, h, refl, refl)))
auto_a c l d (Some a) =
    provided_a 3 (is_sized (known c) d.ty) _ (λ q. inl (refl, q)) (λ q. onward_a (declared_here c d.name (Thing (e.Local c.autos) d.ty)) _ (here_a c d.name (Thing (e.Local c.autos) d.ty))
    (λ n g. inr (inl g)) (λ c1 h. onward_a (judged_auto_init c1 d.ty a) _ (auto_init_a c1 d.ty a) (λ n g. inr (inr (c1, h, g))) (λ w hw. is_a _ (w, c1, q, h, hw, refl, refl))))

static_a : (c : Env) (l : ℕ) (d : Declr) (i : Option ud.Init) → Answer (λ z. IsLocalBy false (Some sg.Static) c l d i z.tree z.env) (LocalFails false (Some sg.Static) c d i) (judged_static c d i)
static_a c l d i =
    provided_a 3 (is_sized (known c) d.ty) _ (λ q. inl (refl, q)) (λ q. onward_a (declared_here c d.name (Thing (e.Static c.statics) d.ty)) _ (here_a c d.name (Thing (e.Static c.statics) d.ty))
    (λ n g. inr (inl g)) (λ c1 h. onward_a (judged_begin c1 d.ty i) _ (begin_a c1 d.ty i) (λ n g. inr (inr (c1, h, g))) (λ j hj. is_a _ (j.tree, c1, j.env, q, h, hj, refl, refl))))

local_a : (b : Bool) (s : Option Storage) (c : Env) (l : ℕ) (d : Declr) (i : Option ud.Init) → Answer (λ z. IsLocalBy b s c l d i z.tree z.env) (LocalFails b s c d i) (judged_local b s c l d i)
local_a true s c l d i =
    provided_a 11 (not (is_some i)) _ (λ q. inl (has_init i q)) (λ q. onward_a (declared_here c d.name _) _ (here_a c d.name (Function (is_static s) (function_ref c (is_static s) d.name) d.ty)) (λ n g. inr g)
    (λ c1 h. is_a _ (no_init i q, h, refl)))
local_a false None c l d i = auto_a c l d i
local_a false (Some sg.Auto) c l d i = auto_a c l d i
local_a false (Some sg.Register) c l d i = auto_a c l d i
local_a false (Some sg.Extern) c l d i =
    provided_a 11 (not (is_some i)) _ (λ q. inl (has_init i q)) (λ q. onward_a (declared_here c d.name _) _ (here_a c d.name (Thing (e.Ext d.name) (with_earlier (in_scope d.name c.file) d.ty))) (λ n g. inr g)
    (λ c1 h. is_a _ (no_init i q, h, refl)))
local_a false (Some sg.Static) c l d i = static_a c l d i

locals_a : (c : Env) (s : Option Storage) (base : CType) (is : List ud.Item) → Answer (λ z. AreLocals c s base is z.tree z.env) (LocalsFail c s base is) (judged_locals c s base is)
locals_a c s base [] = is_a _ (refl, refl)
locals_a c s base (i ∷ is) =
    onward_a (judged_declr c (missing s i.init) base i.declr) _ (declr_a c (missing s i.init) base i.declr) (λ n g. inl g) (λ d hd.
    onward_a (judged_local (is_function d.ty) s (past_declr i.declr c) (declr_line i.declr) d i.init) _ (local_a (is_function d.ty) s (past_declr i.declr c) (declr_line i.declr) d i.init)
    (λ n g. inr (d, hd, inl g)) (λ x hx.
    onward_a (judged_locals x.env s base is) _ (locals_a x.env s base is) (λ n g. inr (d, hd, inr (x.tree, x.env, hx, g))) (λ rest hr.
    is_a _ (d, x.tree, rest.tree, x.env, hd, hx, hr, refl))))

pub decls_a : (c : Env) (ds : List ud.LocalDecl) → Answer (λ z. AreDecls c ds z.tree z.env) (DeclsFail c ds) (judged_decls c ds)
decls_a c [] = is_a _ (refl, refl)
decls_a c (d ∷ ds) =
    onward_a {P = λ b. spec_or_int c d.specs.types ≡ Is b} {F = λ n. spec_or_int c d.specs.types ≡ Fails n} (spec_or_int c d.specs.types) _ (rule_a _ (λ b q. q) (λ n q. q)) (λ n q. inl q) (λ base hb.
    onward_a (judged_locals c d.specs.storage base d.items) _ (locals_a c d.specs.storage base d.items) (λ n g. inr (base, hb, inl g)) (λ ls hl.
    onward_a (judged_decls ls.env ds) _ (decls_a ls.env ds) (λ n g. inr (base, hb, inr (ls.tree, ls.env, hl, g))) (λ rest hr.
    is_a _ (base, ls.tree, rest.tree, ls.env, hb, hl, hr, refl))))

-- statements

mutual
  pub stmt_a : (c : Env) (p : Place) (s : us.Stmt) → Answer (λ z. IsStmt c p s z.tree z.env) (StmtFails c p s) (judged_stmt c p s)
  stmt_a c p (us.expr l a) = onward_a (judged_by used c a) _ (by_a used c a) (λ n g. g) (λ v h. is_a _ (v, h, refl, refl))
  stmt_a c p (us.empty l) = is_a _ (refl, refl)
  stmt_a c p (us.if_only l a s) =
      onward_a (judged_by (scalar 15) c a) _ (by_a (scalar 15) c a) (λ n g. inl g) (λ v h.
      onward_a (judged_stmt (past a (started 1 c)) p s) _ (stmt_a (past a (started 1 c)) p s) (λ n g. inr g) (λ x k. is_a _ (v, x.tree, h, k, refl)))
  stmt_a c p (us.if_else l a s z) =
      onward_a (judged_by (scalar 15) c a) _ (by_a (scalar 15) c a) (λ n g. inl g) (λ v h.
      onward_a (judged_stmt (past a (started 1 c)) p s) _ (stmt_a (past a (started 1 c)) p s) (λ n g. inr (inl g)) (λ x k.
      onward_a (judged_stmt x.env p z) _ (stmt_a x.env p z) (λ n g. inr (inr (x.tree, x.env, k, g))) (λ y m. is_a _ (v, x.tree, y.tree, x.env, h, k, m, refl))))
  stmt_a c p (us.while l a s) =
      onward_a (judged_by (scalar 15) c a) _ (by_a (scalar 15) c a) (λ n g. inl g) (λ v h.
      onward_a (judged_stmt (past a (started 1 c)) (in_loop p) s) _ (stmt_a (past a (started 1 c)) (in_loop p) s) (λ n g. inr g) (λ x k. is_a _ (v, x.tree, h, k, refl)))
  stmt_a c p (us.do_while l s m a) =
      onward_a (judged_stmt c (in_loop p) s) _ (stmt_a c (in_loop p) s) (λ n g. inl g) (λ x k.
      onward_a (judged_by (scalar 15) x.env a) _ (by_a (scalar 15) x.env a) (λ n g. inr (x.tree, x.env, k, g)) (λ v h. is_a _ (x.tree, v, x.env, k, h, refl, refl)))
  stmt_a c p (us.for l a b d s) =
      onward_a (judged_option used c a) _ (option_a used c a) (λ n g. inl g) (λ v1 h1.
      onward_a (judged_option (scalar 15) (past_option a c) b) _ (option_a (scalar 15) (past_option a c) b) (λ n g. inr (inl g)) (λ v2 h2.
      onward_a (judged_option used (past_option b (past_option a c)) d) _ (option_a used (past_option b (past_option a c)) d) (λ n g. inr (inr (inl g))) (λ v3 h3.
      onward_a (judged_stmt (past_option d (past_option b (past_option a (started 3 c)))) (in_loop p) s) _ (stmt_a (past_option d (past_option b (past_option a (started 3 c)))) (in_loop p) s) (λ n g. inr (inr (inr g))) (λ x k.
      is_a _ (v1, v2, v3, x.tree, h1, h2, h3, k, refl)))))
  stmt_a c p (us.switch l a is) =
      onward_a (judged_by (integer 24) c a) _ (by_a (integer 24) c a) (λ n g. inl g) (λ v h.
      onward_a (judged_items (past a (started 1 c)) (in_switch p) is) _ (items_a (past a (started 1 c)) (in_switch p) is) (λ n g. inr (inl g)) (λ js k.
      provided_a 24 (labels_differ js.tree) _ (λ q. inr (inr (js.tree, js.env, k, refl, q))) (λ q. is_a _ (v, js.tree, h, k, q, refl))))
  stmt_a c p (us.break l) = provided_a 24 p.breaks _ (λ q. (refl, q)) (λ q. is_a _ (q, refl, refl))
  stmt_a c p (us.continue l) = provided_a 24 p.loop _ (λ q. (refl, q)) (λ q. is_a _ (q, refl, refl))
  stmt_a c p (us.return l a) = onward_a (judged_option (returned c p.result) c a) _ (option_a (returned c p.result) c a) (λ n g. g) (λ v h. is_a _ (v, h, refl, refl))
  stmt_a c p (us.block l ds ss m) =
      onward_a (judged_decls (enter c) ds) _ (decls_a (enter c) ds) (λ n g. inl g) (λ xs h.
      onward_a (judged_stmts xs.env p ss) _ (stmts_a xs.env p ss) (λ n g. inr (xs.tree, xs.env, h, g)) (λ ys k. is_a _ (xs.tree, ys.tree, xs.env, ys.env, h, k, refl, refl)))

  pub stmts_a : (c : Env) (p : Place) (ss : us.Stmts) → Answer (λ z. AreStmts c p ss z.tree z.env) (StmtsFail c p ss) (judged_stmts c p ss)
  stmts_a c p us.no_stmts = is_a _ (refl, refl)
  stmts_a c p (us.more_stmts s ss) =
      onward_a (judged_stmt c p s) _ (stmt_a c p s) (λ n g. inl g) (λ x h.
      onward_a (judged_stmts x.env p ss) _ (stmts_a x.env p ss) (λ n g. inr (x.tree, x.env, h, g)) (λ rest k. is_a _ (x.tree, rest.tree, x.env, h, k, refl)))

  items_a : (c : Env) (p : Place) (is : us.SwItems) → Answer (λ z. AreItems c p is z.tree z.env) (ItemsFail c p is) (judged_items c p is)
  items_a c p us.no_items = is_a _ (refl, refl)
  items_a c p (us.more_items (us.case l a) is) =
      onward_a (judged_by (constant_of c) c a) _ (by_a (constant_of c) c a) (λ n g. inl g) (λ k h.
      onward_a (judged_items (past a c) p is) _ (items_a (past a c) p is) (λ n g. inr g) (λ rest m. is_a _ (k, rest.tree, h, m, refl)))
  items_a c p (us.more_items (us.default l) is) = onward_a (judged_items c p is) _ (items_a c p is) (λ n g. g) (λ rest m. is_a _ (rest.tree, m, refl))
  items_a c p (us.more_items (us.stmt s) is) =
      onward_a (judged_stmt c p s) _ (stmt_a c p s) (λ n g. inl g) (λ x h.
      onward_a (judged_items x.env p is) _ (items_a x.env p is) (λ n g. inr (x.tree, x.env, h, g)) (λ rest m. is_a _ (x.tree, rest.tree, x.env, h, m, refl)))
