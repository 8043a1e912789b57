-- Where a rule fails in an expression, a declarator, an initialiser or a statement, no typed tree belongs to it.
use Rattle.std.proofs.Common.{◌≡◌, ℕ, List, [], ◌∷◌, Option, Some, None, Bool, true, false, ◌&&◌, ap, ◌∙◌, subst, inl, inr}
use Rattle.c_type.specs.Names.{Name}
use Rattle.c_type.specs.Types.{CType}
use Rattle.c_tree.specs.declared.decl.Storage.TheVariants as sg
use Rattle.c_tree.specs.TreeDecl as ud
use Rattle.c_tree.specs.declared.decl.Storage.{Storage}
use Rattle.c_tree.specs.TreeStmt as us
use Rattle.c_tree.specs.TreeExpr.{Expr, Exprs, comma, assign, choice, binary, unary, size_of, size_of_type, cast, index, call, member, arrow, post, name, int, chr, text, no_exprs, more_exprs}
use Rattle.c_tree.specs.TExpr as e
use Rattle.c_tree.specs.TExpr.{TExpr, TArgs}
use Rattle.c_tree.specs.TStmt as st
use Rattle.c_tree.specs.TStmt.{TStmt, TStmts, TItems, Declr, Local, LocalDecl}
use Rattle.c_rule.specs.RuleScope.{Judged, Is, Fails, Env, Meaning, Thing, known, is_sized, past, past_option, started}
use Rattle.c_rule.specs.RuleTypes.{is_function, cast_type, sized_type, declared_type, spec_or_int}
use Rattle.c_rule.specs.RuleValues.{used, scalar, integer, value_for}
use Rattle.c_rule.specs.RuleExprs as r
use Rattle.c_rule.specs.RuleTree.{IsExpr, IsCalled, AreArgs, Gives}
use Rattle.c_rule.specs.RuleDecls.{dimension_of, constant_of, is_name, is_some, past_declr, IsDerived, IsDeclr, fills_chars, first_value, is_aggregate, part_types, IsSingle, IsInit, AreInits, Begins, IsAutoInit}
use Rattle.c_rule.specs.RuleStmts.{Declares, enter, missing, declr_line, is_free, innermost, IsLocalBy, AreLocals, AreDecls, Place, in_loop, in_switch, Maybe, returned, labels_differ, IsStmt, AreStmts, AreItems}
use Rattle.c_rule.specs.RuleFails.{OneFails, TwoFail, CalledFails, ExprFails, ArgsFail, Refuses, MaybeFails, DerivedFails, DeclrFails, InitFails, InitsFail, AutoInitFails, HasInit, IsTaken, ObjectFails, LocalFails, LocalsFail, DeclsFail, StmtFails, StmtsFail, ItemsFail}
use Rattle.c_rule.proofs.OneExpr.{expr_one, is_one}
use Rattle.c_rule.proofs.OneDecl.{type_one, declr_one, init_one}
use Rattle.c_rule.proofs.OneStmt.{declares_one, local_one, locals_one, decls_one, stmt_one, items_one}

-- a rule does not both give and fail
pub judged_apart : {A : Type 0} (j : Judged A) (a : A) (n : ℕ) → j ≡ Is a → j ≡ Fails n → ⊥
judged_apart j a n p q = cc

pub bools_apart : (b : Bool) → b ≡ true → b ≡ false → ⊥
bools_apart b p q = cc

pub one_apart : {B : Type 0} (F : TExpr → Judged B) (c : Env) (a : Expr) (n : ℕ) (b : B) (x : TExpr) → OneFails F c a n → IsExpr c a x → F x ≡ Is b → ⊥
one_apart F c a n b x (x', h', q') h q = judged_apart (F x) b n q (ap F (expr_one c a x x' h h') ∙ q')

two_apart : (F : TExpr → TExpr → Judged TExpr) (c : Env) (a b : Expr) (n : ℕ) (t x y : TExpr) → TwoFail F c a b n → IsExpr c a x → IsExpr (past a c) b y → F x y ≡ Is t → ⊥
two_apart F c a b n t x y (x', y', h', k', q') h k q =
    judged_apart (F x y) t n q (ap (λ z. F z y) (expr_one c a x x' h h') ∙ ap (F x') (expr_one (past a c) b y y' k k') ∙ q')

called_apart : (c : Env) (f : Expr) (n : ℕ) (x : TExpr) → ((t : TExpr) → ExprFails c f n → IsExpr c f t → ⊥) → CalledFails c f (ExprFails c f) n → IsCalled c f (IsExpr c f) x → ⊥
called_apart c (name l y) n x apart h k = judged_apart _ x n k h
called_apart c f n x apart (inl h) k = apart k.0 h k.1
called_apart c f n x apart (inr h) k = one_apart r.called c f n x k.0 h k.1 k.2

mutual
  pub expr_apart : (c : Env) (a : Expr) (n : ℕ) (t : TExpr) → ExprFails c a n → IsExpr c a t → ⊥
  expr_apart c (comma l a b) n t (inl h) (x, y, hx, hy, q) = expr_apart c a n x h hx
  expr_apart c (comma l a b) n t (inr (inl h)) (x, y, hx, hy, q) = expr_apart (past a c) b n y h hy
  expr_apart c (comma l a b) n t (inr (inr h)) (x, y, hx, hy, q) = two_apart r.comma c a b n t x y h hx hy q
  expr_apart c (assign l op a b) n t (inl h) (x, y, hx, hy, q) = expr_apart c a n x h hx
  expr_apart c (assign l op a b) n t (inr (inl h)) (x, y, hx, hy, q) = expr_apart (past a c) b n y h hy
  expr_apart c (assign l op a b) n t (inr (inr h)) (x, y, hx, hy, q) = two_apart (r.assignment c op) c a b n t x y h hx hy q
  expr_apart c (choice l a b d) n t (inl h) (x, y, z, hx, hy, hz, q) = expr_apart c a n x h hx
  expr_apart c (choice l a b d) n t (inr (inl h)) (x, y, z, hx, hy, hz, q) = expr_apart (past a c) b n y h hy
  expr_apart c (choice l a b d) n t (inr (inr (inl h))) (x, y, z, hx, hy, hz, q) = expr_apart (past b (past a c)) d n z h hz
  expr_apart c (choice l a b d) n t (inr (inr (inr (x', y', z', hx', hy', hz', q')))) (x, y, z, hx, hy, hz, q) =
      judged_apart (r.choice c x y z) t n q (ap (λ w. r.choice c w y z) (expr_one c a x x' hx hx') ∙ ap (λ w. r.choice c x' w z) (expr_one (past a c) b y y' hy hy') ∙
      ap (r.choice c x' y') (expr_one (past b (past a c)) d z z' hz hz') ∙ q')
  expr_apart c (binary l op a b) n t (inl h) (x, y, hx, hy, q) = expr_apart c a n x h hx
  expr_apart c (binary l op a b) n t (inr (inl h)) (x, y, hx, hy, q) = expr_apart (past a c) b n y h hy
  expr_apart c (binary l op a b) n t (inr (inr h)) (x, y, hx, hy, q) = two_apart (r.binary c op) c a b n t x y h hx hy q
  expr_apart c (unary l op a) n t (inl h) (x, hx, q) = expr_apart c a n x h hx
  expr_apart c (unary l op a) n t (inr h) (x, hx, q) = one_apart (r.unary c op) c a n t x h hx q
  expr_apart c (size_of l a) n t (inl h) (x, hx, q) = expr_apart c a n x h hx
  expr_apart c (size_of l a) n t (inr h) (x, hx, q) = one_apart (r.size_of c) c a n t x h hx q
  expr_apart c (size_of_type l y) n t h (s, hs, q) = judged_apart (sized_type c y) s n hs h
  expr_apart c (cast l y a) n t (inl h) (s, x, hs, hx, q) = judged_apart (cast_type c y) s n hs h
  expr_apart c (cast l y a) n t (inr (inl h)) (s, x, hs, hx, q) = expr_apart c a n x h hx
  expr_apart c (cast l y a) n t (inr (inr (s', hs', h))) (s, x, hs, hx, q) =
      one_apart (r.cast c s) c a n t x (subst (λ z. OneFails (r.cast c z) c a n) (is_one (cast_type c y) s' s hs' hs) h) hx q
  expr_apart c (index l a i) n t (inl h) (x, y, hx, hy, q) = expr_apart c a n x h hx
  expr_apart c (index l a i) n t (inr (inl h)) (x, y, hx, hy, q) = expr_apart (past a c) i n y h hy
  expr_apart c (index l a i) n t (inr (inr h)) (x, y, hx, hy, q) = two_apart (r.subscript c) c a i n t x y h hx hy q
  expr_apart c (call l f es) n t (inl h) (x, ys, hx, hys, q) = called_apart c f n x (λ u g k. expr_apart c f n u g k) h hx
  expr_apart c (call l f es) n t (inr h) (x, ys, hx, hys, q) = args_apart (past f c) es n ys h hys
  expr_apart c (member l a y) n t (inl h) (x, hx, q) = expr_apart c a n x h hx
  expr_apart c (member l a y) n t (inr h) (x, hx, q) = one_apart (λ z. r.dot c z y) c a n t x h hx q
  expr_apart c (arrow l a y) n t (inl h) (x, hx, q) = expr_apart c a n x h hx
  expr_apart c (arrow l a y) n t (inr h) (x, hx, q) = one_apart (λ z. r.arrow c z y) c a n t x h hx q
  expr_apart c (post l op a) n t (inl h) (x, hx, q) = expr_apart c a n x h hx
  expr_apart c (post l op a) n t (inr h) (x, hx, q) = one_apart (r.step c (r.post_op op)) c a n t x h hx q
  expr_apart c (name l y) n t h k = judged_apart _ t n k h
  expr_apart c (int l m long) n t h k = h
  expr_apart c (chr l m) n t h k = h
  expr_apart c (text l bs) n t h k = h

  args_apart : (c : Env) (es : Exprs) (n : ℕ) (ys : TArgs) → ArgsFail c es n → AreArgs c es ys → ⊥
  args_apart c no_exprs n ys h k = h
  args_apart c (more_exprs a es) n ys (inl h) (x, v, vs, hx, q, hvs, p) = expr_apart c a n x h hx
  args_apart c (more_exprs a es) n ys (inr (inl h)) (x, v, vs, hx, q, hvs, p) = one_apart (scalar 20) c a n v x h hx q
  args_apart c (more_exprs a es) n ys (inr (inr h)) (x, v, vs, hx, q, hvs, p) = args_apart (past a c) es n vs h hvs

pub gives_apart : {B : Type 0} (F : TExpr → Judged B) (c : Env) (a : Expr) (n : ℕ) (b : B) → Refuses F c a n → Gives F c a b → ⊥
gives_apart F c a n b (inl h) (x, hx, q) = expr_apart c a n x h hx
gives_apart F c a n b (inr h) (x, hx, q) = one_apart F c a n b x h hx q

derived_apart : (c : Env) (m : Option ℕ) (base : CType) (d : ud.Declr) (n : ℕ) (x : Name) (t : CType) (es : List TExpr) → DerivedFails c m d n → IsDerived c m base d x t es → ⊥
derived_apart c m base (ud.pointer l d) n x t es h k = derived_apart c m _ d n x t es h k
derived_apart c m base (ud.name l y) n x t es h k = h
derived_apart c m base (ud.array l d None) n x t es (inl h) (i, g, q, k) = both_there (is_name d) m i g q h.1
  where
    both_there : (b : Bool) (m : Option ℕ) (i : ℕ) → b ≡ true → m ≡ Some i → b && is_some m ≡ false → ⊥
    both_there true (Some i) j p q s = cc
    both_there true None j p q s = cc
    both_there false m j p q s = cc
derived_apart c m base (ud.array l d None) n x t es (inr h) (i, g, q, k) = derived_apart c m _ d n x t es h k
derived_apart c m base (ud.array l d (Some a)) n x t es (inl h) (i, rest, k, g, q) = derived_apart c m _ d n x t rest h k
derived_apart c m base (ud.array l d (Some a)) n x t es (inr h) (i, rest, k, g, q) = gives_apart (dimension_of (past_declr d c)) (past_declr d c) a n i h g
derived_apart c m base (ud.function l d xs) n x t es h k = derived_apart c m _ d n x t es h k

pub declr_apart : (c : Env) (m : Option ℕ) (base : CType) (d : ud.Declr) (n : ℕ) (y : Declr) → DeclrFails c m base d n → IsDeclr c m base d y → ⊥
declr_apart c m base d n y (inl h) k = derived_apart c m base d n y.name y.ty y.dims h k.0
declr_apart c m base d n y (inr (x, t, es, h, q)) k =
    judged_apart (declared_type c y.ty) y.ty n k.1 (ap (declared_type c) (type_one c m base d y.name x y.ty t y.dims es k.0 h) ∙ q)

single_apart : (fills : Bool) (c : Env) (t : CType) (a : Expr) (n : ℕ) (j : st.Init) (f : Env) → fills ≡ false → Refuses (first_value c t) c a n → IsSingle fills c t a j f → ⊥
single_apart true c t a n j f p h k = cc
single_apart false c t a n j f p h (v, g, q, r) = gives_apart (first_value c t) c a n v h g

mutual
  pub init_apart : (c : Env) (t : CType) (i : ud.Init) (n : ℕ) (j : st.Init) (f : Env) → InitFails c t i n → IsInit c t i j f → ⊥
  init_apart c t (ud.single a) n j f h k = single_apart (fills_chars t a) c t a n j f h.0 h.1 k
  init_apart c t (ud.group l is) n j f (inl h) (js, g, k, q) = bools_apart (is_aggregate t) g h.1
  init_apart c t (ud.group l is) n j f (inr h) (js, g, k, q) = inits_apart c (part_types c.tags t) is n js f h k

  inits_apart : (c : Env) (ts : List CType) (is : ud.Inits) (n : ℕ) (js : st.Inits) (f : Env) → InitsFail c ts is n → AreInits c ts is js f → ⊥
  inits_apart c ts ud.no_inits n js f h k = h
  inits_apart c [] (ud.more_inits i is) n js f h k = k
  inits_apart c (t ∷ ts) (ud.more_inits i is) n js f (inl h) (j, rest, c1, k, g, q) = init_apart c t i n j c1 h k
  inits_apart c (t ∷ ts) (ud.more_inits i is) n js f (inr (j', c1', h, h1)) (j, rest, c1, k, g, q) =
      inits_apart c1 ts is n rest f (subst (λ z. InitsFail z ts is n) ((init_one c t i j' j c1' c1 h k).1) h1) g

pub begins_apart : (c : Env) (t : CType) (i : Option ud.Init) (n : ℕ) (j : Option st.Init) (f : Env) → MaybeFails (InitFails c t) i n → Begins c t i j f → ⊥
begins_apart c t None n j f h k = h
begins_apart c t (Some i) n j f h (k, g, q) = init_apart c t i n k f h g

auto_init_apart : (c : Env) (t : CType) (i : ud.Init) (n : ℕ) (w : TExpr) → AutoInitFails c t i n → IsAutoInit c t i w → ⊥
auto_init_apart c t (ud.single a) n w h k = gives_apart (value_for 11 c t) c a n w h k
auto_init_apart c t (ud.group l is) n w h k = k

pub has_init_apart : (i : Option ud.Init) (n : ℕ) → HasInit i n → i ≡ None → ⊥
has_init_apart None n h q = cc
has_init_apart (Some i) n h q = cc

taken_apart : (c : Env) (x : Name) (m : Meaning) (n : ℕ) (c1 : Env) → IsTaken c x n → Declares c x m c1 → ⊥
taken_apart c x m n c1 h k = bools_apart (is_free x (innermost c.blocks)) k.0 h.1

-- what stands of an object that is not `extern` in a block
object_apart : (c : Env) (x : Name) (t : CType) (m : Meaning) (InInit : Env → ℕ → Type 0) (n : ℕ) (c1 : Env) → ObjectFails c x t m InInit n → is_sized (known c) t ≡ true → Declares c x m c1 → (InInit c1 n → ⊥) → ⊥
object_apart c x t m InInit n c1 (inl h) z k g = bools_apart (is_sized (known c) t) z h.1
object_apart c x t m InInit n c1 (inr (inl h)) z k g = taken_apart c x m n c1 h k
object_apart c x t m InInit n c1 (inr (inr (c1', h, i))) z k g = g (subst (λ y. InInit y n) (declares_one c x m c1' c1 h k) i)

auto_apart : (c : Env) (l : ℕ) (d : Declr) (i : Option ud.Init) (n : ℕ) (x : Local) (f : Env) →
    ObjectFails c d.name d.ty (Thing (e.Local c.autos) d.ty) (λ c1. MaybeFails (AutoInitFails c1 d.ty) i) n → IsLocalBy false None c l d i x f → ⊥
auto_apart c l d None n x f h (c1, z, k, q, r) = object_apart c d.name d.ty _ (λ y. MaybeFails (AutoInitFails y d.ty) None) n c1 h z k (λ g. g)
auto_apart c l d (Some a) n x f h (w, c1, z, k, g, q, r) = object_apart c d.name d.ty _ (λ y. MaybeFails (AutoInitFails y d.ty) (Some a)) n c1 h z k (λ u. auto_init_apart c1 d.ty a n w u g)

local_apart : (b : Bool) (s : Option Storage) (c : Env) (l : ℕ) (d : Declr) (i : Option ud.Init) (n : ℕ) (x : Local) (f : Env) → LocalFails b s c d i n → IsLocalBy b s c l d i x f → ⊥
local_apart true s c l d i n x f (inl h) (q, k, r) = has_init_apart i n h q
local_apart true s c l d i n x f (inr h) (q, k, r) = taken_apart c d.name _ n f h k
local_apart false None c l d i n x f h k = auto_apart c l d i n x f h k
local_apart false (Some sg.Auto) c l d i n x f h k = auto_apart c l d i n x f h k
local_apart false (Some sg.Register) c l d i n x f h k = auto_apart c l d i n x f h k
local_apart false (Some sg.Extern) c l d i n x f (inl h) (q, k, r) = has_init_apart i n h q
local_apart false (Some sg.Extern) c l d i n x f (inr h) (q, k, r) = taken_apart c d.name _ n f h k
local_apart false (Some sg.Static) c l d i n x f h (j, c1, c2, z, k, g, q, r) = object_apart c d.name d.ty _ (λ y. MaybeFails (InitFails y d.ty) i) n c1 h z k (λ u. begins_apart c1 d.ty i n j c2 u g)

pub locals_apart : (c : Env) (s : Option Storage) (base : CType) (is : List ud.Item) (n : ℕ) (xs : List Local) (f : Env) → LocalsFail c s base is n → AreLocals c s base is xs f → ⊥
locals_apart c s base [] n xs f h k = h
locals_apart c s base (i ∷ is) n xs f (inl h) (d, x, rest, c1, hd, hx, hr, q) = declr_apart c (missing s i.init) base i.declr n d h hd
locals_apart c s base (i ∷ is) n xs f (inr (d', hd', inl h)) (d, x, rest, c1, hd, hx, hr, q) =
    let e = declr_one c (missing s i.init) base i.declr d' d hd' hd in
    local_apart (is_function d.ty) s (past_declr i.declr c) (declr_line i.declr) d i.init n x c1 (subst (λ y. LocalFails (is_function y.ty) s (past_declr i.declr c) y i.init n) e h) hx
locals_apart c s base (i ∷ is) n xs f (inr (d', hd', inr (z, c2, h, h1))) (d, x, rest, c1, hd, hx, hr, q) =
    let e = declr_one c (missing s i.init) base i.declr d' d hd' hd in
    let h2 = subst (λ y. IsLocalBy (is_function y.ty) s (past_declr i.declr c) (declr_line i.declr) y i.init z c2) e h in
    let e1 = local_one (is_function d.ty) s (past_declr i.declr c) (declr_line i.declr) d i.init z x c2 c1 h2 hx in
    locals_apart c1 s base is n rest f (subst (λ y. LocalsFail y s base is n) e1.1 h1) hr

pub decls_apart : (c : Env) (ds : List ud.LocalDecl) (n : ℕ) (xs : List LocalDecl) (f : Env) → DeclsFail c ds n → AreDecls c ds xs f → ⊥
decls_apart c [] n xs f h k = h
decls_apart c (d ∷ ds) n xs f (inl h) (base, ls, rest, c1, hb, hl, hr, q) = judged_apart (spec_or_int c d.specs.types) base n hb h
decls_apart c (d ∷ ds) n xs f (inr (base', hb', inl h)) (base, ls, rest, c1, hb, hl, hr, q) =
    let e = is_one (spec_or_int c d.specs.types) base' base hb' hb in
    locals_apart c d.specs.storage base d.items n ls c1 (subst (λ y. LocalsFail c d.specs.storage y d.items n) e h) hl
decls_apart c (d ∷ ds) n xs f (inr (base', hb', inr (ls', c1', h, h1))) (base, ls, rest, c1, hb, hl, hr, q) =
    let e = is_one (spec_or_int c d.specs.types) base' base hb' hb in
    let h2 = subst (λ y. AreLocals c d.specs.storage y d.items ls' c1') e h in
    let e1 = locals_one c d.specs.storage base d.items ls' ls c1' c1 h2 hl in
    decls_apart c1 ds n rest f (subst (λ y. DeclsFail y ds n) e1.1 h1) hr

maybe_apart : (F : TExpr → Judged TExpr) (c : Env) (a : Option Expr) (n : ℕ) (v : Option TExpr) → MaybeFails (Refuses F c) a n → Maybe (Gives F c) a v → ⊥
maybe_apart F c None n v h k = h
maybe_apart F c (Some a) n v h (w, g, q) = gives_apart F c a n w h g

mutual
  pub stmt_apart : (c : Env) (p : Place) (s : us.Stmt) (n : ℕ) (t : TStmt) (f : Env) → StmtFails c p s n → IsStmt c p s t f → ⊥
  stmt_apart c p (us.expr l a) n t f h (v, k, q, r) = gives_apart used c a n v h k
  stmt_apart c p (us.empty l) n t f h k = h
  stmt_apart c p (us.if_only l a s) n t f (inl h) (v, x, g, k, q) = gives_apart (scalar 15) c a n v h g
  stmt_apart c p (us.if_only l a s) n t f (inr h) (v, x, g, k, q) = stmt_apart (past a (started 1 c)) p s n x f h k
  stmt_apart c p (us.if_else l a s z) n t f (inl h) (v, x, y, c1, g, k, m, q) = gives_apart (scalar 15) c a n v h g
  stmt_apart c p (us.if_else l a s z) n t f (inr (inl h)) (v, x, y, c1, g, k, m, q) = stmt_apart (past a (started 1 c)) p s n x c1 h k
  stmt_apart c p (us.if_else l a s z) n t f (inr (inr (x', c1', h, h1))) (v, x, y, c1, g, k, m, q) =
      stmt_apart c1 p z n y f (subst (λ w. StmtFails w p z n) ((stmt_one (past a (started 1 c)) p s x' x c1' c1 h k).1) h1) m
  stmt_apart c p (us.while l a s) n t f (inl h) (v, x, g, k, q) = gives_apart (scalar 15) c a n v h g
  stmt_apart c p (us.while l a s) n t f (inr h) (v, x, g, k, q) = stmt_apart (past a (started 1 c)) (in_loop p) s n x f h k
  stmt_apart c p (us.do_while l s m a) n t f (inl h) (x, v, c1, k, g, q, r) = stmt_apart c (in_loop p) s n x c1 h k
  stmt_apart c p (us.do_while l s m a) n t f (inr (x', c1', h, h1)) (x, v, c1, k, g, q, r) =
      gives_apart (scalar 15) c1 a n v (subst (λ w. Refuses (scalar 15) w a n) ((stmt_one c (in_loop p) s x' x c1' c1 h k).1) h1) g
  stmt_apart c p (us.for l a b d s) n t f (inl h) (v1, v2, v3, x, g1, g2, g3, k, q) = maybe_apart used c a n v1 h g1
  stmt_apart c p (us.for l a b d s) n t f (inr (inl h)) (v1, v2, v3, x, g1, g2, g3, k, q) = maybe_apart (scalar 15) (past_option a c) b n v2 h g2
  stmt_apart c p (us.for l a b d s) n t f (inr (inr (inl h))) (v1, v2, v3, x, g1, g2, g3, k, q) = maybe_apart used (past_option b (past_option a c)) d n v3 h g3
  stmt_apart c p (us.for l a b d s) n t f (inr (inr (inr h))) (v1, v2, v3, x, g1, g2, g3, k, q) =
      stmt_apart (past_option d (past_option b (past_option a (started 3 c)))) (in_loop p) s n x f h k
  stmt_apart c p (us.switch l a is) n t f (inl h) (v, js, g, k, z, q) = gives_apart (integer 24) c a n v h g
  stmt_apart c p (us.switch l a is) n t f (inr (inl h)) (v, js, g, k, z, q) = items_apart (past a (started 1 c)) (in_switch p) is n js f h k
  stmt_apart c p (us.switch l a is) n t f (inr (inr (js', c1', h, m, h1))) (v, js, g, k, z, q) =
      bools_apart (labels_differ js) z (ap labels_differ ((items_one (past a (started 1 c)) (in_switch p) is js js' f c1' k h).0) ∙ h1)
  stmt_apart c p (us.break l) n t f h k = bools_apart p.breaks k.0 h.1
  stmt_apart c p (us.continue l) n t f h k = bools_apart p.loop k.0 h.1
  stmt_apart c p (us.return l a) n t f h (v, g, q, r) = maybe_apart (returned c p.result) c a n v h g
  stmt_apart c p (us.block l ds ss m) n t f (inl h) (xs, ys, c1, c2, k, g, q, r) = decls_apart (enter c) ds n xs c1 h k
  stmt_apart c p (us.block l ds ss m) n t f (inr (xs', c1', h, h1)) (xs, ys, c1, c2, k, g, q, r) =
      stmts_apart c1 p ss n ys c2 (subst (λ w. StmtsFail w p ss n) ((decls_one (enter c) ds xs' xs c1' c1 h k).1) h1) g

  pub stmts_apart : (c : Env) (p : Place) (ss : us.Stmts) (n : ℕ) (ys : TStmts) (f : Env) → StmtsFail c p ss n → AreStmts c p ss ys f → ⊥
  stmts_apart c p us.no_stmts n ys f h k = h
  stmts_apart c p (us.more_stmts s ss) n ys f (inl h) (x, rest, c1, k, g, q) = stmt_apart c p s n x c1 h k
  stmts_apart c p (us.more_stmts s ss) n ys f (inr (x', c1', h, h1)) (x, rest, c1, k, g, q) =
      stmts_apart c1 p ss n rest f (subst (λ w. StmtsFail w p ss n) ((stmt_one c p s x' x c1' c1 h k).1) h1) g

  items_apart : (c : Env) (p : Place) (is : us.SwItems) (n : ℕ) (js : TItems) (f : Env) → ItemsFail c p is n → AreItems c p is js f → ⊥
  items_apart c p us.no_items n js f h k = h
  items_apart c p (us.more_items (us.case l a) is) n js f (inl h) (m, rest, g, k, q) = gives_apart (constant_of c) c a n m h g
  items_apart c p (us.more_items (us.case l a) is) n js f (inr h) (m, rest, g, k, q) = items_apart (past a c) p is n rest f h k
  items_apart c p (us.more_items (us.default l) is) n js f h (rest, k, q) = items_apart c p is n rest f h k
  items_apart c p (us.more_items (us.stmt s) is) n js f (inl h) (x, rest, c1, k, g, q) = stmt_apart c p s n x c1 h k
  items_apart c p (us.more_items (us.stmt s) is) n js f (inr (x', c1', h, h1)) (x, rest, c1, k, g, q) =
      items_apart c1 p is n rest f (subst (λ w. ItemsFail w p is n) ((stmt_one c p s x' x c1' c1 h k).1) h1) g
