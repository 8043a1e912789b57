-- Where a statement stands, at most one typed statement belongs to it.
use Rattle.std.proofs.Common.{◌≡◌, ℕ, suc, List, [], ◌∷◌, Option, Some, None, Bool, true, false, sym, ap, ◌∙◌, subst}
use Rattle.c_type.specs.Names.{Name}
use Rattle.c_type.specs.Types.{CType}
use Rattle.c_tree.specs.declared.decl.Storage.TheVariants as sg
use Rattle.c_tree.specs.TreeDecl as ud
use Rattle.c_tree.specs.declared.decl.Storage.{Storage}
use Rattle.c_tree.specs.TreeExpr as u
use Rattle.c_tree.specs.TreeStmt as us
use Rattle.c_tree.specs.TExpr as e
use Rattle.c_tree.specs.TExpr.{TExpr}
use Rattle.c_tree.specs.TStmt as st
use Rattle.c_tree.specs.TStmt.{TStmt, TStmts, TItems, Declr, Local, LocalDecl}
use Rattle.c_rule.specs.RuleScope.{Env, Meaning, Thing, past, past_option, started}
use Rattle.c_rule.specs.RuleTypes.{is_function, spec_or_int}
use Rattle.c_rule.specs.RuleValues.{used, integer, scalar}
use Rattle.c_rule.specs.RuleDecls.{constant_of, past_declr, Begins, IsAutoInit}
use Rattle.c_rule.specs.RuleTree.{Gives}
use Rattle.c_rule.specs.RuleStmts.{Declares, enter, leave, past_init, is_static, missing, declr_line, IsFunctionHere, IsExternHere, IsStaticHere, IsAutoHere, IsLocalBy, AreLocals, AreDecls, Place, in_loop, in_switch, Maybe, returned, IsStmt, AreStmts, AreItems}
use Rattle.c_rule.proofs.OneExpr.{gives_one, is_one}
use Rattle.c_rule.proofs.OneDecl.{declr_one, begins_one, auto_init_one}

pub declares_one : (c : Env) (x : Name) (m : Meaning) (d d' : Env) → Declares c x m d → Declares c x m d' → d ≡ d'
declares_one c x m d d' h h' = h.1 ∙ sym h'.1

function_one : (c : Env) (s : Bool) (d : Declr) (i : Option ud.Init) (x x' : Local) (f f' : Env) → IsFunctionHere c s d i x f → IsFunctionHere c s d i x' f' → (x ≡ x') × (f ≡ f')
function_one c s d i x x' f f' (a, h, q) (a', h', q') = (q ∙ sym q', h.1 ∙ sym h'.1)

extern_one : (c : Env) (d : Declr) (i : Option ud.Init) (x x' : Local) (f f' : Env) → IsExternHere c d i x f → IsExternHere c d i x' f' → (x ≡ x') × (f ≡ f')
extern_one c d i x x' f f' (a, h, q) (a', h', q') = (q ∙ sym q', h.1 ∙ sym h'.1)

abbrev pub with_statics : ℕ → Env → Env
with_statics n c = record c { statics = n }

abbrev one_auto : Env → Env
one_auto c = record c { autos = suc c.autos }

static_one : (c : Env) (d : Declr) (i : Option ud.Init) (x x' : Local) (f f' : Env) → IsStaticHere c d i x f → IsStaticHere c d i x' f' → (x ≡ x') × (f ≡ f')
static_one c d i x x' f f' (j, c1, c2, z, h, b, q, r) (j', c1', c2', z', h', b', q', r') =
    let p = declares_one c d.name (Thing (e.Static c.statics) d.ty) c1 c1' h h' in
    let p1 = begins_one c1 d.ty i j j' c2 c2' b (subst (λ y. Begins y d.ty i j' c2') (sym p) b') in
    (q ∙ ap (st.static_ d c.statics) p1.0 ∙ sym q', r ∙ ap (with_statics (suc c.statics)) p1.1 ∙ sym r')

auto_one : (c : Env) (l : ℕ) (d : Declr) (i : Option ud.Init) (x x' : Local) (f f' : Env) → IsAutoHere c l d i x f → IsAutoHere c l d i x' f' → (x ≡ x') × (f ≡ f')
auto_one c l d None x x' f f' (c1, z, h, q, r) (c1', z', h', q', r') =
    let p = declares_one c d.name (Thing (e.Local c.autos) d.ty) c1 c1' h h' in
    (q ∙ sym q', r ∙ ap one_auto p ∙ sym r')
auto_one c l d (Some a) x x' f f' (w, c1, z, h, b, q, r) (w', c1', z', h', b', q', r') =
    let p = declares_one c d.name (Thing (e.Local c.autos) d.ty) c1 c1' h h' in
    let p1 = auto_init_one c1 d.ty a w w' b (subst (λ y. IsAutoInit y d.ty a w') (sym p) b') in
    (q ∙ ap (st.auto_init d c.autos c.starts l) p1 ∙ sym q', r ∙ ap (λ y. past_init a (started 1 (one_auto y))) p ∙ sym r')

pub local_one : (b : Bool) (s : Option Storage) (c : Env) (l : ℕ) (d : Declr) (i : Option ud.Init) (x x' : Local) (f f' : Env) → IsLocalBy b s c l d i x f → IsLocalBy b s c l d i x' f' → (x ≡ x') × (f ≡ f')
local_one true s c l d i x x' f f' h h' = function_one c (is_static s) d i x x' f f' h h'
local_one false None c l d i x x' f f' h h' = auto_one c l d i x x' f f' h h'
local_one false (Some sg.Extern) c l d i x x' f f' h h' = extern_one c d i x x' f f' h h'
local_one false (Some sg.Static) c l d i x x' f f' h h' = static_one c d i x x' f f' h h'
local_one false (Some sg.Auto) c l d i x x' f f' h h' = auto_one c l d i x x' f f' h h'
local_one false (Some sg.Register) c l d i x x' f f' h h' = auto_one c l d i x x' f f' h h'

pub locals_one : (c : Env) (s : Option Storage) (base : CType) (is : List ud.Item) (xs xs' : List Local) (f f' : Env) → AreLocals c s base is xs f → AreLocals c s base is xs' f' → (xs ≡ xs') × (f ≡ f')
locals_one c s base [] xs xs' f f' h h' = (h.0 ∙ sym h'.0, h.1 ∙ sym h'.1)
locals_one c s base (i ∷ is) xs xs' f f' (d, x, rest, c1, hd, hx, hr, q) (d', x', rest', c1', hd', hx', hr', q') =
    let p = declr_one c (missing s i.init) base i.declr d d' hd hd' in
    let hx1 = subst (λ y. IsLocalBy (is_function y.ty) s (past_declr i.declr c) (declr_line i.declr) y i.init x' c1') (sym p) hx' in
    let p1 = local_one (is_function d.ty) s (past_declr i.declr c) (declr_line i.declr) d i.init x x' c1 c1' hx hx1 in
    let p2 = locals_one c1 s base is rest rest' f f' hr (subst (λ y. AreLocals y s base is rest' f') (sym p1.1) hr') in
    (q ∙ ap (λ y. y ∷ rest) p1.0 ∙ ap (λ y. x' ∷ y) p2.0 ∙ sym q', p2.1)

abbrev decl_of : List Local → LocalDecl
decl_of ls = record { items = ls }

pub decls_one : (c : Env) (ds : List ud.LocalDecl) (xs xs' : List LocalDecl) (f f' : Env) → AreDecls c ds xs f → AreDecls c ds xs' f' → (xs ≡ xs') × (f ≡ f')
decls_one c [] xs xs' f f' h h' = (h.0 ∙ sym h'.0, h.1 ∙ sym h'.1)
decls_one c (d ∷ ds) xs xs' f f' (base, ls, rest, c1, k, hl, hr, q) (base', ls', rest', c1', k', hl', hr', q') =
    let p = is_one (spec_or_int c d.specs.types) base base' k k' in
    let p1 = locals_one c d.specs.storage base d.items ls ls' c1 c1' hl (subst (λ y. AreLocals c d.specs.storage y d.items ls' c1') (sym p) hl') in
    let p2 = decls_one c1 ds rest rest' f f' hr (subst (λ y. AreDecls y ds rest' f') (sym p1.1) hr') in
    (q ∙ ap (λ y. decl_of y ∷ rest) p1.0 ∙ ap (λ y. decl_of ls' ∷ y) p2.0 ∙ sym q', p2.1)

maybe_one : (P : u.Expr → TExpr → Type 0) → ((a : u.Expr) (v v' : TExpr) → P a v → P a v' → v ≡ v') → (a : Option u.Expr) (v v' : Option TExpr) → Maybe P a v → Maybe P a v' → v ≡ v'
maybe_one P one None v v' h h' = h ∙ sym h'
maybe_one P one (Some a) v v' (w, h, q) (w', h', q') = q ∙ ap Some (one a w w' h h') ∙ sym q'

mutual
  pub stmt_one : (c : Env) (p : Place) (s : us.Stmt) (t t' : TStmt) (f f' : Env) → IsStmt c p s t f → IsStmt c p s t' f' → (t ≡ t') × (f ≡ f')
  stmt_one c p (us.expr l a) t t' f f' (v, h, q, r) (v', h', q', r') = (q ∙ ap (st.expr c.starts l) (gives_one used c a v v' h h') ∙ sym q', r ∙ sym r')
  stmt_one c p (us.empty l) t t' f f' h h' = (h.0 ∙ sym h'.0, h.1 ∙ sym h'.1)
  stmt_one c p (us.if_only l a s) t t' f f' (v, x, h, k, q) (v', x', h', k', q') =
      let e1 = gives_one (scalar 15) c a v v' h h' in
      let e2 = stmt_one (past a (started 1 c)) p s x x' f f' k k' in
      (q ∙ ap (λ y. st.if_only c.starts l y x) e1 ∙ ap (st.if_only c.starts l v') e2.0 ∙ sym q', e2.1)
  stmt_one c p (us.if_else l a s r) t t' f f' (v, x, y, c1, h, k, g, q) (v', x', y', c1', h', k', g', q') =
      let e1 = gives_one (scalar 15) c a v v' h h' in
      let e2 = stmt_one (past a (started 1 c)) p s x x' c1 c1' k k' in
      let e3 = stmt_one c1 p r y y' f f' g (subst (λ z. IsStmt z p r y' f') (sym e2.1) g') in
      (q ∙ ap (λ z. st.if_else c.starts l z x y) e1 ∙ ap (λ z. st.if_else c.starts l v' z y) e2.0 ∙ ap (st.if_else c.starts l v' x') e3.0 ∙ sym q', e3.1)
  stmt_one c p (us.while l a s) t t' f f' (v, x, h, k, q) (v', x', h', k', q') =
      let e1 = gives_one (scalar 15) c a v v' h h' in
      let e2 = stmt_one (past a (started 1 c)) (in_loop p) s x x' f f' k k' in
      (q ∙ ap (λ y. st.while_ c.starts l y x) e1 ∙ ap (st.while_ c.starts l v') e2.0 ∙ sym q', e2.1)
  stmt_one c p (us.do_while l s m a) t t' f f' (x, v, c1, k, h, q, r) (x', v', c1', k', h', q', r') =
      let e1 = stmt_one c (in_loop p) s x x' c1 c1' k k' in
      let e2 = gives_one (scalar 15) c1 a v v' h (subst (λ y. Gives (scalar 15) y a v') (sym e1.1) h') in
      (q ∙ ap (λ y. st.do_ y.starts m x v) e1.1 ∙ ap (λ y. st.do_ c1'.starts m y v) e1.0 ∙ ap (st.do_ c1'.starts m x') e2 ∙ sym q', r ∙ ap (λ y. past a (started 1 y)) e1.1 ∙ sym r')
  stmt_one c p (us.for l a b d s) t t' f f' (v1, v2, v3, x, h1, h2, h3, k, q) (w1, w2, w3, x', g1, g2, g3, k', q') =
      let e1 = maybe_one (Gives used c) (gives_one used c) a v1 w1 h1 g1 in
      let e2 = maybe_one (Gives (scalar 15) (past_option a c)) (gives_one (scalar 15) (past_option a c)) b v2 w2 h2 g2 in
      let e3 = maybe_one (Gives used (past_option b (past_option a c))) (gives_one used (past_option b (past_option a c))) d v3 w3 h3 g3 in
      let e4 = stmt_one (past_option d (past_option b (past_option a (started 3 c)))) (in_loop p) s x x' f f' k k' in (
        q ∙ ap (λ y. st.for_ c.starts l y v2 v3 x) e1 ∙ ap (λ y. st.for_ c.starts l w1 y v3 x) e2 ∙ ap (λ y. st.for_ c.starts l w1 w2 y x) e3 ∙ ap (st.for_ c.starts l w1 w2 w3) e4.0 ∙ sym q',
        e4.1,
      )
  stmt_one c p (us.switch l a is) t t' f f' (v, js, h, g, z, q) (v', js', h', g', z', q') =
      let e1 = gives_one (integer 24) c a v v' h h' in
      let e2 = items_one (past a (started 1 c)) (in_switch p) is js js' f f' g g' in
      (q ∙ ap (λ y. st.switch c.starts l y js) e1 ∙ ap (st.switch c.starts l v') e2.0 ∙ sym q', e2.1)
  stmt_one c p (us.break l) t t' f f' (g, q, r) (g', q', r') = (q ∙ sym q', r ∙ sym r')
  stmt_one c p (us.continue l) t t' f f' (g, q, r) (g', q', r') = (q ∙ sym q', r ∙ sym r')
  stmt_one c p (us.return l a) t t' f f' (v, h, q, r) (v', h', q', r') =
      (q ∙ ap (st.return_ c.starts l) (maybe_one (Gives (returned c p.result) c) (gives_one (returned c p.result) c) a v v' h h') ∙ sym q', r ∙ sym r')
  stmt_one c p (us.block l ds ss m) t t' f f' (xs, ys, c1, c2, h, k, q, r) (xs', ys', c1', c2', h', k', q', r') =
      let e1 = decls_one (enter c) ds xs xs' c1 c1' h h' in
      let e2 = stmts_one c1 p ss ys ys' c2 c2' k (subst (λ y. AreStmts y p ss ys' c2') (sym e1.1) k') in
      (q ∙ ap (λ y. st.block l y ys m) e1.0 ∙ ap (λ y. st.block l xs' y m) e2.0 ∙ sym q', r ∙ ap (leave c) e2.1 ∙ sym r')

  pub stmts_one : (c : Env) (p : Place) (ss : us.Stmts) (ys ys' : TStmts) (f f' : Env) → AreStmts c p ss ys f → AreStmts c p ss ys' f' → (ys ≡ ys') × (f ≡ f')
  stmts_one c p us.no_stmts ys ys' f f' h h' = (h.0 ∙ sym h'.0, h.1 ∙ sym h'.1)
  stmts_one c p (us.more_stmts s ss) ys ys' f f' (x, rest, c1, h, k, q) (x', rest', c1', h', k', q') =
      let e1 = stmt_one c p s x x' c1 c1' h h' in
      let e2 = stmts_one c1 p ss rest rest' f f' k (subst (λ y. AreStmts y p ss rest' f') (sym e1.1) k') in
      (q ∙ ap (λ y. st.more_stmts y rest) e1.0 ∙ ap (st.more_stmts x') e2.0 ∙ sym q', e2.1)

  pub items_one : (c : Env) (p : Place) (is : us.SwItems) (js js' : TItems) (f f' : Env) → AreItems c p is js f → AreItems c p is js' f' → (js ≡ js') × (f ≡ f')
  items_one c p us.no_items js js' f f' h h' = (h.0 ∙ sym h'.0, h.1 ∙ sym h'.1)
  items_one c p (us.more_items (us.case l a) is) js js' f f' (m, rest, h, k, q) (m', rest', h', k', q') =
      let e1 = gives_one (constant_of c) c a m m' h h' in
      let e2 = items_one (past a c) p is rest rest' f f' k k' in
      (q ∙ ap (λ y. st.case_ y.expr y.bits rest) e1 ∙ ap (st.case_ m'.expr m'.bits) e2.0 ∙ sym q', e2.1)
  items_one c p (us.more_items (us.default l) is) js js' f f' (rest, k, q) (rest', k', q') =
      let e1 = items_one c p is rest rest' f f' k k' in
      (q ∙ ap st.default_ e1.0 ∙ sym q', e1.1)
  items_one c p (us.more_items (us.stmt s) is) js js' f f' (x, rest, c1, h, k, q) (x', rest', c1', h', k', q') =
      let e1 = stmt_one c p s x x' c1 c1' h h' in
      let e2 = items_one c1 p is rest rest' f f' k (subst (λ y. AreItems y p is rest' f') (sym e1.1) k') in
      (q ∙ ap (λ y. st.more_items y rest) e1.0 ∙ ap (st.more_items x') e2.0 ∙ sym q', e2.1)
