-- Where an expression stands, at most one typed expression belongs to it.
use Rattle.std.proofs.Common.{◌≡◌, sym, ap, ◌∙◌}
use Rattle.c_tree.specs.TreeExpr.{Expr, Exprs, comma, assign, choice, binary, unary, size_of, size_of_type, cast, index, call, member, arrow, post, name, int, chr, text, no_exprs, more_exprs}
use Rattle.c_tree.specs.TExpr as e
use Rattle.c_tree.specs.TExpr.{TExpr, TArgs, type_of}
use Rattle.c_rule.specs.RuleScope.{Judged, Is, Fails, Env, past, meaning_of}
use Rattle.c_rule.specs.RuleTypes.{cast_type, sized_type}
use Rattle.c_rule.specs.RuleValues.{scalar}
use Rattle.c_rule.specs.RuleExprs as r
use Rattle.c_rule.specs.RuleTree.{IsExpr, IsCalled, AreArgs, Gives}

unwrapped : {A : Type 0} → A → Judged A → A
unwrapped a (Is b) = b
unwrapped a (Fails n) = a

-- a rule gives one value
pub is_one : {A : Type 0} (j : Judged A) (a b : A) → j ≡ Is a → j ≡ Is b → a ≡ b
unfolding unwrapped
is_one j a b p q = ap (unwrapped a) (sym p ∙ q)

pub one_of : {A B : Type 0} (F : A → Judged B) (x x' : A) (t t' : B) → x ≡ x' → F x ≡ Is t → F x' ≡ Is t' → t ≡ t'
one_of F x x' t t' p q q' = is_one (F x') t t' (ap F (sym p) ∙ q) q'

pub two_of : (F : TExpr → TExpr → Judged TExpr) (x x' y y' t t' : TExpr) → x ≡ x' → y ≡ y' → F x y ≡ Is t → F x' y' ≡ Is t' → t ≡ t'
two_of F x x' y y' t t' p p' q q' = is_one (F x' y') t t' (ap (λ z. F z y') (sym p) ∙ ap (F x) (sym p') ∙ q) q'

called_one : (c : Env) (f : Expr) (x x' : TExpr) → ((t t' : TExpr) → IsExpr c f t → IsExpr c f t' → t ≡ t') → IsCalled c f (IsExpr c f) x → IsCalled c f (IsExpr c f) x' → x ≡ x'
called_one c (name l y) x x' one h h' = is_one _ x x' h h'
called_one c _ x x' one h h' = one_of r.called h.0 h'.0 x x' (one h.0 h'.0 h.1 h'.1) h.2 h'.2

mutual
  pub expr_one : (c : Env) (a : Expr) (t t' : TExpr) → IsExpr c a t → IsExpr c a t' → t ≡ t'
  expr_one c (comma l a b) t t' (x, y, hx, hy, q) (x', y', hx', hy', q') =
      two_of r.comma x x' y y' t t' (expr_one c a x x' hx hx') (expr_one (past a c) b y y' hy hy') q q'
  expr_one c (assign l op a b) t t' (x, y, hx, hy, q) (x', y', hx', hy', q') =
      two_of (r.assignment c op) x x' y y' t t' (expr_one c a x x' hx hx') (expr_one (past a c) b y y' hy hy') q q'
  expr_one c (choice l a b d) t t' (x, y, z, hx, hy, hz, q) (x', y', z', hx', hy', hz', q') =
      let p = expr_one c a x x' hx hx' in
      let p1 = expr_one (past a c) b y y' hy hy' in
      let p2 = expr_one (past b (past a c)) d z z' hz hz' in
      is_one (r.choice c x' y' z') t t' (ap (λ w. r.choice c w y' z') (sym p) ∙ ap (λ w. r.choice c x w z') (sym p1) ∙ ap (r.choice c x y) (sym p2) ∙ q) q'
  expr_one c (binary l op a b) t t' (x, y, hx, hy, q) (x', y', hx', hy', q') =
      two_of (r.binary c op) x x' y y' t t' (expr_one c a x x' hx hx') (expr_one (past a c) b y y' hy hy') q q'
  expr_one c (unary l op a) t t' (x, hx, q) (x', hx', q') = one_of (r.unary c op) x x' t t' (expr_one c a x x' hx hx') q q'
  expr_one c (size_of l a) t t' (x, hx, q) (x', hx', q') = one_of (r.size_of c) x x' t t' (expr_one c a x x' hx hx') q q'
  expr_one c (size_of_type l y) t t' (s, hs, q) (s', hs', q') = q ∙ ap e.size_of_type (is_one (sized_type c y) s s' hs hs') ∙ sym q'
  expr_one c (cast l y a) t t' (s, x, hs, hx, q) (s', x', hs', hx', q') =
      let p = is_one (cast_type c y) s s' hs hs' in
      let p1 = expr_one c a x x' hx hx' in
      is_one (r.cast c s' x') t t' (ap (λ z. r.cast c z x') (sym p) ∙ ap (r.cast c s) (sym p1) ∙ q) q'
  expr_one c (index l a i) t t' (x, y, hx, hy, q) (x', y', hx', hy', q') =
      two_of (r.subscript c) x x' y y' t t' (expr_one c a x x' hx hx') (expr_one (past a c) i y y' hy hy') q q'
  expr_one c (call l f es) t t' (x, ys, hx, hys, q) (x', ys', hx', hys', q') =
      let p = called_one c f x x' (λ u u' h h'. expr_one c f u u' h h') hx hx' in
      let p1 = args_one (past f c) es ys ys' hys hys' in
      q ∙ ap (λ z. e.call (r.result_of (type_of z)) z ys) p ∙ ap (e.call (r.result_of (type_of x')) x') p1 ∙ sym q'
  expr_one c (member l a y) t t' (x, hx, q) (x', hx', q') = one_of (λ z. r.dot c z y) x x' t t' (expr_one c a x x' hx hx') q q'
  expr_one c (arrow l a y) t t' (x, hx, q) (x', hx', q') = one_of (λ z. r.arrow c z y) x x' t t' (expr_one c a x x' hx hx') q q'
  expr_one c (post l op a) t t' (x, hx, q) (x', hx', q') = one_of (r.step c (r.post_op op)) x x' t t' (expr_one c a x x' hx hx') q q'
  expr_one c (name l y) t t' h h' = is_one (r.as_expr (meaning_of c y)) t t' h h'
  expr_one c (int l n long) t t' h h' = h ∙ sym h'
  expr_one c (chr l n) t t' h h' = h ∙ sym h'
  expr_one c (text l bs) t t' h h' = h ∙ sym h'

  pub args_one : (c : Env) (es : Exprs) (ys ys' : TArgs) → AreArgs c es ys → AreArgs c es ys' → ys ≡ ys'
  args_one c no_exprs ys ys' h h' = h ∙ sym h'
  args_one c (more_exprs a es) ys ys' (x, v, vs, hx, q, hvs, p) (x', v', vs', hx', q', hvs', p') =
      let p2 = one_of (scalar 20) x x' v v' (expr_one c a x x' hx hx') q q' in
      let p3 = args_one (past a c) es vs vs' hvs hvs' in
      p ∙ ap (λ z. e.more_args z vs) p2 ∙ ap (e.more_args v') p3 ∙ sym p'

pub gives_one : {B : Type 0} (F : TExpr → Judged B) (c : Env) (a : Expr) (b b' : B) → Gives F c a b → Gives F c a b' → b ≡ b'
gives_one F c a b b' (x, h, q) (x', h', q') = one_of F x x' b b' (expr_one c a x x' h h') q q'
