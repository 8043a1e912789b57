-- Which typed expression belongs to an expression: each operator's rule on the typed expressions of its parts.
use Rattle.std.specs.Prelude.{◌≡◌, suc, length}
use Rattle.c_type.specs.Kinds.{extend}
use Rattle.c_type.specs.declared.Kind.TheVariants.{Char, Int}
use Rattle.c_type.specs.Types.{CType, num, arr}
use Rattle.c_tree.specs.TreeExpr.{Expr, Exprs, comma, assign, choice, binary, unary, size_of, size_of_type, cast, index, call, member, arrow, post, name, int, chr, text, no_exprs, more_exprs}
use Rattle.c_tree.specs.TExpr as e
use Rattle.c_tree.specs.TExpr.{TExpr, TArgs, type_of}
use Rattle.c_rule.specs.RuleScope.{Judged, Is, onward, Env, past, meaning_of}
use Rattle.c_rule.specs.RuleTypes.{cast_type, sized_type}
use Rattle.c_rule.specs.RuleValues.{scalar}
use Rattle.c_rule.specs.RuleExprs as r

-- the called expression: a name that is not declared is a function, and any other is one by rule 20
abbrev pub IsCalled : Env → Expr → (TExpr → Type 0) → TExpr → Type 0
IsCalled c (name l y) Typed t = onward (r.called_name c y (meaning_of c y)) r.called ≡ Is t
IsCalled c f Typed t = (x : TExpr) × Typed x × (r.called x ≡ Is t)

-- t is the typed expression of an expression that is not yet used as a value; arguments are used as values, by rule 20
abbrev mutual
  pub IsExpr : Env → Expr → TExpr → Type 0
  IsExpr c (comma l a b) t = (x : TExpr) × (y : TExpr) × IsExpr c a x × IsExpr (past a c) b y × (r.comma x y ≡ Is t)
  IsExpr c (assign l op a b) t = (x : TExpr) × (y : TExpr) × IsExpr c a x × IsExpr (past a c) b y × (r.assignment c op x y ≡ Is t)
  IsExpr c (choice l a b d) t = (x : TExpr) × (y : TExpr) × (z : TExpr) × IsExpr c a x × IsExpr (past a c) b y × IsExpr (past b (past a c)) d z × (r.choice c x y z ≡ Is t)
  IsExpr c (binary l op a b) t = (x : TExpr) × (y : TExpr) × IsExpr c a x × IsExpr (past a c) b y × (r.binary c op x y ≡ Is t)
  IsExpr c (unary l op a) t = (x : TExpr) × IsExpr c a x × (r.unary c op x ≡ Is t)
  IsExpr c (size_of l a) t = (x : TExpr) × IsExpr c a x × (r.size_of c x ≡ Is t)
  IsExpr c (size_of_type l y) t = (s : CType) × (sized_type c y ≡ Is s) × (t ≡ e.size_of_type s)
  IsExpr c (cast l y a) t = (s : CType) × (x : TExpr) × (cast_type c y ≡ Is s) × IsExpr c a x × (r.cast c s x ≡ Is t)
  IsExpr c (index l a i) t = (x : TExpr) × (y : TExpr) × IsExpr c a x × IsExpr (past a c) i y × (r.subscript c x y ≡ Is t)
  IsExpr c (call l f es) t = (x : TExpr) × (ys : TArgs) × IsCalled c f (IsExpr c f) x × AreArgs (past f c) es ys × (t ≡ e.call (r.result_of (type_of x)) x ys)
  IsExpr c (member l a y) t = (x : TExpr) × IsExpr c a x × (r.dot c x y ≡ Is t)
  IsExpr c (arrow l a y) t = (x : TExpr) × IsExpr c a x × (r.arrow c x y ≡ Is t)
  IsExpr c (post l op a) t = (x : TExpr) × IsExpr c a x × (r.step c (r.post_op op) x ≡ Is t)
  IsExpr c (name l y) t = r.as_expr (meaning_of c y) ≡ Is t
  IsExpr c (int l n long) t = t ≡ e.int (num (r.kind_of_int n long)) n
  IsExpr c (chr l n) t = t ≡ e.int (num Int) (extend 128 n)
  IsExpr c (text l bs) t = t ≡ e.text (arr (suc (length bs)) (num Char)) (length c.texts)

  pub AreArgs : Env → Exprs → TArgs → Type 0
  AreArgs c no_exprs ys = ys ≡ e.no_args
  AreArgs c (more_exprs a es) ys = (x : TExpr) × (v : TExpr) × (vs : TArgs) × IsExpr c a x × (scalar 20 x ≡ Is v) × AreArgs (past a c) es vs × (ys ≡ e.more_args v vs)

-- a rule on typed expressions gives b for an expression
abbrev pub Gives : {B : Type 0} → (TExpr → Judged B) → Env → Expr → B → Type 0
Gives rule c a b = (x : TExpr) × IsExpr c a x × (rule x ≡ Is b)
