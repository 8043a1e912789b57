-- The outcome of a production from those of its parts, as the code comes to them.
use Rattle.std.proofs.Common.{◌≡◌, ℕ, List, [], ◌++◌, Result, OnOk, refl, sym, ap, ◌∙◌, subst, Box, Global}
use Rattle.c_type.specs.Types.{CType}
use Rattle.c_tree.specs.declared.expr.Expr as source
use Rattle.c_tree.specs.declared.typed_expr.TExpr as node
use Rattle.c_tree.specs.TExpr.{TExpr}
use Rattle.c_tree.specs.TreeExpr as t
use Rattle.c_tree.specs.TreeExpr.{Expr, TypeName}
use Rattle.c_tree.specs.declared.expr.AssignOp.{AssignOp}
use Rattle.c_tree.specs.declared.expr.BinaryOp.{BinaryOp}
use Rattle.c_tree.specs.declared.expr.UnaryOp.{UnaryOp}
use Rattle.c_tree.specs.declared.expr.StepOp.{StepOp}
use Rattle.c_tree.specs.TreeOf as u
use Rattle.c_rule.specs.RuleExprs as r
use Rattle.c_rule.specs.RuleScope.{Judged, Is, onward, Env, met, past}
use Rattle.c_rule.specs.RuleTexts.{texts_in}
use Rattle.c_rule.specs.RuleTypes.{cast_type}
use Rattle.c_scope.specs.declared.error.TypeErr.{TypeErr}
use Rattle.c_rule.specs.Judging.{judged_expr}
use Rattle.c_scope.specs.Says.{Refused, Says}
use Rattle.c_operator.specs.Boxed.{boxed}
use Rattle.c_value.proofs.Outcomes.{onward_refused, one_says, two_says, second_refused, three_says, third_refused, met_on, met_none, on_ok}

-- a production of one part, with its rule
abbrev pub RulesOne : (Expr → Expr) → (Env → TExpr → Judged TExpr) → Type 0
RulesOne make f = (c : Env) (p : Expr) → judged_expr c (make p) ≡ onward (judged_expr c p) (f (past p c))

-- a production of two parts, with its rule
abbrev pub RulesTwo : (Expr → Expr → Expr) → (Env → TExpr → TExpr → Judged TExpr) → Type 0
RulesTwo make f = (c : Env) (p q : Expr) → judged_expr c (make p q) ≡ onward (judged_expr c p) (λ x. onward (judged_expr (past p c) q) (f (past q (past p c)) x))

pub rules_comma : (l : ℕ) → RulesTwo (t.comma l) (λ c. r.comma)
rules_comma l c p q = refl

pub rules_assign : (l : ℕ) (op : AssignOp) → RulesTwo (t.assign l op) (λ c. r.assignment c op)
rules_assign l op c p q = refl

pub rules_binary : (l : ℕ) (op : BinaryOp) → RulesTwo (t.binary l op) (λ c. r.binary c op)
rules_binary l op c p q = refl

pub rules_index : (l : ℕ) → RulesTwo (t.index l) r.subscript
rules_index l c p q = refl

pub rules_unary : (l : ℕ) (op : UnaryOp) → RulesOne (t.unary l op) (λ c. r.unary c op)
rules_unary l op c p = refl

pub rules_size_of : (l : ℕ) → RulesOne (t.size_of l) r.size_of
rules_size_of l c p = refl

pub rules_member : (l : ℕ) (y : List ℕ) → RulesOne (λ p. t.member l p y) (λ c x. r.dot c x y)
rules_member l y c p = refl

pub rules_arrow : (l : ℕ) (y : List ℕ) → RulesOne (λ p. t.arrow l p y) (λ c x. r.arrow c x y)
rules_arrow l y c p = refl

pub rules_post : (l : ℕ) (op : StepOp) → RulesOne (t.post l op) (λ c. r.step c (r.post_op op))
rules_post l op c p = refl

module _ (make : Expr → Expr) (f : Env → TExpr → Judged TExpr) (rules : RulesOne make f) (c : Env) (e s v : source.Expr) (tree : u.expr_of e ≡ make (u.expr_of v)) (at_ : s ≡ v) where
  here : judged_expr c (u.expr_of e) ≡ onward (judged_expr c (u.expr_of s)) (f (past (u.expr_of s) c))
  here = ap (judged_expr c) (tree ∙ ap (λ z. make (u.expr_of z)) (sym at_)) ∙ rules c (u.expr_of s)

  pub one_judged : (d : Env) (x : TExpr) (o : Result (Box node.TExpr Global) TypeErr) →
      judged_expr c (u.expr_of s) ≡ Is x → d ≡ past (u.expr_of s) c → Says boxed (f d x) o → Says boxed (judged_expr c (u.expr_of e)) o
  one_judged d x o j ed h = subst (λ k. Says boxed k o) (sym here) (one_says c d (u.expr_of s) f o x j ed h)

  pub one_refused : (w : TypeErr) → Refused (judged_expr c (u.expr_of s)) w → Refused (judged_expr c (u.expr_of e)) w
  one_refused w h = subst (λ k. Refused k w) (sym here) (onward_refused (judged_expr c (u.expr_of s)) (f (past (u.expr_of s) c)) w h)

  pub one_past : (texts : (p : Expr) → texts_in (make p) ≡ texts_in p) (d : Env) (o : Result (Box node.TExpr Global) TypeErr) → d ≡ past (u.expr_of s) c → OnOk o (d ≡ past (u.expr_of e) c)
  one_past texts d o ed = on_ok o (d ≡ past (u.expr_of e) c) (ed ∙ ap (λ z. past (u.expr_of z) c) at_ ∙ ap (λ ts. met ts c) (sym (ap texts_in tree ∙ texts (u.expr_of v))))

module _ (make : Expr → Expr → Expr) (f : Env → TExpr → TExpr → Judged TExpr) (rules : RulesTwo make f) (c : Env) (e s1 s2 v1 v2 : source.Expr)
    (tree : u.expr_of e ≡ make (u.expr_of v1) (u.expr_of v2)) (at1 : s1 ≡ v1) (at2 : s2 ≡ v2) where
  tree_here : u.expr_of e ≡ make (u.expr_of s1) (u.expr_of s2)
  tree_here = tree ∙ ap (λ z. make (u.expr_of z) (u.expr_of v2)) (sym at1) ∙ ap (λ z. make (u.expr_of s1) (u.expr_of z)) (sym at2)

  both_here : judged_expr c (u.expr_of e) ≡ onward (judged_expr c (u.expr_of s1)) (λ x. onward (judged_expr (past (u.expr_of s1) c) (u.expr_of s2)) (f (past (u.expr_of s2) (past (u.expr_of s1) c)) x))
  both_here = ap (judged_expr c) tree_here ∙ rules c (u.expr_of s1) (u.expr_of s2)

  pub two_judged : (d g : Env) (x y : TExpr) (o : Result (Box node.TExpr Global) TypeErr) →
      judged_expr c (u.expr_of s1) ≡ Is x → d ≡ past (u.expr_of s1) c → judged_expr d (u.expr_of s2) ≡ Is y → g ≡ past (u.expr_of s2) d →
      Says boxed (f g x y) o → Says boxed (judged_expr c (u.expr_of e)) o
  two_judged d g x y o j ed k eg h = subst (λ z. Says boxed z o) (sym both_here) (two_says c d g (u.expr_of s1) (u.expr_of s2) f o x y j ed k eg h)

  pub two_first : (w : TypeErr) → Refused (judged_expr c (u.expr_of s1)) w → Refused (judged_expr c (u.expr_of e)) w
  two_first w h =
      subst (λ z. Refused z w) (sym both_here)
      (onward_refused (judged_expr c (u.expr_of s1)) (λ x. onward (judged_expr (past (u.expr_of s1) c) (u.expr_of s2)) (f (past (u.expr_of s2) (past (u.expr_of s1) c)) x)) w h)

  pub two_second : (d : Env) (x : TExpr) (w : TypeErr) →
      judged_expr c (u.expr_of s1) ≡ Is x → d ≡ past (u.expr_of s1) c → Refused (judged_expr d (u.expr_of s2)) w → Refused (judged_expr c (u.expr_of e)) w
  two_second d x w j ed h =
      subst (λ z. Refused z w) (sym both_here) (second_refused c d (u.expr_of s1) (u.expr_of s2) (f (past (u.expr_of s2) (past (u.expr_of s1) c))) x w j ed h)

  pub two_past : (texts : (p q : Expr) → texts_in (make p q) ≡ texts_in p ++ texts_in q) (d g : Env) (o : Result (Box node.TExpr Global) TypeErr) →
      d ≡ past (u.expr_of s1) c → g ≡ past (u.expr_of s2) d → OnOk o (g ≡ past (u.expr_of e) c)
  two_past texts d g o ed eg =
      on_ok o (g ≡ past (u.expr_of e) c)
      (eg ∙ ap (past (u.expr_of s2)) ed ∙ met_on c (texts_in (u.expr_of s1)) (texts_in (u.expr_of s2)) ∙ ap (λ ts. met ts c) (sym (ap texts_in tree_here ∙ texts (u.expr_of s1) (u.expr_of s2))))

-- a production of no part
pub leaf_judged : (c : Env) (e : source.Expr) (p : Expr) (o : Result (Box node.TExpr Global) TypeErr) → u.expr_of e ≡ p → Says boxed (judged_expr c p) o → Says boxed (judged_expr c (u.expr_of e)) o
leaf_judged c e p o tree h = subst (λ z. Says boxed (judged_expr c z) o) (sym tree) h

pub leaf_refused : (c : Env) (e : source.Expr) (p : Expr) (w : TypeErr) → u.expr_of e ≡ p → Refused (judged_expr c p) w → Refused (judged_expr c (u.expr_of e)) w
leaf_refused c e p w tree h = subst (λ z. Refused (judged_expr c z) w) (sym tree) h

pub leaf_past : (c : Env) (e : source.Expr) (p : Expr) (o : Result (Box node.TExpr Global) TypeErr) → u.expr_of e ≡ p → texts_in p ≡ [] → OnOk o (c ≡ past (u.expr_of e) c)
leaf_past c e p o tree none = on_ok o (c ≡ past (u.expr_of e) c) (sym (met_none c) ∙ ap (λ ts. met ts c) (sym (ap texts_in tree ∙ none)))

-- a cast, whose type is judged before its part
module _ (l : ℕ) (n : TypeName) (c : Env) (e s v : source.Expr) (tree : u.expr_of e ≡ t.cast l n (u.expr_of v)) (at_ : s ≡ v) where
  cast_here : judged_expr c (u.expr_of e) ≡ onward (cast_type c n) (λ y. onward (judged_expr c (u.expr_of s)) (r.cast c y))
  cast_here = ap (judged_expr c) (tree ∙ ap (λ z. t.cast l n (u.expr_of z)) (sym at_))

  typed_here : (y : CType) → cast_type c n ≡ Is y → judged_expr c (u.expr_of e) ≡ onward (judged_expr c (u.expr_of s)) (r.cast c y)
  typed_here y k = cast_here ∙ ap (λ j. onward j (λ y. onward (judged_expr c (u.expr_of s)) (r.cast c y))) k

  pub cast_judged : (d : Env) (y : CType) (x : TExpr) (o : Result (Box node.TExpr Global) TypeErr) →
      cast_type c n ≡ Is y → judged_expr c (u.expr_of s) ≡ Is x → d ≡ past (u.expr_of s) c → Says boxed (r.cast d y x) o → Says boxed (judged_expr c (u.expr_of e)) o
  cast_judged d y x o k j ed h = subst (λ z. Says boxed z o) (sym (typed_here y k)) (one_says c d (u.expr_of s) (λ q. r.cast q y) o x j ed h)

  pub cast_untyped : (w : TypeErr) → Refused (cast_type c n) w → Refused (judged_expr c (u.expr_of e)) w
  cast_untyped w h = subst (λ z. Refused z w) (sym cast_here) (onward_refused (cast_type c n) (λ y. onward (judged_expr c (u.expr_of s)) (r.cast c y)) w h)

  pub cast_refused : (y : CType) (w : TypeErr) → cast_type c n ≡ Is y → Refused (judged_expr c (u.expr_of s)) w → Refused (judged_expr c (u.expr_of e)) w
  cast_refused y w k h = subst (λ z. Refused z w) (sym (typed_here y k)) (onward_refused (judged_expr c (u.expr_of s)) (r.cast c y) w h)

  pub cast_past : (d : Env) (o : Result (Box node.TExpr Global) TypeErr) → d ≡ past (u.expr_of s) c → OnOk o (d ≡ past (u.expr_of e) c)
  cast_past d o ed = on_ok o (d ≡ past (u.expr_of e) c) (ed ∙ ap (λ z. past (u.expr_of z) c) at_ ∙ ap (λ ts. met ts c) (sym (ap texts_in tree)))

-- a choice, of three parts
module _ (l : ℕ) (c : Env) (e s1 s2 s3 v1 v2 v3 : source.Expr) (tree : u.expr_of e ≡ t.choice l (u.expr_of v1) (u.expr_of v2) (u.expr_of v3)) (at1 : s1 ≡ v1) (at2 : s2 ≡ v2) (at3 : s3 ≡ v3) where
  choice_tree : u.expr_of e ≡ t.choice l (u.expr_of s1) (u.expr_of s2) (u.expr_of s3)
  choice_tree =
      tree ∙ ap (λ z. t.choice l (u.expr_of z) (u.expr_of v2) (u.expr_of v3)) (sym at1) ∙ ap (λ z. t.choice l (u.expr_of s1) (u.expr_of z) (u.expr_of v3)) (sym at2)
      ∙ ap (λ z. t.choice l (u.expr_of s1) (u.expr_of s2) (u.expr_of z)) (sym at3)

  abbrev third : TExpr → TExpr → Judged TExpr
  third x y = onward (judged_expr (past (u.expr_of s2) (past (u.expr_of s1) c)) (u.expr_of s3)) (r.choice c x y)

  abbrev behind_test : TExpr → Judged TExpr
  behind_test x = onward (judged_expr (past (u.expr_of s1) c) (u.expr_of s2)) (third x)

  choice_here : judged_expr c (u.expr_of e) ≡ onward (judged_expr c (u.expr_of s1)) behind_test
  choice_here = ap (judged_expr c) choice_tree

  pub choice_judged : (d g q : Env) (x y z : TExpr) (o : Result (Box node.TExpr Global) TypeErr) →
      judged_expr c (u.expr_of s1) ≡ Is x → d ≡ past (u.expr_of s1) c → judged_expr d (u.expr_of s2) ≡ Is y → g ≡ past (u.expr_of s2) d →
      judged_expr g (u.expr_of s3) ≡ Is z → q ≡ past (u.expr_of s3) g → Says boxed (r.choice q x y z) o → Says boxed (judged_expr c (u.expr_of e)) o
  choice_judged d g q x y z o j ed k eg m eq h =
      subst (λ w. Says boxed w o) (sym choice_here) (three_says c d g q (u.expr_of s1) (u.expr_of s2) (u.expr_of s3) r.choice o x y z j ed k eg m eq h)

  pub choice_first : (w : TypeErr) → Refused (judged_expr c (u.expr_of s1)) w → Refused (judged_expr c (u.expr_of e)) w
  choice_first w h = subst (λ z. Refused z w) (sym choice_here) (onward_refused (judged_expr c (u.expr_of s1)) behind_test w h)

  pub choice_second : (d : Env) (x : TExpr) (w : TypeErr) →
      judged_expr c (u.expr_of s1) ≡ Is x → d ≡ past (u.expr_of s1) c → Refused (judged_expr d (u.expr_of s2)) w → Refused (judged_expr c (u.expr_of e)) w
  choice_second d x w j ed h = subst (λ z. Refused z w) (sym choice_here) (second_refused c d (u.expr_of s1) (u.expr_of s2) third x w j ed h)

  pub choice_third : (d g : Env) (x y : TExpr) (w : TypeErr) →
      judged_expr c (u.expr_of s1) ≡ Is x → d ≡ past (u.expr_of s1) c → judged_expr d (u.expr_of s2) ≡ Is y → g ≡ past (u.expr_of s2) d →
      Refused (judged_expr g (u.expr_of s3)) w → Refused (judged_expr c (u.expr_of e)) w
  choice_third d g x y w j ed k eg h =
      subst (λ z. Refused z w) (sym choice_here) (third_refused c d g (u.expr_of s1) (u.expr_of s2) (u.expr_of s3) (r.choice c) x y w j ed k eg h)

  pub choice_past : (d g q : Env) (o : Result (Box node.TExpr Global) TypeErr) → d ≡ past (u.expr_of s1) c → g ≡ past (u.expr_of s2) d → q ≡ past (u.expr_of s3) g → OnOk o (q ≡ past (u.expr_of e) c)
  choice_past d g q o ed eg eq =
      on_ok o (q ≡ past (u.expr_of e) c)
      (eq ∙ ap (past (u.expr_of s3)) (eg ∙ ap (past (u.expr_of s2)) ed) ∙ met_on (past (u.expr_of s1) c) (texts_in (u.expr_of s2)) (texts_in (u.expr_of s3))
      ∙ met_on c (texts_in (u.expr_of s1)) (texts_in (u.expr_of s2) ++ texts_in (u.expr_of s3)) ∙ ap (λ ts. met ts c) (sym (ap texts_in choice_tree)))
