-- A call in an expression: of a name, which is looked up as a function, or of another expression.
use Rattle.std.proofs.Common.{◌≡◌, ℕ, [], Result, OnOk, Option, Some, None, sym, ap, ◌∙◌, subst, Box, Global}
use Rattle.std.proofs.lemmas.Result.{on_ok_weaker}
use Rattle.c_type.specs.Names.{Name}
use Rattle.c_tree.specs.declared.expr.Expr as source
use Rattle.c_tree.specs.declared.typed_expr.TExpr as node
use Rattle.c_tree.specs.TExpr as e
use Rattle.c_tree.specs.TExpr.{TExpr}
use Rattle.c_tree.specs.TreeExpr as t
use Rattle.c_tree.specs.TreeExpr.{Expr, Exprs}
use Rattle.c_tree.specs.TreeOf as u
use Rattle.c_rule.specs.RuleExprs as r
use Rattle.c_rule.specs.RuleScope.{Judged, Is, onward, Env, met, past, meaning_of}
use Rattle.c_rule.specs.RuleTexts.{texts_in, texts_in_all}
use Rattle.c_scope.specs.declared.error.TypeErr.{TypeErr}
use Rattle.c_rule.specs.Judging.{judged_expr, judged_args}
use Rattle.c_scope.specs.Says.{Refused, Says}
use Rattle.c_operator.specs.Boxed.{boxed}
use Rattle.c_value.specs.Arguments.{name_in, judged_call}
use Rattle.c_value.proofs.Outcomes.{onward_refused, called_other, met_on, met_none}

-- the expression of a name with its line
abbrev named_by : Option (ℕ × Name) → Expr
named_by (Some q) = t.name q.0 q.1
named_by None = t.name 0 []

-- what has a name in it is that name
name_is : (p : Expr) (l : ℕ) (x : Name) → Some (l, x) ≡ name_in p → p ≡ t.name l x
name_is (t.name m y) l x h = sym (ap named_by h)
name_is _ l x h = absurd (cc)

-- the arguments behind what is called
abbrev pub with_args : Env → Exprs → TExpr → Judged TExpr
with_args c es x = onward (judged_args c es) (λ ys. Is (e.call (r.result_of (e.type_of x)) x ys))

module _ (l : ℕ) (c : Env) (e f v : source.Expr) (es : Exprs) (tree : u.expr_of e ≡ t.call l (u.expr_of v) es) (at_ : f ≡ v) where
  call_here : u.expr_of e ≡ t.call l (u.expr_of f) es
  call_here = tree ∙ ap (λ z. t.call l (u.expr_of z) es) (sym at_)

  module _ (m : ℕ) (x : Name) (is : Some (m, x) ≡ name_in (u.expr_of f)) where
    by_name : u.expr_of e ≡ t.call l (t.name m x) es
    by_name = call_here ∙ ap (λ p. t.call l p es) (name_is (u.expr_of f) m x is)

    name_here : judged_expr c (u.expr_of e) ≡ onward (onward (r.called_name c x (meaning_of c x)) r.called) (with_args c es)
    name_here = ap (judged_expr c) by_name ∙ ap (λ d. onward (onward (r.called_name c x (meaning_of c x)) r.called) (with_args d es)) (met_none c)

    pub named_judged : (y : TExpr) (o : Result (Box node.TExpr Global) TypeErr) → r.called_name c x (meaning_of c x) ≡ Is y → Says boxed (judged_call c y es) o → Says boxed (judged_expr c (u.expr_of e)) o
    named_judged y o k h = subst (λ z. Says boxed z o) (sym (name_here ∙ ap (λ j. onward (onward j r.called) (with_args c es)) k)) h

    pub named_refused : (w : TypeErr) → Refused (r.called_name c x (meaning_of c x)) w → Refused (judged_expr c (u.expr_of e)) w
    named_refused w h =
        subst (λ z. Refused z w) (sym name_here)
        (onward_refused (onward (r.called_name c x (meaning_of c x)) r.called) (with_args c es) w (onward_refused (r.called_name c x (meaning_of c x)) r.called w h))

    pub named_past : (d : Env) (o : Result (Box node.TExpr Global) TypeErr) → OnOk o (d ≡ met (texts_in_all es) c) → OnOk o (d ≡ past (u.expr_of e) c)
    named_past d o h = on_ok_weaker o (λ (k : d ≡ met (texts_in_all es) c). k ∙ ap (λ ts. met ts c) (sym (ap texts_in by_name))) h

  module _ (is : None ≡ name_in (u.expr_of f)) where
    other_here : judged_expr c (u.expr_of e) ≡ onward (onward (judged_expr c (u.expr_of f)) r.called) (with_args (past (u.expr_of f) c) es)
    other_here = ap (judged_expr c) call_here ∙ ap (λ j. onward j (with_args (past (u.expr_of f) c) es)) (called_other c (u.expr_of f) (judged_expr c (u.expr_of f)) (sym is))

    pub other_judged : (d : Env) (y : TExpr) (o : Result (Box node.TExpr Global) TypeErr) →
        judged_expr c (u.expr_of f) ≡ Is y → d ≡ past (u.expr_of f) c → Says boxed (judged_call d y es) o → Says boxed (judged_expr c (u.expr_of e)) o
    other_judged d y o k ed h =
        subst (λ z. Says boxed z o) (sym (other_here ∙ ap (λ j. onward (onward j r.called) (with_args (past (u.expr_of f) c) es)) k ∙ ap (λ q. judged_call q y es) (sym ed))) h

    pub other_refused : (w : TypeErr) → Refused (judged_expr c (u.expr_of f)) w → Refused (judged_expr c (u.expr_of e)) w
    other_refused w h =
        subst (λ z. Refused z w) (sym other_here)
        (onward_refused (onward (judged_expr c (u.expr_of f)) r.called) (with_args (past (u.expr_of f) c) es) w (onward_refused (judged_expr c (u.expr_of f)) r.called w h))

  pub other_past : (d g : Env) (o : Result (Box node.TExpr Global) TypeErr) → d ≡ past (u.expr_of f) c → OnOk o (g ≡ met (texts_in_all es) d) → OnOk o (g ≡ past (u.expr_of e) c)
  other_past d g o ed h =
      on_ok_weaker o (λ (k : g ≡ met (texts_in_all es) d). k ∙ ap (met (texts_in_all es)) ed ∙ met_on c (texts_in (u.expr_of f)) (texts_in_all es) ∙ ap (λ ts. met ts c) (sym (ap texts_in call_here))) h
