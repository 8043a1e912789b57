-- A `switch` is read from its parts.
use Rattle.std.proofs.Common.{◌≡◌, ℕ, ◌+◌, suc, List, length, Option, Some, None, Result, refl, arith, ap, ◌∙◌}
use Rattle.c_lex.specs.Tokens.{Token}
use Rattle.c_grammar.specs.Words.{open_brace, close_brace}
use Rattle.c_tree.specs.TreeExpr.{Expr}
use Rattle.c_tree.specs.TreeStmt as t
use Rattle.c_expr.specs.declared.error.ParseErr.{ParseErr}
use Rattle.c_expr.specs.Front.{Read, along, eat}
use Rattle.c_expr.proofs.Taken.{some_is}
use Rattle.c_decl.specs.Answers.{Gives}
use Rattle.c_decl.specs.declared.reader.Reader.{Reader}
use Rattle.c_parse.specs.ReadStmt as s
use Rattle.c_parse.specs.Words as w

abbrev placed : Option (List Token) → Expr → Read Expr
placed o v = along o (λ a. Some (v, a))

abbrev pub opened : Read Expr → Read Expr
opened o = along o (λ x. placed (eat open_brace x.1) x.0)

abbrev pub closed_by : ℕ → Expr → t.SwItems → Option (List Token) → Read t.Stmt
closed_by l e xs o = along o (λ b. Some (t.switch l e xs, b))

abbrev pub closed : ℕ → Expr → t.SwItems → List Token → Read t.Stmt
closed l e xs end = closed_by l e xs (eat close_brace end)

abbrev switch_from : (List Token → Read t.SwItems) → ℕ → Expr → Option (List Token) → Read t.Stmt
switch_from items l e o = along o (λ a. along (items a) (λ xs. closed l e xs.0 xs.1))

abbrev switched : Read Expr → (List Token → Read t.SwItems) → ℕ → Read t.Stmt
switched o items l = along o (λ e. switch_from items l e.0 (eat open_brace e.1))

switch_at : (o : Option (List Token)) (v : Expr) (items : List Token → Read t.SwItems) (l : ℕ) (e : Expr) (body : List Token) (xs : t.SwItems) (end : List Token) → placed o v ≡ Some (e, body)
    → items body ≡ Some (xs, end) → switch_from items l v o ≡ closed l e xs end
switch_at None v items l e body xs end head list = cc
switch_at (Some a) v items l e body xs end head list =
    let both = some_is head in
    let same : v ≡ e = ap (λ x. x.0) both in
    let place : a ≡ body = ap (λ x. x.1) both in
    rw (place, same, list) refl

switch_by : (o : Read Expr) (items : List Token → Read t.SwItems) (l : ℕ) (e : Expr) (body : List Token) (xs : t.SwItems) (end : List Token) → opened o ≡ Some (e, body)
    → items body ≡ Some (xs, end) → switched o items l ≡ closed l e xs end
switch_by None items l e body xs end head list = cc
switch_by (Some x) items l e body xs end head list = switch_at (eat open_brace x.1) x.0 items l e body xs end head list

pub gives_same : {X Y : Type 0} (view : X → Y) (result : Result X ParseErr) (a b : Option Y) → a ≡ b → Gives view result a → Gives view result b
gives_same view result a b is given = rw (← is) given

pub switch_read : (r : Reader) (n l : ℕ) (ts body end : List Token) (e : Expr) (xs : t.SwItems) → opened (w.test r ts) ≡ Some (e, body)
    → w.items r n (length body + 1) body ≡ Some (xs, end) → w.behind r n l s.switch ts ≡ closed l e xs end
switch_read r n l ts body end e xs head items =
    let count : suc (length body) ≡ length body + 1 = omega arith in
    let list = ap (λ k. w.items r n k body) count ∙ items in
    switch_by (w.test r ts) (λ x. w.items r n (suc (length x)) x) l e body xs end head list
