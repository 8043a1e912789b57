-- Statements and the parts of switches, by the outcomes of their parts.
use Rattle.std.proofs.Common.{◌≡◌, ℕ, ◌≤◌, List, [], ◌∷◌, Option, Some, None, true, drop, length, map, refl, sym, ap, ◌∙◌, Vec, Global}
use Rattle.std.proofs.lemmas.List.{drop_all}
use mathlib.Core.Former.{Count}
use Rattle.c_tree.specs.declared.expr.Expr.{Expr as RustExpr}
use Rattle.c_tree.specs.declared.stmt.Stmt as source
use Rattle.c_tree.specs.declared.stmt.Stmt.{Stmt}
use Rattle.c_tree.specs.declared.stmt.SwItem.{SwItem}
use Rattle.c_tree.specs.declared.stmt.Block.{Block}
use Rattle.c_tree.specs.declared.typed_expr.TExpr.{TExpr as RustTExpr}
use Rattle.c_tree.specs.declared.typed_stmt.TStmt as d
use Rattle.c_tree.specs.declared.typed_stmt.TStmt.{TStmt as RustTStmt}
use Rattle.c_tree.specs.declared.typed_stmt.TBlock.{TBlock}
use Rattle.c_tree.specs.declared.typed_stmt.TSwItem.{TSwItem}
use Rattle.c_tree.specs.TreeExpr.{Expr}
use Rattle.c_tree.specs.TreeStmt as us
use Rattle.c_tree.specs.TreeOf as u
use Rattle.c_tree.proofs.Of.{stmt_of-Switch, stmt_of-Block}
use Rattle.c_tree.specs.TExpr.{TExpr}
use Rattle.c_tree.specs.TStmt as st
use Rattle.c_tree.specs.TStmt.{TStmts, TItems, more_stmts}
use Rattle.c_tree.specs.TypedOf.{expr_of, stmt_of, stmts_of, stmts_from, item_of, items_of, items_from, local_decl_of}
use Rattle.c_rule.specs.RuleScope.{Judged, Is, onward, provided, Env, past, past_option, started}
use Rattle.c_rule.specs.RuleValues.{used, scalar, integer, value_for}
use Rattle.c_rule.specs.RuleDecls.{constant_of}
use Rattle.c_rule.specs.RuleStmts.{Place, in_loop, in_switch, labels_differ}
use Rattle.c_scope.specs.declared.error.TypeErr.{TypeErr}
use Rattle.c_scope.specs.declared.error.TypeErr.TheVariants.{Rule, Memory}
use Rattle.c_rule.specs.Judging.{Behind, behind, judged_by, judged_option, judged_stmt, judged_stmts, judged_items}
use Rattle.c_scope.specs.Says.{Refused}
use Rattle.c_block.specs.SwitchParts as sp
use Rattle.c_block.specs.SwitchParts.{Part, put, part_of, judged_part}
use Rattle.c_local.proofs.Lists.{onto, front, given, body_refused}

-- the trees of statements that hold a `Vec` of trees, from the lists of their parts

stmts_are : (n : _) (row : d.TheBlock.Row_of-TStmt n) → stmts_of row ≡ stmts_from (d.TheBlock.items-the_row-TStmt n row)
stmts_are n d.TheBlock.end_of-TStmt = refl
stmts_are n (d.TheBlock.more_of-TStmt s row) = ap (λ x. more_stmts (stmt_of s) x) (stmts_are _ row)

items_are : (n : _) (row : d.TheBlock.Row_of-TSwItem n) → items_of row ≡ items_from (d.TheBlock.items-the_row-TSwItem n row)
items_are n d.TheBlock.end_of-TSwItem = refl
items_are n (d.TheBlock.more_of-TSwItem i row) = ap (item_of i) (items_are _ row)

abbrev items_in : RustTStmt → (n : Count) × d.TheBlock.Row_of-TSwItem n
items_in (d.TheBlock.Switch' k l e n row) = (_, row)
items_in _ = (_, d.TheBlock.end_of-TSwItem)

abbrev stmts_in : RustTStmt → (n : Count) × d.TheBlock.Row_of-TStmt n
stmts_in (d.TheBlock.Block' line ds n row close_line) = (_, row)
stmts_in _ = (_, d.TheBlock.end_of-TStmt)

pub switch_is : (k l : ℕ) (e : RustTExpr) (is : Vec TSwItem Global) → stmt_of (d.TheVariants.Switch k l e is) ≡ st.switch k l (expr_of e) (items_from is.items)
switch_is k l e is =
    let row = items_in (d.TheVariants.Switch k l e is) in
    ap (st.switch k l (expr_of e)) (items_are row.0 row.1 ∙ ap items_from (d.TheBlock.items_hidden-the_row-TSwItem-0 is))

pub block_is : (b : TBlock) → stmt_of (d.TheVariants.Block b) ≡ st.block b.line (map local_decl_of b.locals.items) (stmts_from b.stmts.items) b.close_line
block_is b =
    let row = stmts_in (d.TheVariants.Block b) in
    ap (λ x. st.block b.line (map local_decl_of b.locals.items) x b.close_line) (stmts_are row.0 row.1 ∙ ap stmts_from (d.TheBlock.items_hidden-the_row-TStmt-1 b.stmts))

pub source_switch : (s : Stmt) (l : ℕ) (e : RustExpr) (is : Vec SwItem Global) → s ≡ source.Switch l e is → u.stmt_of s ≡ us.switch l (u.expr_of e) (u.sw_items_from is.items)
source_switch s l e is q = ap u.stmt_of q ∙ stmt_of-Switch l e is

pub source_block : (s : Stmt) (b : Block) → s ≡ source.Block b → u.stmt_of s ≡ us.block b.line (map u.local_of b.decls.items) (u.stmts_from b.stmts.items) b.close_line
source_block s b q = ap u.stmt_of q ∙ stmt_of-Block b

-- lists of statements

pub stmt_row : (c : Env) (p : Place) (s : Stmt) (ss more : List Stmt) → ss ≡ s ∷ more →
    judged_stmts c p (u.stmts_from ss) ≡ front more_stmts (judged_stmt c p (u.stmt_of s)) (λ e. judged_stmts e p (u.stmts_from more))
stmt_row c p s ss more q = ap (λ l. judged_stmts c p (u.stmts_from l)) q

pub stmts_end : (c : Env) (p : Place) (ss : List Stmt) (k : ℕ) → length ss ≤ k → judged_stmts c p (u.stmts_from (drop k ss)) ≡ behind st.no_stmts c
stmts_end c p ss k le = ap (λ l. judged_stmts c p (u.stmts_from l)) (drop_all k ss le)

pub onto_stmts : (ss : List RustTStmt) → onto (λ s r. more_stmts (stmt_of s) r) ss st.no_stmts ≡ stmts_from ss
onto_stmts [] = refl
onto_stmts (s ∷ ss) = ap (more_stmts (stmt_of s)) (onto_stmts ss)

-- the parts of a switch

first_part : (c : Env) (p : Place) (i : us.SwItem) (is : us.SwItems) → judged_items c p (us.more_items i is) ≡ front put (judged_part c p i) (λ e. judged_items e p is)
first_part c p (us.case l a) is =
    sym (given {C = Behind Part} {D = Behind TItems} (judged_by (constant_of c) c a) (λ k. record { tree = sp.case_ k.expr k.bits; env = past a c }) (λ y. onward (judged_items y.env p is) (λ r. behind (put y.tree r.tree) r.env)))
first_part c p (us.default l) is = refl
first_part c p (us.stmt s) is =
    sym (given {C = Behind Part} {D = Behind TItems} (judged_stmt c p s) (λ x. record { tree = sp.stmt x.tree; env = x.env }) (λ y. onward (judged_items y.env p is) (λ r. behind (put y.tree r.tree) r.env)))

pub part_row : (c : Env) (p : Place) (i : SwItem) (is more : List SwItem) → is ≡ i ∷ more →
    judged_items c p (u.sw_items_from is) ≡ front put (judged_part c p (u.sw_item_of i)) (λ e. judged_items e p (u.sw_items_from more))
part_row c p i is more q = ap (λ l. judged_items c p (u.sw_items_from l)) q ∙ first_part c p (u.sw_item_of i) (u.sw_items_from more)

pub parts_end : (c : Env) (p : Place) (is : List SwItem) (k : ℕ) → length is ≤ k → judged_items c p (u.sw_items_from (drop k is)) ≡ behind st.no_items c
parts_end c p is k le = ap (λ l. judged_items c p (u.sw_items_from l)) (drop_all k is le)

put_part : (i : TSwItem) (r : TItems) → put (part_of i) r ≡ item_of i r
put_part (d.TheBlock.Case a n) r = refl
put_part d.TheBlock.Default r = refl
put_part (d.TheBlock.Stmt s) r = refl

pub onto_items : (is : List TSwItem) → onto (λ i r. put (part_of i) r) is st.no_items ≡ items_from is
onto_items [] = refl
onto_items (i ∷ is) = ap (put (part_of i)) (onto_items is) ∙ put_part i (items_from is)

-- loops with three parts, and returns: their texts and their starts are counted in either order

option_started : (a : Option Expr) (n : ℕ) (c : Env) → started n (past_option a c) ≡ past_option a (started n c)
option_started None n c = refl
option_started (Some a) n c = refl

module _ (c c1 c2 c3 c4 : Env) (p : Place) (l : ℕ) (a b g : Option Expr) (s : us.Stmt) (v1 v2 v3 : Option TExpr) where
  pub for_row : judged_option used c a ≡ Is v1 → c1 ≡ past_option a c → judged_option (scalar 15) c1 b ≡ Is v2 → c2 ≡ past_option b c1 → judged_option used c2 g ≡ Is v3 →
      c3 ≡ past_option g c2 → c4 ≡ started 3 c3 →
      judged_stmt c p (us.for l a b g s) ≡ onward (judged_stmt c4 (in_loop p) s) (λ x. behind (st.for_ c.starts l v1 v2 v3 x.tree) x.env)
  for_row j1 e1 j2 e2 j3 e3 e4 =
      let q2 : c2 ≡ past_option b (past_option a c) = e2 ∙ ap (past_option b) e1 in
      let q4 : c4 ≡ past_option g (past_option b (past_option a (started 3 c))) =
      e4 ∙ ap (started 3) (e3 ∙ ap (past_option g) q2) ∙ option_started g 3 (past_option b (past_option a c)) ∙ ap (past_option g) (option_started b 3 (past_option a c)) ∙
      ap (λ e. past_option g (past_option b e)) (option_started a 3 c) in
      let k2 : judged_option (scalar 15) (past_option a c) b ≡ Is v2 = ap (λ e. judged_option (scalar 15) e b) (sym e1) ∙ j2 in
      let k3 : judged_option used (past_option b (past_option a c)) g ≡ Is v3 = ap (λ e. judged_option used e g) (sym q2) ∙ j3 in
      ap (λ j. onward j (λ w1. onward (judged_option (scalar 15) (past_option a c) b) (λ w2. onward (judged_option used (past_option b (past_option a c)) g) (λ w3.
      onward (judged_stmt (past_option g (past_option b (past_option a (started 3 c)))) (in_loop p) s) (λ x. behind (st.for_ c.starts l w1 w2 w3 x.tree) x.env))))) j1 ∙
      ap (λ j. onward j (λ w2. onward (judged_option used (past_option b (past_option a c)) g) (λ w3.
      onward (judged_stmt (past_option g (past_option b (past_option a (started 3 c)))) (in_loop p) s) (λ x. behind (st.for_ c.starts l v1 w2 w3 x.tree) x.env)))) k2 ∙
      ap (λ j. onward j (λ w3. onward (judged_stmt (past_option g (past_option b (past_option a (started 3 c)))) (in_loop p) s) (λ x. behind (st.for_ c.starts l v1 v2 w3 x.tree) x.env))) k3 ∙
      ap (λ e. onward (judged_stmt e (in_loop p) s) (λ x. behind (st.for_ c.starts l v1 v2 v3 x.tree) x.env)) (sym q4)

pub body_says : {A B : Type 0} (whole : Judged (Behind A)) (j : Judged (Behind B)) (f : B → A) (x : B) (e : Env) → whole ≡ onward j (λ r. behind (f r.tree) r.env) → j ≡ behind x e → whole ≡ behind (f x) e
body_says whole j f x e p q = p ∙ ap (λ k. onward k (λ r. behind (f r.tree) r.env)) q

pub return_row : (c d e : Env) (p : Place) (l : ℕ) (a : Option Expr) (v : Option TExpr) → judged_option (value_for 23 c p.result) c a ≡ Is v → d ≡ past_option a c → e ≡ started 1 d →
    judged_stmt c p (us.return l a) ≡ behind (st.return_ c.starts l v) e
return_row c d e p l a v j q r =
    ap (λ k. onward k (λ w. behind (st.return_ c.starts l w) (past_option a (started 1 c)))) j ∙
    ap (λ y. behind (st.return_ c.starts l v) y) (sym (r ∙ ap (started 1) q ∙ option_started a 1 c))

pub return_refused : (c : Env) (p : Place) (l : ℕ) (a : Option Expr) (w : TypeErr) → Refused (judged_option (value_for 23 c p.result) c a) w → Refused (judged_stmt c p (us.return l a)) w
return_refused c p l a w h = body_refused (judged_stmt c p (us.return l a)) (judged_option (value_for 23 c p.result) c a) (λ v. behind (st.return_ c.starts l v) (past_option a (started 1 c))) w refl h

-- a switch, whose starts and texts are counted in either order
pub switch_row : (c c1 c2 d : Env) (p : Place) (l : ℕ) (a : Expr) (is : us.SwItems) (v : TExpr) (js : TItems) → judged_by (integer 24) c a ≡ Is v → c1 ≡ past a c → c2 ≡ started 1 c1 →
    judged_items c2 (in_switch p) is ≡ behind js d → labels_differ js ≡ true → judged_stmt c p (us.switch l a is) ≡ behind (st.switch c.starts l v js) d
switch_row c c1 c2 d p l a is v js j e1 e2 k q =
    let e : c2 ≡ past a (started 1 c) = e2 ∙ ap (started 1) e1 in
    ap (λ y. onward y (λ w. onward (judged_items (past a (started 1 c)) (in_switch p) is) (λ z. provided 24 (labels_differ z.tree) (behind (st.switch c.starts l w z.tree) z.env)))) j ∙
    ap (λ y. onward y (λ z. provided 24 (labels_differ z.tree) (behind (st.switch c.starts l v z.tree) z.env))) (ap (λ y. judged_items y (in_switch p) is) (sym e) ∙ k) ∙
    ap (λ b. provided 24 b (behind (st.switch c.starts l v js) d)) q
