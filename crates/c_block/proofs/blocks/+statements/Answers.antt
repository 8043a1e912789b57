-- Each statement is judged where those before it stand.
use Rattle.std.proofs.Common.{rules, ◌≡◌, ◌+◌, ℕ, List, [], ◌∷◌, ◌++◌, drop, map, true, sym, ap, ◌∙◌, subst}
use Rattle.c_tree.specs.declared.stmt.Stmt.{Stmt}
use Rattle.c_tree.specs.declared.stmt.SwItem.{SwItem}
use Rattle.c_tree.specs.declared.typed_stmt.TStmt.{TStmt as RustTStmt}
use Rattle.c_tree.specs.declared.typed_stmt.TSwItem.{TSwItem}
use Rattle.c_tree.specs.TreeDecl as ud
use Rattle.c_tree.specs.TreeOf as u
use Rattle.c_tree.specs.TreeStmt as us
use Rattle.c_tree.specs.TExpr.{TExpr}
use Rattle.c_tree.specs.TStmt as st
use Rattle.c_tree.specs.TStmt.{TStmts, TItems, more_stmts}
use Rattle.c_tree.specs.TypedOf.{expr_of, stmt_of, stmts_from, items_from, local_decl_of}
use Rattle.c_rule.specs.RuleScope.{Judged, Env}
use Rattle.c_rule.specs.RuleStmts.{Place, labels_differ}
use Rattle.c_scope.specs.EnvOf.{env_of}
use Rattle.c_scope.specs.declared.error.TypeErr.{TypeErr}
use Rattle.c_rule.specs.Judging.{Behind, behind, judged_decls, judged_stmt, judged_stmts, judged_items}
use Rattle.c_scope.specs.Says.{Refused, SaysBehind}
use Rattle.c_operator.specs.Boxed.{boxed}
use Rattle.c_local.specs.Boxed.{boxed_stmt}
use Rattle.c_block.specs.PlaceOf.{place_of}
use Rattle.c_block.specs.SwitchParts.{put, part_of, judged_part}
use Rattle.c_local.proofs.FromHere.{from_here}
use Rattle.c_local.proofs.Lists.{none_before, next_part, part_refused, all_parts, err_judged}
use Rattle.c_block.proofs.Outside.{left_block, decls_refused, stmts_refused}
use Rattle.c_block.proofs.StatementRows.{stmt_row, stmts_end, onto_stmts, part_row, parts_end, onto_items, source_switch, switch_is, switch_row}
use Rattle.c_block.proofs.blocks.+statements.Goals as goal

abbrev stmt_view : RustTStmt → TStmts → TStmts
stmt_view s r = more_stmts (stmt_of s) r

abbrev part_view : TSwItem → TItems → TItems
part_view i r = put (part_of i) r

pub statements-loop-part-init : goal.statements-loop-part-init
statements-loop-part-init t c =
    none_before stmt_view c.new-typed.result.items (judged_stmts (env_of c.args.c.now) (place_of c.args.place.now) (u.stmts_from c.args.stmts.now)) c.new-typed.ensures.items

pub statements-loop-part-preserved : goal.statements-loop-part-preserved
statements-loop-part-preserved t c =
    let ss : List Stmt = c.args.stmts.now in
    let i : ℕ = c.loop-part.part-index in
    let x : Stmt = c.part-item.result in
    let p : Place = place_of c.args.place.now in
    let e : Env = env_of c.loop-part.c in
    next_part stmt_of more_stmts c.loop-part.typed.items c.push.new.self.items c.in_ok-one.one.value (judged_stmts (env_of c.args.c.now) p (u.stmts_from ss)) (judged_stmts e p (u.stmts_from (drop i ss)))
    (judged_stmt e p (u.stmt_of x)) (λ d. judged_stmts d p (u.stmts_from (drop (i + 1) ss))) (env_of c.statement.new.c) c.loop-part.invariant
    (stmt_row e p x (drop i ss) (drop (i + 1) ss) (from_here ss i x c.loop-part-test.true c.part-item.is)) c.in_ok-one.ensures.judged
    (c.in_ok-push.ensures.items ∙ ap (λ y. c.loop-part.typed.items ++ y ∷ []) c.into_inner.ensures)

pub statements-returns-in_err-one : goal.statements-returns-in_err-one
statements-returns-in_err-one t c =
    let ss : List Stmt = c.args.stmts.now in
    let i : ℕ = c.loop-part.part-index in
    let x : Stmt = c.part-item.result in
    let p : Place = place_of c.args.place.now in
    let e : Env = env_of c.loop-part.c in
    let whole : Judged (Behind TStmts) = judged_stmts (env_of c.args.c.now) p (u.stmts_from ss) in
    record {
      judged =
          err_judged _ whole c.from_residual.result c.in_err-one.field-0.0 c.from_residual.ensures.1
          (part_refused stmt_view more_stmts c.loop-part.typed.items whole (judged_stmts e p (u.stmts_from (drop i ss))) (judged_stmt e p (u.stmt_of x))
          (λ d. judged_stmts d p (u.stmts_from (drop (i + 1) ss))) c.in_err-one.field-0.0 c.loop-part.invariant
          (stmt_row e p x (drop i ss) (drop (i + 1) ss) (from_here ss i x c.loop-part-test.true c.part-item.is)) c.in_err-one.ensures.judged);
    }

pub statements-returns : goal.statements-returns
statements-returns t c =
    let ss : List Stmt = c.args.stmts.now in
    let i : ℕ = c.loop-part.part-index in
    let p : Place = place_of c.args.place.now in
    let e : Env = env_of c.loop-part.c in
    record {
      judged =
          all_parts stmt_view c.loop-part.typed.items (judged_stmts (env_of c.args.c.now) p (u.stmts_from ss)) (judged_stmts e p (u.stmts_from (drop i ss))) st.no_stmts
          (stmts_from c.loop-part.typed.items) e c.loop-part.invariant (stmts_end e p ss i c.loop-part-test.false) (onto_stmts c.loop-part.typed.items);
    }

pub switch_parts-loop-part-init : goal.switch_parts-loop-part-init
switch_parts-loop-part-init t c =
    none_before part_view c.new-typed.result.items (judged_items (env_of c.args.c.now) (place_of c.args.place.now) (u.sw_items_from c.args.items.now)) c.new-typed.ensures.items

pub switch_parts-loop-part-preserved : goal.switch_parts-loop-part-preserved
switch_parts-loop-part-preserved t c =
    let is : List SwItem = c.args.items.now in
    let i : ℕ = c.loop-part.part-index in
    let x : SwItem = c.part-item.result in
    let p : Place = place_of c.args.place.now in
    let e : Env = env_of c.loop-part.c in
    next_part part_of put c.loop-part.typed.items c.push.new.self.items c.in_ok-one.one (judged_items (env_of c.args.c.now) p (u.sw_items_from is)) (judged_items e p (u.sw_items_from (drop i is)))
    (judged_part e p (u.sw_item_of x)) (λ d. judged_items d p (u.sw_items_from (drop (i + 1) is))) (env_of c.switch_part.new.c) c.loop-part.invariant
    (part_row e p x (drop i is) (drop (i + 1) is) (from_here is i x c.loop-part-test.true c.part-item.is)) c.in_ok-one.ensures.judged c.in_ok-push.ensures.items

pub switch_parts-returns-in_err-one : goal.switch_parts-returns-in_err-one
switch_parts-returns-in_err-one t c =
    let is : List SwItem = c.args.items.now in
    let i : ℕ = c.loop-part.part-index in
    let x : SwItem = c.part-item.result in
    let p : Place = place_of c.args.place.now in
    let e : Env = env_of c.loop-part.c in
    let whole : Judged (Behind TItems) = judged_items (env_of c.args.c.now) p (u.sw_items_from is) in
    record {
      judged =
          err_judged _ whole c.from_residual.result c.in_err-one.field-0.0 c.from_residual.ensures.1
          (part_refused part_view put c.loop-part.typed.items whole (judged_items e p (u.sw_items_from (drop i is))) (judged_part e p (u.sw_item_of x))
          (λ d. judged_items d p (u.sw_items_from (drop (i + 1) is))) c.in_err-one.field-0.0 c.loop-part.invariant
          (part_row e p x (drop i is) (drop (i + 1) is) (from_here is i x c.loop-part-test.true c.part-item.is)) c.in_err-one.ensures.judged);
    }

pub switch_parts-returns : goal.switch_parts-returns
switch_parts-returns t c =
    let is : List SwItem = c.args.items.now in
    let i : ℕ = c.loop-part.part-index in
    let p : Place = place_of c.args.place.now in
    let e : Env = env_of c.loop-part.c in
    record {
      judged =
          all_parts part_view c.loop-part.typed.items (judged_items (env_of c.args.c.now) p (u.sw_items_from is)) (judged_items e p (u.sw_items_from (drop i is))) st.no_items
          (items_from c.loop-part.typed.items) e c.loop-part.invariant (parts_end e p is i c.loop-part-test.false) (onto_items c.loop-part.typed.items);
    }

pub block-returns-in_err-locals : goal.block-returns-in_err-locals
block-returns-in_err-locals t c =
    let b = c.args.b.now in
    let p : Place = place_of c.args.place.now in
    let ds : List ud.LocalDecl = map u.local_of b.decls.items in
    let ss : us.Stmts = u.stmts_from b.stmts.items in
    let e1 : Env = env_of c.enter.new.self in
    let w : TypeErr = c.in_err-locals.field-0.0 in
    let left : Refused (judged_decls e1 ds) w = subst (λ l. Refused (judged_decls e1 (map u.local_of l)) w) c.deref.ensures.value c.in_err-locals.ensures.judged in
    record {
      judged =
          err_judged _ _ c.from_residual-in_err-locals.result w c.from_residual-in_err-locals.ensures.1
          (decls_refused (env_of c.args.c.now) e1 p b.line b.close_line ds ss c.in_ok-enter.ensures.inside w left);
    }

pub block-returns-in_err-stmts : goal.block-returns-in_err-stmts
block-returns-in_err-stmts t c =
    let b = c.args.b.now in
    let p : Place = place_of c.args.place.now in
    let ds : List ud.LocalDecl = map u.local_of b.decls.items in
    let ss : us.Stmts = u.stmts_from b.stmts.items in
    let e1 : Env = env_of c.enter.new.self in
    let e2 : Env = env_of c.declarations.new.c in
    let xs : List st.LocalDecl = map local_decl_of c.in_ok-locals.locals.items in
    let w : TypeErr = c.in_err-stmts.field-0.0 in
    let first : judged_decls e1 ds ≡ behind xs e2 = ap (λ l. judged_decls e1 (map u.local_of l)) (sym c.deref.ensures.value) ∙ c.in_ok-locals.ensures.judged in
    let left : Refused (judged_stmts e2 p ss) w = subst (λ l. Refused (judged_stmts e2 p (u.stmts_from l)) w) c.deref-2.ensures.value c.in_err-stmts.ensures.judged in
    record {
      judged =
          err_judged _ _ c.from_residual-in_err-stmts.result w c.from_residual-in_err-stmts.ensures.1
          (stmts_refused (env_of c.args.c.now) e1 p b.line b.close_line ds ss c.in_ok-enter.ensures.inside e2 xs w first left);
    }

pub block-returns : goal.block-returns
block-returns t c =
    let b = c.args.b.now in
    let p : Place = place_of c.args.place.now in
    let ds : List ud.LocalDecl = map u.local_of b.decls.items in
    let ss : us.Stmts = u.stmts_from b.stmts.items in
    let e1 : Env = env_of c.enter.new.self in
    let e2 : Env = env_of c.declarations.new.c in
    let e3 : Env = env_of c.statements.new.c in
    let xs : List st.LocalDecl = map local_decl_of c.in_ok-locals.locals.items in
    let ys : TStmts = stmts_from c.in_ok-stmts.stmts.items in
    let first : judged_decls e1 ds ≡ behind xs e2 = ap (λ l. judged_decls e1 (map u.local_of l)) (sym c.deref.ensures.value) ∙ c.in_ok-locals.ensures.judged in
    let rest : judged_stmts e2 p ss ≡ behind ys e3 = ap (λ l. judged_stmts e2 p (u.stmts_from l)) (sym c.deref-2.ensures.value) ∙ c.in_ok-stmts.ensures.judged in
    record {
      judged =
          left_block (env_of c.args.c.now) e1 p b.line b.close_line ds ss c.in_ok-enter.ensures.inside e2 e3 xs ys first rest ∙
          ap (λ e. behind (st.block b.line xs ys b.close_line) e) (sym c.leave.ensures.outside);
    }

pub statement-returns-in-Switch : goal.statement-returns-in-Switch
statement-returns-in-Switch t c =
    let e : Env = env_of c.args.c.now in
    let p : Place = place_of c.args.place.now in
    let l : ℕ = c.in-Switch.line in
    let same : us.switch l (u.expr_of c.in-Switch.e) (u.sw_items_from c.deref-in-Switch.result.now) ≡ u.stmt_of c.args.s.now =
    ap (λ is. us.switch l (u.expr_of c.in-Switch.e) (u.sw_items_from is)) c.deref-in-Switch.ensures.value ∙ sym (source_switch c.args.s.now l c.in-Switch.e c.in-Switch.items c.in-Switch.is) in
    record { judged = subst (λ y. SaysBehind boxed_stmt (env_of c.switch.new.c) (judged_stmt e p y) c.switch.result) same c.switch.ensures.judged }

pub switch-returns : goal.switch-returns
switch-returns t c =
    let e : Env = env_of c.args.c.now in
    let e3 : Env = env_of c.switch_parts.new.c in
    let p : Place = place_of c.args.place.now in
    let l : ℕ = c.args.line in
    let v : TExpr = boxed c.in_ok-value.value in
    let js : TItems = items_from c.in_ok-parts.parts.items in
    let n : ℕ = c.starts-start.result in
    let told : labels_differ (items_from c.deref.result.now) ≡ true = search rules in
    let differ : labels_differ js ≡ true = ap (λ is. labels_differ (items_from is)) (sym c.deref.ensures.value) ∙ told in
    let whole : boxed_stmt c.in_ok-node.field-0 ≡ st.switch e.starts l v js =
    c.in_ok-node.ensures ∙ switch_is n l c.into_inner.result c.in_ok-parts.parts ∙ ap (λ x. st.switch n l (expr_of x) js) c.into_inner.ensures ∙ ap (λ k. st.switch k l v js) c.starts-start.ensures.value in
    record {
      judged =
          switch_row e (env_of c.integer_expr.new.c) (env_of c.started.new.self) e3 p l (u.expr_of c.args.e.now) (u.sw_items_from c.args.parts.now) v js c.in_ok-value.ensures.judged
          c.in_ok-value.ensures.past c.in_ok-started.ensures.past c.in_ok-parts.ensures.judged differ ∙ ap (λ y. behind y e3) (sym whole);
    }
