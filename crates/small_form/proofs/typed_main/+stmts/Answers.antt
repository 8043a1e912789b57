use Rattle.std.proofs.Common.{◌≡◌, ◌+◌, arith, ◌∙◌, sym, ap, refl, drop, ◌∷◌, length, drop-cons, add-one}
use Rattle.std.proofs.lemmas.Result.{err_from_is_err_and}
use Rattle.c_tree.specs.TreeOf as u
use Rattle.c_tree.specs.TypedOf as o
use Rattle.small_form.specs.SmallForm.{as_stmt, stmt_in, stmts_in, stmt_starts, stmts_starts}
use Rattle.small_form.proofs.SmallTrees.{with_front, typed_more, typed_done, stmt_block, depth_at, depth_of, block_none, block_some, handed_on}
use Rattle.small_form.proofs.typed_main.+stmts.Goals as goal

pub stmt-block-requires : goal.stmt-block-requires
stmt-block-requires t c =
    let is = stmt_block c.args.one.now c.in-Block.inner c.in-Block.is in
    let same : stmt_starts (u.stmt_of c.args.one.now) ≡ stmts_starts (u.stmts_from c.in-Block.inner.stmts.items) = ap stmt_starts is in
    let deep = depth_of c.args.one.now c.in-Block.inner c.in-Block.is in
    (omega (arith, deep), (c.requires.few, omega (arith, same, c.requires.counted)))

pub stmts-stmt-requires : goal.stmts-stmt-requires
stmts-stmt-requires t c =
    let list = c.args.list.now in
    let k = c.loop-one.one-index in
    let item = c.one-item.result in
    let split : drop k list ≡ item ∷ drop (k + 1) list = drop-cons list k item c.loop-one-test.true ∙ (rw (← c.one-item.is, add-one) refl) in
    let counted : c.loop-one.next + (stmt_starts (u.stmt_of item) + stmts_starts (u.stmts_from (drop (k + 1) list))) ≡ c.args.next.now + stmts_starts (u.stmts_from list) =
    ap (λ l. c.loop-one.next + stmts_starts (u.stmts_from l)) (sym split) ∙ c.loop-one.invariant.counted in
    let deep = depth_at list k item c.loop-one-test.true c.one-item.is in
    (omega (arith, deep), (c.requires.few, omega (arith, counted, c.requires.counted)))

pub stmt-returns-in-Block-clause-typed : goal.stmt-returns-in-Block-clause-typed
stmt-returns-in-Block-clause-typed t c = rw (stmt_block c.args.one.now c.in-Block.inner c.in-Block.is) c.block.ensures.typed

pub block-returns-in_err-list-clause-typed : goal.block-returns-in_err-list-clause-typed
block-returns-in_err-list-clause-typed t c =
    handed_on o.stmt_of c.from_residual.result c.in_err-list.field-0.0 (stmts_in c.args.variables.now c.args.next.now (u.stmts_from c.deref.result.now)) (stmt_in c.args.variables.now c.args.next.now (as_stmt (u.block_of c.args.inner.now)))
    (err_from_is_err_and c.from_residual.result c.from_residual.ensures.1)
    (block_none c.args.variables.now c.args.next.now c.args.inner.now c.deref.result.now c.deref.ensures.value (ap length (sym c.as_slice.ensures.value) ∙ c.if-as_slice-ne0.false))
    c.in_err-list.ensures.typed

pub block-returns-clause-typed : goal.block-returns-clause-typed
block-returns-clause-typed t c =
    block_some c.args.variables.now c.args.next.now c.args.inner.now c.deref.result.now
    (record { line = c.args.inner.now.line; locals = c.new.result; stmts = c.in_ok-list.list; close_line = c.args.inner.now.close_line })
    c.deref.ensures.value (ap length (sym c.as_slice.ensures.value) ∙ c.if-as_slice-ne0.false) c.in_ok-list.ensures.typed refl refl c.new.ensures.items

pub stmts-loop-one-preserved : goal.stmts-loop-one-preserved
stmts-loop-one-preserved t c =
    let list = c.args.list.now in
    let k = c.loop-one.one-index in
    let item = c.one-item.result in
    let split : drop k list ≡ item ∷ drop (k + 1) list = drop-cons list k item c.loop-one-test.true ∙ (rw (← c.one-item.is, add-one) refl) in
    let counted : c.loop-one.next + (stmt_starts (u.stmt_of item) + stmts_starts (u.stmts_from (drop (k + 1) list))) ≡ c.args.next.now + stmts_starts (u.stmts_from list) =
    ap (λ l. c.loop-one.next + stmts_starts (u.stmts_from l)) (sym split) ∙ c.loop-one.invariant.counted in
    record {
      counted = omega (arith, counted, c.in_ok-stmt.ensures.next);
      typed =
          ap (λ xs. with_front xs (stmts_in c.args.variables.now c.stmt.new.next (u.stmts_from (drop (k + 1) list)))) c.in_ok-push.ensures.items
          ∙ typed_more c.args.variables.now c.loop-one.next c.stmt.new.next c.loop-one.typed.items c.in_ok-stmt.field-0 item (drop (k + 1) list) c.in_ok-stmt.ensures.typed c.in_ok-stmt.ensures.next
          ∙ ap (λ l. with_front c.loop-one.typed.items (stmts_in c.args.variables.now c.loop-one.next (u.stmts_from l))) (sym split)
          ∙ c.loop-one.invariant.typed;
    }

pub stmts-returns-clause-typed : goal.stmts-returns-clause-typed
stmts-returns-clause-typed t c =
    sym c.loop-one.invariant.typed ∙ typed_done c.args.variables.now c.loop-one.next c.loop-one.one-index c.loop-one.typed.items c.args.list.now c.loop-one-test.false
