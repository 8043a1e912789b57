use Rattle.std.proofs.Common.{◌+◌, ◌-◌, length, Some, arith, ap, sym, ◌∙◌}
use Rattle.c_grammar.specs.Words.{close_brace}
use Rattle.c_tree.specs.TreeStmt as tree
use Rattle.c_tree.specs.TreeOf.{expr_of, stmt_of, sw_item_of, sw_items_from}
use Rattle.c_tree.proofs.Of.{stmt_of-Block}
use Rattle.c_decl.specs.Answers.{rest}
use Rattle.c_parse.specs.Words as w
use Rattle.c_parse.proofs.Pushed.{with_front, is_eaten, is_not_eaten, stmts_turn, stmts_end, items_turn, items_end}
use Rattle.c_parse.proofs.Switches.{gives_same, switch_read}
use Rattle.c_parse.proofs.statements.+stmts.Goals as goal

pub stmts-returns-then-is_some : goal.stmts-returns-then-is_some
stmts-returns-then-is_some t c =
    let ts = rest c.args.r.now c.loop-turn.next in
    let e = is_eaten c.args.r.now close_brace c.eat.result ts c.eat.ensures.place c.if-is_some.ensures in
    sym c.loop-turn.invariant ∙ stmts_end c.args.r.now c.args.depth _ (length (rest c.args.r.now c.args.at) - c.loop-turn._turn) c.loop-turn.list.items ts e.0 (omega (arith, c.loop-turn-test.true)) e.1

pub stmts-loop-turn-preserved : goal.stmts-loop-turn-preserved
stmts-loop-turn-preserved t c =
    let r = c.args.r.now in
    let ts = rest r c.loop-turn.next in
    let more = length (rest r c.args.at) + 1 - (c.loop-turn._turn + 1) in
    ap (λ xs. with_front stmt_of tree.more_stmts xs (w.stmts r c.args.depth more (rest r c.in_ok-stmt.behind))) c.in_ok-push.ensures.items
    ∙ stmts_turn r c.args.depth (length (rest r c.args.at) + 1 - c.loop-turn._turn) more c.loop-turn.list.items c.in_ok-stmt.stmt ts (rest r c.in_ok-stmt.behind) (omega (arith, c.loop-turn-test.true))
    (is_not_eaten r close_brace c.eat.result ts c.eat.ensures.place c.if-is_some.ensures) c.in_ok-stmt.ensures
    ∙ c.loop-turn.invariant

pub items-returns-then-is_some : goal.items-returns-then-is_some
items-returns-then-is_some t c =
    let ts = rest c.args.r.now c.loop-turn.next in
    let e = is_eaten c.args.r.now close_brace c.eat.result ts c.eat.ensures.place c.if-is_some.ensures in
    sym c.loop-turn.invariant ∙ items_end c.args.r.now c.args.depth _ (length (rest c.args.r.now c.args.at) - c.loop-turn._turn) c.loop-turn.list.items ts e.0 (omega (arith, c.loop-turn-test.true)) e.1

pub items-loop-turn-preserved : goal.items-loop-turn-preserved
items-loop-turn-preserved t c =
    let r = c.args.r.now in
    let ts = rest r c.loop-turn.next in
    let more = length (rest r c.args.at) + 1 - (c.loop-turn._turn + 1) in
    ap (λ xs. with_front sw_item_of tree.more_items xs (w.items r c.args.depth more (rest r c.in_ok-item.behind))) c.in_ok-push.ensures.items
    ∙ items_turn r c.args.depth (length (rest r c.args.at) + 1 - c.loop-turn._turn) more c.loop-turn.list.items c.in_ok-item.item ts (rest r c.in_ok-item.behind) (omega (arith, c.loop-turn-test.true))
    (is_not_eaten r close_brace c.eat.result ts c.eat.ensures.place c.if-is_some.ensures) c.in_ok-item.ensures
    ∙ c.loop-turn.invariant

pub block_stmt-returns : goal.block_stmt-returns
block_stmt-returns t c = rw c.in_ok-block.ensures (ap (λ y. Some (y, rest c.args.r.now c.in_ok-block.after)) (sym (stmt_of-Block c.in_ok-block.block)))

pub switch_stmt-returns : goal.switch_stmt-returns
switch_stmt-returns t c =
    let r = c.args.r.now in
    gives_same _ c.switch_end.result _ _ (sym (switch_read r c.args.depth c.args.line (rest r c.args.at) (rest r c.in_ok-value.body) (rest r c.in_ok-list.close) (expr_of c.in_ok-value.value) (sw_items_from c.in_ok-list.list.items)
    c.in_ok-value.ensures c.in_ok-list.ensures)) c.switch_end.ensures
