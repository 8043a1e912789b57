use Rattle.std.proofs.Common.{◌∙◌, arith}
use Rattle.std.proofs.lemmas.Result.{IfOk-equal}
use Rattle.gen_small.specs.Listed.{int_site}
use Rattle.gen_small.proofs.StmtParts.{block_form, block_fewer, block_code, while_added, return_added}
use Rattle.gen_small.proofs.stmt_code.+statements.Goals as goal

pub push_stmt-push_stmts-requires : goal.push_stmt-push_stmts-requires
push_stmt-push_stmts-requires t c =
    ((let m = block_fewer c.args.stmt.now c.in-Block.block c.deref-in-Block.result.now c.in-Block.is c.deref-in-Block.ensures.value in let d = c.decreases in omega arith), (c.requires.few_objects, block_form c.args.code.now.frame.objects c.args.stmt.now c.in-Block.block c.deref-in-Block.result.now c.in-Block.is c.deref-in-Block.ensures.value c.requires.form))

pub push_stmt-returns-in-Block-clause-added : goal.push_stmt-returns-in-Block-clause-added
push_stmt-returns-in-Block-clause-added t c =
    IfOk-equal c.push_stmts.result c.push_stmts.new.code.items _ _ c.push_stmts.ensures.added
    (block_code (int_site c.args.code.now.frame) c.args.stmt.now c.in-Block.block c.deref-in-Block.result.now c.args.code.now.items c.in-Block.is c.deref-in-Block.ensures.value)

pub push_stmt-returns-in_ok-push_stmt-in-While-clause-added : goal.push_stmt-returns-in_ok-push_stmt-in-While-clause-added
push_stmt-returns-in_ok-push_stmt-in-While-clause-added t c =
    IfOk-equal c.push_again.result c.push_again.new.code.items _ _ c.push_again.ensures.added
    (while_added c.args.code.now.frame c.push_loop.new.code.frame c.push_stmt.new.code.frame c.args.stmt.now c.in-While.start c.in-While.field-1 c.in-While.test c.in-While.body c.deref.result.now c.args.code.now.items c.push_loop.new.code.items c.push_stmt.new.code.items c.push_loop.ensures.kept (c.push_stmt.ensures.kept ∙ c.push_loop.ensures.kept) c.in-While.is c.deref.ensures c.in_ok-push_loop-in-While.ensures.added c.in_ok-push_stmt-in-While.ensures.added)

pub push_stmt-returns-in-Return-clause-added : goal.push_stmt-returns-in-Return-clause-added
push_stmt-returns-in-Return-clause-added t c =
    IfOk-equal c.push_return.result c.push_return.new.code.items _ _ c.push_return.ensures.added
    (return_added c.args.code.now.frame c.args.stmt.now c.in-Return.start c.in-Return.field-1 c.in-Return.value c.args.code.now.items c.in-Return.is)
