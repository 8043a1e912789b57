use Rattle.std.proofs.Common.{◌≡◌, ◌∙◌, ap}
use Rattle.std.proofs.lemmas.Result.{IfOk-equal}
use Rattle.c_tree.specs.TypedOf.{stmts_from, func_of}
use Rattle.gen_small.proofs.SameCode.{func_added}
use Rattle.gen_small.proofs.func_code.push_function.Goals as goal

pub returns-clause-added : goal.returns-clause-added
returns-clause-added c = λ w unit.
    let frame = c.args.code.now.frame in
    let one_kept : c.push_entry.new.code.frame ≡ frame = c.push_entry.ensures.kept in
    let three_kept : c.push.new.self.frame ≡ frame = c.push.ensures.kept ∙ c.push_zeros.ensures.kept ∙ one_kept in
    let four_kept : c.push_stmts.new.code.frame ≡ frame = c.push_stmts.ensures.kept ∙ three_kept in
    IfOk-equal c.push_close.result c.push_close.new.code.items _ _ c.push_close.ensures.added
    (func_added c.args.code.now.frame c.push_entry.new.code.frame c.push.new.self.frame c.push_stmts.new.code.frame w unit (func_of c.args.func.now) c.requires.main c.requires.objects (stmts_from c.deref.result.now) c.args.code.now.items c.push_entry.new.code.items c.push_zeros.new.code.items c.push.new.self.items c.push_stmts.new.code.items
    (ap stmts_from c.deref.ensures.value) one_kept three_kept four_kept c.in_ok-push_entry.ensures.added c.in_ok-push_zeros.ensures.added c.in_ok-push.ensures.added c.in_ok-push_stmts.ensures.added)
