use Rattle.std.proofs.Common.{◌≡◌, ◌∷◌, [], ◌∙◌}
use Rattle.std.proofs.lemmas.Result.{IfOk-equal}
use Rattle.c_tree.specs.TypedOf.{expr_of}
use Rattle.gen_small.specs.declared.code_list.IntFrame.{IntFrame}
use Rattle.gen_small.specs.Items.{Top, Start, Label}
use Rattle.gen_small.specs.Code.{expr_code, tested}
use Rattle.gen_small.specs.Listed.{int_site}
use Rattle.gen_small.proofs.IntSites.{form_kept, then_added}
use Rattle.gen_small.proofs.stmt_code.push_loop.Goals as goal

pub push_value-requires-clause-form : goal.push_value-requires-clause-form
push_value-requires-clause-form c = form_kept c.push.new.self.frame c.args.code.now.frame (expr_of c.args.test.now) c.in_ok-push.ensures.kept c.requires.form

pub returns-clause-added : goal.returns-clause-added
returns-clause-added c =
    let f : IntFrame = c.args.code.now.frame in
    let top = Label (Top f.fun c.args.start) in
    let value = λ (t : IntFrame). Start c.args.start ∷ expr_code (int_site t) (expr_of c.args.test.now) 0 in
    let test = λ (t : IntFrame). tested t.fun c.args.start in
    let kept : c.push_value.new.code.frame ≡ f = c.in_ok-push_value.ensures.kept ∙ c.in_ok-push.ensures.kept in
    IfOk-equal c.push_test.result c.push_test.new.code.items _ _ c.push_test.ensures.added
    (then_added c.push_value.new.code.frame f test (top ∷ value f) c.args.code.now.items c.push_value.new.code.items kept
    (c.in_ok-push_value.ensures.added ∙ then_added c.push.new.self.frame f value (top ∷ []) c.args.code.now.items c.push.new.self.items c.in_ok-push.ensures.kept c.in_ok-push.ensures.added))
