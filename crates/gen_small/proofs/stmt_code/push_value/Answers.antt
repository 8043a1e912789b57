use Rattle.std.proofs.Common.{◌∷◌, []}
use Rattle.std.proofs.lemmas.Result.{IfOk-equal}
use Rattle.c_tree.specs.TypedOf.{expr_of}
use Rattle.gen_small.specs.Items.{Start}
use Rattle.gen_small.specs.Code.{expr_code}
use Rattle.gen_small.specs.Listed.{int_site}
use Rattle.gen_small.proofs.IntSites.{there_kept, then_added}
use Rattle.gen_small.proofs.stmt_code.push_value.Goals as goal

pub push_expr-requires-clause-there : goal.push_expr-requires-clause-there
push_expr-requires-clause-there c = there_kept c.push.new.self.frame c.args.code.now.frame (expr_of c.args.value.now) c.in_ok-push.ensures.kept c.requires.form.there

pub returns-clause-added : goal.returns-clause-added
returns-clause-added c =
    IfOk-equal c.push_expr.result c.push_expr.new.code.items _ _ c.push_expr.ensures.added
    (then_added c.push.new.self.frame c.args.code.now.frame (λ f. expr_code (int_site f) (expr_of c.args.value.now) 0) (Start c.args.start ∷ []) c.args.code.now.items c.push.new.self.items c.in_ok-push.ensures.kept c.in_ok-push.ensures.added)
