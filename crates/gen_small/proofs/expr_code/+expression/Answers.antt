use Rattle.std.proofs.Common.{◌≡◌, ◌≤◌, ◌∙◌, arith, ap, sym, subst}
use Rattle.std.proofs.lemmas.Result.{IfOk-equal}
use Rattle.c_tree.specs.TypedOf.{expr_of}
use Rattle.gen_small.specs.declared.code_list.IntFrame.{IntFrame}
use Rattle.gen_small.specs.Code.{below, temp_depth}
use Rattle.gen_small.specs.Forms.{AreThere}
use Rattle.gen_small.specs.Listed.{int_site}
use Rattle.gen_small.proofs.Parts.{right_is, binary_added, right_added, put_is, put_some, put_added}
use Rattle.gen_small.proofs.expr_code.+expression.Goals as goal

pub push_expr-push_right-requires : goal.push_expr-push_right-requires
push_expr-push_right-requires t c =
    let h = right_is c.args.code.now.frame.objects c.args.depth c.args.expr.now c.deref-in-Binary-2.result.now c.in-Binary.field-0 c.in-Binary.op c.in-Binary.left c.in-Binary.right c.in-Binary.is c.deref-in-Binary-2.ensures c.requires.small c.requires.there c.requires.few in
    let kept : c.push_expr-in-Binary.new.code.frame ≡ c.args.code.now.frame = c.push_expr-in-Binary.ensures.kept in
    let few : c.args.code.now.frame.objects ≤ 1048576 = c.requires.few_objects in
    ((let m = h.fewer in let d = c.decreases in omega arith), (subst (λ (f : IntFrame). f.objects ≤ 1048576) (sym kept) few, (h.sum, (h.small, (subst (λ (f : IntFrame). AreThere f.objects (expr_of c.deref-in-Binary-2.result.now)) (sym kept) h.there, h.few)))))

pub push_expr-push_expr-requires-in-Some : goal.push_expr-push_expr-requires-in-Some
push_expr-push_expr-requires-in-Some t c =
    let h = put_is c.args.code.now.frame.objects c.args.depth c.args.expr.now c.in-Some.arg.now c.in-Call.field-0 c.in-Call.field-1 c.in-Call.args c.deref-in-Call.result.now c.in-Call.is c.deref-in-Call.ensures.value (sym c.in-Some.ensures.value) c.requires.small c.requires.there c.requires.few in
    ((let m = h.fewer in let d = c.decreases in omega arith), (c.requires.few_objects, (h.small, (h.there, h.few))))

pub push_expr-unreachable-requires : goal.push_expr-unreachable-requires
push_expr-unreachable-requires t c = put_some c.args.expr.now c.in-Call.field-0 c.in-Call.field-1 c.in-Call.args c.deref-in-Call.result.now c.in-Call.is c.deref-in-Call.ensures.value (sym c.in-None.ensures.value) c.requires.small

pub push_right-push_expr-requires : goal.push_right-push_expr-requires
push_right-push_expr-requires t c =
    let kept : c.push.new.self.frame ≡ c.args.code.now.frame = c.in_ok-push.ensures.kept in
    let few : c.args.code.now.frame.objects ≤ 1048576 = c.requires.few_objects in
    ((let d = c.decreases in omega arith), (subst (λ (f : IntFrame). f.objects ≤ 1048576) (sym kept) few, (c.requires.small, (subst (λ (f : IntFrame). AreThere f.objects (expr_of c.args.right.now)) (sym kept) c.requires.there, c.requires.few))))

pub push_expr-returns-in_ok-push_expr-in-Binary-clause-added : goal.push_expr-returns-in_ok-push_expr-in-Binary-clause-added
push_expr-returns-in_ok-push_expr-in-Binary-clause-added t c =
    IfOk-equal c.push_right.result c.push_right.new.code.items _ _ c.push_right.ensures.added
    (binary_added c.args.code.now.frame c.push_expr-in-Binary.new.code.frame c.args.depth c.args.expr.now c.in-Binary.field-0 c.in-Binary.op c.in-Binary.left c.in-Binary.right c.deref-in-Binary.result.now c.deref-in-Binary-2.result.now c.args.code.now.items c.push_expr-in-Binary.new.code.items c.push_expr-in-Binary.ensures.kept c.in-Binary.is c.deref-in-Binary.ensures c.deref-in-Binary-2.ensures c.in_ok-push_expr-in-Binary.ensures.added)

pub push_expr-returns-in_ok-push_expr-in-Some-clause-added : goal.push_expr-returns-in_ok-push_expr-in-Some-clause-added
push_expr-returns-in_ok-push_expr-in-Some-clause-added t c =
    let h = put_is c.args.code.now.frame.objects c.args.depth c.args.expr.now c.in-Some.arg.now c.in-Call.field-0 c.in-Call.field-1 c.in-Call.args c.deref-in-Call.result.now c.in-Call.is c.deref-in-Call.ensures.value (sym c.in-Some.ensures.value) c.requires.small c.requires.there c.requires.few in
    IfOk-equal c.push_put.result c.push_put.new.code.items _ _ c.push_put.ensures.added
    (put_added (int_site c.args.code.now.frame) c.args.depth c.args.expr.now c.in-Some.arg.now c.args.code.now.items c.push_expr-in-Some.new.code.items (h.code (int_site c.args.code.now.frame)) c.in_ok-push_expr-in-Some.ensures.added)

pub push_right-returns-clause-added : goal.push_right-returns-clause-added
push_right-returns-clause-added t c =
    IfOk-equal c.push_operator.result c.push_operator.new.code.items _ _ c.push_operator.ensures.added
    (right_added c.args.code.now.frame c.push.new.self.frame c.push_expr.new.code.frame c.args.depth c.args.right.now c.args.op c.temporary-temporary.result c.store.result c.args.code.now.items c.push.new.self.items c.push_expr.new.code.items c.in_ok-push.ensures.kept (c.in_ok-push_expr.ensures.kept ∙ c.in_ok-push.ensures.kept) (c.temporary-temporary.ensures.operand ∙ ap (λ z. below (temp_depth (int_site z) c.args.depth)) c.frame.ensures) c.store.ensures.code c.in_ok-push.ensures.added c.in_ok-push_expr.ensures.added)
