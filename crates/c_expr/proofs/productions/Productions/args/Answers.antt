use Rattle.std.proofs.Common.{◌+◌, ◌-◌, ap, sym, ◌∙◌, arith, length}
use Rattle.std.proofs.lemmas.Result.{err_from_is_err_and}
use Rattle.std.proofs.lemmas.List.{length-map}
use Rattle.c_tree.specs.TreeOf.{exprs_from}
use Rattle.c_lex.specs.Shown.{token_of}
use Rattle.c_expr.specs.Parts.{names}
use Rattle.c_expr.specs.Reading as r
use Rattle.c_expr.specs.Shown.{left, shown_args}
use Rattle.c_expr.proofs.Turns.{with_front, fails_along, passed, gives-same, args-turn, args-last, args-none, args-some}
use Rattle.c_expr.proofs.productions.Productions.args.Goals as goal

pub returns-in_err-next : goal.returns-in_err-next
returns-in_err-next g c = λ inner read.
    let p = err_from_is_err_and c.from_residual.result c.from_residual.ensures.1 in
    passed shown_args c.from_residual.result _ c.in_err-next.field-0.0 p.0 p.1 p.2
    (fails_along c.in_err-next.field-0.0 _ _ (λ none.
    args-some (names c.args.self.now.reader) 200 inner (left c.args.rest) c.in_default.ensures
    ∙ ap (λ n. r.args_from (names c.args.self.now.reader) 200 inner n (left c.args.rest)) (length-map c.args.rest.tokens.now token_of)
    ∙ sym (c.loop-turn.invariant inner read)
    ∙ args-none (names c.args.self.now.reader) 200 inner (exprs_from c.loop-turn.found.trees.items) (length c.args.rest.tokens.now - c.loop-turn._turn) (length c.args.rest.tokens.now - (c.loop-turn._turn + 1))
    (left c.loop-turn.found.rest) (omega (arith, c.loop-turn-test.true)) none) (c.in_err-next.ensures inner read))

pub returns-in_default-eat : goal.returns-in_default-eat
returns-in_default-eat g c = λ inner read.
    gives-same shown_args c.closed.result _ _ (sym (
    args-some (names c.args.self.now.reader) 200 inner (left c.args.rest) c.in_default.ensures
    ∙ ap (λ n. r.args_from (names c.args.self.now.reader) 200 inner n (left c.args.rest)) (length-map c.args.rest.tokens.now token_of)
    ∙ sym (c.loop-turn.invariant inner read)
    ∙ args-last (names c.args.self.now.reader) 200 inner (exprs_from c.loop-turn.found.trees.items) (length c.args.rest.tokens.now - c.loop-turn._turn) (length c.args.rest.tokens.now - (c.loop-turn._turn + 1))
    (left c.loop-turn.found.rest) (left c.in_ok-next.next.rest) (exprs_from c.in_ok-next.next.trees.items) (omega (arith, c.loop-turn-test.true)) (c.in_ok-next.ensures inner read) c.in_default-eat.ensures)) c.closed.ensures

pub loop-turn-preserved : goal.loop-turn-preserved
loop-turn-preserved g c = λ inner read.
    ap (λ x. with_front x.0 (r.args_from (names c.args.self.now.reader) 200 inner (length c.args.rest.tokens.now - (c.loop-turn._turn + 1)) x.1)) c.up_to-found.ensures
    ∙ args-turn (names c.args.self.now.reader) 200 inner (exprs_from c.loop-turn.found.trees.items) (length c.args.rest.tokens.now - c.loop-turn._turn) (length c.args.rest.tokens.now - (c.loop-turn._turn + 1))
    (left c.loop-turn.found.rest) (left c.in_ok-next.next.rest) (left c.in-Some-eat.after) (exprs_from c.in_ok-next.next.trees.items) (omega (arith, c.loop-turn-test.true)) (c.in_ok-next.ensures inner read) c.in-Some-eat.ensures
    ∙ c.loop-turn.invariant inner read
