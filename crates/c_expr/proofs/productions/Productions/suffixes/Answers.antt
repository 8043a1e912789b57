use Rattle.std.proofs.Common.{◌+◌, ◌-◌, sym, ◌∙◌, arith}
use Rattle.std.proofs.lemmas.Result.{err_from_is_err_and}
use Rattle.c_tree.specs.TreeOf.{expr_of}
use Rattle.c_expr.specs.Parts.{names}
use Rattle.c_expr.specs.Shown.{left, shown}
use Rattle.c_expr.specs.Suffix.{begun_of}
use Rattle.c_expr.proofs.Turns.{fails_along, passed, refused, suffix-turn, suffix-none, suffixes-end, suffixes-over}
use Rattle.c_expr.proofs.productions.Productions.suffixes.Goals as goal

pub returns-in_default : goal.returns-in_default
returns-in_default g c = λ inner read.
    sym (c.loop-turn.invariant inner read)
    ∙ suffixes-end (names c.args.self.now.reader) 200 inner (201 - c.loop-turn._turn) (201 - (c.loop-turn._turn + 1)) c.args.line (expr_of c.loop-turn.found.tree) (left c.loop-turn.found.rest) (omega (arith, c.loop-turn-test.true)) c.in_default.ensures

pub returns-in_err-found : goal.returns-in_err-found
returns-in_err-found g c = λ inner read.
    let p = err_from_is_err_and c.from_residual.result c.from_residual.ensures.1 in
    passed shown c.from_residual.result _ c.in_err-found.field-0.0 p.0 p.1 p.2
    (fails_along c.in_err-found.field-0.0 _ _ (λ none. sym (c.loop-turn.invariant inner read)
    ∙ suffix-none (names c.args.self.now.reader) 200 inner (201 - c.loop-turn._turn) (201 - (c.loop-turn._turn + 1)) c.args.line (expr_of c.loop-turn.found.tree) (left c.loop-turn.found.rest) (begun_of c.in-Some.suffix) (omega (arith, c.loop-turn-test.true)) c.in-Some.ensures none) (c.in_err-found.ensures inner read))

pub loop-turn-preserved : goal.loop-turn-preserved
loop-turn-preserved g c = λ inner read.
    sym (suffix-turn (names c.args.self.now.reader) 200 inner (201 - c.loop-turn._turn) (201 - (c.loop-turn._turn + 1)) c.args.line (expr_of c.loop-turn.found.tree) (left c.loop-turn.found.rest) (begun_of c.in-Some.suffix) (shown c.in_ok-found.found)
    (omega (arith, c.loop-turn-test.true)) c.in-Some.ensures (c.in_ok-found.ensures inner read))
    ∙ c.loop-turn.invariant inner read

pub returns : goal.returns
returns g c = λ inner read.
    refused c.refusal.result _ c.refusal.ensures (sym (c.loop-turn.invariant inner read)
    ∙ suffixes-over (names c.args.self.now.reader) 200 inner (201 - c.loop-turn._turn) c.args.line (expr_of c.loop-turn.found.tree) (left c.loop-turn.found.rest) (omega (arith, c.loop-turn-test.false)))
