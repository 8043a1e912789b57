use Rattle.std.proofs.Common.{◌+◌, ◌-◌, ◌∷◌, length, map, arith, ap, sym, ◌∙◌}
use Rattle.std.proofs.lemmas.Result.{err_from_is_err_and}
use Rattle.c_tree.specs.TreeOf.{local_of}
use Rattle.c_decl.specs.Answers.{found, rest}
use Rattle.c_parse.specs.Words as w
use Rattle.c_parse.proofs.Pushed.{with_front, locals_end, locals_turn, locals_none}
use Rattle.c_parse.proofs.Refused.{handed_on}
use Rattle.c_parse.proofs.parts.locals.Goals as goal

pub returns-then-not-begins_local : goal.returns-then-not-begins_local
returns-then-not-begins_local c =
    let left = length (rest c.args.r.now c.args.at) - c.loop-turn._turn in
    sym c.loop-turn.invariant ∙ locals_end c.args.r.now _ left c.loop-turn.list.items (rest c.args.r.now c.loop-turn.next) (omega arith) (sym c.if-not-begins_local.ensures)

pub returns-in_err-decl : goal.returns-in_err-decl
returns-in_err-decl c =
    let left = length (rest c.args.r.now c.args.at) - c.loop-turn._turn in
    handed_on (found (λ v. map local_of v.items) c.args.r.now) c.from_residual.result c.in_err-decl.field-0.0 (w.local c.args.r.now (rest c.args.r.now c.loop-turn.next)) _ (err_from_is_err_and c.from_residual.result c.from_residual.ensures.1)
    (λ none. sym c.loop-turn.invariant ∙ locals_none c.args.r.now _ left c.loop-turn.list.items (rest c.args.r.now c.loop-turn.next) (omega arith) (sym c.if-not-begins_local.ensures) none)
    c.in_err-decl.ensures

pub loop-turn-preserved : goal.loop-turn-preserved
loop-turn-preserved c =
    let r = c.args.r.now in
    let more = length (rest r c.args.at) + 1 - (c.loop-turn._turn + 1) in
    ap (λ xs. with_front local_of ◌∷◌ xs (w.locals r more (rest r c.in_ok-decl.behind))) c.in_ok-push.ensures.items
    ∙ locals_turn r (length (rest r c.args.at) + 1 - c.loop-turn._turn) more c.loop-turn.list.items c.in_ok-decl.decl (rest r c.loop-turn.next) (rest r c.in_ok-decl.behind) (omega (arith, c.loop-turn-test.true)) (sym c.if-not-begins_local.ensures) c.in_ok-decl.ensures
    ∙ c.loop-turn.invariant
