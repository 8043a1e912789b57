use Rattle.std.proofs.Common.{◌∙◌, ◌+◌, map, arith}
use Rattle.std.proofs.lemmas.List.{map-append}
use Rattle.std.proofs.lemmas.Result.{err_from_is_err_and}
use Rattle.c_grammar.specs.Reads.{most}
use Rattle.c_tree.specs.TreeOf.{init_of}
use Rattle.c_decl.specs.Answers.{names, rest}
use Rattle.c_decl.specs.Expression.{expression}
use Rattle.c_decl.specs.ReadInit.{init}
use Rattle.c_decl.proofs.Groups.{listed, begins, goes_on, ends, runs_out, failed}
use Rattle.c_decl.proofs.reader.Reader.+init.Goals as goal

pub members-returns-in_err-member : goal.members-returns-in_err-member
members-returns-in_err-member t c =
    let p = err_from_is_err_and c.from_residual-in_err-member.result c.from_residual-in_err-member.ensures.1 in
    let defs = names c.args.self.now in
    failed defs most (expression defs) (init defs most (expression defs) c.args.nested) _ _ _ _ (c.left-turn-end.result + 1) c.loop-turn._turn (map init_of c.loop-turn.members.items) _ _ p.1 p.2 c.loop-turn-test.true
    (c.loop-turn.invariant ∙ (begins defs most (expression defs) (init defs most (expression defs) c.args.nested) (rest c.args.self.now c.args.at) _ c.in_ok-first.first _ (c.left-turn-end.result + 1) (rw c.new-members.ensures.items at c.in_ok-push.ensures.items)
    (omega (arith, c.left-turn-end.ensures.count)) c.in_ok-first.ensures)) c.in_err-member.ensures

pub members-returns-in_default : goal.members-returns-in_default
members-returns-in_default t c =
    let defs = names c.args.self.now in
    let last = ends defs most (expression defs) (init defs most (expression defs) c.args.nested) (c.left-turn-end.result + 1) c.loop-turn._turn (map init_of c.loop-turn.members.items) _ _ _ c.loop-turn-test.true
    (c.loop-turn.invariant ∙ (begins defs most (expression defs) (init defs most (expression defs) c.args.nested) (rest c.args.self.now c.args.at) _ c.in_ok-first.first _ (c.left-turn-end.result + 1) (rw c.new-members.ensures.items at c.in_ok-push.ensures.items)
    (omega (arith, c.left-turn-end.ensures.count)) c.in_ok-first.ensures)) (rw c.in_default.is at c.in_ok-member.ensures) in
    rw (listed c.loop-turn.members.items) at last

pub members-loop-turn-preserved : goal.members-loop-turn-preserved
members-loop-turn-preserved t c =
    let defs = names c.args.self.now in
    let more = goes_on defs most (expression defs) (init defs most (expression defs) c.args.nested) (c.left-turn-end.result + 1) c.loop-turn._turn (map init_of c.loop-turn.members.items) (init_of c.in-Some.init) _ _ _ c.loop-turn-test.true
    c.loop-turn.invariant (rw c.in-Some.is at c.in_ok-member.ensures) in
    rw (c.in_ok-push-2.ensures.items, map-append) more

pub members-returns : goal.members-returns
members-returns t c =
    let defs = names c.args.self.now in
    rw (c.refusal.ensures)
    (runs_out defs most (expression defs) (init defs most (expression defs) c.args.nested) (c.left-turn-end.result + 1) c.loop-turn._turn (map init_of c.loop-turn.members.items) _ _ c.loop-turn-test.false
    (c.loop-turn.invariant ∙ (begins defs most (expression defs) (init defs most (expression defs) c.args.nested) (rest c.args.self.now c.args.at) _ c.in_ok-first.first _ (c.left-turn-end.result + 1) (rw c.new-members.ensures.items at c.in_ok-push.ensures.items)
    (omega (arith, c.left-turn-end.ensures.count)) c.in_ok-first.ensures)))
