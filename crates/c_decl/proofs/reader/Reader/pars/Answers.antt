use Rattle.std.proofs.Common.{◌≡◌, ◌+◌, suc, length, map, arith, sym}
use Rattle.std.proofs.lemmas.List.{map-append}
use Rattle.std.proofs.lemmas.Result.{err_from_is_err_and}
use Rattle.c_grammar.specs.Reads.{most}
use Rattle.c_grammar.specs.Words.{open_brace}
use Rattle.c_tree.specs.TreeOf.{par_of}
use Rattle.c_decl.specs.Answers.{names, rest}
use Rattle.c_decl.specs.Expression.{expression}
use Rattle.c_decl.proofs.Standing.{eaten_within}
use Rattle.c_decl.proofs.ParTurns.{begins, failed, ends, goes_on, runs_out}
use Rattle.c_decl.proofs.reader.Reader.pars.Goals as goal

pub loop-turn-init : goal.loop-turn-init
loop-turn-init c = let defs = names c.args.self.now in rw (c.new-pars.ensures.items) (begins defs most (expression defs) (c.left-turn-end.result + 1) (rest c.args.self.now c.args.at))

pub returns-in-Some-clause-read : goal.returns-in-Some-clause-read
returns-in-Some-clause-read c =
    let defs = names c.args.self.now in
    let count : c.left-turn-end.result + 1 ≡ suc (length (rest c.args.self.now c.args.at)) = omega (arith, c.left-turn-end.ensures.count) in
    rw (← count) (ends defs most (expression defs) (c.left-turn-end.result + 1) c.loop-turn._turn (map par_of c.loop-turn.pars.items) _ _ _ c.loop-turn-test.true c.loop-turn.invariant (sym c.in-Some.ensures.place))

pub returns-in-Some-clause-within : goal.returns-in-Some-clause-within
returns-in-Some-clause-within c = eaten_within c.args.self.now open_brace c.loop-turn.next _ (sym c.in-Some.ensures.place)

pub returns-in_err-par-clause-read : goal.returns-in_err-par-clause-read
returns-in_err-par-clause-read c =
    let p = err_from_is_err_and c.from_residual.result c.from_residual.ensures.1 in
    let defs = names c.args.self.now in
    let count : c.left-turn-end.result + 1 ≡ suc (length (rest c.args.self.now c.args.at)) = omega (arith, c.left-turn-end.ensures.count) in
    rw (← count)
    (failed defs most (expression defs) _ _ _ _ (c.left-turn-end.result + 1) c.loop-turn._turn (map par_of c.loop-turn.pars.items) _ _ p.1 p.2 c.loop-turn-test.true c.loop-turn.invariant (sym c.in_default.ensures.place)
    c.in_err-par.ensures)

pub loop-turn-preserved : goal.loop-turn-preserved
loop-turn-preserved c =
    let defs = names c.args.self.now in
    rw (c.in_ok-push.ensures.items, map-append)
    (goes_on defs most (expression defs) (c.left-turn-end.result + 1) c.loop-turn._turn (map par_of c.loop-turn.pars.items) (par_of c.in_ok-par.par) _ _ _ c.loop-turn-test.true c.loop-turn.invariant
    (sym c.in_default.ensures.place) c.in_ok-par.ensures)

pub returns-clause-read : goal.returns-clause-read
returns-clause-read c =
    let defs = names c.args.self.now in
    let count : c.left-turn-end.result + 1 ≡ suc (length (rest c.args.self.now c.args.at)) = omega (arith, c.left-turn-end.ensures.count) in
    rw (c.refusal.ensures, ← count) (runs_out defs most (expression defs) (c.left-turn-end.result + 1) c.loop-turn._turn (map par_of c.loop-turn.pars.items) _ _ c.loop-turn-test.false c.loop-turn.invariant)
