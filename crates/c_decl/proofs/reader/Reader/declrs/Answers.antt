use Rattle.std.proofs.Common.{sym}
use Rattle.std.proofs.lemmas.List.{map-append}
use Rattle.std.proofs.lemmas.Result.{err_from_is_err_and}
use Rattle.c_grammar.specs.Reads.{most}
use Rattle.c_decl.specs.Answers.{names, rest}
use Rattle.c_decl.specs.Expression.{expression}
use Rattle.c_decl.specs.ReadDeclr.{plain_declr}
use Rattle.c_decl.proofs.Members.{begins, failed, ends, goes_on, runs_out}
use Rattle.c_decl.proofs.reader.Reader.declrs.Goals as goal

pub loop-turn-init : goal.loop-turn-init
loop-turn-init c = rw (c.new-declrs.ensures.items) (begins (plain_declr (names c.args.self.now) most (expression (names c.args.self.now))) c.left-turn-end.result (rest c.args.self.now c.args.at))

pub returns-in_err-declr : goal.returns-in_err-declr
returns-in_err-declr c =
    let p = err_from_is_err_and c.from_residual.result c.from_residual.ensures.1 in
    rw (← c.left-turn-end.ensures.count) (failed (plain_declr (names c.args.self.now) most (expression (names c.args.self.now))) _ _ _ _ _ _ _ _ _ p.1 p.2 c.loop-turn-test.true c.loop-turn.invariant c.in_err-declr.ensures)

pub returns-in-None : goal.returns-in-None
returns-in-None c =
    let last = ends (plain_declr (names c.args.self.now) most (expression (names c.args.self.now))) _ _ _ _ _ _ _ c.loop-turn-test.true c.loop-turn.invariant c.in_ok-declr.ensures (sym c.in-None.ensures.place) in
    rw (← c.left-turn-end.ensures.count, c.in_ok-push.ensures.items, map-append) last

pub loop-turn-preserved : goal.loop-turn-preserved
loop-turn-preserved c =
    rw (c.in_ok-push.ensures.items, map-append) (goes_on (plain_declr (names c.args.self.now) most (expression (names c.args.self.now))) _ _ _ _ _ _ _ _ c.loop-turn-test.true c.loop-turn.invariant c.in_ok-declr.ensures (sym c.in-Some.ensures.place))

pub returns : goal.returns
returns c = rw (c.refusal.ensures, ← c.left-turn-end.ensures.count) (runs_out (plain_declr (names c.args.self.now) most (expression (names c.args.self.now))) _ _ _ _ _ c.loop-turn-test.false c.loop-turn.invariant)
