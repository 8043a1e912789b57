use Rattle.std.proofs.Common.{add-one, arith, ap, ◌∙◌, ◌++◌}
use Rattle.std.proofs.lemmas.Result.{err_from_is_err_and}
use Rattle.subject.specs.Process.{process_at, written, progressed}
use Rattle.subject.proofs.Executing.{going_on, exits_at, raises_at, spent_at, breaks_at}
use Rattle.subject.proofs.process.run_on.Goals as goal

pub returns-in_err-advance-clause-breaks : goal.returns-in_err-advance-clause-breaks
returns-in_err-advance-clause-breaks g c =
    let p = err_from_is_err_and c.from_residual.result c.from_residual.ensures.1 in
    rw (p.1)
    (breaks_at _ c.loop-done._done c.args.most c.loop-done.cpu c.loop-done.memory _ _ _ _ c.loop-done.invariant.going (omega arith) c.in_err-advance.ensures.writes c.in_err-advance.ensures.front)

pub returns-in-Exits-clause-stops : goal.returns-in-Exits-clause-stops
returns-in-Exits-clause-stops g c =
    exits_at _ c.loop-done._done c.args.most c.in-Exits.status c.loop-done.cpu c.loop-done.memory _ _ _ _ _ c.loop-done.invariant.going (omega arith)
    (λ before. c.in_ok-advance.ensures.progress before ∙ ap (λ p. progressed p (process_at c.advance.new.cpu c.advance.new.memory (before ++ written c.loop-done.cpu c.loop-done.memory))) c.in-Exits.is) c.in_ok-advance.ensures.moved

pub returns-in-Raises-clause-stops : goal.returns-in-Raises-clause-stops
returns-in-Raises-clause-stops g c =
    raises_at _ c.loop-done._done c.args.most c.in-Raises.signal c.loop-done.cpu c.loop-done.memory _ _ _ _ _ c.loop-done.invariant.going (omega arith)
    (λ before. c.in_ok-advance.ensures.progress before ∙ ap (λ p. progressed p (process_at c.advance.new.cpu c.advance.new.memory (before ++ written c.loop-done.cpu c.loop-done.memory))) c.in-Raises.is) c.in_ok-advance.ensures.moved

pub loop-done-preserved : goal.loop-done-preserved
loop-done-preserved g c = record {
  going =
      rw add-one
      (going_on _ c.loop-done._done c.loop-done.cpu c.advance.new.cpu c.loop-done.memory c.advance.new.memory _ _ _ _ _ c.loop-done.invariant.going
      (λ before. c.in_ok-advance.ensures.progress before ∙ ap (λ p. progressed p (process_at c.advance.new.cpu c.advance.new.memory (before ++ written c.loop-done.cpu c.loop-done.memory))) c.in-Goes.is) c.in_ok-advance.ensures.moved);
  later = omega (arith, c.in_ok-advance.ensures.later);
}

pub returns-clause-stops : goal.returns-clause-stops
returns-clause-stops g c = spent_at _ c.loop-done._done c.args.most c.loop-done.cpu c.loop-done.memory _ _ _ c.loop-done.invariant.going (omega arith)
