use Rattle.std.proofs.lemmas.Result.{err_from_is_err_and}
use Rattle.subject.proofs.Sending.{moves_front}
use Rattle.subject.proofs.Executing.{breaks_stopped}
use Rattle.subject.proofs.process.execute.Goals as goal

pub returns-in_err-drain-clause-breaks : goal.returns-in_err-drain-clause-breaks
returns-in_err-drain-clause-breaks g c =
    let p = err_from_is_err_and c.from_residual-in_err-drain.result c.from_residual-in_err-drain.ensures.1 in
    let stops = c.in_ok-halt.ensures.stops in
    rw (p.1) (breaks_stopped _ c.args.most c.in_ok-halt.halt stops.0 _ _ stops.1 (moves_front _ _ _ _ _ _ stops.2 c.in_err-drain.ensures.front))
