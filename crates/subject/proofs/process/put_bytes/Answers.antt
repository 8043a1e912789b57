use Rattle.std.proofs.Common.{add-one, arith, append_assoc}
use Rattle.std.specs.Prelude.{◌++◌}
use Rattle.std.proofs.lemmas.Result.{err_from_is_err_and}
use Rattle.mach_exec.specs.Strings.{bytes_from}
use Rattle.subject.specs.Output.{GainsFront}
use Rattle.subject.proofs.Sending.{moves-nil, moves-trans, moves_front, front_more}
use Rattle.subject.proofs.Calling.{bytes_none, bytes_more, bytes_split}
use Rattle.subject.proofs.process.put_bytes.Goals as goal

pub loop-k-init : goal.loop-k-init
loop-k-init g c = record { moved = rw (bytes_none c.args.memory.now c.args.at) (moves-nil _ _); later = omega arith }

pub loop-k-preserved : goal.loop-k-preserved
loop-k-preserved g c = record {
  moved =
      rw (add-one, bytes_more c.args.memory.now c.args.at c.loop-k.k (omega arith))
      (moves-trans _ _ _ _ _ _ _ _ c.loop-k.invariant.moved (rw (c.unwrap_or-byte.ensures, c.read8.ensures.byte) at c.in_ok-push.ensures.moved));
  later = omega (arith, c.in_ok-push.ensures.later);
}

pub returns-in_err-push-clause-front : goal.returns-in_err-push-clause-front
returns-in_err-push-clause-front g c =
    let p = err_from_is_err_and c.from_residual.result c.from_residual.ensures.1 in
    let at = c.loop-k.k in
    let split = bytes_split c.args.memory.now c.args.at at c.args.count (omega arith) in
    let front : GainsFront (g.S.Sink.held c.args.out.now) (g.S.Sink.held c.push.new.out) (c.args.output.now ++ bytes_from c.args.memory.now c.args.at at) =
    moves_front _ _ _ _ _ _ c.loop-k.invariant.moved c.in_err-push.ensures.front in
    rw (p.1, split.1, ← append_assoc c.args.output.now (bytes_from c.args.memory.now c.args.at at) split.0) (front_more _ _ _ split.0 front)
