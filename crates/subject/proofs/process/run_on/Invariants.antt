use Rattle.std.proofs.Common.{[], ◌≤◌}
use Rattle.subject.specs.Process.{process_at}
use Rattle.subject.proofs.Executing.{Going}
use Rattle.subject.proofs.process.run_on.Given as goal

abbrev pub invariant-loop-done : goal.invariant-loop-done
invariant-loop-done g l = record {
  going : Going (process_at l.initial.cpu l.initial.memory []) l._done l.cpu l.memory (g.S.Sink.held l.initial.out) (g.S.Sink.held l.out) l.output;
  later : g.S.Sink.faults l.initial.out ≤ g.S.Sink.faults l.out;
}
