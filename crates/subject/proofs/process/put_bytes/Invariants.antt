use Rattle.std.proofs.Common.{◌≤◌}
use Rattle.mach_exec.specs.Strings.{bytes_from}
use Rattle.subject.specs.Output.{Moves}
use Rattle.subject.proofs.process.put_bytes.Given as goal

abbrev pub invariant-loop-k : goal.invariant-loop-k
invariant-loop-k g l = record {
  moved : Moves (g.S.Sink.held l.initial.out) (g.S.Sink.held l.out) l.initial.output l.output (bytes_from l.memory l.at l.k);
  later : g.S.Sink.faults l.initial.out ≤ g.S.Sink.faults l.out;
}
