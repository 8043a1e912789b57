use Rattle.std.proofs.Common.{◌≡◌, [], ◌∙◌, ap, sym}
use Rattle.subject.specs.Process.{output_of, write_called, appended_from}
use Rattle.subject.proofs.Sending.{moves-nil}
use Rattle.subject.proofs.Calling.{not_appended}
use Rattle.subject.proofs.process.write.Goals as goal

pub returns-else-can_read_all-clause-moved : goal.returns-else-can_read_all-clause-moved
returns-else-can_read_all-clause-moved g c =
    let cpu = c.args.cpu.now in
    let m = c.args.memory.now in
    let e : output_of (write_called cpu m) ≡ [] =
    ap output_of (c.in-Ok.ensures (appended_from cpu m) ∙ not_appended cpu m c.in-Ok.at c.in-Ok.count c.min-count.result c.min-count.ensures (sym c.can_read_all.ensures ∙ c.if-can_read_all.false)) in
    rw e (moves-nil _ _)

pub returns-in-Err-clause-moved : goal.returns-in-Err-clause-moved
returns-in-Err-clause-moved g c =
    let cpu = c.args.cpu.now in
    let m = c.args.memory.now in
    let e : output_of (write_called cpu m) ≡ [] = ap output_of (c.in-Err.ensures (appended_from cpu m)) in
    rw e (moves-nil _ _)
