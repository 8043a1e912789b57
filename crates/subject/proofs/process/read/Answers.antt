use Rattle.std.proofs.Common.{◌∙◌, sym, ap}
use Rattle.subject.specs.Process.{cpu_behind, stored_at}
use Rattle.subject.proofs.Calling.{nothing_stored}
use Rattle.subject.proofs.process.read.Goals as goal

pub returns-in-Ok : goal.returns-in-Ok
returns-in-Ok c =
    let cpu = c.args.cpu.now in
    let m = c.args.memory.now in
    c.give.ensures ∙ sym (ap (cpu_behind cpu) (c.in-Ok.ensures (stored_at cpu m) ∙ nothing_stored cpu m c.in-Ok.field-0.0 c.in-Ok.field-0.1))
