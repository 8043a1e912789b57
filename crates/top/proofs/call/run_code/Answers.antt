use Rattle.std.proofs.Common.{◌∙◌, ap, refl, Err}
use Rattle.top.specs.Ended.{stopped, broken}
use Rattle.top.proofs.call.run_code.Goals as goal

pub returns-in-Ok : goal.returns-in-Ok
returns-in-Ok g c =
    let r = c.in-Ok.ensures.runs in
    record { end = stopped r.0 c.in-Ok.halt r.1 r.2 c.stopped.ensures }

pub returns-in-Err-WriteFault : goal.returns-in-Err-WriteFault
returns-in-Err-WriteFault g c =
    let failed = c.in-Err-WriteFault.is ∙ ap Err c.in-Err-WriteFault.field-0-is in
    let r = rw failed at c.run_text.ensures.runs in
    record { end = broken r.0 r.1 r.2 refl (c.run_text.ensures.failed failed) }
