use Rattle.small_build.specs.Built.{IsBuilt}
use Rattle.top.specs.Ended.{ran}
use Rattle.top.proofs.Answering.{unbuilt_ends}
use Rattle.top.proofs.call.run_texts.Goals as goal

pub returns-in-Ok : goal.returns-in-Ok
returns-in-Ok g c =
    let b = c.in-Ok.ensures.built in
    record { end = ran b.program b.accepted c.in-Ok.code.items b.code_is (rw (c.deref.ensures.value) at c.run_code.ensures.end) }

pub returns-in-Err : goal.returns-in-Err
returns-in-Err g c = record { end = unbuilt_ends c.in-Err.error c.in-Err.ensures.built c.unbuilt.ensures }
