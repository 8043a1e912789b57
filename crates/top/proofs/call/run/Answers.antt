use Rattle.std.proofs.Common.{◌∙◌, ap, Err}
use Rattle.std.proofs.KnownBytes.{Appends-nil}
use Rattle.top.specs.Outside.{outside}
use Rattle.top.proofs.Answering.{texts_answered, unread_answered}
use Rattle.top.proofs.call.run.Goals as goal

pub returns-in-Ok-clause-answer : goal.returns-in-Ok-clause-answer
returns-in-Ok-clause-answer g c =
    texts_answered c.args.names.now c.args.most
    (outside (g.F.Files.held c.args.files.now) (g.F.Files.faults c.args.files.now) (g.F.Files.faults c.texts.new.files) (g.S.Sink.held c.args.out.now) (g.S.Sink.held c.run_texts.new.out) (g.S.Sink.faults c.args.out.now) (g.S.Sink.faults c.run_texts.new.out))
    c.run_texts.result c.in-Ok.texts c.in-Ok.ensures.read (rw (c.deref.ensures.value) at c.run_texts.ensures.end)

pub returns-in-Err-clause-answer : goal.returns-in-Err-clause-answer
returns-in-Err-clause-answer g c =
    unread_answered c.args.names.now c.args.most
    (outside (g.F.Files.held c.args.files.now) (g.F.Files.faults c.args.files.now) (g.F.Files.faults c.texts.new.files) (g.S.Sink.held c.args.out.now) (g.S.Sink.held c.args.out.now) (g.S.Sink.faults c.args.out.now) (g.S.Sink.faults c.args.out.now))
    (Appends-nil _) c.in-Err.end c.in-Err.ensures.read (λ is. c.texts.ensures.failed (c.in-Err.is ∙ ap Err is))
