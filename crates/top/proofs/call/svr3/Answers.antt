use Rattle.std.proofs.KnownBytes.{Appends-nil}
use Rattle.top.specs.Outside.{outside}
use Rattle.top.proofs.Wording.{few_files, files_are}
use Rattle.top.proofs.Answering.{asked_answers, memory_answers, told_answers, only_memory}
use Rattle.top.proofs.call.svr3.Goals as goal

pub run-end-requires : goal.run-end-requires
run-end-requires g c =
    let request = c.in-Ok-Some.request in
    record { few = few_files c.args.words.now request.files.now request.most (rw (c.in-Ok-Some.field-0-is) at c.in-Ok-Some.ensures.asked) }

pub returns-in-Ok-Some-clause-answer : goal.returns-in-Ok-Some-clause-answer
returns-in-Ok-Some-clause-answer g c =
    let request = c.in-Ok-Some.request in
    let told = outside (g.F.Files.held c.args.files.now) (g.F.Files.faults c.args.files.now) (g.F.Files.faults c.run-end.new.files) (g.S.Sink.held c.args.out.now) (g.S.Sink.held c.run-end.new.out) (g.S.Sink.faults c.args.out.now) (g.S.Sink.faults c.run-end.new.out) in
    asked_answers c.args.words.now request.files.now request.most told c.told.result (rw (c.in-Ok-Some.field-0-is) at c.in-Ok-Some.ensures.asked)
    (told_answers request.files.now request.most told c.run-end.result c.told.result c.run-end.ensures.answer c.told.ensures.same)

pub returns-in-Ok-Some-clause-line : goal.returns-in-Ok-Some-clause-line
returns-in-Ok-Some-clause-line g c =
    let request = c.in-Ok-Some.request in
    rw (files_are c.args.words.now request.files.now request.most (rw (c.in-Ok-Some.field-0-is) at c.in-Ok-Some.ensures.asked)) c.told.ensures.line

pub returns-in-Err-clause-answer : goal.returns-in-Err-clause-answer
returns-in-Err-clause-answer g c =
    memory_answers c.args.words.now
    (outside (g.F.Files.held c.args.files.now) (g.F.Files.faults c.args.files.now) (g.F.Files.faults c.args.files.now) (g.S.Sink.held c.args.out.now) (g.S.Sink.held c.args.out.now) (g.S.Sink.faults c.args.out.now) (g.S.Sink.faults c.args.out.now))
    c.told-in-Err.result (only_memory c.told-in-Err.result c.told-in-Err.ensures.same) (Appends-nil _)
