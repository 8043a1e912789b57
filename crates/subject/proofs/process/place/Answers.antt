use Rattle.subject.proofs.Calling.{placed, misplaced}
use Rattle.subject.proofs.process.place.Goals as goal

pub returns-then-given-descriptor : goal.returns-then-given-descriptor
returns-then-given-descriptor c =
    λ f. placed c.args.cpu.now c.args.memory.now c.in-Some.given c.args.descriptor c.in-Some-argument.at c.in-Some-argument-2.count _ _ _ f c.in-Some.ensures c.in-Some-argument.ensures c.in-Some-argument-2.ensures c.if-given-descriptor.true

pub returns-else-given-descriptor : goal.returns-else-given-descriptor
returns-else-given-descriptor c =
    λ f. misplaced c.args.cpu.now c.args.memory.now c.in-Some.given c.args.descriptor c.in-Some-argument.at c.in-Some-argument-2.count _ _ _ f c.in-Some.ensures c.in-Some-argument.ensures c.in-Some-argument-2.ensures c.if-given-descriptor.false
