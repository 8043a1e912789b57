use Rattle.coff_walk.proofs.Closing.{smaller, body_found, body_lost, body_on, body_out}
use Rattle.coff_walk.proofs.table.Table.end_of_body.Goals as goal

pub loop-e-smaller : goal.loop-e-smaller
loop-e-smaller c = smaller c.args.self.now c.loop-e.n c.in-Some.e.next c.in-Some.e.kind c.in-Some.ensures.place

pub returns-in-BodyEnd : goal.returns-in-BodyEnd
returns-in-BodyEnd c = record { end = body_found c.in-Some.ensures.place c.in-BodyEnd.is c.loop-e.invariant }

pub returns-in-BodyBegin : goal.returns-in-BodyBegin
returns-in-BodyBegin c = record { end = body_lost c.in-Some.ensures.place c.in-BodyBegin.is c.loop-e.invariant }

pub loop-e-preserved : goal.loop-e-preserved
loop-e-preserved c = body_on c.in-Some.ensures.place c.in_default-kind.not-BodyEnd c.in_default-kind.not-BodyBegin c.loop-e.invariant

pub returns : goal.returns
returns c = record { end = body_out c.args.self.now c.loop-e.n c.in_default.ensures.place c.loop-e.invariant }
