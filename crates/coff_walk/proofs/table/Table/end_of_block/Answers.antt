use Rattle.std.proofs.Common.{arith, inl, inr}
use Rattle.coff_walk.proofs.Closing.{smaller, deeper, back, along, block_found, block_lost, block_out}
use Rattle.coff_walk.proofs.table.Table.end_of_block.Goals as goal

pub loop-e-smaller : goal.loop-e-smaller
loop-e-smaller c = smaller c.args.self.now c.loop-e.n c.in-Some.e.next c.in-Some.e.kind c.in-Some.ensures.place

pub loop-e-smaller-in-BlockBegin : goal.loop-e-smaller-in-BlockBegin
loop-e-smaller-in-BlockBegin c = smaller c.args.self.now c.loop-e.n c.in-Some.e.next c.in-Some.e.kind c.in-Some.ensures.place

pub loop-e-smaller-else-inner-eq0 : goal.loop-e-smaller-else-inner-eq0
loop-e-smaller-else-inner-eq0 c = smaller c.args.self.now c.loop-e.n c.in-Some.e.next c.in-Some.e.kind c.in-Some.ensures.place

pub overflow_add-inner : goal.overflow_add-inner
overflow_add-inner c = let i = c.in-Some.ensures.place.inside in let few = c.loop-e.invariant.few in let small = c.at.ensures.small in omega (arith, i, few, small)

pub loop-e-preserved-in-BlockBegin : goal.loop-e-preserved-in-BlockBegin
loop-e-preserved-in-BlockBegin c = deeper c.args.self.now c.args.from c.loop-e.n c.loop-e.inner c.in-Some.e.next c.in-Some.e.kind c.in-Some.ensures.place c.in-BlockBegin.is c.loop-e.invariant

pub loop-e-preserved-else-inner-eq0 : goal.loop-e-preserved-else-inner-eq0
loop-e-preserved-else-inner-eq0 c = back c.args.self.now c.args.from c.loop-e.n c.loop-e.inner c.in-Some.e.next c.in-Some.e.kind c.in-Some.ensures.place c.in-BlockEnd.is (omega (arith, c.if-inner-eq0.false)) c.loop-e.invariant

pub loop-e-preserved : goal.loop-e-preserved
loop-e-preserved c = along c.args.self.now c.args.from c.loop-e.n c.loop-e.inner c.in-Some.e.next c.in-Some.e.kind c.in-Some.ensures.place c.in_default-kind.not-BlockBegin c.in_default-kind.not-BlockEnd c.in_default-kind.not-BodyBegin c.in_default-kind.not-BodyEnd c.loop-e.invariant

pub returns-then-inner-eq0 : goal.returns-then-inner-eq0
returns-then-inner-eq0 c = record { end = block_found c.in-Some.ensures.place c.in-BlockEnd.is c.if-inner-eq0.true c.loop-e.invariant }

pub returns-in-BodyBegin : goal.returns-in-BodyBegin
returns-in-BodyBegin c = record { end = block_lost c.in-Some.ensures.place (inl c.in-BodyBegin.is) c.loop-e.invariant }

pub returns-in-BodyEnd : goal.returns-in-BodyEnd
returns-in-BodyEnd c = record { end = block_lost c.in-Some.ensures.place (inr c.in-BodyEnd.is) c.loop-e.invariant }

pub returns : goal.returns
returns c = record { end = block_out c.args.self.now c.loop-e.n c.in_default.ensures.place c.loop-e.invariant }
