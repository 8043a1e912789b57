use Rattle.coff_walk.proofs.Closing.{smaller, eos_found, eos_lost, eos_on, eos_out}
use Rattle.coff_walk.proofs.table.Table.eos_of_tag.Goals as goal

pub loop-e-smaller : goal.loop-e-smaller
loop-e-smaller c = smaller c.args.self.now c.loop-e.n c.in-Some.e.next c.in-Some.e.kind c.in-Some.ensures.place

pub loop-e-preserved : goal.loop-e-preserved
loop-e-preserved c = eos_on c.in-Some.ensures.place c.in-Member.is c.loop-e.invariant

pub returns-in-EndOfTag : goal.returns-in-EndOfTag
returns-in-EndOfTag c = record { eos = (c.in-Some.ensures.place.inside, eos_found c.in-Some.ensures.place c.in-EndOfTag.is c.loop-e.invariant) }

pub returns-in_default-kind : goal.returns-in_default-kind
returns-in_default-kind c = record { eos = eos_lost c.in-Some.ensures.place c.in_default-kind.not-Member c.in_default-kind.not-EndOfTag c.loop-e.invariant }

pub returns : goal.returns
returns c = record { eos = eos_out c.args.self.now c.loop-e.n c.in_default.ensures.place c.loop-e.invariant }
