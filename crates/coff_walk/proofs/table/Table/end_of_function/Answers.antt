use Rattle.std.proofs.Common.{◌∙◌}
use Rattle.coff_walk.proofs.Closing.{smaller, function_found, function_body, function_on, function_out}
use Rattle.coff_walk.proofs.table.Table.end_of_function.Goals as goal

pub loop-e-smaller : goal.loop-e-smaller
loop-e-smaller c = smaller c.args.self.now c.loop-e.n c.in-Some.e.next c.in-Some.e.kind c.in-Some.ensures.place

pub returns-in-Function : goal.returns-in-Function
returns-in-Function c = record { end = function_found c.args.own c.in-Some.ensures.place c.in-Function.is c.loop-e.invariant }

pub returns-in-BodyBegin : goal.returns-in-BodyBegin
returns-in-BodyBegin c = record { end = c.end_of_body.ensures.end ∙ function_body c.args.own c.in-Some.ensures.place c.in-BodyBegin.is c.loop-e.invariant }

pub loop-e-preserved : goal.loop-e-preserved
loop-e-preserved c = function_on c.args.own c.in-Some.ensures.place c.in_default-kind.not-Function c.in_default-kind.not-BodyBegin c.loop-e.invariant

pub returns : goal.returns
returns c = record { end = function_out c.args.self.now c.args.own c.loop-e.n c.in_default.ensures.place c.loop-e.invariant }
