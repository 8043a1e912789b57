-- The first unit in which a limit is passed says which.
use Rattle.std.proofs.Common.{sym, ap, ◌∙◌, arith}
use Rattle.std.specs.Option.{option_map}
use Rattle.c_limit.specs.Errors.{excess_of}
use Rattle.c_limit.specs.UnitLimits.{limits_at}
use Rattle.c_limit.proofs.FirstPassed.{units-refused, units-passed}
use Rattle.c_limit.proofs.checks.first_of_units.Goals as goal

pub returns-in-Some : goal.returns-in-Some
returns-in-Some c =
    units-refused (limits_at c.args.which) c.args.units.now c.loop-unit.unit-index c.unit-item.result (excess_of c.in-Some.refusal) (omega arith) c.unit-item.is c.loop-unit.invariant
    (sym (ap (option_map excess_of) c.in-Some.is) ∙ c.in_ok-refusal.ensures)

pub loop-unit-preserved : goal.loop-unit-preserved
loop-unit-preserved c =
    units-passed (limits_at c.args.which) c.args.units.now c.loop-unit.unit-index c.unit-item.result (omega arith) c.unit-item.is c.loop-unit.invariant
    (sym (ap (option_map excess_of) c.in_default.is) ∙ c.in_ok-refusal.ensures)
