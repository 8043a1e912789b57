use Rattle.c_tree.specs.TreeOf as u
use Rattle.c_check.proofs.Lawful.{typed_by, none_by, told_by}
use Rattle.c_check.proofs.units.check.Goals as goal

pub returns : goal.returns
returns c =
    record {
      typed = typed_by (u.unit_of c.args.u.now) _ c.judged_unit.ensures.judged;
      none_fails = none_by (u.unit_of c.args.u.now) _ c.judged_unit.ensures.judged;
      fails = told_by (u.unit_of c.args.u.now) _ c.judged_unit.ensures.judged;
    }
