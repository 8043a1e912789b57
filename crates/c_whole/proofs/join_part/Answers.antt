use Rattle.std.proofs.Common.{false, map, ap, refl}
use Rattle.c_tree.specs.TypedOf.{unit_of}
use Rattle.c_whole.specs.Classes.{rows_of}
use Rattle.c_whole.proofs.Accepted.{accepted_of}
use Rattle.c_whole.proofs.join_part.Goals as goal

pub returns-clause-joined : goal.returns-clause-joined
returns-clause-joined c =
    let all = accepted_of false (map unit_of c.args.units.items) (map unit_of c.deref.result.now) (rows_of c.in_ok-classes.classes.items) (ap (map unit_of) c.deref.ensures.value) c.in_ok-classes.ensures.accepted in
    record { units = refl; each = all.numbered.each; agree = all.numbered.agree; accepted = all.accepted }
