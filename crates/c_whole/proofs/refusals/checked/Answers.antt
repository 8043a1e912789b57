use Rattle.std.proofs.Common.{map, ap}
use Rattle.std.specs.Option.{option_map}
use Rattle.c_tree.specs.TypedOf.{unit_of}
use Rattle.c_whole.specs.Classes.{rows_of}
use Rattle.c_whole.specs.Refusals.{refusal_of, told_as}
use Rattle.c_whole.proofs.Accepted.{accepted_by, refused_by}
use Rattle.c_whole.proofs.refusals.checked.Goals as goal

pub returns-in-Some-clause-refused : goal.returns-in-Some-clause-refused
returns-in-Some-clause-refused c =
    refused_by c.args.complete (map unit_of c.args.units.now) (rows_of c.in_ok-classes.classes.items) (rows_of c.deref.result.now) (ap rows_of c.deref.ensures.value)
    c.in_ok-classes.ensures.numbered (option_map refusal_of c.in_ok-refusal.field-0) c.in_ok-refusal.ensures.refusal (refusal_of c.in-Some.refusal)
    (ap (option_map refusal_of) c.in-Some.is) (told_as c.error.result) c.error.ensures

pub returns-in-None-clause-accepted : goal.returns-in-None-clause-accepted
returns-in-None-clause-accepted c =
    accepted_by c.args.complete (map unit_of c.args.units.now) (rows_of c.in_ok-classes.classes.items) (rows_of c.deref.result.now) (ap rows_of c.deref.ensures.value)
    c.in_ok-classes.ensures.numbered (option_map refusal_of c.in_ok-refusal.field-0) c.in_ok-refusal.ensures.refusal (ap (option_map refusal_of) c.in-None.is)
