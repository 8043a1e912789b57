use Rattle.std.proofs.Common.{map, ◌∙◌}
use Rattle.c_tree.specs.TypedOf.{unit_of}
use Rattle.c_join.specs.JoinChecks.{same_class}
use Rattle.c_whole.specs.Facts.{facts_of}
use Rattle.c_whole.specs.Groups.{groups_of}
use Rattle.c_whole.specs.Types.{classes_of}
use Rattle.c_whole.proofs.WholeRefusal.{whole_refusal}
use Rattle.c_whole.proofs.refusals.of_groups.Goals as goal

pub returns : goal.returns
returns c =
    c.first_refusal.ensures ∙
    whole_refusal (map unit_of c.args.whole.now.units.now) (facts_of c.args.facts.now) (groups_of c.args.groups.now) c.requires.said c.requires.grouped c.args.complete
    (same_class (classes_of c.args.whole.now.classes)) _ _ _ _ _ c.has_main.ensures c.first_twice.ensures c.first_undefined.ensures c.first_clash.ensures c.first_misfit.ensures
