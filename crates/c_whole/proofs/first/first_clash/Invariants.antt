-- What is left decides.
use Rattle.std.proofs.Common.{◌≡◌, drop}
use Rattle.c_join.specs.JoinChecks as s
use Rattle.c_whole.specs.Types.{classes_of}
use Rattle.c_whole.specs.Groups.{groups_of, first_group}
use Rattle.c_whole.proofs.first.first_clash.Given as goal

abbrev pub invariant-loop-group : goal.invariant-loop-group
invariant-loop-group l = first_group (s.is_clash (s.same_class (classes_of l.classes))) (groups_of (drop l.group-index l.groups)) ≡ first_group (s.is_clash (s.same_class (classes_of l.classes))) (groups_of l.groups)
