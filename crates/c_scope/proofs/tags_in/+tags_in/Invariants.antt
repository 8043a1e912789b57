-- What was added and what is left is the whole.
use Rattle.std.proofs.Common.{◌≡◌, ◌++◌, drop}
use Rattle.c_tree.specs.TreeOf as u
use Rattle.c_rule.specs.RuleNames as n
use Rattle.c_scope.specs.EnvOf.{heads_of}
use Rattle.c_scope.proofs.tags_in.+tags_in.Given as goal

abbrev pub invariant-in_mems-loop-mem : goal.invariant-in_mems-loop-mem
invariant-in_mems-loop-mem l = heads_of l.heads ++ n.tags_in_mems (u.mems_from (drop l.mem-index l.mems)) ≡ heads_of l.initial.heads ++ n.tags_in_mems (u.mems_from l.mems)
