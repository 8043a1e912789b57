-- The names that were taken and those that are left are all.
use Rattle.std.proofs.Common.{◌≡◌, ◌++◌, drop, map}
use Rattle.c_rule.specs.RuleNames.{tag_names}
use Rattle.c_scope.specs.Entries.{head_of}
use Rattle.c_scope.proofs.heads.Heads.again.Given as goal

abbrev pub invariant-loop-head : goal.invariant-loop-head
invariant-loop-head l = map (λ n. n.now) l.names.items ++ tag_names (map head_of (drop l.head-index l.self.list.items)) ≡ tag_names (map head_of l.self.list.items)
