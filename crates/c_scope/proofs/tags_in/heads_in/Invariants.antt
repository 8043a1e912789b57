-- What was added and what is left is the whole.
use Rattle.std.proofs.Common.{◌≡◌, ◌++◌, drop, map}
use Rattle.std.specs.List.{flat_map}
use Rattle.c_tree.specs.TreeOf as u
use Rattle.c_rule.specs.RuleNames as n
use Rattle.c_scope.specs.EnvOf.{heads_of}
use Rattle.c_scope.proofs.tags_in.heads_in.Given as goal

abbrev pub invariant-loop-ext : goal.invariant-loop-ext
invariant-loop-ext l = heads_of l.heads ++ flat_map n.tags_in_ext (map u.ext_of (drop l.ext-index l.unit.exts.items)) ≡ flat_map n.tags_in_ext (map u.ext_of l.unit.exts.items)
