-- What was added and what is left is the whole.
use Rattle.std.proofs.Common.{◌≡◌, ◌++◌, drop, map}
use Rattle.std.specs.List.{flat_map}
use Rattle.c_tree.specs.TreeOf as u
use Rattle.c_rule.specs.RuleNames as n
use Rattle.c_scope.specs.EnvOf.{bodies_of}
use Rattle.c_scope.proofs.tags_in.bodies_in.Given as goal

abbrev pub invariant-loop-ext : goal.invariant-loop-ext
invariant-loop-ext l = bodies_of l.bodies ++ flat_map n.body_in_ext (map u.ext_of (drop l.ext-index l.unit.exts.items)) ≡ flat_map n.body_in_ext (map u.ext_of l.unit.exts.items)
