-- The names that were added and those of the parts that are left are all.
use Rattle.std.proofs.Common.{◌≡◌, ◌++◌, drop, map}
use Rattle.std.specs.List.{flat_map}
use Rattle.c_tree.specs.TreeOf as u
use Rattle.c_rule.specs.RuleNames as n
use Rattle.c_check.specs.UnitParts.{names_in}
use Rattle.c_check.proofs.units.defined_in.Given as goal

abbrev pub invariant-loop-part : goal.invariant-loop-part
invariant-loop-part l = names_in l.defined ++ flat_map n.defined_in_ext (map u.ext_of (drop l.part-index l.parts)) ≡ flat_map n.defined_in_ext (map u.ext_of l.parts)
