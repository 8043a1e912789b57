-- The labels of the whole differ exactly where those that are left differ, also from those before them.
use Rattle.std.proofs.Common.{◌≡◌, drop}
use Rattle.c_rule.specs.RuleStmts as s
use Rattle.c_tree.specs.TypedOf.{items_from}
use Rattle.c_block.proofs.LabelsDiffer.{left_differ}
use Rattle.c_block.proofs.labels.labels_differ.Given as goal

abbrev pub invariant-loop-item : goal.invariant-loop-item
invariant-loop-item l = s.labels_differ (items_from l.items) ≡ left_differ l.cases.keys l.has_default (items_from (drop l.item-index l.items))
