-- What was added and what is left is the whole.
use Rattle.std.proofs.Common.{◌≡◌, ◌++◌, drop}
use Rattle.c_tree.specs.Starts as s
use Rattle.c_tree.specs.TypedOf.{stmts_from, items_from}
use Rattle.c_tree.proofs.start_lines.+add_starts.Given as goal

abbrev pub invariant-add_items-loop-item : goal.invariant-add_items-loop-item
invariant-add_items-loop-item l =
    l.lines.items ++ s.lines (s.starts_items (items_from (drop l.item-index l.items))) ≡
    l.initial.lines.items ++ s.lines (s.starts_items (items_from l.items))

abbrev pub invariant-add_stmts-loop-stmt : goal.invariant-add_stmts-loop-stmt
invariant-add_stmts-loop-stmt l =
    l.lines.items ++ s.lines (s.starts_stmts (stmts_from (drop l.stmt-index l.stmts))) ≡
    l.initial.lines.items ++ s.lines (s.starts_stmts (stmts_from l.stmts))
