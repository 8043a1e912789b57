-- What was added and what is left is the whole.
use Rattle.std.proofs.Common.{◌≡◌, ◌++◌, drop}
use Rattle.c_join.specs.JoinSaid as s
use Rattle.c_tree.specs.TypedOf.{stmts_from, items_from}
use Rattle.c_whole.specs.Events.{events_of}
use Rattle.c_whole.proofs.in_stmts.+in_stmts.Given as goal

abbrev pub invariant-in_items-loop-item : goal.invariant-in_items-loop-item
invariant-in_items-loop-item l =
    events_of l.out.items ++ s.in_items (items_from (drop l.item-index l.items)) ≡ events_of l.initial.out.items ++ s.in_items (items_from l.items)

abbrev pub invariant-in_stmts-loop-stmt : goal.invariant-in_stmts-loop-stmt
invariant-in_stmts-loop-stmt l =
    events_of l.out.items ++ s.in_stmts (stmts_from (drop l.stmt-index l.stmts)) ≡ events_of l.initial.out.items ++ s.in_stmts (stmts_from l.stmts)
