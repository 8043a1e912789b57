-- What was added and what is left is the whole.
use Rattle.std.proofs.Common.{◌≡◌, ◌++◌, drop}
use Rattle.c_tree.specs.TypedOf.{stmts_from, items_from}
use Rattle.c_limit.specs.Parts as s
use Rattle.c_limit.specs.Of.{parts_of}
use Rattle.c_limit.proofs.parts.+add_parts.Given as goal

abbrev pub invariant-add_items-loop-item : goal.invariant-add_items-loop-item
invariant-add_items-loop-item l =
    parts_of l.out.items ++ s.parts_items (items_from (drop l.item-index l.items)) ≡ parts_of l.initial.out.items ++ s.parts_items (items_from l.items)

abbrev pub invariant-add_stmts-loop-stmt : goal.invariant-add_stmts-loop-stmt
invariant-add_stmts-loop-stmt l =
    parts_of l.out.items ++ s.parts_stmts (stmts_from (drop l.stmt-index l.stmts)) ≡ parts_of l.initial.out.items ++ s.parts_stmts (stmts_from l.stmts)
