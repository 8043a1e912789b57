-- What was judged and what is left is the whole.
use Rattle.std.proofs.Common.{◌≡◌, drop}
use Rattle.c_tree.specs.TreeOf as u
use Rattle.c_tree.specs.TStmt.{more_stmts}
use Rattle.c_tree.specs.TypedOf.{stmt_of}
use Rattle.c_scope.specs.EnvOf.{env_of}
use Rattle.c_rule.specs.Judging.{judged_stmts, judged_items}
use Rattle.c_block.specs.PlaceOf.{place_of}
use Rattle.c_block.specs.SwitchParts.{put, part_of}
use Rattle.c_local.proofs.Lists.{with_parts}
use Rattle.c_block.proofs.blocks.+statements.Given as goal

abbrev pub invariant-statements-loop-part : goal.invariant-statements-loop-part
invariant-statements-loop-part l =
    judged_stmts (env_of l.initial.c) (place_of l.place) (u.stmts_from l.stmts) ≡
    with_parts (λ s r. more_stmts (stmt_of s) r) l.typed.items (judged_stmts (env_of l.c) (place_of l.place) (u.stmts_from (drop l.part-index l.stmts)))

abbrev pub invariant-switch_parts-loop-part : goal.invariant-switch_parts-loop-part
invariant-switch_parts-loop-part l =
    judged_items (env_of l.initial.c) (place_of l.place) (u.sw_items_from l.items) ≡
    with_parts (λ i r. put (part_of i) r) l.typed.items (judged_items (env_of l.c) (place_of l.place) (u.sw_items_from (drop l.part-index l.items)))
