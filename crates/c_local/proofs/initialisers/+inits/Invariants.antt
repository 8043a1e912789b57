-- What was judged and what is left is the whole.
use Rattle.std.proofs.Common.{◌≡◌, drop, map, replicate}
use Rattle.c_type.specs.Of.{type_of}
use Rattle.c_tree.specs.TreeOf as u
use Rattle.c_tree.specs.TStmt as st
use Rattle.c_tree.specs.TypedOf.{init_of}
use Rattle.c_scope.specs.EnvOf.{env_of}
use Rattle.c_rule.specs.Judging.{judged_inits}
use Rattle.c_local.proofs.Lists.{with_parts}
use Rattle.c_local.proofs.initialisers.+inits.Given as goal

abbrev pub invariant-elements-loop-i : goal.invariant-elements-loop-i
invariant-elements-loop-i l =
    judged_inits (env_of l.initial.c) (replicate l.count (type_of l.of)) (u.inits_from l.inits) ≡
    with_parts (λ i r. st.more_inits (init_of i) r) l.parts.items (judged_inits (env_of l.c) (drop l.i (replicate l.count (type_of l.of))) (u.inits_from (drop l.i l.inits)))

abbrev pub invariant-members-loop-i : goal.invariant-members-loop-i
invariant-members-loop-i l =
    judged_inits (env_of l.initial.c) (map type_of l.types) (u.inits_from l.inits) ≡
    with_parts (λ i r. st.more_inits (init_of i) r) l.parts.items (judged_inits (env_of l.c) (drop l.i (map type_of l.types)) (u.inits_from (drop l.i l.inits)))
