-- What was judged and what is left is the whole.
use Rattle.std.proofs.Common.{◌≡◌, ◌∷◌, drop, map}
use Rattle.c_type.specs.Of.{type_of}
use Rattle.c_tree.specs.TreeOf as u
use Rattle.c_tree.specs.TypedOf.{local_of}
use Rattle.c_scope.specs.EnvOf.{env_of}
use Rattle.c_rule.specs.Judging.{judged_locals}
use Rattle.c_local.proofs.Lists.{with_parts}
use Rattle.c_local.proofs.locals.items.Given as goal

abbrev pub invariant-loop-one : goal.invariant-loop-one
invariant-loop-one l =
    judged_locals (env_of l.initial.c) l.storage (type_of l.base) (map u.item_of l.items) ≡
    with_parts (λ x r. local_of x ∷ r) l.typed.items (judged_locals (env_of l.c) l.storage (type_of l.base) (map u.item_of (drop l.one-index l.items)))
