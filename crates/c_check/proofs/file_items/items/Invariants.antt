-- What was judged and what is left is the whole.
use Rattle.std.proofs.Common.{◌≡◌, ◌∷◌, drop, map}
use Rattle.c_type.specs.Of.{type_of}
use Rattle.c_tree.specs.TreeOf as u
use Rattle.c_tree.specs.TypedOf.{typed_item_of}
use Rattle.c_scope.specs.EnvOf.{env_of}
use Rattle.c_rule.specs.JudgingUnit as j
use Rattle.c_local.proofs.Lists.{with_parts}
use Rattle.c_check.proofs.file_items.items.Given as goal

abbrev pub invariant-loop-one : goal.invariant-loop-one
invariant-loop-one l =
    j.judged_file_items (env_of l.initial.c) l.storage (type_of l.base) (map u.item_of l.items) ≡
    with_parts (λ x r. typed_item_of x ∷ r) l.typed.items (j.judged_file_items (env_of l.c) l.storage (type_of l.base) (map u.item_of (drop l.one-index l.items)))
