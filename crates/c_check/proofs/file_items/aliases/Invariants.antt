-- What was judged and what is left is the whole.
use Rattle.std.proofs.Common.{◌≡◌, ◌∷◌, drop, map}
use Rattle.c_type.specs.Of.{type_of}
use Rattle.c_tree.specs.TreeOf as u
use Rattle.c_tree.specs.TypedOf.{declr_of}
use Rattle.c_scope.specs.EnvOf.{env_of}
use Rattle.c_rule.specs.JudgingUnit as j
use Rattle.c_local.proofs.Lists.{with_parts}
use Rattle.c_check.proofs.file_items.aliases.Given as goal

abbrev pub invariant-loop-declr : goal.invariant-loop-declr
invariant-loop-declr l =
    j.judged_aliases (env_of l.initial.c) (type_of l.base) (map u.declr_of l.declrs) ≡
    with_parts (λ x r. declr_of x ∷ r) l.typed.items (j.judged_aliases (env_of l.c) (type_of l.base) (map u.declr_of (drop l.declr-index l.declrs)))
