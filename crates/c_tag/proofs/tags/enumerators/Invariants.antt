-- What was judged and what is left is the whole.
use Rattle.std.proofs.Common.{◌≡◌, ◌∷◌, drop, map}
use Rattle.c_tree.specs.TreeOf as u
use Rattle.std.specs.Prelude.{None}
use Rattle.c_tree.specs.TypedOf.{enumerator_of}
use Rattle.c_scope.specs.EnvOf.{env_of}
use Rattle.c_rule.specs.JudgingUnit as j
use Rattle.c_local.proofs.Lists.{with_parts}
use Rattle.c_tag.proofs.tags.enumerators.Given as goal

abbrev pub invariant-loop-part : goal.invariant-loop-part
invariant-loop-part l =
    j.judged_enumerators (env_of l.initial.c) None (map u.en_of l.parts) ≡
    with_parts (λ x r. enumerator_of x ∷ r) l.typed.items (j.judged_enumerators (env_of l.c) l.before (map u.en_of (drop l.part-index l.parts)))
