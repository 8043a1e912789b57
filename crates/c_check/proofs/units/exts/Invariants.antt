-- What was judged and what is left is the whole.
use Rattle.std.proofs.Common.{◌≡◌, ◌∷◌, drop, map}
use Rattle.c_tree.specs.TreeOf as u
use Rattle.c_tree.specs.TypedOf.{ext_of}
use Rattle.c_scope.specs.EnvOf.{env_of}
use Rattle.c_rule.specs.JudgingUnit as j
use Rattle.c_local.proofs.Lists.{with_parts}
use Rattle.c_check.proofs.units.exts.Given as goal

abbrev pub invariant-loop-part : goal.invariant-loop-part
invariant-loop-part l =
    j.judged_exts (env_of l.initial.c) (map u.ext_of l.parts) ≡
    with_parts (λ x r. ext_of x ∷ r) l.typed.items (j.judged_exts (env_of l.c) (map u.ext_of (drop l.part-index l.parts)))
