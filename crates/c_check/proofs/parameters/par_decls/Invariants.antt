-- What was judged and what is left is the whole.
use Rattle.std.proofs.Common.{◌≡◌, ◌∷◌, drop, map}
use Rattle.c_tree.specs.TreeOf as u
use Rattle.c_tree.specs.TypedOf.{par_of}
use Rattle.c_check.specs.ListOf.{names_of}
use Rattle.c_scope.specs.EnvOf.{env_of}
use Rattle.c_rule.specs.JudgingUnit as j
use Rattle.c_local.proofs.Lists.{with_parts}
use Rattle.c_check.proofs.parameters.par_decls.Given as goal

abbrev pub invariant-loop-part : goal.invariant-loop-part
invariant-loop-part l =
    j.judged_par_decls (env_of l.initial.c) (names_of l.list) (map u.par_of l.parts) ≡
    with_parts (λ x r. par_of x ∷ r) l.typed.items (j.judged_par_decls (env_of l.c) (names_of l.list) (map u.par_of (drop l.part-index l.parts)))
