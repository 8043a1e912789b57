-- What was judged and what is left is the whole.
use Rattle.std.proofs.Common.{◌≡◌, ◌∷◌, drop, map}
use Rattle.c_tree.specs.TreeOf as u
use Rattle.c_tree.specs.TypedOf.{local_decl_of}
use Rattle.c_scope.specs.EnvOf.{env_of}
use Rattle.c_rule.specs.Judging.{judged_decls}
use Rattle.c_local.proofs.Lists.{with_parts}
use Rattle.c_local.proofs.locals.declarations.Given as goal

abbrev pub invariant-loop-decl : goal.invariant-loop-decl
invariant-loop-decl l =
    judged_decls (env_of l.initial.c) (map u.local_of l.decls) ≡
    with_parts (λ x r. local_decl_of x ∷ r) l.typed.items (judged_decls (env_of l.c) (map u.local_of (drop l.decl-index l.decls)))
