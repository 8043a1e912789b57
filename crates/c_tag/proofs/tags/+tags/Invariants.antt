-- What was judged and what is left is the whole.
use Rattle.std.proofs.Common.{◌≡◌, drop}
use Rattle.c_tree.specs.TreeOf as u
use Rattle.c_scope.specs.EnvOf.{env_of}
use Rattle.c_rule.specs.JudgingUnit as j
use Rattle.c_local.proofs.Lists.{with_parts}
use Rattle.c_tag.specs.TagParts.{mem_part, put}
use Rattle.c_tag.proofs.tags.+tags.Given as goal

abbrev pub invariant-mems-loop-part : goal.invariant-mems-loop-part
invariant-mems-loop-part l =
    j.judged_mems (env_of l.initial.c) (u.mems_from l.parts) ≡
    with_parts (λ x r. put (mem_part x) r) l.typed.items (j.judged_mems (env_of l.c) (u.mems_from (drop l.part-index l.parts)))
