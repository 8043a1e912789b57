-- What was added and what is left is the whole.
use Rattle.std.proofs.Common.{◌≡◌, ◌++◌, drop, map}
use Rattle.std.specs.List.{flat_map}
use Rattle.c_tree.specs.TreeOf as u
use Rattle.c_rule.specs.RuleNames as n
use Rattle.c_scope.specs.EnvOf.{heads_of}
use Rattle.c_scope.proofs.tags_in.in_params.Given as goal

abbrev pub invariant-loop-param : goal.invariant-loop-param
invariant-loop-param l =
    heads_of l.heads ++ flat_map (λ p. n.tags_in_types p.types) (map u.par_of (drop l.param-index l.params)) ≡
    heads_of l.initial.heads ++ flat_map (λ p. n.tags_in_types p.types) (map u.par_of l.params)
