-- The names differ exactly where those that are left differ, also from those before them.
use Rattle.std.proofs.Common.{◌≡◌, drop, map}
use Rattle.c_rule.specs.RuleTags as t
use Rattle.c_scope.proofs.NamesDiffer.{left_differ}
use Rattle.c_scope.proofs.names.first_again.Given as goal

abbrev pub invariant-loop-at : goal.invariant-loop-at
invariant-loop-at l = t.names_differ (map (λ n. n.now) l.names) ≡ left_differ (map (λ n. n.now) l.seen.keys) (map (λ n. n.now) (drop l.at l.names))
