-- The first among all is the first among what is left.
use Rattle.std.proofs.Common.{◌≡◌, map, drop}
use Rattle.c_type.specs.Of.{tags_of}
use Rattle.c_limit.specs.Limits.{greatest_part, limit, first_passed, Object}
use Rattle.c_limit.specs.Of.{all_named_of}
use Rattle.c_limit.proofs.named_types.first_large.Given as goal

abbrev pub invariant-loop-one : goal.invariant-loop-one
invariant-loop-one l = first_passed (map (λ d. limit (greatest_part (tags_of l.tags) d.ty) 65535 (Object d.name)) (all_named_of (drop l.one-index l.named))) ≡ first_passed (map (λ d. limit (greatest_part (tags_of l.tags) d.ty) 65535 (Object d.name)) (all_named_of l.named))
