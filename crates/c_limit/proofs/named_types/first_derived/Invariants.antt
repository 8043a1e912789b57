-- The first among all is the first among what is left.
use Rattle.std.proofs.Common.{◌≡◌, map, drop, length}
use Rattle.type_word.specs.Words.{derivations}
use Rattle.c_limit.specs.Limits.{limit, first_passed, Derivations}
use Rattle.c_limit.specs.Of.{all_named_of}
use Rattle.c_limit.proofs.named_types.first_derived.Given as goal

abbrev pub invariant-loop-one : goal.invariant-loop-one
invariant-loop-one l = first_passed (map (λ d. limit (length (derivations d.ty)) 6 (Derivations d.name)) (all_named_of (drop l.one-index l.named))) ≡ first_passed (map (λ d. limit (length (derivations d.ty)) 6 (Derivations d.name)) (all_named_of l.named))
