-- What is made of a whole program holds of a part.
use Rattle.std.proofs.Common.{◌≡◌, Option, Some, None, true, false, refl, List}
use Rattle.std.specs.Option.{option_map}
use Rattle.c_type.specs.Names.{or_else}
use Rattle.c_tree.specs.TUnit.{TypedUnit}
use Rattle.c_join.specs.JoinTypes.{Relation}
use Rattle.c_join.specs.JoinSaid.{facts}
use Rattle.c_join.specs.JoinChecks.{Refusal, Twice, Undefined, Clash, Arguments, refusal, first_with, is_twice, is_undefined, is_clash, is_misfit, same_class}
use Rattle.c_limit.specs.Laws.{WholeIsPart}

-- nothing stands where neither of two does
first_none : (a b : Option Refusal) → or_else a b ≡ None → a ≡ None
first_none None b e = refl
first_none (Some x) b e = e

then_none : (a b : Option Refusal) → or_else a b ≡ None → b ≡ None
then_none None b e = e
then_none (Some x) b e = cc

both_none : (a b : Option Refusal) → a ≡ None → b ≡ None → or_else a b ≡ None
both_none a b e f = rw e f

-- the checks of a part are among those of a whole
part_accepted : (us : List TypedUnit) (r : Relation) → refusal true us r ≡ None → refusal false us r ≡ None
part_accepted us r e =
    let twice : Option Refusal = option_map Twice (first_with is_twice (facts us)) in
    let undefined : Option Refusal = option_map Undefined (first_with is_undefined (facts us)) in
    let others : Option Refusal = or_else (option_map Clash (first_with (is_clash r) (facts us))) (option_map Arguments (first_with (is_misfit us r) (facts us))) in
    let after_main : or_else twice (or_else undefined others) ≡ None = then_none _ (or_else twice (or_else undefined others)) e in
    both_none twice others (first_none twice (or_else undefined others) after_main) (then_none undefined others (then_none twice (or_else undefined others) after_main))

pub whole_is_part : WholeIsPart
whole_is_part p counts h =
    record {
      of_texts = h.of_texts;
      joined = record { units = h.joined.units; each = h.joined.each; agree = h.joined.agree; accepted = part_accepted p.units (same_class p.classes) h.joined.accepted };
    }
