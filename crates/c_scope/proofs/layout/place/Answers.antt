use Rattle.std.proofs.Common.{rules, arith, ◌≡◌, ℕ, ◌+◌, ◌<◌, List, length, get_or, ap, sym, ◌∙◌}
use Rattle.c_type.specs.declared.Member as dm
use Rattle.c_type.specs.Of.{tags_of, type_of}
use Rattle.c_type.specs.Types.{Tag}
use Rattle.c_type.specs.Sizes.{capped, up_to, align, size}
use Rattle.std.proofs.lemmas.List.{get_or_default}
use Rattle.c_scope.proofs.Laying.{place_step, end_step, moved_at}
use Rattle.c_scope.proofs.layout.place.Goals as goal

pub loop-i-preserved : goal.loop-i-preserved
loop-i-preserved c =
    let ts : List Tag = tags_of c.args.tags.now in
    let xs : List dm.Member = c.loop-i.members in
    let i : ℕ = c.loop-i.i in
    let d : dm.Member = c.index-members-i-in-loop-i-2.result in
    let lt : i < length xs = omega arith in
    let first : get_or xs i d ≡ get_or xs i c.index-members-i.result = get_or_default xs i d c.index-members-i.result lt in
    let second : get_or xs i d ≡ get_or xs i c.index-members-i-in-loop-i.result = get_or_default xs i d c.index-members-i-in-loop-i.result lt in
    let off : c.up_to-off.result ≡ capped (up_to (align ts (type_of (get_or xs i d).ty)) c.loop-i.end) =
    c.up_to-off.ensures ∙ ap (λ a. capped (up_to a c.loop-i.end)) (c.align.ensures ∙ ap (λ m. align ts (type_of m.ty)) (sym first)) in
    let sized : c.size.result ≡ size ts (type_of (get_or xs i d).ty) = c.size.ensures ∙ ap (λ m. size ts (type_of m.ty)) (sym second) in
    let end : c.saturating_add-end.result ≡ capped (c.up_to-off.result + c.size.result) = search rules in
    let e : c.saturating_add-end.result ≡ capped (c.up_to-off.result + size ts (type_of (get_or xs i d).ty)) = end ∙ ap (λ n. capped (c.up_to-off.result + n)) sized in
    record {
      placed = place_step ts xs i d c.loop-i.end c.up_to-off.result c.saturating_add-end.result lt off e ∙ c.loop-i.invariant.placed;
      end = end_step ts xs i d (moved_at xs i d c.up_to-off.result) c.loop-i.end c.up_to-off.result c.saturating_add-end.result lt off e ∙ c.loop-i.invariant.end;
    }
