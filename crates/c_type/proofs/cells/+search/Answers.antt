use Rattle.std.proofs.Common.{◌≡◌, ◌<◌, ap, sym, ◌∙◌, inl, inr, subst, length, Some, None, arith}
use Rattle.c_type.specs.Of.{type_of, tag_of, tags_of, members_of}
use Rattle.c_type.specs.Cells.{cells, cell_from}
use Rattle.c_type.specs.Parts.{members_cells, AreSmall}
use Rattle.c_type.specs.Sizes.{AreWithin}
use Rattle.c_type.proofs.Lists.{from_moved}
use Rattle.c_type.proofs.Held.{tag_count, tagged, tagged_within, held_within, held_small, held_cells, held_none, within_more, member_none, member_item, within_item, small_item, first_or}
use Rattle.c_type.proofs.cells.+search.Goals.{in_member-then-off-member-via-then-off-member, in_member-then-off-member-via-else-off-member+then-off-member-2}
use Rattle.c_type.proofs.cells.+search.Goals as goal

pub cell_below-element_at-requires-clause-within : goal.cell_below-element_at-requires-clause-within
cell_below-element_at-requires-clause-within t c = within_more c.args.below _ (type_of c.args.ty.now) c.requires.known c.requires.within

pub cell_below-tag_at-held-requires : goal.cell_below-tag_at-held-requires
cell_below-tag_at-held-requires t c =
    let part = c.in_ok-part.ensures.part in
    let lt : c.in-Struct.tag.0 < c.args.below = tagged_within c.args.below c.in-Struct.tag.0 (type_of c.in_ok-part.part.now) (tagged c.in_ok-part.part.now c.in-Struct.tag c.in-Struct.is) (part.within c.args.below c.requires.within) in
    omega arith

pub cell_below-member_cell-requires : goal.cell_below-member_cell-requires
cell_below-member_cell-requires t c =
    let part = c.in_ok-part.ensures.part in
    let is = tagged c.in_ok-part.part.now c.in-Struct.tag c.in-Struct.is in
    let lt : c.in-Struct.tag.0 < c.args.below = tagged_within c.args.below c.in-Struct.tag.0 (type_of c.in_ok-part.part.now) is (part.within c.args.below c.requires.within) in
    let n : length (tags_of c.args.tags.now) ≡ length c.args.tags.now.list.items = tag_count c.args.tags.now in
    let a = held_within (tags_of c.args.tags.now) c.args.below c.in-Struct.tag.0 (type_of c.in_ok-part.part.now) (tag_of c.tag_at-held.result.now) c.requires.laid (omega arith) is (part.within c.args.below c.requires.within) c.tag_at-held.ensures c.in-Struct-kind.is in
    let b = held_small (tags_of c.args.tags.now) c.args.below c.in-Struct.tag.0 (type_of c.in_ok-part.part.now) (tag_of c.tag_at-held.result.now) c.requires.laid (omega arith) is (part.within c.args.below c.requires.within) part.small c.tag_at-held.ensures c.in-Struct-kind.is in
    let w = subst (λ xs. AreWithin c.in-Struct.tag.0 (members_of xs)) (sym c.deref.ensures.value) a in
    let v = subst (λ xs. AreSmall (tags_of c.args.tags.now) (members_of xs)) (sym c.deref.ensures.value) b in
    (omega arith, (c.requires.laid, (omega arith, (w, v))))

pub cell_below-returns-in-Enum : goal.cell_below-returns-in-Enum
cell_below-returns-in-Enum t c =
    let part = c.in_ok-part.ensures.part in
    let is = tagged c.in_ok-part.part.now c.in-Struct.tag c.in-Struct.is in
    let n : length (tags_of c.args.tags.now) ≡ length c.args.tags.now.list.items = tag_count c.args.tags.now in
    record { cell = sym (part.same ∙ held_none (tags_of c.args.tags.now) c.args.below c.in-Struct.tag.0 c.in_ok-part.rest (type_of c.in_ok-part.part.now) (tag_of c.tag_at-held.result.now) c.requires.laid (omega arith) is (part.within c.args.below c.requires.within) c.tag_at-held.ensures c.in-Enum.is) }

pub cell_below-returns-in-Struct-kind : goal.cell_below-returns-in-Struct-kind
cell_below-returns-in-Struct-kind t c =
    let part = c.in_ok-part.ensures.part in
    let is = tagged c.in_ok-part.part.now c.in-Struct.tag c.in-Struct.is in
    let n : length (tags_of c.args.tags.now) ≡ length c.args.tags.now.list.items = tag_count c.args.tags.now in
    record {
      cell = c.member_cell.ensures.cell ∙ ap (λ xs. cell_from c.in_ok-part.rest (members_cells (tags_of c.args.tags.now) (members_of xs))) c.deref.ensures.value
          ∙ sym (part.same ∙ held_cells (tags_of c.args.tags.now) c.args.below c.in-Struct.tag.0 c.in_ok-part.rest (type_of c.in_ok-part.part.now) (tag_of c.tag_at-held.result.now) c.requires.laid (omega arith) is (part.within c.args.below c.requires.within) c.tag_at-held.ensures c.in-Struct-kind.is);
    }

pub in_member-size-requires : goal.in_member-size-requires
in_member-size-requires t c = within_more c.args.below _ (type_of c.args.member.now.ty) c.requires.known c.requires.within

pub in_member-returns-then-off-member : goal.in_member-returns-then-off-member
in_member-returns-then-off-member t c =
    let n : length (tags_of c.args.tags.now) ≡ length c.args.tags.now.list.items = tag_count c.args.tags.now in
    record {
      cell = sym (elim c.then-off-member.branch [
        | in_member-then-off-member-via-then-off-member w ↦ member_none (tags_of c.args.tags.now) c.args.below c.args.off c.args.member.now.off 0 (type_of c.args.member.now.ty) c.requires.laid (omega arith) c.requires.within c.requires.small (inl w.if-off-member.true)
        | in_member-then-off-member-via-else-off-member+then-off-member-2 w ↦ member_none (tags_of c.args.tags.now) c.args.below c.args.off c.args.member.now.off w.size.result (type_of c.args.member.now.ty) c.requires.laid (omega arith) c.requires.within c.requires.small (inr (w.size.ensures, w.if-off-member-2.true))
      ]);
    }

pub in_member-returns : goal.in_member-returns
in_member-returns t c = record { cell = c.cell_below.ensures.cell ∙ sym (from_moved c.args.member.now.off c.args.off (cells (tags_of c.args.tags.now) (type_of c.args.member.now.ty)) c.if-off-member.false) }

pub member_cell-returns-in-Some : goal.member_cell-returns-in-Some
member_cell-returns-in-Some t c =
    let item = member_item c.args.members.now c.loop-member.member-index c.member-item.result c.loop-member-test.true c.member-item.is in
    record { cell = sym (c.loop-member.invariant.same ∙ first_or (tags_of c.args.tags.now) c.args.off _ _ c.member-item.result (Some (type_of c.in-Some.cell.now)) item c.in-Some.ensures.cell) }

pub member_cell-loop-member-preserved : goal.member_cell-loop-member-preserved
member_cell-loop-member-preserved t c =
    let item = member_item c.args.members.now c.loop-member.member-index c.member-item.result c.loop-member-test.true c.member-item.is in
    record {
      same = c.loop-member.invariant.same ∙ first_or (tags_of c.args.tags.now) c.args.off _ _ c.member-item.result None item c.in_default.ensures.cell;
      within = (within_item c.args.below _ _ c.member-item.result item c.loop-member.invariant.within).1;
      small = (small_item (tags_of c.args.tags.now) _ _ c.member-item.result item c.loop-member.invariant.small).1;
    }
