use Rattle.std.proofs.Common.{◌≡◌, ◌*◌, ◌+◌, drop}
use Rattle.c_type.specs.Of.{members_of, tags_of}
use Rattle.c_type.specs.Cells.{cell_from}
use Rattle.c_type.specs.Parts.{AreSmall, members_cells}
use Rattle.c_type.specs.Sizes.{AreWithin}
use Rattle.c_type.proofs.cells.+search.Given as goal

abbrev pub decreases-cell_below : goal.decreases-cell_below
decreases-cell_below l = 3 * l.below

abbrev pub decreases-in_member : goal.decreases-in_member
decreases-in_member l = 3 * l.below + 1

abbrev pub decreases-member_cell : goal.decreases-member_cell
decreases-member_cell l = 3 * l.below + 2

abbrev pub invariant-member_cell-loop-member : goal.invariant-member_cell-loop-member
invariant-member_cell-loop-member l = record {
  same : cell_from l.off (members_cells (tags_of l.tags) (members_of l.members)) ≡ cell_from l.off (members_cells (tags_of l.tags) (members_of (drop l.member-index l.members)));
  within : AreWithin l.below (members_of (drop l.member-index l.members));
  small : AreSmall (tags_of l.tags) (members_of (drop l.member-index l.members));
}
