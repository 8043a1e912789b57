-- What was added and what is left is the whole.
use Rattle.std.proofs.Common.{◌≡◌, ◌+◌, ◌++◌, map, drop}
use Rattle.c_type.specs.Of.{tag_of}
use Rattle.c_whole.specs.Classes as spec
use Rattle.c_whole.specs.Classes.{rows_of, leader_in, other_in, named_in}
use Rattle.c_whole.proofs.classes.first_row.Given as goal

abbrev pub invariant-loop-tag : goal.invariant-loop-tag
invariant-loop-tag l = record {
  row : l.out.items ++ spec.first_row (named_in l.names) l.next (map tag_of (drop l.tag-index l.tags)) ≡ spec.first_row (named_in l.names) l.initial.next (map tag_of l.tags);
  next : l.next ≡ l.initial.next + l.tag-index;
}
