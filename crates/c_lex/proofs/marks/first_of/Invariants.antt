use Rattle.std.proofs.Common.{◌≡◌, drop, map}
use Rattle.c_lex.specs.Reading.{mark_from}
use Rattle.c_lex.proofs.marks.first_of.Given as goal

abbrev pub invariant-loop-mark : goal.invariant-loop-mark
invariant-loop-mark l = record {
  same : mark_from 0 (map (λ w. w.now) l.list) l.bytes ≡ mark_from l.place (map (λ w. w.now) (drop l.mark-index l.list)) l.bytes;
  at : l.place ≡ l.mark-index;
}
