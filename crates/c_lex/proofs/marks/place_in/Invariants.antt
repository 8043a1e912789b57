use Rattle.std.proofs.Common.{◌≡◌, drop, map}
use Rattle.c_lex.specs.Pieces.{word_from}
use Rattle.c_lex.proofs.marks.place_in.Given as goal

abbrev pub invariant-loop-word : goal.invariant-loop-word
invariant-loop-word l = record {
  same : word_from 0 (map (λ w. w.now) l.list) l.name ≡ word_from l.place (map (λ w. w.now) (drop l.word-index l.list)) l.name;
  at : l.place ≡ l.word-index;
}
