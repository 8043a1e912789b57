use Rattle.std.proofs.Common.{◌≡◌, drop, map}
use Rattle.c_grammar.specs.WrittenType as t
use Rattle.c_decl.specs.WordsOf.{type_part_of, words_of}
use Rattle.c_decl.proofs.Spelled.{with_words}
use Rattle.c_decl.proofs.spelling.words_in.Given as goal

abbrev pub invariant-loop-part : goal.invariant-loop-part
invariant-loop-part l = with_words (words_of l.words) (t.words_in (map type_part_of (drop l.part-index l.parts))) ≡ t.words_in (map type_part_of l.parts)
